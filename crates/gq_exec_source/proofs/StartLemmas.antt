-- StartLemmas: the source of a block, its pattern, and its candidates.
use Rattle.std.proofs.Common.{if◌then◌else◌, ◌≡◌, ℕ, zero, suc, ◌+◌, ◌<◌, ◌≤◌, ◌==◌, ◌||◌, Bool, true, false, List, [], ◌∷◌, ◌++◌, map, length, cond, take, get_or, append-nil, Result, Ok, Err, IfOk, Option, Some, None, refl, sym, ap, ap₂, ◌∙◌, subst, arith}
use Rattle.std.specs.Prelude.{filter, filter_map, flat_map}
use Rattle.std.specs.List.{All, range_with_len}
use Rattle.std.specs.List.{AllByRecursion}
use Rattle.std.proofs.lemmas.List.Elements.{All-nil, All-cons, recursion_from_All, filter-append}
use Rattle.std.proofs.lemmas.Bool.Decides.{nat_tests}
use Rattle.gq_graph.specs.declared.types.EdgeType.{EdgeType}
use Rattle.gq_graph.specs.declared.rows.Candidate.{Candidate}
use Rattle.gq_graph.specs.declared.rows.EdgeRow.{EdgeRow}
use Rattle.gq_graph.specs.declared.rows.Pattern.{Pattern}
use Rattle.gq_graph.specs.declared.rows.VertexRow.{VertexRow}
use Rattle.gq_graph.specs.Candidates.{Sight, numbered, among, far_end, is_target, candidate_of, candidates_from, by_number, alone, candidates}
use Rattle.gq_index.specs.Sights.{vertex_kinds, sight_of}
use Rattle.gq_graph.specs.Vertices.{vertex_at}
use Rattle.gq_index.specs.Places.{passing}
use Rattle.gq_index.proofs.PlaceLemmas.{passing_zero}
use Rattle.gq_frame.proofs.TargetLemmas.{take_more}
use Rattle.gq_exec_source.proofs.MarkLemmas.{fresh, more_here, not_here}
use Rattle.gq_rules_typing.specs.Patterns.{edge_types}
use Rattle.gq_rules_meaning.specs.Calendars.{Calendar}
use Rattle.gq_rules_meaning.specs.Expressions.{setting}
use Rattle.gq_rules_meaning.specs.States as states
use Rattle.gq_rules_meaning.specs.States.{Thing, Variable, SetOf, Member, State, thing_named}
use Rattle.gq_rules_meaning.specs.Statements.{is_set}
use Rattle.gq_rules_meaning.specs.Sources as sources
use Rattle.gq_rules_meaning.specs.Sources.{source_of, from, hop_pattern, within_bound}
use Rattle.gq_plan_ir.specs.declared.block.Block.{Block}
use Rattle.gq_plan_ir.specs.declared.block.Hop.{Hop}
use Rattle.gq_plan_ir.specs.declared.block.Types.{Types}
use Rattle.gq_plan_ir.specs.declared.block.Types.TheVariants as types
use Rattle.gq_plan_ir.specs.declared.block.Walk.TheVariants as walk
use Rattle.gq_plan_ir.specs.declared.block.SelectSource.TheVariants as source
use Rattle.gq_plan_ir.specs.BlockView.{view_block, view_walk, view_hop, view_types}
use Rattle.gq_plan_ir.specs.PlanView.{accum_names}
use Rattle.gq_eval_attributes.specs.Tuples.{tuples_are}
use Rattle.gq_plan_ir.specs.Reference as reference
use Rattle.gq_plan_ir.specs.Reference.{Reference, Place, VertexType}
use Rattle.gq_frame.specs.Names.{thing_in}
use Rattle.gq_frame.specs.Shows.{Shows}
use Rattle.gq_eval_context.specs.Viewed.{Over}
use Rattle.gq_eval_context.specs.Looks.{world_over}
use Rattle.gq_exec_source.specs.declared.ends.Ends.{Ends}
use Rattle.gq_exec_source.specs.Ends.{HasEnds}
use Rattle.gq_exec_source.specs.Starts.{listed_at, all_under, vertices_under, types_in, IsWithin, AreFrom, FromTooMany, AreCandidates, AreTooMany}

-- ---- the source

start_place : (clock : Calendar) (o : Over) (names : List (Reference × Thing)) (n : ℕ) (t : Option Thing) → thing_named (world_over clock o) names (Place n) ≡ t → (source_of (world_over clock o) names (Place n)).1 ≡ listed_at t
start_place clock o names n None e = rw e refl
start_place clock o names n (Some (Variable b v)) e = rw e refl
start_place clock o names n (Some (SetOf ts vs)) e = rw e refl
start_place clock o names n (Some (states.EdgeRow r t)) e = rw e refl
start_place clock o names n (Some (Member ts vs v)) e = rw e refl

start_type : (clock : Calendar) (o : Over) (names : List (Reference × Thing)) (t : ℕ) → thing_named (world_over clock o) names (VertexType t) ≡ None → (source_of (world_over clock o) names (VertexType t)).1 ≡ vertices_under o.vertices o.plan.vertices t
start_type clock o names t e = rw e (by (among o.plan.vertices t) refl)
  where
    by : (b : Bool) → among o.plan.vertices t ≡ b → (source_of (world_over clock o) [] (VertexType t)).1 ≡ vertices_under o.vertices o.plan.vertices t
    by true q = rw q refl
    by false q = rw q refl

-- ---- the pattern

named_types : (clock : Calendar) (o : Over) (ts : List ℕ) → filter_map (setting (world_over clock o)).words.edge_type (map reference.EdgeType ts) ≡ filter (among o.plan.edges) ts
named_types clock o [] = refl
named_types clock o (t ∷ ts) = by (among o.plan.edges t) refl (named_types clock o ts)
  where
    by : (b : Bool) → among o.plan.edges t ≡ b → filter_map (setting (world_over clock o)).words.edge_type (map reference.EdgeType ts) ≡ filter (among o.plan.edges) ts
        → filter_map (setting (world_over clock o)).words.edge_type (map reference.EdgeType (t ∷ ts)) ≡ filter (among o.plan.edges) (t ∷ ts)
    by true q r = rw q (ap (λ l. t ∷ l) r)
    by false q r = rw q r

types_are : (clock : Calendar) (o : Over) (ts : Types) → edge_types (setting (world_over clock o)) (view_types reference.EdgeType ts) ≡ types_in o.plan.edges ts
types_are clock o types.Every = refl
types_are clock o (types.These ts) = named_types clock o ts

-- ---- both ends are there

module _ {A : Type 0} (P : A → Type 0) where
  all_append : (xs ys : List A) → All P xs → All P ys → All P (xs ++ ys)
  all_append xs ys h g = go xs (recursion_from_All P xs h)
    where
      go : (xs : List A) → AllByRecursion P xs → All P (xs ++ ys)
      go [] r = g
      go (x ∷ xs) r = All-cons P x (xs ++ ys) r.0 (go xs r.1)

  all_flat : {X : Type 0} (Q : X → Type 0) (f : X → List A) → ((x : X) → Q x → All P (f x)) → (xs : List X) → AllByRecursion Q xs → All P (flat_map f xs)
  all_flat Q f g [] h = All-nil P
  all_flat Q f g (x ∷ xs) h = all_append (f x) (flat_map f xs) (g x h.0) (all_flat Q f g xs h.1)

  all_of_any : {X : Type 0} (f : X → List A) → ((x : X) → All P (f x)) → (xs : List X) → All P (flat_map f xs)
  all_of_any f g [] = All-nil P
  all_of_any f g (x ∷ xs) = all_append (f x) (flat_map f xs) (g x) (all_of_any f g xs)

target_below : (kinds targets : List ℕ) (w : ℕ) → is_target kinds targets w ≡ true → w < length kinds
target_below [] targets w h = absurd (cc h)
target_below (k ∷ kinds) targets zero h = omega arith
target_below (k ∷ kinds) targets (suc w) h = let l = target_below kinds targets w h in omega (arith, l)

pub numbers_below : (n : ℕ) (ks : List ℕ) (p : ℕ → Bool) (m : ℕ) → n + length ks ≤ m → AllByRecursion (λ v. v < m) (filter p (map (λ (v : ℕ × ℕ). v.0) (numbered n ks)))
numbers_below n [] p m l = tt
numbers_below n (k ∷ ks) p m l = by (p n) (numbers_below (suc n) ks p m (omega (arith, l)))
  where
    by : (b : Bool) → AllByRecursion (λ v. v < m) (filter p (map (λ (v : ℕ × ℕ). v.0) (numbered (suc n) ks)))
        → AllByRecursion (λ v. v < m) (cond b (n ∷ filter p (map (λ (v : ℕ × ℕ). v.0) (numbered (suc n) ks))) (filter p (map (λ (v : ℕ × ℕ). v.0) (numbered (suc n) ks))))
    by true r = (omega (arith, l), r)
    by false r = r

along : (sight : Sight) (pattern : Pattern) (v : ℕ) (type : ℕ × EdgeType) (edge : ℕ × EdgeRow) → v < length sight.kinds → All (IsWithin (length sight.kinds)) (candidate_of sight pattern v type edge)
along sight pattern v type edge l = by (far_end type edge.1 v) refl
  where
    P : Candidate → Type 0
    P = IsWithin (length sight.kinds)

    led : (w : ℕ) (b : Bool) → is_target sight.kinds pattern.targets w ≡ b → All (IsWithin (length sight.kinds)) (if b then record { source = v; edge = Some edge.0; kind = Some type.0; target = Some w } ∷ [] else [])
    led w true e = All-cons (IsWithin (length sight.kinds)) _ [] (record { source = l; target = target_below sight.kinds pattern.targets w e }) (All-nil (IsWithin (length sight.kinds)))
    led w false e = All-nil (IsWithin (length sight.kinds))

    by : (o : Option ℕ) → far_end type edge.1 v ≡ o → All (IsWithin (length sight.kinds)) (candidate_of sight pattern v type edge)
    by None e = rw e (All-nil (IsWithin (length sight.kinds)))
    by (Some w) e = rw e (led w (is_target sight.kinds pattern.targets w) refl)

pub all_within : (sight : Sight) (set : List ℕ) (pattern : Option Pattern) → All (IsWithin (length sight.kinds)) (candidates sight set pattern)
all_within sight set None = go (by_number sight set) (numbers_below 0 sight.kinds (among set) (length sight.kinds) (omega arith))
  where
    go : (vs : List ℕ) → AllByRecursion (λ v. v < length sight.kinds) vs → All (IsWithin (length sight.kinds)) (map alone vs)
    go [] h = All-nil (IsWithin (length sight.kinds))
    go (v ∷ vs) h = All-cons (IsWithin (length sight.kinds)) (alone v) (map alone vs) (record { source = h.0; target = tt }) (go vs h.1)
all_within sight set (Some pattern) = all_flat (IsWithin (length sight.kinds)) (λ v. v < length sight.kinds) (candidates_from sight pattern)
    (λ v l. all_of_any (IsWithin (length sight.kinds)) (λ type. flat_map (candidate_of sight pattern v type) (numbered 0 sight.edges)) (λ type. all_of_any (IsWithin (length sight.kinds)) (candidate_of sight pattern v type) (λ edge. along sight pattern v type edge l) (numbered 0 sight.edges))
    (filter (λ type. among pattern.edges type.0) (numbered 0 sight.types)))
    (by_number sight set) (numbers_below 0 sight.kinds (among set) (length sight.kinds) (omega arith))

length_kinds : (rows : List VertexRow) → length (vertex_kinds rows) ≡ length rows
length_kinds [] = refl
length_kinds (r ∷ rows) = ap suc (length_kinds rows)

within_rows : (o : Over) (set : List ℕ) (pattern : Option Pattern) → All (IsWithin (length o.vertices)) (candidates (sight_of o.schema o.vertices o.edges) set pattern)
within_rows o set pattern = subst (λ (n : ℕ). All (IsWithin n) (candidates (sight_of o.schema o.vertices o.edges) set pattern)) (length_kinds o.vertices) (all_within (sight_of o.schema o.vertices o.edges) set pattern)

-- ---- as the code computes it

pub from_nowhere : (o : Over) (block : Block) (set : List ℕ) (cs : List Candidate) → block.walk ≡ walk.Nowhere → cs ≡ candidates (sight_of o.schema o.vertices o.edges) set None → AreFrom o block set cs
from_nowhere o block set cs e is = record {
  each = λ clock s shows. is ∙ ap (λ w. sources.candidates_of (world_over clock o) set (view_walk w)) (sym e);
  within = subst (All (IsWithin (length o.vertices))) (sym is) (within_rows o set None);
  bounded = ap (λ w. within_bound (view_walk w) cs) e;
}

pub from_hop : (o : Over) (block : Block) (ends : Ends) (set : List ℕ) (hop : Hop) (cs : List Candidate) → HasEnds o.schema o.plan o.frame.things block ends → block.walk ≡ walk.Hop hop
    → cs ≡ candidates (sight_of o.schema o.vertices o.edges) set (Some (record { edges = types_in o.plan.edges hop.edges; targets = ends.target.types })) → AreFrom o block set cs
from_hop o block ends set hop cs has e is = record {
  each = λ clock s shows. is ∙ ap (λ p. candidates (sight_of o.schema o.vertices o.edges) set (Some p)) (same clock s shows) ∙ ap (λ w. sources.candidates_of (world_over clock o) set (view_walk w)) (sym e);
  within = subst (All (IsWithin (length o.vertices))) (sym is) (within_rows o set (Some pattern));
  bounded = ap (λ w. within_bound (view_walk w) cs) e;
}
  where
    pattern : Pattern
    pattern = record { edges = types_in o.plan.edges hop.edges; targets = ends.target.types }

    same : (clock : Calendar) (s : State Reference) → Shows o.frame s → pattern ≡ hop_pattern (setting (world_over clock o)) (view_hop hop)
    same clock s shows = ap₂ (λ es ts. record { edges = es; targets = ts }) (sym (types_are clock o hop.edges))
        ((has.each (accum_names o.plan) (tuples_are o.tuples) o.vertices o.edges.rows clock s.names shows.names).target_types ∙ ap (λ w. Rattle.gq_rules_typing.specs.Patterns.end_types (setting (world_over clock o)) (view_walk w)) e)

-- if no set is in view, nothing is listed
pub no_set_listed : (t : Option Thing) → is_set t ≡ false → [] ≡ listed_at t
no_set_listed None h = refl
no_set_listed (Some (SetOf ts vs)) h = absurd (cc h)
no_set_listed (Some thing) h = refl

-- the vertices that a block starts from, whatever state the frame shows
pub record Begins (o : Over) (block : Block) (set : List ℕ) : Type 0 where
  pub each : (clock : Calendar) (s : State Reference) → Shows o.frame s → set ≡ (from (world_over clock o) s.names (view_block block)).start

pub begins_set : (o : Over) (block : Block) (n : ℕ) (set : List ℕ) → block.source ≡ source.Set n → set ≡ listed_at (thing_in o.frame.things n) → Begins o block set
begins_set o block n set e is = record {
  each = λ clock s shows. is ∙ sym (start_place clock o s.names n (thing_in o.frame.things n) (shows.names (Place n)))
      ∙ ap (λ q. (source_of (world_over clock o) s.names (Rattle.gq_plan_ir.specs.BlockView.view_source q)).1) (sym e);
}

pub begins_all : (o : Over) (block : Block) (t : ℕ) (set : List ℕ) → block.source ≡ source.Type t → set ≡ vertices_under o.vertices o.plan.vertices t → Begins o block set
begins_all o block t set e is = record {
  each = λ clock s shows. is ∙ sym (start_type clock o s.names t (shows.names (VertexType t)))
      ∙ ap (λ q. (source_of (world_over clock o) s.names (Rattle.gq_plan_ir.specs.BlockView.view_source q)).1) (sym e);
}

pub found_if : {E : Type 0} (o : Over) (block : Block) (set : List ℕ) (result : Result (List Candidate) E) → Begins o block set → IfOk result (AreFrom o block set) → IfOk result (AreCandidates o block)
found_if o block set (Ok cs) begins are = record {
  each = λ clock s shows. are.each clock s shows ∙ ap (λ (l : List ℕ). sources.candidates_of (world_over clock o) l (view_walk block.walk)) (begins.each clock s shows);
  within = are.within;
  bounded = are.bounded;
}
found_if o block set (Err x) begins are = tt

pub many_if : (o : Over) (block : Block) (set : List ℕ) → Begins o block set → FromTooMany o block set → AreTooMany o block
many_if o block set begins many = record {
  each = λ clock s shows.
      ap (λ (l : List ℕ). within_bound (view_walk block.walk) (sources.candidates_of (world_over clock o) l (view_walk block.walk))) (sym (begins.each clock s shows)) ∙ many.each clock s shows;
}

-- ---- all vertices of a type

pub no_type : (vertices : List VertexRow) (own : List ℕ) (t : ℕ) (list : List ℕ) → list ≡ [] → among own t ≡ false → list ≡ vertices_under vertices own t
no_type vertices own t list e h = e ∙ sym (ap (λ b. if b then all_under vertices t else []) h)

pub own_type : (vertices : List VertexRow) (own : List ℕ) (t : ℕ) → among own t ≡ true → vertices_under vertices own t ≡ all_under vertices t
own_type vertices own t h = ap (λ b. if b then all_under vertices t else []) h

pub ruleset type_laws = (no_type, own_type)

-- whether a vertex is of the type
abbrev pub of_type : List VertexRow → ℕ → ℕ → Bool
of_type vertices t = is_target (vertex_kinds vertices) (t ∷ [])

kind_at : (vertices : List VertexRow) (t v : ℕ) → v < length vertices → of_type vertices t v ≡ ((vertex_at vertices v).kind == t)
kind_at [] t v l = absurd (omega (arith, l))
kind_at (r ∷ vertices) t zero l = or_none (t == r.kind) ∙ flipped t r.kind
  where
    or_none : (b : Bool) → (b || false) ≡ b
    or_none true = refl
    or_none false = refl

    flipped : (a b : ℕ) → (a == b) ≡ (b == a)
    flipped a b = grind (arith, nat_tests)
kind_at (r ∷ vertices) t (suc v) l = kind_at vertices t v (omega (arith, l))

pub all_first : (vertices : List VertexRow) (t : ℕ) (list : List ℕ) → list ≡ [] → list ≡ passing (of_type vertices t) 0
all_first vertices t list e = e ∙ sym (passing_zero (of_type vertices t))

pub all_here : (vertices : List VertexRow) (t v k : ℕ) (old new : List ℕ) → v < length vertices → k ≡ (vertex_at vertices v).kind → (k == t) ≡ true → old ≡ passing (of_type vertices t) v → new ≡ old ++ v ∷ [] → new ≡ passing (of_type vertices t) (v + 1)
all_here vertices t v k old new l e h is more = more_here (of_type vertices t) v old new is more (kind_at vertices t v l ∙ ap (λ (n : ℕ). n == t) (sym e) ∙ h)

pub all_not : (vertices : List VertexRow) (t v k : ℕ) (old : List ℕ) → v < length vertices → k ≡ (vertex_at vertices v).kind → (k == t) ≡ false → old ≡ passing (of_type vertices t) v → old ≡ passing (of_type vertices t) (v + 1)
all_not vertices t v k old l e h is = not_here (of_type vertices t) v old is (kind_at vertices t v l ∙ ap (λ (n : ℕ). n == t) (sym e) ∙ h)

pub all_new : (vertices : List VertexRow) (t v : ℕ) (list : List ℕ) → list ≡ passing (of_type vertices t) v → among list v ≡ false
all_new vertices t v list is = fresh (of_type vertices t) v list is

pub all_listed : (vertices : List VertexRow) (t v : ℕ) (list : List ℕ) → v ≡ length vertices → list ≡ passing (of_type vertices t) v → list ≡ all_under vertices t
unfolding passing
all_listed vertices t v list e is = is ∙ ap (λ (n : ℕ). filter (of_type vertices t) (range_with_len 0 n)) (e ∙ sym (length_kinds vertices))

pub ruleset all_laws = (all_first, all_here, all_not, all_new, all_listed)

-- ---- those of a list that pass

pub kept_more : (p : ℕ → Bool) (xs : List ℕ) (i x : ℕ) (b : Bool) (old new : List ℕ) → i < length xs → x ≡ get_or xs i x → b ≡ p x → b ≡ true → old ≡ filter p (take i xs) → new ≡ old ++ x ∷ [] → new ≡ filter p (take (i + 1) xs)
kept_more p xs i x b old new l is e h so more = more ∙ ap (λ o. o ++ x ∷ []) so ∙ sym (ap (filter p) (take_more xs i x l is) ∙ filter-append p (take i xs) (x ∷ []) ∙ ap (λ c. filter p (take i xs) ++ cond c (x ∷ []) []) (sym e ∙ h))

pub kept_same : (p : ℕ → Bool) (xs : List ℕ) (i x : ℕ) (b : Bool) (old : List ℕ) → i < length xs → x ≡ get_or xs i x → b ≡ p x → b ≡ false → old ≡ filter p (take i xs) → old ≡ filter p (take (i + 1) xs)
kept_same p xs i x b old l is e h so = so ∙ sym (append-nil (filter p (take i xs))) ∙ sym (ap (filter p) (take_more xs i x l is) ∙ filter-append p (take i xs) (x ∷ []) ∙ ap (λ c. filter p (take i xs) ++ cond c (x ∷ []) []) (sym e ∙ h))

pub kept_all : (p : ℕ → Bool) (xs : List ℕ) (i : ℕ) (list : List ℕ) → length xs ≤ i → list ≡ filter p (take i xs) → list ≡ filter p xs
kept_all p xs i list l so = so ∙ ap (filter p) (whole xs i l)
  where
    whole : (xs : List ℕ) (i : ℕ) → length xs ≤ i → take i xs ≡ xs
    whole [] zero l = refl
    whole [] (suc i) l = refl
    whole (x ∷ xs) zero l = absurd (omega (arith, l))
    whole (x ∷ xs) (suc i) l = ap (λ r. x ∷ r) (whole xs i (omega (arith, l)))

pub ruleset kept_laws = (kept_more, kept_same, kept_all)
