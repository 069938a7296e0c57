-- SetLaws: typed set expressions are never stuck, and give vertices of the types that typing gives, each once.
use Rattle.std.proofs.Common.{◌≡◌, ℕ, Bool, true, false, List, [], ◌∷◌, ◌++◌, Option, Some, None, Ok, refl, ap, sym, ◌∙◌, subst}
use Rattle.std.specs.Prelude.{not, ◌||◌, ◌==◌}
use Rattle.std.specs.List.{list_all, range_with_len}
use Rattle.std.specs.Ordering.{nat_cmp}
use Rattle.gq_tree.specs.Tree.{Name}
use Rattle.gq_tree.specs.declared.body.SetOp.{SetOp}
use Rattle.gq_tree.specs.declared.body.SetOp.TheVariants as op
use Rattle.gq_value.specs.declared.value.Wrong.{Wrong}
use Rattle.gq_value.specs.Val.{Val, Vertex}
use Rattle.gq_value.specs.Accums.{Base, VERTEX, VERTEX_OF, Accum, SetAccum}
use Rattle.gq_graph.specs.Candidates.{among, is_target}
use Rattle.gq_rules_typing.specs.Statements.{Seed, AllOf, AllVertices, OneVertex, ContentOf, SetTerm, SetNamed, Seeds}
use Rattle.gq_rules_typing.specs.Judging.{Typed, Of, Whole, AliasOf, Judged, ◌>>=◌, or_fault, each_judged, through_judged}
use Rattle.gq_rules_typing.specs.Judging as judging
use Rattle.gq_rules_typing.specs.Types.{as_base, alone}
use Rattle.gq_rules_typing.specs.Kinds.{read_type}
use Rattle.gq_rules_typing.specs.ExpressionTypes.{typing, base_type}
use Rattle.gq_rules_typing.specs.Scopes.{SetVariable, Scope, entry, unknown, declared_kind, vertex_type}
use Rattle.gq_rules_typing.specs.Patterns.{by_number}
use Rattle.gq_rules_typing.specs.SetTypes.{here, types_of, content_types, seed_types, all_types, term_types, joined_types, sets_types}
use Rattle.gq_rules_meaning.specs.Answers.{Answer, Gives, Faults, Stuck, found, each, through}
use Rattle.gq_rules_meaning.specs.Answers as answers
use Rattle.gq_rules_meaning.specs.Graphs.{vertices_of, vertex_count}
use Rattle.gq_rules_meaning.specs.Meanings.{Meant, Is, IsContent}
use Rattle.gq_rules_meaning.specs.Expressions.{World, setting}
use Rattle.gq_rules_meaning.specs.States.{Thing, State, thing_named, seen}
use Rattle.gq_rules_meaning.specs.States as states
use Rattle.gq_rules_meaning.specs.Sets.{TypedSet, types_of_base, vertices_in, of_variable, of_content, seed_of, union, all_of, set_in, set_named, term_of, joined, sets_of}
use Rattle.gq_rules_meaning.specs.Fitting.{Safe, Suits, is_vertex_of, is_value}
use Rattle.gq_rules_meaning.specs.StateFits.{ThingFits, no_repeats}
use Rattle.gq_rules_meaning.proofs.AnswerLaws.{safe_then, safe_found, then_ok, or_fault_ok, ok_inj, and_ok, both_ok}
use Rattle.gq_rules_meaning.proofs.ValueLaws.{same_number, vertex_base_value}
use Rattle.gq_rules_meaning.proofs.AfterLaws.{distinct_all, append_all}
use Rattle.gq_rules_safety.specs.Matching.{WordsFit, StateIs}
use Rattle.gq_rules_safety.proofs.LocalLaws.{here_fits}
use Rattle.gq_rules_safety.proofs.OrderLaws.{distinct_once, among_by_number, among_left, among_right, vertex_wider, target_wider, filtered_all, filtered_still, filtered_once, all_pass}
use Rattle.gq_rules_safety.proofs.PrintLaws.{set_entry}

module _ {N : Type 0} (world : World N) where
  -- vertices of these types
  abbrev pub SetFits : List ℕ → TypedSet → Type 0
  SetFits types a = (a.0 ≡ types) × (list_all (is_vertex_of world.graph types) a.1 ≡ true)

  -- and each once
  abbrev pub GoodSet : List ℕ → TypedSet → Type 0
  GoodSet types a = SetFits types a × (no_repeats a.1 ≡ true)

  -- all vertices of types of the graph
  pub all_of_types : (types : List ℕ) → ((t : ℕ) → among types t ≡ true → among world.graph.sorts.own_vertices t ≡ true) → list_all (is_vertex_of world.graph types) (vertices_of world.graph types) ≡ true
  all_of_types types f =
      filtered_all (is_target world.graph.sight.kinds types) (is_vertex_of world.graph types) (range_with_len 0 (vertex_count world.graph))
      (λ v h. both_ok (is_target world.graph.sight.kinds types v) _ h (target_wider world.graph.sight.kinds types world.graph.sorts.own_vertices v f h))

  pub only_one : (t : ℕ) → among world.graph.sorts.own_vertices t ≡ true → (u : ℕ) → among (t ∷ []) u ≡ true → among world.graph.sorts.own_vertices u ≡ true
  only_one t h u g = subst (λ z. among world.graph.sorts.own_vertices z ≡ true) (one (t == u) refl g) h
    where
      one : (q : Bool) → (t == u) ≡ q → (q || false) ≡ true → t ≡ u
      one true e g = same_number t u e
      one false e g = cc

  -- ---- seeds

  types_agree : (s : Scope N) (b : Base) (types : List ℕ) → s.setting ≡ setting world → types_of s b ≡ Ok types → types_of_base world b ≡ types
  types_agree s (VERTEX_OF t) types h e = ok_inj e
  types_agree s VERTEX types h e = ap (λ z. z.sorts.own_vertices) (sym h) ∙ ok_inj e
  types_agree s b types h e = cc

  -- a value of a vertex type is a vertex of its types
  vertex_of_type : (s : Scope N) (b : Base) (types : List ℕ) (v : ℕ) → s.setting ≡ setting world → types_of s b ≡ Ok types → is_value world b (Vertex v) ≡ true → is_vertex_of world.graph types v ≡ true
  vertex_of_type s (VERTEX_OF t) types v h e f = subst (λ types. is_vertex_of world.graph types v ≡ true) (ok_inj e) f
  vertex_of_type s VERTEX types v h e f =
      let u : world.graph.sorts.own_vertices ≡ types = ap (λ z. z.sorts.own_vertices) (sym h) ∙ ok_inj e in
      subst (λ types. is_vertex_of world.graph types v ≡ true) u (both_ok (is_target world.graph.sight.kinds world.graph.sorts.own_vertices v) _ f f)
  vertex_of_type s b types v h e f = cc

  variable_safe : (s : Scope N) (b : Base) (types : List ℕ) (v : Val) → s.setting ≡ setting world → types_of s b ≡ Ok types → is_value world b v ≡ true → Safe (SetFits types) (of_variable world (Is b v))
  variable_safe s b types (Vertex v) h e f = (types_agree s b types h e, both_ok (is_vertex_of world.graph types v) true (vertex_of_type s b types v h e f) refl)
  variable_safe s (VERTEX_OF t) types v h e f = cc
  variable_safe s VERTEX types v h e f = cc
  variable_safe s b types v h e f = cc

  meant_safe : (s : Scope N) (ty : Typed) (b : Base) (types : List ℕ) (m : Meant) → s.setting ≡ setting world → as_base ty ≡ Ok b → types_of s b ≡ Ok types → Suits world ty m → Safe (SetFits types) (of_variable world m)
  meant_safe s (Of c) b types (Is d v) h e r f = let u = ok_inj e in subst (λ d. Safe (SetFits types) (of_variable world (Is d v))) (sym (f.0 ∙ u)) (variable_safe s b types v h r (subst (λ c. is_value world c v ≡ true) u f.1))
  meant_safe s (AliasOf ts) b types (Is d (Vertex v)) h e r f =
      let u = ok_inj e in subst (λ d. Safe (SetFits types) (of_variable world (Is d (Vertex v)))) (sym (f.0 ∙ u)) (variable_safe s b types (Vertex v) h r (subst (λ c. is_value world c (Vertex v) ≡ true) u (vertex_base_value world ts v f.1)))
  meant_safe s (AliasOf ts) b types (Is d v) h e r f = absurd f
  meant_safe s (Of c) b types m h e r f = absurd f
  meant_safe s (AliasOf ts) b types m h e r f = absurd f
  meant_safe s ty b types m h e r f = cc

  listed : (s : Scope N) (b : Base) (types : List ℕ) (vs : List Val) → s.setting ≡ setting world → types_of s b ≡ Ok types → list_all (is_value world b) vs ≡ true → list_all (is_vertex_of world.graph types) (vertices_in vs) ≡ true
  listed s b types [] h e f = refl
  listed s b types (Vertex v ∷ vs) h e f = let w = and_ok (is_value world b (Vertex v)) _ f in both_ok (is_vertex_of world.graph types v) _ (vertex_of_type s b types v h e w.0) (listed s b types vs h e w.1)
  listed s b types (v ∷ vs) h e f = listed s b types vs h e (and_ok (is_value world b v) _ f).1

  content_safe : (s : Scope N) (k : Accum) (types : List ℕ) (m : Meant) → s.setting ≡ setting world → content_types s k ≡ Ok types → Suits world (read_type k) m → Safe (SetFits types) (of_content world m)
  content_safe s (SetAccum b) types (IsContent (SetAccum c) vs) h e f = given c vs (set_base c b f.0) f.2
    where
      set_base : (c b : Base) → SetAccum c ≡ SetAccum b → c ≡ b
      set_base c b h = cc

      given : (c : Base) (vs : List Val) → c ≡ b → list_all (is_value world c) vs ≡ true → Safe (SetFits types) (of_content world (IsContent (SetAccum c) vs))
      given c vs u f =
          let d : types_of s c ≡ Ok types = subst (λ b. types_of s b ≡ Ok types) (sym u) e in
          (types_agree s c types h d, listed s c types vs h d f)
  content_safe s (SetAccum b) types (IsContent j vs) h e f = cc
  content_safe s (SetAccum b) types m h e f = absurd f
  content_safe s k types m h e f = cc

module _ {N : Type 0} (world : World N) (words : WordsFit world) where
  seed_safe : (s : Scope N) (state : State N) (seed : Seed N) (types : List ℕ) → StateIs world s state → seed_types s seed ≡ Ok types → Safe (SetFits world types) (seed_of world state seed)
  seed_safe s state (AllOf n) types h e =
      let t = then_ok (vertex_type s n) _ types e in
      let k = or_fault_ok (unknown s n) (s.setting.words.vertex_type n) t.0 t.1 in
      let d : world.words.vertex_type n ≡ Some t.0 = subst (λ z. z.words.vertex_type n ≡ Some t.0) h.fits.setting k in
      safe_found (SetFits world types) (world.words.vertex_type n) t.0 _ d
      (subst (λ types. SetFits world types (t.0 ∷ [], vertices_of world.graph (t.0 ∷ []))) (ok_inj t.2) (refl, all_of_types world (t.0 ∷ []) (only_one world t.0 (words.vertex_type n t.0 d))))
  seed_safe s state AllVertices types h e =
      let u : world.graph.sorts.own_vertices ≡ types = ap (λ z. z.sorts.own_vertices) (sym h.fits.setting) ∙ ok_inj e in
      subst (λ types. SetFits world types (world.graph.sorts.own_vertices, vertices_of world.graph world.graph.sorts.own_vertices)) u (refl, all_of_types world world.graph.sorts.own_vertices (λ t g. g))
  seed_safe s state (OneVertex x) types h e =
      let b = then_ok (base_type (here s) (Name x)) (types_of s) types e in
      let ty = then_ok (typing (here s) (Name x)) as_base b.0 b.1 in
      let y = then_ok ((here s).named x) alone ty.0 ty.1 in
      let c = same_alone y.0 ty.0 y.2 in
      safe_then (Suits world y.0) (SetFits world types) ((seen world state).named x) (of_variable world) ((here_fits world words s state h).named x y.0 y.1)
      (λ m f. meant_safe world s ty.0 b.0 types m h.fits.setting ty.2 b.2 (subst (λ z. Suits world z m) c f))
    where
      same_alone : (x ty : Typed) → alone x ≡ Ok ty → x ≡ ty
      same_alone (judging.EdgeOf ts) ty e = cc
      same_alone (judging.SetOf ts) ty e = cc
      same_alone (judging.MemberOf ts) ty e = cc
      same_alone (Of b) ty e = ok_inj e
      same_alone judging.Average ty e = ok_inj e
      same_alone (Whole k) ty e = ok_inj e
      same_alone (judging.GroupRow ps) ty e = ok_inj e
      same_alone (AliasOf ts) ty e = ok_inj e
  seed_safe s state (ContentOf a) types h e =
      let k = then_ok (declared_kind s false a) (content_types s) types e in
      safe_then (Suits world (read_type k.0)) (SetFits world types) ((seen world state).global a) (of_content world) ((here_fits world words s state h).global a k.0 (ap (λ j. j >>= λ k. Ok k) k.1)) (λ m f. content_safe world s k.0 types m h.fits.setting k.2 f)

  -- ---- unions

  union_fits : (ts us : List ℕ) (a b : TypedSet) → SetFits world ts a → SetFits world us b → GoodSet world (by_number (ts ++ us)) (union a b)
  union_fits ts us a b h g = (
    (
      ap (λ z. by_number (z ++ b.0)) h.0 ∙ ap (λ z. by_number (ts ++ z)) g.0,
      distinct_all (is_vertex_of world.graph (by_number (ts ++ us))) nat_cmp (a.1 ++ b.1) (append_all (is_vertex_of world.graph (by_number (ts ++ us))) a.1 b.1
          (all_pass (is_vertex_of world.graph ts) _ a.1 (λ v. vertex_wider world.graph ts (by_number (ts ++ us)) v (λ t k. among_by_number (ts ++ us) t (among_left ts us t k))) h.1)
          (all_pass (is_vertex_of world.graph us) _ b.1 (λ v. vertex_wider world.graph us (by_number (ts ++ us)) v (λ t k. among_by_number (ts ++ us) t (among_right ts us t k))) g.1)),
    ),
    distinct_once (a.1 ++ b.1),
  )

  abbrev AllFit : List (List ℕ) → List TypedSet → Type 0
  AllFit [] [] = Unit {0}
  AllFit (ts ∷ tss) (a ∷ rest) = SetFits world ts a × AllFit tss rest
  AllFit _ _ = ⊥

  all_fit : (tss : List (List ℕ)) (sets : List TypedSet) → AllFit tss sets → GoodSet world (all_types tss) (all_of sets)
  all_fit [] [] h = ((refl, refl), refl)
  all_fit (ts ∷ tss) (a ∷ rest) h = union_fits ts (all_types tss) a (all_of rest) h.0 (all_fit tss rest h.1).0
  all_fit [] (a ∷ rest) h = absurd h
  all_fit (ts ∷ tss) [] h = absurd h

  seeds_safe : (s : Scope N) (state : State N) (seeds : List (Seed N)) (tss : List (List ℕ)) → StateIs world s state → each_judged (seed_types s) seeds ≡ Ok tss → Safe (AllFit tss) (each (seed_of world state) seeds)
  seeds_safe s state [] tss h e = subst (λ tss. AllFit tss []) (ok_inj e) tt
  seeds_safe s state (x ∷ xs) tss h e =
      let t = then_ok (seed_types s x) _ tss e in let u = then_ok (each_judged (seed_types s) xs) _ tss t.2 in
      safe_then (SetFits world t.0) (AllFit tss) (seed_of world state x) _ (seed_safe s state x t.0 h t.1)
      (λ a f. safe_then (AllFit u.0) (AllFit tss) (each (seed_of world state) xs) _ (seeds_safe s state xs u.0 h u.1) (λ sets g. subst (λ tss. AllFit tss (a ∷ sets)) (ok_inj u.2) (f, g)))

  -- ---- set variables and terms

  thing_set : (types : List ℕ) (o : Option Thing) → ThingFits world (SetVariable types) o → Safe {F = Wrong} (GoodSet world types) (answers.◌>>=◌ (found o) set_in)
  thing_set types (Some (states.SetOf ts vs)) h = ((h.0, h.1), h.2)
  thing_set types (Some (states.Variable c v)) h = absurd h
  thing_set types (Some (states.EdgeRow r t)) h = absurd h
  thing_set types (Some (states.Member ts vs v)) h = absurd h
  thing_set types None h = absurd h

  pub set_named_safe : (s : Scope N) (state : State N) (x : N) (types : List ℕ) → StateIs world s state → entry s x ≡ Some (SetVariable types) → Safe (GoodSet world types) (set_named world state x)
  set_named_safe s state x types h e = thing_set types (thing_named world state.names x) (h.fits.named x (SetVariable types) e)

  term_safe : (s : Scope N) (state : State N) (t : SetTerm N) (types : List ℕ) → StateIs world s state → term_types s t ≡ Ok types → Safe (GoodSet world types) (term_of world state t)
  term_safe s state (SetNamed x) types h e = set_named_safe s state x types h (set_entry world words s x types e)
  term_safe s state (Seeds seeds) types h e =
      let t = then_ok (each_judged (seed_types s) seeds) _ types e in
      safe_then (AllFit t.0) (GoodSet world types) (each (seed_of world state) seeds) _ (seeds_safe s state seeds t.0 h t.1) (λ sets f. subst (λ types. GoodSet world types (all_of sets)) (ok_inj t.2) (all_fit t.0 sets f))

  joined_fits : (o : SetOp) (ts us : List ℕ) (a b : TypedSet) → GoodSet world ts a → GoodSet world us b → GoodSet world (joined_types o ts us) (joined o a b)
  joined_fits op.Union ts us a b h g = union_fits ts us a b h.0 g.0
  joined_fits op.Intersect ts us a b h g = ((h.0.0, filtered_still (among b.1) _ (by_number a.1) (distinct_all (is_vertex_of world.graph ts) nat_cmp a.1 h.0.1)), filtered_once (among b.1) (by_number a.1) (distinct_once a.1))
  joined_fits op.Minus ts us a b h g = ((h.0.0, filtered_still (λ v. not (among b.1 v)) _ (by_number a.1) (distinct_all (is_vertex_of world.graph ts) nat_cmp a.1 h.0.1)), filtered_once (λ v. not (among b.1 v)) (by_number a.1) (distinct_once a.1))

  chain_safe : (s : Scope N) (state : State N) (rest : List (SetOp × SetTerm N)) (ts types : List ℕ) (a : TypedSet) → StateIs world s state → GoodSet world ts a → through_judged (λ b next. term_types s next.1 >>= λ c. Ok (joined_types next.0 b c)) ts rest ≡ Ok types
      → Safe (GoodSet world types) (through (λ b next. answers.◌>>=◌ (term_of world state next.1) (λ c. Gives (joined next.0 b c))) a rest)
  chain_safe s state [] ts types a h f e = subst (λ types. GoodSet world types a) (ok_inj e) f
  chain_safe s state (next ∷ rest) ts types a h f e =
      let u = then_ok (term_types s next.1 >>= λ c. Ok (joined_types next.0 ts c)) _ types e in
      let v = then_ok (term_types s next.1) _ u.0 u.1 in
      safe_then (GoodSet world u.0) (GoodSet world types) (answers.◌>>=◌ (term_of world state next.1) (λ c. Gives (joined next.0 a c))) _
      (safe_then (GoodSet world v.0) (GoodSet world u.0) (term_of world state next.1) _ (term_safe s state next.1 v.0 h v.1) (λ c g. subst (λ types. GoodSet world types (joined next.0 a c)) (ok_inj v.2) (joined_fits next.0 ts v.0 a c f g)))
      (λ b g. chain_safe s state rest u.0 types b h g u.2)

  terms_safe : (s : Scope N) (state : State N) (t : SetTerm N) (rest : List (SetOp × SetTerm N)) (types : List ℕ) → StateIs world s state
      → (term_types s t >>= λ a. through_judged (λ b next. term_types s next.1 >>= λ c. Ok (joined_types next.0 b c)) a rest) ≡ Ok types
      → Safe (GoodSet world types) (answers.◌>>=◌ (term_of world state t) (λ a. through (λ b next. answers.◌>>=◌ (term_of world state next.1) (λ c. Gives (joined next.0 b c))) a rest))
  terms_safe s state t rest types h e =
      let u = then_ok (term_types s t) _ types e in
      safe_then (GoodSet world u.0) (GoodSet world types) (term_of world state t) _ (term_safe s state t u.0 h u.1) (λ a f. chain_safe s state rest u.0 types a h f u.2)

  pub sets_safe : (s : Scope N) (state : State N) (t : SetTerm N) (rest : List (SetOp × SetTerm N)) (types : List ℕ) → StateIs world s state → sets_types s t rest ≡ Ok types → Safe (GoodSet world types) (sets_of world state t rest)
  sets_safe s state (Seeds []) [] types h e =
      let u : world.graph.sorts.own_vertices ≡ types = ap (λ z. z.sorts.own_vertices) (sym h.fits.setting) ∙ ok_inj e in ((u, refl), refl)
  sets_safe s state (SetNamed x) [] types h e = terms_safe s state (SetNamed x) [] types h e
  sets_safe s state (SetNamed x) (r ∷ rest) types h e = terms_safe s state (SetNamed x) (r ∷ rest) types h e
  sets_safe s state (Seeds (x ∷ xs)) [] types h e = terms_safe s state (Seeds (x ∷ xs)) [] types h e
  sets_safe s state (Seeds (x ∷ xs)) (r ∷ rest) types h e = terms_safe s state (Seeds (x ∷ xs)) (r ∷ rest) types h e
  sets_safe s state (Seeds []) (r ∷ rest) types h e = terms_safe s state (Seeds []) (r ∷ rest) types h e
