-- SetLemmas: set expressions, and set variables.
use Rattle.std.proofs.Common.{◌≡◌, ◌==◌, ◌&&◌, ℕ, suc, arith, Bool, true, false, List, [], ◌∷◌, map, drop, length, get_or, ◌+◌, ◌<◌, ◌≤◌, Option, Some, None, Result, Ok, Err, OnOk, refl, sym, ap, ap₂, subst, ◌∙◌}
use Rattle.std.specs.Prelude.{IsErrAnd, is_some, if◌then◌else◌}
use Rattle.gq_graph.specs.Candidates.{among}
use Rattle.std.specs.List.{slice_get}
use Rattle.std.proofs.lemmas.Bool.Decides.{nat_tests}
use Rattle.std.proofs.lemmas.Result.{err_from_is_err_and}
use Rattle.std.proofs.lemmas.List.{drop_more, drop_all}
use Rattle.gq_base.specs.declared.memory.OutOfMemory.{OutOfMemory}
use Rattle.gq_tree.specs.declared.body.SetOp.{SetOp}
use Rattle.gq_graph.specs.declared.rows.VertexRow.{VertexRow}
use Rattle.gq_value.specs.declared.value.Wrong.{Wrong}
use Rattle.gq_rules_typing.specs.Statements as plain
use Rattle.gq_rules_typing.specs.Words.{under}
use Rattle.gq_rules_meaning.specs.Answers.{Answer, Gives, Stuck, ◌>>=◌, found, through}
use Rattle.gq_rules_meaning.specs.Expressions.{World}
use Rattle.gq_rules_meaning.specs.States as states
use Rattle.gq_rules_meaning.specs.States.{State, SetOf, thing_named, with_name}
use Rattle.gq_rules_meaning.specs.Statements.{is_set}
use Rattle.gq_rules_meaning.specs.Sets.{TypedSet, set_in, set_named, term_of, joined, sets_of, types_fixed, types_kept, set_assigned}
use Rattle.gq_plan_ir.specs.declared.step.Seed.{Seed}
use Rattle.gq_plan_ir.specs.declared.step.SetTerm.{SetTerm}
use Rattle.gq_plan_ir.specs.PlanView.{view_seed, view_term}
use Rattle.gq_plan_ir.specs.Reference.{Reference, Place, VertexType}
use Rattle.gq_plan_ir.specs.References.{same}
use Rattle.gq_frame.specs.declared.frame.Thing.{Thing}
use Rattle.gq_frame.specs.Names.{thing_in}
use Rattle.gq_eval_operand.specs.declared.halt.Halt.{Halt}
use Rattle.gq_eval_operand.specs.declared.halt.Halt.TheVariants as halt
use Rattle.gq_eval_operand.specs.Meant.{Halts, Tells}
use Rattle.gq_frame.specs.declared.live.Live.{Live}
use Rattle.gq_frame.specs.Lives.{Lives}
use Rattle.gq_frame.proofs.LookupLemmas.{seen_there}
use Rattle.gq_exec_vars.specs.declared.lookup.Lookup.{Lookup}
use Rattle.gq_exec_vars.specs.declared.typed.TypedSet as code
use Rattle.gq_exec_vars.specs.Lookups.{IsOver, IsSeen}
use Rattle.gq_exec_vars.specs.Written.{Keeps, typed, is_bare, others_of, chain_of, step_of}

-- ---- set variables that are read

pub set_seen : (at : Lookup) (world : World Reference) (s : State Reference) (p : ℕ) (types vs : List ℕ) → IsSeen at world s → thing_in at.frame.now.things p ≡ Some (SetOf types vs) → set_named world s (Place p) ≡ Gives (types, vs)
set_seen at world s p types vs seen e =
    ap (λ f. found (under f (Place p) s.names) >>= set_in) seen.over.like ∙ ap (λ o. found o >>= set_in) (seen.shows.names (Place p) ∙ e)

not_set : (o : Option states.Thing) → is_set o ≡ false → (found o >>= set_in) ≡ Stuck
not_set None e = refl
not_set (Some (states.Variable b v)) e = refl
not_set (Some (SetOf types vs)) e = cc
not_set (Some (states.EdgeRow r t)) e = refl
not_set (Some (states.Member types vs v)) e = refl

pub set_unseen : (at : Lookup) (world : World Reference) (s : State Reference) (p : ℕ) → IsSeen at world s → is_set (thing_in at.frame.now.things p) ≡ false → set_named world s (Place p) ≡ Stuck
set_unseen at world s p seen e =
    ap (λ f. found (under f (Place p) s.names) >>= set_in) seen.over.like ∙ ap (λ o. found o >>= set_in) (seen.shows.names (Place p)) ∙ not_set (thing_in at.frame.now.things p) e

-- ---- chains

pub bare : (world : World Reference) (s : State Reference) (t : plain.SetTerm Reference) (rest : List (SetOp × plain.SetTerm Reference)) → is_bare t rest ≡ true → sets_of world s t rest ≡ Gives (world.graph.sorts.own_vertices, [])
bare world s (plain.SetNamed x) rest e = cc
bare world s (plain.Seeds []) [] e = refl
bare world s (plain.Seeds []) (r ∷ rest) e = cc
bare world s (plain.Seeds (x ∷ xs)) rest e = cc

pub chained : (world : World Reference) (s : State Reference) (t : plain.SetTerm Reference) (rest : List (SetOp × plain.SetTerm Reference)) → is_bare t rest ≡ false → sets_of world s t rest ≡ chain_of world s (term_of world s t) rest
chained world s (plain.SetNamed x) rest e = refl
chained world s (plain.Seeds []) [] e = cc
chained world s (plain.Seeds []) (r ∷ rest) e = refl
chained world s (plain.Seeds (x ∷ xs)) rest e = refl

pub bare_made : (at : Lookup) (world : World Reference) (s : State Reference) (t : plain.SetTerm Reference) (rest : List (SetOp × plain.SetTerm Reference)) (b : Bool) (types vs : List ℕ) → IsSeen at world s → b ≡ is_bare t rest → b ≡ true
    → types ≡ at.own.now → vs ≡ [] → sets_of world s t rest ≡ Gives (types, vs)
bare_made at world s t rest b types vs seen e f g h = bare world s t rest (sym e ∙ f) ∙ ap₂ (λ (a b : List ℕ). Gives (a, b)) (seen.over.types ∙ sym g) (sym h)

pub sets_chained : (world : World Reference) (s : State Reference) (t : plain.SetTerm Reference) (others slice : List (SetOp × SetTerm)) (b : Bool) (r : Result code.TypedSet Halt) → b ≡ is_bare t (others_of others) → b ≡ false → slice ≡ others
    → Tells typed (chain_of world s (term_of world s t) (others_of slice)) r → Tells typed (sets_of world s t (others_of others)) r
sets_chained world s t others slice b r e f g p =
    subst (λ o. Tells typed o r) (sym (chained world s t (others_of others) (sym e ∙ f))) (subst (λ xs. Tells typed (chain_of world s (term_of world s t) (others_of xs)) r) g p)

not_none : (n : ℕ) → (suc n == 0) ≡ false
not_none n = grind (arith, nat_tests)

pub bare_tests : (seeds : List Seed) (others : List (SetOp × SetTerm)) → is_bare (plain.Seeds (map view_seed seeds)) (others_of others) ≡ ((length seeds == 0) && (length others == 0))
bare_tests [] [] = refl
bare_tests [] (o ∷ os) = sym (not_none (length os))
bare_tests (x ∷ xs) [] = sym (ap (λ b. b && (0 == 0)) (not_none (length xs)))
bare_tests (x ∷ xs) (o ∷ os) = sym (ap (λ b. b && (length (o ∷ os) == 0)) (not_none (length xs)))

-- ---- one operator

pub step_made : (world : World Reference) (s : State Reference) (b c made : TypedSet) (op : SetOp) (t : plain.SetTerm Reference) → term_of world s t ≡ Gives c → made ≡ joined op b c → step_of world s b op t ≡ Gives made
step_made world s b c made op t e m = ap (λ o. o >>= λ c. Gives (joined op b c)) e ∙ ap Gives (sym m)

pub step_halts : (world : World Reference) (s : State Reference) (b : TypedSet) (op : SetOp) (t : plain.SetTerm Reference) (h : Halt) → Halts (term_of world s t) h → Halts (step_of world s b op t) h
step_halts world s b op t (halt.Wrong w) e = ap (λ o. o >>= λ c. Gives (joined op b c)) e
step_halts world s b op t halt.Stuck e = ap (λ o. o >>= λ c. Gives (joined op b c)) e
step_halts world s b op t halt.OutOfMemory e = tt

-- the remaining operators, from a set on
abbrev pub onward : World Reference → State Reference → TypedSet → List (SetOp × plain.SetTerm Reference) → Answer Wrong TypedSet
onward world s b rest = through (λ b next. step_of world s b next.0 next.1) b rest

pub chain_begins : (world : World Reference) (s : State Reference) (first : Answer Wrong TypedSet) (a : TypedSet) (rest : List (SetOp × plain.SetTerm Reference)) → first ≡ Gives a → chain_of world s first rest ≡ onward world s a rest
chain_begins world s first a rest e = ap (λ o. chain_of world s o rest) e

pub chain_halts : (world : World Reference) (s : State Reference) (first : Answer Wrong TypedSet) (h : Halt) (rest : List (SetOp × plain.SetTerm Reference)) → Halts first h → Halts (chain_of world s first rest) h
chain_halts world s first (halt.Wrong w) rest e = ap (λ o. chain_of world s o rest) e
chain_halts world s first halt.Stuck rest e = ap (λ o. chain_of world s o rest) e
chain_halts world s first halt.OutOfMemory rest e = tt

-- the operator at a place, and those after it
others_next : (others : List (SetOp × SetTerm)) (i : ℕ) (x : SetOp × SetTerm) → i < length others → x ≡ get_or others i x → others_of (drop i others) ≡ (x.0, view_term x.1) ∷ others_of (drop (i + 1) others)
others_next others i x l e = ap others_of (drop_more others i x l ∙ ap (λ y. y ∷ drop (i + 1) others) (sym e))

pub chain_more : (world : World Reference) (s : State Reference) (whole : Answer Wrong TypedSet) (b c : TypedSet) (others : List (SetOp × SetTerm)) (i : ℕ) (x : SetOp × SetTerm) → i < length others → x ≡ get_or others i x
    → whole ≡ onward world s b (others_of (drop i others)) → step_of world s b x.0 (view_term x.1) ≡ Gives c → whole ≡ onward world s c (others_of (drop (i + 1) others))
chain_more world s whole b c others i x l e w g =
    w ∙ ap (onward world s b) (others_next others i x l e) ∙ ap (λ o. o >>= λ c. onward world s c (others_of (drop (i + 1) others))) g

pub chain_stops : (world : World Reference) (s : State Reference) (whole : Answer Wrong TypedSet) (b : TypedSet) (h : Halt) (others : List (SetOp × SetTerm)) (i : ℕ) (x : SetOp × SetTerm) → i < length others → x ≡ get_or others i x
    → whole ≡ onward world s b (others_of (drop i others)) → Halts (step_of world s b x.0 (view_term x.1)) h → Halts whole h
chain_stops world s whole b (halt.Wrong f) others i x l e w g = w ∙ ap (onward world s b) (others_next others i x l e) ∙ ap (λ o. o >>= λ c. onward world s c (others_of (drop (i + 1) others))) g
chain_stops world s whole b halt.Stuck others i x l e w g = w ∙ ap (onward world s b) (others_next others i x l e) ∙ ap (λ o. o >>= λ c. onward world s c (others_of (drop (i + 1) others))) g
chain_stops world s whole b halt.OutOfMemory others i x l e w g = tt

pub chain_ends : (world : World Reference) (s : State Reference) (whole : Answer Wrong TypedSet) (b c : TypedSet) (others : List (SetOp × SetTerm)) (i : ℕ) → length others ≤ i
    → whole ≡ onward world s b (others_of (drop i others)) → c ≡ b → whole ≡ Gives c
chain_ends world s whole b c others i l w e = w ∙ ap (λ xs. onward world s b (others_of xs)) (drop_all i others l) ∙ ap Gives (sym e)

-- a `?` returns the same fault
pub halts_on : {A B : Type 0} (view : B → A) (o : Answer Wrong A) (h : Halt) (r : Result B Halt) → IsErrAnd r (λ y. y ≡ h) → Halts o h → Tells view o r
halts_on view o h r e p =
    let q = err_from_is_err_and r e in
    subst (Tells view o) (sym (q.1 ∙ ap Err q.2)) p

-- ---- set variables that are assigned

-- what isn't a set gives way
not_kept : (o : Option states.Thing) (fixed : List ℕ) → is_set o ≡ false → types_kept o fixed ≡ fixed
not_kept None fixed e = refl
not_kept (Some (states.Variable b v)) fixed e = refl
not_kept (Some (SetOf types vs)) fixed e = absurd (let no : ⊥ = cc in no)
not_kept (Some (states.EdgeRow r t)) fixed e = refl
not_kept (Some (states.Member types vs v)) fixed e = refl

module _ (own : List ℕ) (declared : Option (plain.SetTypes Reference)) (types kept : List ℕ) where
  -- a set in view keeps its types
  pub kept_seen : (slice things : List (Option Thing)) (p : ℕ) (held vs : List ℕ) → slice ≡ things → thing_in slice p ≡ Some (SetOf held vs) → kept ≡ held → Keeps own declared (thing_in things p) types kept
  kept_seen slice things p held vs s e is = record {
    each = λ vertices world o. is ∙ ap (λ t. types_kept t (types_fixed world declared types)) (sym e ∙ ap (λ ts. thing_in ts p) s);
  }

  pub kept_new : (slice things : List (Option Thing)) (p : ℕ) → slice ≡ things → is_set (thing_in slice p) ≡ false → Keeps own declared None types kept → Keeps own declared (thing_in things p) types kept
  kept_new slice things p s e k = record {
    each = λ vertices world o. k.each vertices world o ∙ sym (not_kept (thing_in things p) (types_fixed world declared types) (ap (λ ts. is_set (thing_in ts p)) (sym s) ∙ e));
  }

pub ruleset kept_laws = (kept_seen, kept_new)

pub set_lives : (old new : Live) (p : ℕ) (kept vs own types slice : List ℕ) (declared : Option (plain.SetTypes Reference)) (result : Result (Unit {0}) OutOfMemory)
    → slice ≡ types → Keeps own declared (thing_in old.frame.things p) slice kept
    → OnOk result ((world : World Reference) (s : State Reference) → world.words.same ≡ same → Lives old s → Lives new (with_name world (Place p) (SetOf kept vs) s))
    → OnOk result ((vertices : List VertexRow) (world : World Reference) (s : State Reference) → IsOver vertices own world → Lives old s → Lives new (set_assigned world (Place p) declared (types, vs) s))
set_lives old new p kept vs own types slice declared (Err e) f k h = h
set_lives old new p kept vs own types slice declared (Ok u) f k h = λ vertices world s o l.
    subst (λ ts. Lives new (with_name world (Place p) (SetOf ts vs) s))
    (k.each vertices world o
    ∙ ap₂ (λ t ts. types_kept t (types_fixed world declared ts)) (sym (ap (λ f. under f (Place p) s.names) o.like ∙ seen_there old p s l)) f)
    (h world s o.like l)

-- ---- types that are fixed

module _ (own types kept : List ℕ) where
  pub fixed_none : kept ≡ types → Keeps own None None types kept
  fixed_none e = record { each = λ vertices world o. e }

  pub fixed_every : kept ≡ own → Keeps own (Some plain.AnyType) None types kept
  fixed_every e = record { each = λ vertices world o. e ∙ sym o.types }

  fixed_of : (kind : ℕ) (b : Bool) → among own kind ≡ b → kept ≡ (if b then kind ∷ [] else types) → Keeps own (Some (plain.TypeOf (VertexType kind))) None types kept
  fixed_of kind b a e = record { each = λ vertices world o. e ∙ by b ∙ sym (ap of_type (o.vertex_type kind ∙ ap (λ b. if b then Some kind else None) a)) }
    where
      of_type : Option ℕ → List ℕ
      of_type None = types
      of_type (Some n) = n ∷ []

      by : (b : Bool) → (if b then kind ∷ [] else types) ≡ of_type (if b then Some kind else None)
      by true = refl
      by false = refl

  pub fixed_own : (kind : ℕ) → among own kind ≡ true → kept ≡ kind ∷ [] → Keeps own (Some (plain.TypeOf (VertexType kind))) None types kept
  fixed_own kind a e = fixed_of kind true a e

  pub fixed_other : (kind : ℕ) → among own kind ≡ false → kept ≡ types → Keeps own (Some (plain.TypeOf (VertexType kind))) None types kept
  fixed_other kind a e = fixed_of kind false a e

pub ruleset fixed_laws = (fixed_none, fixed_every, fixed_own, fixed_other)

pub ruleset chain_laws = (chain_begins, chain_more, chain_stops, chain_halts, chain_ends)

pub ruleset step_laws = (step_made, step_halts)
