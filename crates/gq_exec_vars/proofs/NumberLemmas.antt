-- NumberLemmas: numbers of tuple types and slots, in order.
use Rattle.std.proofs.Common.{◌≡◌, ℕ, zero, suc, ◌+◌, ◌<◌, List, [], ◌∷◌, ◌++◌, drop, length, get_or, Result, Ok, Err, OnOk, sym, ap, ap₂, subst, ◌∙◌, arith}
use Rattle.std.proofs.lemmas.List.{drop_more, length-append}
use Rattle.gq_value.specs.declared.kind.Kind.{Kind}
use Rattle.gq_rules_typing.specs.Statements.{Bytes}
use Rattle.gq_plan_ir.specs.declared.plan.Accum.{Accum}
use Rattle.gq_plan_ir.specs.declared.plan.Declared.{Declared}
use Rattle.gq_plan_ir.specs.declared.plan.Definition.{Definition}
use Rattle.gq_plan_ir.specs.declared.plan.Definition.TheVariants as defs
use Rattle.gq_eval_attributes.specs.declared.tuple_type.TupleType.{TupleType}
use Rattle.gq_eval_operand.specs.declared.halt.Halt.{Halt}
use Rattle.gq_frame.specs.declared.accums.Accums.{Accums}
use Rattle.gq_exec_vars.specs.Begun.{AddsTuple, no_accums}
use Rattle.gq_plan_ir.specs.Numbered.{AreNumbered, IsNext, NumberedFrom, SlotsFrom, slots_in, tuples_in}

-- one more
pub one_more : {A : Type 0} (old new : List A) (x : A) → new ≡ old ++ x ∷ [] → length new ≡ length old + 1
one_more old new x e = ap length e ∙ length-append old (x ∷ [])

-- what holds in any case
pub on_ok : {P : Type 0} (r : Result (Unit {0}) Halt) → P → OnOk r P
on_ok (Ok u) p = p
on_ok (Err h) p = tt

-- ---- slots

-- the accumulator at a place has the number of the place
slot_at : (n i : ℕ) (trees : List Accum) (x : Accum) → SlotsFrom n trees → i < length trees → x ≡ get_or trees i x → x.slot ≡ n + i
slot_at n i [] x s l e = absurd (let no : ⊥ = omega (arith, l) in no)
slot_at n zero (a ∷ trees) x s l e = ap (λ (t : Accum). t.slot) e ∙ s.0 ∙ (let f : n ≡ n + 0 = omega arith in f)
slot_at n (suc i) (a ∷ trees) x s l e = slot_at (suc n) i trees x s.1 (omega (arith, l)) e ∙ (let f : suc n + i ≡ n + suc i = omega arith in f)

pub next_slot : (n m i : ℕ) (trees : List Accum) (x : Accum) → SlotsFrom n trees → m ≡ n + i → i < length trees → x ≡ get_or trees i x → m ≡ x.slot
next_slot n m i trees x s is l e = is ∙ sym (slot_at n i trees x s l e)

-- ---- definitions

-- the definition at a place, and those after it
pub next_definition : (t n i : ℕ) (ds : List Definition) (d : Definition) → i < length ds → d ≡ get_or ds i d → NumberedFrom t n (drop i ds) → IsNext t n d × NumberedFrom (t + tuples_in d) (n + slots_in d) (drop (i + 1) ds)
next_definition t n i ds d l e s = subst (NumberedFrom t n) (drop_more ds i d l ∙ ap (λ x. x ∷ drop (i + 1) ds) (sym e)) s

pub more_numbered : (t n t' n' i : ℕ) (ds : List Definition) (d : Definition) → i < length ds → d ≡ get_or ds i d → NumberedFrom t n (drop i ds) → t' ≡ t + tuples_in d → n' ≡ n + slots_in d → NumberedFrom t' n' (drop (i + 1) ds)
more_numbered t n t' n' i ds d l e s f g =
    subst (λ m. NumberedFrom t' m (drop (i + 1) ds)) (sym g) (subst (λ m. NumberedFrom m (n + slots_in d) (drop (i + 1) ds)) (sym f) (next_definition t n i ds d l e s).1)

pub none_numbered : (tuples : List TupleType) (a : Accums) (count : ℕ) (ds : List Definition) → tuples ≡ [] → a ≡ no_accums count → AreNumbered ds → NumberedFrom (length tuples) (length a.slots.declared) ds
none_numbered tuples a count ds e f s =
    subst (λ (b : Accums). NumberedFrom (length tuples) (length b.slots.declared) ds) (sym f) (subst (λ ts. NumberedFrom (length ts) 0 ds) (sym e) s)

-- ---- one definition

module _ (t n : ℕ) (d : Definition) where
  pub tuple_next : (fields : List (Declared × Bytes)) (m : ℕ) → d ≡ defs.Tuple fields m → IsNext t n d → t ≡ m
  tuple_next fields m e s = subst (IsNext t n) e s

  pub accums_next : (kind : Kind) (trees : List Accum) → d ≡ defs.Accums kind trees → IsNext t n d → SlotsFrom n trees
  accums_next kind trees e s = subst (IsNext t n) e s

module _ (d : Definition) (fields : List (Declared × Bytes)) (m : ℕ) (e : d ≡ defs.Tuple fields m) where
  pub tuple_counts : (own : List ℕ) (old new : List TupleType) (r : Result (Unit {0}) Halt) → OnOk r (AddsTuple own fields m old new) → OnOk r (length new ≡ length old + tuples_in d)
  tuple_counts own old new (Ok u) a = one_more old new a.tuple a.added ∙ ap (λ x. length old + tuples_in x) (sym e)
  tuple_counts own old new (Err h) a = a

  pub no_slot : (n : ℕ) → n ≡ n + slots_in d
  no_slot n = (let f : n ≡ n + 0 = omega arith in f) ∙ ap (λ x. n + slots_in x) (sym e)

module _ (d : Definition) (kind : Kind) (trees : List Accum) (e : d ≡ defs.Accums kind trees) where
  pub slots_count : (n m : ℕ) (r : Result (Unit {0}) Halt) → OnOk r (m ≡ n + length trees) → OnOk r (m ≡ n + slots_in d)
  slots_count n m (Ok u) h = h ∙ ap (λ x. n + slots_in x) (sym e)
  slots_count n m (Err f) h = h

  pub no_tuple : (n : ℕ) → n ≡ n + tuples_in d
  no_tuple n = (let f : n ≡ n + 0 = omega arith in f) ∙ ap (λ x. n + tuples_in x) (sym e)
