-- MadeLemmas: evaluated changes, in the cases of the code.
use Rattle.std.proofs.Common.{◌≡◌, Option, Some, None, refl, sym, ap, subst, ◌∙◌}
use Rattle.gq_tree.specs.Tree.{Tree}
use Rattle.gq_value.specs.declared.kind.Input.{Input}
use Rattle.gq_value.specs.declared.kind.Number.{Number}
use Rattle.gq_value.specs.declared.value.Value.{Value}
use Rattle.gq_value.specs.declared.value.Wrong.{Wrong}
use Rattle.gq_value.specs.Val.{Val}
use Rattle.gq_value.specs.Views.{val}
use Rattle.gq_value.specs.Accums.{Base, Accum}
use Rattle.gq_value.specs.AccumViews.{given}
use Rattle.gq_rules_typing.specs.Selecting as plain
use Rattle.gq_rules_typing.specs.Kinds.{set_type}
use Rattle.gq_rules_meaning.specs.Answers.{Answer, Gives, Faults, Stuck, ◌>>=◌, found}
use Rattle.gq_rules_meaning.specs.Blocks.{input_of}
use Rattle.gq_rules_meaning.specs.Expressions.{Look, value_of}
use Rattle.gq_rules_meaning.specs.Meanings.{converted_to}
use Rattle.gq_rules_meaning.specs.Writes.{Making, made_by, with_input, with_value}
use Rattle.gq_eval_operand.specs.declared.halt.Halt.{Halt}
use Rattle.gq_eval_operand.specs.declared.halt.Halt.TheVariants as halt
use Rattle.gq_eval_operand.specs.Meant.{Halts, number_to}
use Rattle.gq_exec_post.specs.declared.making.Made.TheVariants as made
use Rattle.gq_exec_post.specs.declared.making.Putting.{Putting}
use Rattle.gq_exec_post.specs.declared.making.Putting.TheVariants as putting
use Rattle.gq_exec_post.specs.Making.{PutsAs, making_of, put_to}

stops : {A B : Type 0} (o : Answer Wrong A) (f : A → Answer Wrong B) (h : Halt) → Halts o h → Halts (o >>= f) h
stops o f (halt.Wrong w) e = ap (λ p. p >>= f) e
stops o f halt.Stuck e = ap (λ p. p >>= f) e
stops o f halt.OutOfMemory e = tt

module _ {N : Type 0} (look : Look N) (k : Accum) where
  -- ---- inputs

  pub feed_stops : (x : plain.Input N) (h : Halt) → Halts (input_of look k x) h → Halts (made_by look k (plain.Adds x)) h
  feed_stops x h e = stops (input_of look k x) (λ y. Gives (with_input y)) h e

  pub feed_goes : (x : plain.Input N) (i : Input) → input_of look k x ≡ Gives (given i) → made_by look k (plain.Adds x) ≡ Gives (making_of (made.Input i))
  feed_goes x i e = ap (λ o. o >>= λ y. Gives (with_input y)) e

  -- ---- values that are set

  pub put_stuck : (t : Tree N) → PutsAs (set_type k) None → made_by look k (plain.Puts t) ≡ Stuck
  put_stuck t h = go (set_type k) h
    where
      go : (o : Option Base) → PutsAs o None → (found o >>= λ b. value_of look t >>= converted_to b >>= λ v. Gives (with_value v)) ≡ Stuck
      go None p = refl
      go (Some b) p = absurd p

  -- the value that is set
  abbrev put_of : Putting → Answer Wrong Val → Answer Wrong Making
  put_of p o = o >>= put_to p >>= λ v. Gives (with_value v)

  put_is : (t : Tree N) (p : Putting) → PutsAs (set_type k) (Some p) → made_by look k (plain.Puts t) ≡ put_of p (value_of look t)
  put_is t p h = go (set_type k) h (value_of look t)
    where
      go : (o : Option Base) → PutsAs o (Some p) → (v : Answer Wrong Val) → (found o >>= λ b. v >>= converted_to b >>= λ v. Gives (with_value v)) ≡ put_of p v
      go None q v = absurd q
      go (Some b) q (Gives v) = ap (λ o. o >>= λ v. Gives (with_value v)) (q.each v)
      go (Some b) q (Faults w) = refl
      go (Some b) q Stuck = refl

  pub put_stops : (t : Tree N) (p : Putting) (h : Halt) → PutsAs (set_type k) (Some p) → Halts (value_of look t) h → Halts (made_by look k (plain.Puts t)) h
  put_stops t p h q e = subst (λ o. Halts o h) (sym (put_is t p q ∙ joined (value_of look t))) (stops (value_of look t) (λ v. put_to p v >>= λ v. Gives (with_value v)) h e)
    where
      joined : (o : Answer Wrong Val) → put_of p o ≡ (o >>= λ v. put_to p v >>= λ v. Gives (with_value v))
      joined (Gives v) = refl
      joined (Faults w) = refl
      joined Stuck = refl

  pub put_converts : (t : Tree N) (p : Putting) (v : Val) (h : Halt) → PutsAs (set_type k) (Some p) → value_of look t ≡ Gives v → Halts (put_to p v) h → Halts (made_by look k (plain.Puts t)) h
  put_converts t p v h q is e = subst (λ o. Halts o h) (sym (put_is t p q ∙ ap (put_of p) is)) (stops (put_to p v) (λ v. Gives (with_value v)) h e)

  pub put_goes : (t : Tree N) (p : Putting) (v u : Val) (x : Value) → PutsAs (set_type k) (Some p) → value_of look t ≡ Gives v → put_to p v ≡ Gives u → val x ≡ u → made_by look k (plain.Puts t) ≡ Gives (making_of (made.Value x))
  put_goes t p v u x q is e same = put_is t p q ∙ ap (put_of p) is ∙ ap (λ o. o >>= λ v. Gives (with_value v)) e ∙ ap (λ w. Gives (with_value w)) (sym same)

  pub number_stops : (t : Tree N) (n : Number) (v : Val) (h : Halt) → PutsAs (set_type k) (Some (putting.Number n)) → value_of look t ≡ Gives v → Halts (number_to n v) h → Halts (made_by look k (plain.Puts t)) h
  number_stops t n v h q is e = put_converts t (putting.Number n) v h q is e

  pub number_goes : (t : Tree N) (n : Number) (v u : Val) (x : Value) → PutsAs (set_type k) (Some (putting.Number n)) → value_of look t ≡ Gives v → number_to n v ≡ Gives u → val x ≡ u → made_by look k (plain.Puts t) ≡ Gives (making_of (made.Value x))
  number_goes t n v u x q is e same = put_goes t (putting.Number n) v u x q is e same

  pub truth_goes : (t : Tree N) (v : Val) (x : Value) → PutsAs (set_type k) (Some putting.Truth) → value_of look t ≡ Gives v → val x ≡ v → made_by look k (plain.Puts t) ≡ Gives (making_of (made.Value x))
  truth_goes t v x q is same = put_goes t putting.Truth v v x q is refl same

pub ruleset feed_laws = (feed_stops, feed_goes)

pub ruleset put_laws = (put_stuck, put_stops, number_stops, number_goes, truth_goes)
