-- EachSteps: the results of items, in order, and how they end.
use Rattle.std.proofs.Common.{◌≡◌, ℕ, ◌+◌, ◌<◌, ◌≤◌, List, [], ◌∷◌, ◌++◌, length, get_or, Some, sym, ap, subst}
use Rattle.std.specs.List.{slice_get}
use Rattle.gq_value.specs.declared.value.Wrong.{Wrong}
use Rattle.gq_json.specs.declared.out.Out as json
use Rattle.gq_rules_typing.specs.Statements.{Bytes}
use Rattle.gq_rules_meaning.specs.Answers.{Answer, Gives, ◌>>=◌, each}
use Rattle.gq_eval_operand.specs.declared.halt.Halt.{Halt}
use Rattle.gq_eval_operand.specs.declared.halt.Halt.TheVariants as halt
use Rattle.gq_eval_operand.specs.Meant.{Halts}
use Rattle.gq_output.proofs.NamedLemmas.{at_get}
use Rattle.gq_output.proofs.EachLemmas.{EachFrom, each_next, each_begins, each_all}

-- an evaluation that halts stops everything after it
pub stops : {A B : Type 0} (o : Answer Wrong A) (f : A → Answer Wrong B) (h : Halt) → Halts o h → Halts (o >>= f) h
stops o f (halt.Wrong w) e = ap (λ p. p >>= f) e
stops o f halt.Stuck e = ap (λ p. p >>= f) e
stops o f halt.OutOfMemory e = tt

module _ {A B : Type 0} (f : A → Answer Wrong B) where
  pub each_stops : (xs : List A) (i : ℕ) (x : A) (done : List B) (h : Halt) → EachFrom f xs i done → slice_get xs i ≡ Some x → Halts (f x) h → Halts (each f xs) h
  each_stops xs i x done h inv e g = subst (λ o. Halts o h) (sym (each_begins f xs i x done inv e)) (stops (f x) _ h g)

-- each with its key
module _ {A : Type 0} (g : A → Answer Wrong json.Out) (key : A → Bytes) where
  abbrev pub keyed : A → Answer Wrong (Bytes × json.Out)
  keyed a = g a >>= λ o. Gives (key a, o)

  pub keyed_next : (xs : List A) (i : ℕ) (x : A) (done new : List (Bytes × json.Out)) (o : json.Out) → EachFrom keyed xs i done → i < length xs → x ≡ get_or xs i x → g x ≡ Gives o → new ≡ done ++ (key x, o) ∷ [] → EachFrom keyed xs (i + 1) new
  keyed_next xs i x done new o inv l e h is = each_next keyed xs i x done new (key x, o) inv (at_get xs i x l e) (ap (λ p. p >>= λ o. Gives (key x, o)) h) is

  pub keyed_stops : (xs : List A) (i : ℕ) (x : A) (done : List (Bytes × json.Out)) (h : Halt) → EachFrom keyed xs i done → i < length xs → x ≡ get_or xs i x → Halts (g x) h → Halts (each keyed xs) h
  keyed_stops xs i x done h inv l e s = each_stops keyed xs i x done h inv (at_get xs i x l e) (stops (g x) (λ o. Gives (key x, o)) h s)

  pub keyed_all : (xs : List A) (i : ℕ) (done : List (Bytes × json.Out)) → EachFrom keyed xs i done → length xs ≤ i → each keyed xs ≡ Gives done
  keyed_all xs i done inv l = each_all keyed xs i done inv l
