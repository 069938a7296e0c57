-- Answers: the result of a run. It gives a value, ends with a fault, or is stuck: something named is missing or has a
-- wrong type.
use Rattle.std.specs.Prelude.{List, [], ◌∷◌, Option, Some, None, Result, Ok, Err}

pub data Answer (F A : Type 0) : Type 0 where
  Gives : A → Answer F A
  Faults : F → Answer F A
  Stuck : Answer F A

infixl 10 ◌>>=◌
-- sequencing: the second step gets the result of the first
abbrev pub ◌>>=◌ : {F A B : Type 0} → Answer F A → (A → Answer F B) → Answer F B
(Gives a) >>= f = f a
(Faults e) >>= f = Faults e
Stuck >>= f = Stuck

-- the same answer, with the fault in another form
abbrev pub blaming : {E F A : Type 0} → (E → F) → Answer E A → Answer F A
blaming f (Gives a) = Gives a
blaming f (Faults e) = Faults (f e)
blaming f Stuck = Stuck

-- stuck if there is no value
abbrev pub found : {F A : Type 0} → Option A → Answer F A
found None = Stuck
found (Some a) = Gives a

-- the fault if there is no value
abbrev pub or_fault : {F A : Type 0} → F → Option A → Answer F A
or_fault e None = Faults e
or_fault e (Some a) = Gives a

abbrev pub of_result : {F A : Type 0} → Result A F → Answer F A
of_result (Ok a) = Gives a
of_result (Err e) = Faults e

-- the answers for all items, from left to right; the first fault counts
abbrev pub each : {F A B : Type 0} → (A → Answer F B) → List A → Answer F (List B)
each f [] = Gives []
each f (a ∷ rest) = f a >>= λ b. each f rest >>= λ bs. Gives (b ∷ bs)

-- through the items from left to right, with the state from the ones before
abbrev pub through : {F A S : Type 0} → (S → A → Answer F S) → S → List A → Answer F S
through f s [] = Gives s
through f s (a ∷ rest) = f s a >>= λ t. through f t rest
