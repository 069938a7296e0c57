-- Judging: the types of expressions, the faults of typing, and rules in order of text: the first failure is the fault.
use Rattle.std.specs.Prelude.{ℕ, Bool, true, false, List, [], ◌∷◌, Option, Some, None, Result, Ok, Err}
use Rattle.gq_tree.specs.Accums.{Base, Accum, Parts}
use Rattle.gq_rules_typing.specs.Statements.{Bytes}

-- an expression has a base type, or is an average, a whole collection or a group's row. Before a dot a name may also be a
-- vertex alias, an edge alias, a set, or the set of an `S[..]`, each with its types
pub data Typed : Type 0 where
  Of : Base → Typed
  Average : Typed
  Whole : Accum → Typed
  GroupRow : Parts → Typed
  AliasOf EdgeOf SetOf MemberOf : List ℕ → Typed

pub data TypingFault : Type 0 where
  Mismatch NotAllowedHere TwoAliases TooMany : TypingFault
  UnknownName NoAttribute OrderDependent WiderSet BadKind NameTwice : Bytes → TypingFault

abbrev pub Judged : Type 0 → Type 0
Judged A = Result A TypingFault

infixl 10 ◌>>=◌
-- sequencing: the second step gets the result of the first
abbrev pub ◌>>=◌ : {A B : Type 0} → Judged A → (A → Judged B) → Judged B
(Ok a) >>= f = f a
(Err e) >>= f = Err e

infixl 10 ◌>>◌
-- sequencing; the first must pass
abbrev pub ◌>>◌ : {A B : Type 0} → Judged A → Judged B → Judged B
(Ok a) >> j = j
(Err e) >> j = Err e

-- one rule
abbrev pub unless : TypingFault → Bool → Judged Bool
unless e true = Ok true
unless e false = Err e

-- the value of an option, else the fault
abbrev pub or_fault : {A : Type 0} → TypingFault → Option A → Judged A
or_fault e None = Err e
or_fault e (Some a) = Ok a

-- each one after the other
abbrev pub each_judged : {A B : Type 0} → (A → Judged B) → List A → Judged (List B)
each_judged f [] = Ok []
each_judged f (a ∷ rest) = f a >>= λ b. each_judged f rest >>= λ bs. Ok (b ∷ bs)

-- each one after the other, with the state from the ones before
abbrev pub through_judged : {A S : Type 0} → (S → A → Judged S) → S → List A → Judged S
through_judged f s [] = Ok s
through_judged f s (a ∷ rest) = f s a >>= λ t. through_judged f t rest
