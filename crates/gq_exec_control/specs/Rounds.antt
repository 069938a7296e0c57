-- Rounds: the values that a collection or a range gives, with their type.
use Rattle.std.specs.Prelude.{List, Option}
use Rattle.gq_value.specs.declared.kind.Number.{Number}
use Rattle.gq_value.specs.declared.value.Wrong.{Wrong}
use Rattle.gq_value.specs.Accums.{Base}
use Rattle.gq_value.specs.Typed.{number_type}
use Rattle.gq_value.specs.Val.{Val}
use Rattle.gq_rules_meaning.specs.Answers.{Answer, Gives, ◌>>=◌, found}
use Rattle.gq_rules_meaning.specs.Meanings.{Outcome}
use Rattle.gq_rules_meaning.specs.Statements.{between, elements_of, end_of, numbers_between, with_base}

abbrev pub all_elements : Outcome → Answer Wrong (List (Base × Val))
all_elements o = o >>= elements_of

-- elements with the type that their kind gives them; a kind without elements has no meaning
abbrev pub typed_elements : Option Base → List Val → Answer Wrong (List (Base × Val))
typed_elements o vs = found o >>= λ b. Gives (with_base b vs)

abbrev pub both_ends : Answer Wrong Val → Answer Wrong Val → Answer Wrong (List (Base × Val))
both_ends first last = first >>= λ v. last >>= between v

-- the numbers between two ends, with their type
abbrev pub between_as : Number → Val → Val → Answer Wrong (List (Base × Val))
between_as n v w = end_of n v >>= λ x. end_of n w >>= λ y. Gives (with_base (number_type n) (numbers_between n x y))
