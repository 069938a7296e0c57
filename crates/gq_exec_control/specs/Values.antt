-- Values: the values that FOREACH iterates over, and their type.
use Rattle.std.specs.Prelude.{List, map, pos}
use Rattle.gq_value.specs.declared.kind.Number.TheVariants as number
use Rattle.gq_value.specs.Accums.{Base, INT, UINT}
use Rattle.gq_value.specs.AccumViews.{base_of}
use Rattle.gq_value.specs.Val.{Val}
use Rattle.gq_value.specs.Views.{val}
use Rattle.gq_rules_meaning.specs.Statements.{numbers_between, with_base}
use Rattle.gq_exec_control.specs.declared.running.Rounds.{Rounds}
use Rattle.gq_exec_control.specs.declared.running.Rounds.TheVariants as rounds

-- the values, or the numbers including both ends
abbrev pub values_of : Rounds → List Val
values_of (rounds.Elements b row) = map val row
values_of (rounds.Ints x y) = numbers_between number.Int x y
values_of (rounds.UInts x y) = numbers_between number.UInt (pos x) (pos y)

-- their type
abbrev pub base_in : Rounds → Base
base_in (rounds.Elements b row) = base_of b
base_in (rounds.Ints x y) = INT
base_in (rounds.UInts x y) = UINT

-- each value with its type
abbrev pub rounds_in : Rounds → List (Base × Val)
rounds_in r = with_base (base_in r) (values_of r)
