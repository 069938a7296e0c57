-- Reads: an INT that is read directly is the one meant, in each world over a catalog and a store.
use Rattle.std.specs.Prelude.{◌≡◌, ℕ, ℤ, List, Option, IfSome}
use Rattle.gq_value.specs.declared.value.Wrong.{Wrong}
use Rattle.gq_value.specs.Val.{Val, Int}
use Rattle.gq_index.specs.declared.store.Graph as code
use Rattle.gq_rules_typing.specs.Statements.{Bytes}
use Rattle.gq_rules_typing.specs.Sorts.{Fields}
use Rattle.gq_rules_meaning.specs.Answers.{Answer, Gives, ◌>>=◌}
use Rattle.gq_rules_meaning.specs.Calendars.{Calendar}
use Rattle.gq_rules_meaning.specs.Meanings.{Outcome, value_of_meant}
use Rattle.gq_rules_meaning.specs.Expressions.{World}
use Rattle.gq_plan_ir.specs.Belonging.{world_of}
use Rattle.gq_plan_ir.specs.Reference.{Reference}
use Rattle.gq_eval_attributes.specs.Worlds.{graph_is}

-- the value that comes of a meaning
abbrev pub value_meant : Outcome → Answer Wrong Val
value_meant o = o >>= value_of_meant

-- if it answers, that is the INT that is meant in each world over a catalog and a store
pub record IsReadInt (g : code.Graph) (meaning : World Reference → Outcome) (result : Option ℤ) : Type 0 where
  pub each : (vertices edges : List ℕ) (names : List Bytes) (tuples : List (Reference × Fields)) (clock : Calendar) → IfSome result (λ x. (meaning (world_of names tuples (graph_is g vertices edges) clock) >>= value_of_meant) ≡ Gives (Int x))
