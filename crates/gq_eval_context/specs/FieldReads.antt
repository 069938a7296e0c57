-- FieldReads: the value of a field of a plan, from a catalog, a store and the query's tuple types.
use Rattle.std.specs.Prelude.{ℕ, List, Option, Some, None, slice_get, Result}
use Rattle.gq_value.specs.Val.{Val}
use Rattle.gq_value.specs.Accums.{Base, TUPLE}
use Rattle.gq_index.specs.declared.store.Graph as code
use Rattle.gq_rules_typing.specs.Statements.{Bytes}
use Rattle.gq_rules_typing.specs.Sorts.{bases_of, names_of}
use Rattle.gq_rules_typing.specs.Words.{OfTupleType}
use Rattle.gq_rules_meaning.specs.Answers.{Stuck}
use Rattle.gq_rules_meaning.specs.Calendars.{Calendar}
use Rattle.gq_rules_meaning.specs.Meanings.{Outcome}
use Rattle.gq_rules_meaning.specs.Expressions.{World}
use Rattle.gq_rules_meaning.specs.States.{value_at}
use Rattle.gq_plan_ir.specs.Belonging.{world_of}
use Rattle.gq_plan_ir.specs.Reference.{Reference}
use Rattle.gq_plan_ir.specs.References.{field}
use Rattle.gq_eval_operand.specs.declared.seen.Seen.{Seen}
use Rattle.gq_eval_operand.specs.declared.halt.Halt.{Halt}
use Rattle.gq_eval_operand.specs.Meant.{meant, Tells}
use Rattle.gq_eval_attributes.specs.declared.tuple_type.TupleType.{TupleType}
use Rattle.gq_eval_attributes.specs.Tuples.{fields_in, tuples_are}
use Rattle.gq_eval_attributes.specs.Worlds.{graph_is}

-- the answer is the one meant in each world over a catalog and a store, with these tuple types
pub record Reads (g : code.Graph) (tuples : List TupleType) (meaning : World Reference → Outcome) (result : Result Seen Halt) : Type 0 where
  pub each : (vertices edges : List ℕ) (names : List Bytes) (clock : Calendar) → Tells meant (meaning (world_of names (tuples_are tuples) (graph_is g vertices edges) clock)) result

abbrev pub of_tuple_type : Option TupleType → ℕ → List Val → Reference → Outcome
of_tuple_type None n row f = Stuck
of_tuple_type (Some t) n row f = value_at (bases_of (fields_in t)) row (field (OfTupleType n) (names_of (fields_in t)) f)

-- the field of a tuple, if it has a tuple type
abbrev pub tuple_read : List TupleType → Base → List Val → Reference → Outcome
tuple_read tuples (TUPLE n bs) row f = of_tuple_type (slice_get tuples n) n row f
tuple_read tuples b row f = Stuck
