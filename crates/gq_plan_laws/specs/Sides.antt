-- Sides: a run over a graph, by names and by references, with a query's tuple types and the slots of its accumulators.
use Rattle.std.specs.Prelude.{ℕ, suc, List, [], ◌∷◌}
use Rattle.gq_scope.specs.Named.{Named}
use Rattle.gq_rules_typing.specs.Statements.{Bytes}
use Rattle.gq_rules_typing.specs.Sorts.{Fields}
use Rattle.gq_rules_meaning.specs.Calendars.{Calendar}
use Rattle.gq_rules_meaning.specs.Graphs.{Graph}
use Rattle.gq_plan_ir.specs.Reference.{Reference, TupleType}
use Rattle.gq_plan_ir.specs.Alike.{Sides}
use Rattle.gq_plan_expr.specs.Found.{TupleTypes, plain_fields, plain_tuples, globals_of}
use Rattle.gq_plan_stmt.specs.References.{fixed_in}

-- tuple types by their numbers; the first one of these has the number n
abbrev pub numbered : ℕ → TupleTypes → List (Reference × Fields)
numbered n [] = []
numbered n (t ∷ ts) = (TupleType n, plain_fields t.1) ∷ numbered (suc n) ts

abbrev pub sides_of : Graph → Calendar → TupleTypes → List Bytes → Named → Sides Bytes Reference
sides_of g clock ts accums slots = record { fixed = fixed_in g.sorts accums (globals_of g.sorts ts slots); graph = g; calendar = clock; named_tuples = plain_tuples ts; tuples = numbered 0 ts }
