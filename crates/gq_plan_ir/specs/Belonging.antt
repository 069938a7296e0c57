-- Belonging: what an expression of a plan sees of a graph, and how kinds that a plan has are judged.
use Rattle.std.specs.Prelude.{ℕ, Bool, List, Ok}
use Rattle.gq_value.specs.Accums.{Accum}
use Rattle.gq_rules_meaning.specs.TypingStatements.{Bytes}
use Rattle.gq_rules_meaning.specs.Sorts.{Fields}
use Rattle.gq_rules_meaning.specs.Words.{Setting}
use Rattle.gq_rules_meaning.specs.Judging.{BadKind, Judged, ◌>>◌, unless}
use Rattle.gq_rules_meaning.specs.Scopes.{Scope}
use Rattle.gq_rules_meaning.specs.Calendars.{Calendar}
use Rattle.gq_rules_meaning.specs.Graphs.{Graph}
use Rattle.gq_rules_meaning.specs.Expressions.{World}
use Rattle.gq_plan_ir.specs.Reference.{Reference}
use Rattle.gq_plan_ir.specs.References.{by_reference}
use Rattle.gq_plan_ir.specs.PlanKinds.{is_kind}

-- a plan has its kinds already; each is judged as the one that a query declares
abbrev pub kind_judged : Scope Reference → Bytes → Accum → Judged Accum
kind_judged s name kind = unless (BadKind name) (is_kind s.setting 8 kind) >> Ok kind

-- what an expression of a plan sees of a graph, with the names of the accumulators and the query's tuple types
abbrev pub world_of : List Bytes → List (Reference × Fields) → Graph → Calendar → World Reference
world_of names tuples g clock = record { words = by_reference g.sorts names; tuples = tuples; graph = g; calendar = clock }
