-- Checks: when a result is that of the rules on a whole query.
use Rattle.std.specs.Prelude.{◌≡◌, ◌≢◌, Option, Result, Ok, Err}
use Rattle.gq_graph.specs.Catalog.{Schema}
use Rattle.gq_graph.specs.declared.types.GraphType.{GraphType}
use Rattle.gq_rules_typing.specs.Statements.{Bytes, Query}
use Rattle.gq_rules_typing.specs.Sorts.{sorts_of}
use Rattle.gq_rules_typing.specs.Judging as judging
use Rattle.gq_rules_typing.specs.Scopes.{Scope}
use Rattle.gq_rules_typing.specs.QueryTypes.{typing_query}
use Rattle.gq_check_from.specs.declared.fault.CheckFault.{CheckFault}
use Rattle.gq_check_from.specs.declared.fault.CheckFault.TheVariants as fault
use Rattle.gq_check_from.specs.Faults.{fault_of}
use Rattle.gq_rules_safety.specs.Safety.{StaysSafe}

-- the rules accept, or give the fault, except for OutOfMemory
abbrev pub Checks : {A : Type 0} → judging.Judged A → Result (Unit {0}) CheckFault → Type 0
Checks {A = A} j (Ok done) = (a : A) × (j ≡ Ok a)
Checks j (Err e) = e ≢ fault.OutOfMemory → j ≡ Err (fault_of e)

-- the rules accept a query for a graph, and it is never stuck, even after the catalog has grown; or they give the
-- fault, except for OutOfMemory
abbrev pub ChecksQuery : Schema → Option GraphType → Query Bytes → Result (Unit {0}) CheckFault → Type 0
ChecksQuery schema own q (Ok done) = (t : Scope Bytes) × (typing_query (sorts_of schema own) q ≡ Ok t) × StaysSafe schema own q
ChecksQuery schema own q (Err e) = e ≢ fault.OutOfMemory → typing_query (sorts_of schema own) q ≡ Err (fault_of e)
