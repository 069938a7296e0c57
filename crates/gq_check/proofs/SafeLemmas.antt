-- SafeLemmas: a query that the rules accept is never stuck.
use Rattle.std.proofs.Common.{◌≡◌, Option, Result, Ok, Err}
use Rattle.gq_graph.specs.Catalog.{Schema}
use Rattle.gq_graph.specs.declared.types.GraphType.{GraphType}
use Rattle.gq_rules_typing.specs.Statements.{Bytes, Query}
use Rattle.gq_rules_typing.specs.Sorts.{sorts_of}
use Rattle.gq_rules_typing.specs.QueryTypes.{typing_query}
use Rattle.gq_check_from.specs.declared.fault.CheckFault.{CheckFault}
use Rattle.gq_rules_safety.proofs.SafetyLaws.{safety_law}
use Rattle.gq_check.specs.Checks.{Checks, ChecksQuery}

pub checked_safely : (schema : Schema) (own : Option GraphType) (q : Query Bytes) (r : Result (Unit {0}) CheckFault) → Checks (typing_query (sorts_of schema own) q) r → ChecksQuery schema own q r
checked_safely schema own q (Ok done) h = (h.0, h.1, safety_law schema own q h.0 h.1)
checked_safely schema own q (Err e) h = h
