-- Safety: the properties that a checked query may rely on, in its catalog and in each that grows out of it.
use Rattle.std.specs.Prelude.{◌≡◌, ℕ, List, Option, Ok}
use Rattle.gq_value.specs.Val.{Val}
use Rattle.gq_graph.specs.Catalog.{Schema}
use Rattle.gq_graph.specs.declared.types.GraphType.{GraphType}
use Rattle.gq_graph.specs.declared.rows.VertexRow.{VertexRow}
use Rattle.gq_graph.specs.declared.rows.EdgeRow.{EdgeRow}
use Rattle.gq_load_check.specs.Fits.{HasGrown}
use Rattle.gq_rules_typing.specs.Statements.{Bytes, Query}
use Rattle.gq_rules_typing.specs.Sorts.{Fields, sorts_of}
use Rattle.gq_rules_typing.specs.Scopes.{Scope}
use Rattle.gq_rules_typing.specs.QueryTypes.{typing_query}
use Rattle.gq_rules_meaning.specs.Calendars.{Calendar}
use Rattle.gq_rules_meaning.specs.Graphs.{graph_of}
use Rattle.gq_rules_meaning.specs.Outs.{Out}
use Rattle.gq_rules_meaning.specs.Queries.{with_tuples, world_of, run_query}
use Rattle.gq_rules_meaning.specs.Fitting.{Safe, WorldFits}
use Rattle.gq_rules_safety.specs.Laws.{ArgumentsFit}
use Rattle.gq_rules_safety.specs.Growing.{SeesTypes}

-- the data that a query for a graph reads are of the catalog's types, whatever tuple types the query declares
abbrev pub IsStoreOf : Schema → Option GraphType → List VertexRow → List EdgeRow → Calendar → Type 0
IsStoreOf schema own vertices edges clock = (tuples : List (Bytes × Fields)) → WorldFits (with_tuples tuples (world_of (graph_of schema own vertices edges) clock))

-- in each store of the catalog, and over arguments of its parameters' types, the query prints something or ends with a fault
abbrev pub NeverStuck : Schema → Option GraphType → Query Bytes → Type 0
NeverStuck schema own q = (vertices : List VertexRow) (edges : List EdgeRow) (clock : Calendar) → IsStoreOf schema own vertices edges clock
    → (arguments : List Val) → ArgumentsFit (world_of (graph_of schema own vertices edges) clock) q.parameters arguments
    → (turns : ℕ) → Safe (λ (printed : List (List (Bytes × Out))). Unit {0}) (run_query (graph_of schema own vertices edges) clock q arguments turns)

-- this holds in the current catalog, and in each that grows out of it, if its graph's types are types of the current
-- catalog
pub record StaysSafe (schema : Schema) (own : Option GraphType) (q : Query Bytes) : Type 0 where
  pub today : NeverStuck schema own q
  pub later : SeesTypes schema own → (after : Schema) → HasGrown schema after → NeverStuck after own q

-- a query that is typed stays safe
abbrev pub SafetyLaw : Type 0
SafetyLaw = (schema : Schema) (own : Option GraphType) (q : Query Bytes) (t : Scope Bytes) → typing_query (sorts_of schema own) q ≡ Ok t → StaysSafe schema own q

-- and it is preserved: what holds of a query in a catalog holds in each that grows out of it
abbrev pub GoesOnLaw : Type 0
GoesOnLaw = (before after : Schema) (own : Option GraphType) (q : Query Bytes) → HasGrown before after → SeesTypes before own → StaysSafe before own q → SeesTypes after own × StaysSafe after own q
