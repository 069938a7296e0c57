-- Ends: the ends of a block's candidates, as the definitions have them.
use Rattle.std.specs.Prelude.{◌≡◌, ℕ, Bool, true, false, List, [], Option, Some, None}
use Rattle.std.specs.Option.{option_map}
use Rattle.gq_graph.specs.Catalog.{Schema}
use Rattle.gq_graph.specs.declared.rows.VertexRow.{VertexRow}
use Rattle.gq_graph.specs.declared.rows.EdgeRow.{EdgeRow}
use Rattle.gq_rules_typing.specs.Statements.{Bytes}
use Rattle.gq_rules_typing.specs.Sorts.{Fields}
use Rattle.gq_rules_typing.specs.Words.{under}
use Rattle.gq_rules_meaning.specs.Calendars.{Calendar}
use Rattle.gq_rules_meaning.specs.Graphs.{graph_of}
use Rattle.gq_rules_meaning.specs.Sources.{From, from}
use Rattle.gq_rules_meaning.specs.States as states
use Rattle.gq_plan_ir.specs.declared.block.Block.{Block}
use Rattle.gq_plan_ir.specs.declared.plan.Plan.{Plan}
use Rattle.gq_plan_ir.specs.Belonging.{world_of}
use Rattle.gq_plan_ir.specs.BlockView.{view_block}
use Rattle.gq_plan_ir.specs.Reference.{Reference, Place}
use Rattle.gq_plan_ir.specs.References.{same}
use Rattle.gq_frame.specs.declared.frame.Thing.{Thing}
use Rattle.gq_frame.specs.Names.{Placed, AVertex, thing_for}
use Rattle.gq_exec_source.specs.declared.ends.End.{End}
use Rattle.gq_exec_source.specs.declared.ends.Ends.{Ends}

-- a vertex under the alias of an end, if it has one
abbrev pub end_things : End → ℕ → Option (ℕ × Placed)
end_things e v = option_map (λ place. (place, AVertex e.types v)) e.alias

abbrev pub end_at : Ends → Bool → End
end_at e true = e.target
end_at e false = e.source

-- an end as the source, and a target without an alias
abbrev pub as_source : End → Ends
as_source e = record { source = e; target = record { alias = None; types = [] } }

-- these are the ends in the definitions
pub record AreEnds (e : Ends) (f : From Reference) : Type 0 where
  pub source : option_map Place e.source.alias ≡ f.source
  pub source_types : e.source.types ≡ f.source_types
  pub target : option_map Place e.target.alias ≡ f.target
  pub target_types : e.target.types ≡ f.target_types

-- for all rows of the graph, and all names that show the contents of the places
pub record HasEnds (schema : Schema) (p : Plan) (things : List (Option Thing)) (block : Block) (e : Ends) : Type 0 where
  pub each : (accums : List Bytes) (tuples : List (Reference × Fields)) (vertices : List VertexRow) (edges : List EdgeRow) (clock : Calendar) (names : List (Reference × states.Thing))
      → ((x : Reference) → under same x names ≡ thing_for things x)
      → AreEnds e (from (world_of accums tuples (graph_of schema (Some (record { name = []; vertices = p.vertices; edges = p.edges })) vertices edges) clock) names (view_block block))
