-- Aliases: the bindings of a candidate's aliases, innermost first.
use Rattle.std.specs.Prelude.{ℕ, List, ◌++◌, Option, Some, None}
use Rattle.std.specs.Option.{option_to_list}
use Rattle.gq_graph.specs.declared.rows.Candidate.{Candidate}
use Rattle.gq_frame.specs.Names.{Placed, AnEdge}
use Rattle.gq_exec_source.specs.declared.ends.End.{End}
use Rattle.gq_exec_source.specs.declared.ends.Ends.{Ends}
use Rattle.gq_exec_source.specs.Ends.{end_things}

abbrev pub target_bound : End → Option ℕ → Option (ℕ × Placed)
target_bound end None = None
target_bound end (Some v) = end_things end v

abbrev pub edge_bound : Option ℕ → Option ℕ → Option ℕ → Option (ℕ × Placed)
edge_bound (Some place) (Some r) (Some t) = Some (place, AnEdge r t)
edge_bound _ _ _ = None

-- the target, the edge and the source
abbrev pub bound_to : Ends → Option ℕ → Candidate → List (ℕ × Placed)
bound_to ends edge c = option_to_list (target_bound ends.target c.target) ++ (option_to_list (edge_bound edge c.edge c.kind) ++ option_to_list (end_things ends.source c.source))
