-- Routes: a destination of a line, with the fields of its values and the defaults of its ends.
use Rattle.std.specs.Prelude.{ℕ, List, [], map, Option}
use Rattle.gq_graph.specs.Catalog.{Schema}
use Rattle.gq_value.specs.declared.value.Value.{Value}
use Rattle.gq_load_check.specs.declared.job.Target.{Target}
use Rattle.gq_load_check.specs.declared.job.Target.TheVariants as target
use Rattle.gq_load_check.specs.declared.job.LoadInto.{LoadInto}
use Rattle.gq_load_check.specs.Targets.{vertex_type_at, edge_type_at}
use Rattle.gq_load_csv.specs.Fields.{default_of}
use Rattle.gq_load.specs.declared.route.Route.{Route}
use Rattle.gq_load.specs.Columns.{Fields, field_of}

-- the default attributes of a vertex
abbrev pub defaults_of : Schema → ℕ → List Value
defaults_of schema kind = map default_of (vertex_type_at schema kind).attributes

-- those of an edge's FROM vertex, and of its TO vertex
abbrev pub from_defaults : Schema → Target → List Value
from_defaults schema (target.Vertex n) = []
from_defaults schema (target.Edge n) = defaults_of schema (edge_type_at schema n).from

abbrev pub to_defaults : Schema → Target → List Value
to_defaults schema (target.Vertex n) = []
to_defaults schema (target.Edge n) = defaults_of schema (edge_type_at schema n).to

-- a destination's route
abbrev pub route_of : Schema → Option Fields → LoadInto → Route
route_of schema header into = record {
  target = into.target;
  fields = map (field_of header) into.columns;
  from = from_defaults schema into.target;
  to = to_defaults schema into.target;
}
