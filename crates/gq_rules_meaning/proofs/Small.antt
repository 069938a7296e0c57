-- Small: small graphs from their types and rows, for examples.
use Rattle.std.proofs.Common.{ℕ, List, [], map, None}
use Rattle.gq_graph.specs.declared.types.EdgeType.{EdgeType}
use Rattle.gq_graph.specs.declared.rows.EdgeRow.{EdgeRow}
use Rattle.gq_value.specs.Val.{Val}
use Rattle.gq_rules_typing.specs.Statements.{Bytes}
use Rattle.gq_rules_typing.specs.Sorts.{EdgeSort, Sorts}
use Rattle.gq_rules_meaning.specs.Graphs.{Graph}

abbrev pub type_of : EdgeSort → EdgeType
type_of s = record { name = s.name; directed = s.directed; from = s.from; to = s.to; forward = s.forward; reverse = None; discriminators = 0; attributes = [] }

abbrev pub row_of : ℕ × ℕ × ℕ × List Val → EdgeRow
row_of e = record { kind = e.0; from = e.1; to = e.2; attributes = [] }

-- vertices with type, id and attributes; edges with type, both ends and attributes
abbrev pub graph_with : Sorts → List (ℕ × Bytes × List Val) → List (ℕ × ℕ × ℕ × List Val) → Graph
graph_with sorts vertices edges = record {
  sorts = sorts;
  sight = record { kinds = map (λ v. v.0) vertices; types = map type_of sorts.edges; edges = map row_of edges };
  ids = map (λ v. v.1) vertices;
  vertex_values = map (λ v. v.2) vertices;
  edge_values = map (λ e. e.3) edges;
}
