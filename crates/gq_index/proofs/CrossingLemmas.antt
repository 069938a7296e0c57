-- CrossingLemmas: threads may share a store, an index and the types of a catalog. An enum or a struct that is a field of
-- another one has a lemma for that (`the_field`).
use denote.Param.Send.{IsSync, sendable}
use Rattle.std.proofs.Crossing.{crosses}
use Rattle.std.proofs.MapsCrossing as maps
use Rattle.gq_base.proofs.list.List.TheSendSync as list_crosses
use Rattle.gq_value.specs.contracts.kind.BaseType as base
use Rattle.gq_value.proofs.kind.BaseType.TheLaws.TheKnot as base_knot
use Rattle.gq_value.proofs.CrossingLemmas.{txt_sync, value_sync}
use Rattle.gq_graph.specs.contracts.types.IdShape as id
use Rattle.gq_graph.specs.contracts.types.Attribute as attribute
use Rattle.gq_graph.specs.contracts.types.VertexType as vertex_type
use Rattle.gq_graph.specs.contracts.types.EdgeType as edge_type
use Rattle.gq_graph.specs.contracts.row_values.Span as span
use Rattle.gq_graph.specs.contracts.row_list.Rows as rows
use Rattle.gq_vertex.specs.contracts.heads.VertexHead as head
use Rattle.gq_vertex.specs.contracts.vertices.Vertices as vertices
use Rattle.gq_edge.specs.contracts.rows.EdgeEnds as ends_of_edge
use Rattle.gq_edge.specs.contracts.rows.EdgeRows as edge_rows
use Rattle.gq_edge.specs.contracts.edges.Edges as edges
use Rattle.gq_index.specs.contracts.store.Store as store
use Rattle.gq_index.specs.contracts.index.Index as index

base_field : IsSync (base.the_field).row
base_field = search (list_crosses.the_sync, crosses, base_knot.crosses, sendable) depth 30 fits 50000

pub span_sync : IsSync span.the_row
span_sync = search (sendable) depth 30 fits 50000

pub rows_field : IsSync (rows.the_field).row
rows_field = search (span_sync, value_sync, list_crosses.the_sync, crosses, sendable) depth 30 fits 50000

pub head_sync : IsSync head.the_row
head_sync = search (txt_sync, sendable) depth 30 fits 50000

pub vertices_field : IsSync (vertices.the_field).row
vertices_field = search (head_sync, rows_field, txt_sync, list_crosses.the_sync, maps.crosses, crosses, sendable) depth 30 fits 50000

pub edge_ends_sync : IsSync ends_of_edge.the_row
edge_ends_sync = search (sendable) depth 30 fits 50000

pub edge_rows_field : IsSync (edge_rows.the_field).row
edge_rows_field = search (edge_ends_sync, rows_field, list_crosses.the_sync, crosses, sendable) depth 30 fits 50000

pub edges_field : IsSync (edges.the_field).row
edges_field = search (edge_rows_field, value_sync, list_crosses.the_sync, maps.crosses, crosses, sendable) depth 30 fits 50000

pub store_sync : IsSync store.the_row
store_sync = search (vertices_field, edges_field, crosses, sendable) depth 30 fits 50000

pub index_sync : IsSync index.the_row
index_sync = search (list_crosses.the_sync, maps.crosses, crosses, sendable) depth 30 fits 50000

pub id_field : IsSync (id.the_field).row
id_field = search (txt_sync, sendable) depth 30 fits 50000

pub attribute_sync : IsSync attribute.the_row
attribute_sync = search (base_field, value_sync, txt_sync, list_crosses.the_sync, crosses, sendable) depth 30 fits 50000

pub vertex_type_sync : IsSync vertex_type.the_row
vertex_type_sync = search (id_field, attribute_sync, txt_sync, list_crosses.the_sync, crosses, sendable) depth 30 fits 50000

pub edge_type_sync : IsSync edge_type.the_row
edge_type_sync = search (attribute_sync, txt_sync, list_crosses.the_sync, crosses, sendable) depth 30 fits 50000
