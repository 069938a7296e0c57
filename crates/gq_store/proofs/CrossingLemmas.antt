-- CrossingLemmas: threads can share a catalog, and can be sent a reader. An enum or a struct that is a field of another one has a lemma
-- for that (`the_field`).
use denote.RattleType.{RattleType}
use denote.Param.Send.{IsSend, IsSync, sendable}
use Rattle.std.proofs.Crossing.{crosses, send, sync}
use Rattle.std.proofs.MapsCrossing as maps
use Rattle.gq_base.proofs.list.List.TheSendSync as list_crosses
use Rattle.gq_value.specs.contracts.kind.BaseType as base
use Rattle.gq_value.proofs.kind.BaseType.TheLaws.TheKnot as base_knot
use Rattle.gq_value.proofs.CrossingLemmas.{txt_send, txt_sync, value_send, value_sync, base_sync}
use Rattle.gq_graph.specs.contracts.types.IdShape as id
use Rattle.gq_graph.specs.contracts.types.Attribute as attribute
use Rattle.gq_graph.specs.contracts.types.VertexType as vertex_type
use Rattle.gq_graph.specs.contracts.types.EdgeType as edge_type
use Rattle.gq_graph.specs.contracts.types.GraphType as graph_type
use Rattle.gq_graph.specs.contracts.row_values.Span as span
use Rattle.gq_graph.specs.contracts.row_list.Rows as rows
use Rattle.gq_schema.specs.contracts.names.NameTable as name_table
use Rattle.gq_schema.specs.contracts.catalog.Catalog as catalog
use Rattle.gq_vertex.specs.contracts.heads.VertexHead as head
use Rattle.gq_vertex.specs.contracts.vertices.Vertices as vertices
use Rattle.gq_edge.specs.contracts.rows.EdgeEnds as ends
use Rattle.gq_edge.specs.contracts.rows.EdgeRows as edge_rows
use Rattle.gq_edge.specs.contracts.edges.Edges as edges
use Rattle.gq_index.specs.contracts.store.Store as store
use Rattle.gq_index.specs.contracts.index.Index as index
use Rattle.gq_index.specs.contracts.kept.KeptIndex as kept
use Rattle.logbook.proofs.tokens.Seen.TheSendSync as seen_crosses
use Rattle.left_right.proofs.reader.Reader.TheSendSync as side_crosses
use Rattle.gq_store.specs.declared.book.StoreName as store_name
use Rattle.gq_store.specs.contracts.book.News as news
use Rattle.gq_store.specs.contracts.store_copy.StoreCopy as copy
use Rattle.gq_store.specs.contracts.reader.SharedReader as reader

-- ---- catalogs

id_field_send : IsSend (id.the_field).row
id_field_send = search (txt_send, sendable) depth 30 fits 50000

id_field_sync : IsSync (id.the_field).row
id_field_sync = search (txt_sync, sendable) depth 30 fits 50000

base_field_send : IsSend (base.the_field).row
base_field_send = search (list_crosses.the_send, crosses, base_knot.crosses, sendable) depth 30 fits 50000

base_field_sync : IsSync (base.the_field).row
base_field_sync = search (list_crosses.the_sync, crosses, base_knot.crosses, sendable) depth 30 fits 50000

attribute_send : IsSend attribute.the_row
attribute_send = search (base_field_send, value_send, txt_send, crosses, sendable) depth 30 fits 50000

attribute_sync : IsSync attribute.the_row
attribute_sync = search (base_field_sync, value_sync, txt_sync, crosses, sendable) depth 30 fits 50000

vertex_type_send : IsSend vertex_type.the_row
vertex_type_send = search (id_field_send, attribute_send, txt_send, list_crosses.the_send, crosses, sendable) depth 30 fits 50000

vertex_type_sync : IsSync vertex_type.the_row
vertex_type_sync = search (id_field_sync, attribute_sync, txt_sync, list_crosses.the_sync, crosses, sendable) depth 30 fits 50000

edge_type_send : IsSend edge_type.the_row
edge_type_send = search (attribute_send, txt_send, list_crosses.the_send, crosses, sendable) depth 30 fits 50000

edge_type_sync : IsSync edge_type.the_row
edge_type_sync = search (attribute_sync, txt_sync, list_crosses.the_sync, crosses, sendable) depth 30 fits 50000

graph_type_send : IsSend graph_type.the_row
graph_type_send = search (txt_send, list_crosses.the_send, crosses, sendable) depth 30 fits 50000

graph_type_sync : IsSync graph_type.the_row
graph_type_sync = search (txt_sync, list_crosses.the_sync, crosses, sendable) depth 30 fits 50000

names_send : IsSend (name_table.the_field).row
names_send = search (txt_send, maps.crosses, crosses, sendable) depth 30 fits 50000

names_sync : IsSync (name_table.the_field).row
names_sync = search (txt_sync, maps.crosses, crosses, sendable) depth 30 fits 50000

catalog_send : IsSend catalog.the_row
catalog_send = search (names_send, vertex_type_send, edge_type_send, graph_type_send, crosses, sendable) depth 30 fits 50000

pub catalog_sync : IsSync catalog.the_row
catalog_sync = search (names_sync, vertex_type_sync, edge_type_sync, graph_type_sync, crosses, sendable) depth 30 fits 50000

-- ---- stores

span_sync : IsSync span.the_row
span_sync = search (sendable) depth 30 fits 50000

rows_field : IsSync (rows.the_field).row
rows_field = search (span_sync, value_sync, crosses, sendable) depth 30 fits 50000

head_sync : IsSync head.the_row
head_sync = search (txt_sync, sendable) depth 30 fits 50000

vertices_field : IsSync (vertices.the_field).row
vertices_field = search (head_sync, rows_field, maps.crosses, crosses, sendable) depth 30 fits 50000

ends_sync : IsSync ends.the_row
ends_sync = search (sendable) depth 30 fits 50000

edge_rows_field : IsSync (edge_rows.the_field).row
edge_rows_field = search (ends_sync, rows_field, crosses, sendable) depth 30 fits 50000

edges_field : IsSync (edges.the_field).row
edges_field = search (edge_rows_field, value_sync, maps.crosses, crosses, sendable) depth 30 fits 50000

store_field : IsSync (store.the_field).row
store_field = search (vertices_field, edges_field, crosses, sendable) depth 30 fits 50000

index_field : IsSync (index.the_field).row
index_field = search (maps.crosses, crosses, sendable) depth 30 fits 50000

kept_field : IsSync (kept.the_field).row
kept_field = search (index_field, sendable) depth 30 fits 50000

-- ---- news, copies and readers

module _ (N : RattleType) (g : store_name.Ghosts N.Denot) where
  pub news_send : IsSend (news.the_row N g)
  news_send = search (seen_crosses.the_send, sendable) depth 30 fits 50000

  news_field_send : IsSend (news.the_field N g).row
  news_field_send = search (seen_crosses.the_send, sendable) depth 30 fits 50000

  news_field : IsSync (news.the_field N g).row
  news_field = search (seen_crosses.the_sync, sendable) depth 30 fits 50000

  copy_sync : IsSync (copy.the_row N g)
  copy_sync = search (catalog_send, catalog_sync, store_field, kept_field, news_field, crosses, sendable) depth 30 fits 50000

  pub reader_send : IsSend (reader.the_row N g)
  reader_send = search (copy_sync, news_field_send, side_crosses.the_field_send, crosses, send, sync, sendable) depth 40 fits 50000
