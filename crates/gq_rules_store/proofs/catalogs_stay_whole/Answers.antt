use Rattle.gq_rules_store.proofs.CatalogFits.{vertex_type_law, edge_type_law, graph_type_law}
use Rattle.gq_rules_store.proofs.catalogs_stay_whole.Goals as goal

pub returns-clause-by_vertex_type : goal.returns-clause-by_vertex_type
returns-clause-by_vertex_type c = vertex_type_law

pub returns-clause-by_edge_type : goal.returns-clause-by_edge_type
returns-clause-by_edge_type c = edge_type_law

pub returns-clause-by_graph : goal.returns-clause-by_graph
returns-clause-by_graph c = graph_type_law
