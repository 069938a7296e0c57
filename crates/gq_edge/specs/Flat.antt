-- Flat: an edge with borrowed attributes, as a row.
use Rattle.gq_graph.specs.declared.rows.EdgeRow.{EdgeRow}
use Rattle.gq_edge.specs.declared.rows.EdgeRef.{EdgeRef}

-- the row with those attributes
abbrev pub edge_of : EdgeRef → EdgeRow
edge_of edge = record { kind = edge.kind; from = edge.from; to = edge.to; attributes = edge.attributes.now }
