use Rattle.gq_base.proofs.Seeks.{Seeks, steps_left}
use Rattle.gq_graph.specs.Edges.{is_edge, no_edge}
use Rattle.gq_edge.specs.Flat.{edge_of}
use Rattle.gq_edge.specs.Keyed.{edge_key}
use Rattle.gq_edge.proofs.find.find_by_key.Given as goal

abbrev pub invariant-loop-next : goal.invariant-loop-next
invariant-loop-next l = Seeks (is_edge l.naming (edge_of l.edge)) no_edge l.rows l.index (edge_key l.naming (edge_of l.edge)) l.next

abbrev pub decreases-loop-next : goal.decreases-loop-next
decreases-loop-next l = steps_left l.next
