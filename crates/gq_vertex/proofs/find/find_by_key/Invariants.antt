use Rattle.gq_base.proofs.Seeks.{Seeks, steps_left}
use Rattle.gq_graph.specs.Vertices.{is_vertex, no_vertex}
use Rattle.gq_vertex.specs.Keyed as spec
use Rattle.gq_vertex.proofs.find.find_by_key.Given as goal

abbrev pub invariant-loop-next : goal.invariant-loop-next
invariant-loop-next l = Seeks (is_vertex l.kind l.id) no_vertex l.rows l.keys (spec.vertex_key l.kind l.id) l.next

abbrev pub decreases-loop-next : goal.decreases-loop-next
decreases-loop-next l = steps_left l.next
