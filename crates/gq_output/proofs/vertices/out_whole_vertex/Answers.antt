use Rattle.std.proofs.Common.{ap}
use Rattle.gq_graph.specs.Vertices.{vertex_at}
use Rattle.gq_rules_calendar.specs.Gregorian.{gregorian}
use Rattle.gq_frame.specs.Slots.{slots_are}
use Rattle.gq_output.proofs.VertexLemmas.{whole_told}
use Rattle.gq_output.proofs.vertices.out_whole_vertex.Goals as goal

pub returns-in_ok-put_attached-in-Some : goal.returns-in_ok-put_attached-in-Some
returns-in_ok-put_attached-in-Some c =
    whole_told gregorian c.args.over.now c.args.vertex c.in-Some.of.now c.in-Some.ensures (slots_are c.args.over.now.frame.accums) c.in_ok-members-in-Some.members c.put_attached.new.members (vertex_at c.vertices_of.result.now c.args.vertex) c.out_vertex.result
    (ap (λ vs. vertex_at vs c.args.vertex) c.vertices_of.ensures) c.in_ok-members-in-Some.ensures c.in_ok-put_attached-in-Some.ensures c.out_vertex.ensures
