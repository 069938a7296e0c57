use Rattle.std.proofs.Common.{ap, ◌∙◌}
use Rattle.gq_graph.specs.Candidates.{among}
use Rattle.gq_index.proofs.OrderLemmas.{pushed_distinct}
use Rattle.gq_index.proofs.vertex_list.VertexList.push.Goals as goal

pub invariant_of-self : goal.invariant_of-self
invariant_of-self c =
    pushed_distinct c.self.inside.vertices c.push.new.self c.args.vertex c.push.result c.self.invariant
    (ap (λ l. among l c.args.vertex) c.self.view_is ∙ c.requires.new) c.push.ensures.ok c.push.ensures.err
