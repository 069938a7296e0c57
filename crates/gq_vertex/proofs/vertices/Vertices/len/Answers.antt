use Rattle.std.proofs.Common.{◌∙◌, arith}
use Rattle.gq_vertex.proofs.JoinLemmas.{view_long}
use Rattle.gq_vertex.proofs.vertices.Vertices.len.Goals as goal

pub returns-clause-count : goal.returns-clause-count
returns-clause-count c = c.len.ensures ∙ c.self.inside.heads.ok.0 ∙ view_long c.self.inside.heads.items c.self.inside.attributes c.args.self.now c.self.view_is c.self.invariant.long

pub returns-clause-few : goal.returns-clause-few
returns-clause-few c = omega (arith, c.self.invariant.named.few, view_long c.self.inside.heads.items c.self.inside.attributes c.args.self.now c.self.view_is c.self.invariant.long)
