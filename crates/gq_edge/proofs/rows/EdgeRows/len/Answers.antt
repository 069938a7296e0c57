use Rattle.std.proofs.Common.{◌∙◌}
use Rattle.gq_edge.proofs.JoinLemmas.{view_long}
use Rattle.gq_edge.proofs.rows.EdgeRows.len.Goals as goal

pub returns : goal.returns
returns c = c.len.ensures ∙ c.self.inside.ends.ok.0 ∙ view_long c.self.inside.ends.items c.self.inside.attributes c.args.self.now c.self.view_is c.self.invariant
