use Rattle.std.proofs.Common.{◌∙◌, ap, arith}
use Rattle.gq_graph.specs.declared.rows.EdgeRow.{EdgeRow}
use Rattle.gq_edge.proofs.JoinLemmas.{view_long, view_at}
use Rattle.gq_edge.proofs.rows.EdgeRows.attributes.Goals as goal

pub at-requires : goal.at-requires
at-requires c =
    omega (arith, c.requires, c.self.invariant, view_long c.self.inside.ends.items c.self.inside.attributes c.args.self.now c.self.view_is c.self.invariant)

pub returns : goal.returns
returns c =
    c.at.ensures ∙ ap (λ (e : EdgeRow). e.attributes)
    (view_at c.self.inside.ends.items c.self.inside.attributes c.args.self.now c.args.number c.self.view_is c.self.invariant c.requires)
