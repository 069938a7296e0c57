use Rattle.std.proofs.Common.{◌∙◌, ◌++◌, ◌∷◌, [], ap}
use Rattle.gq_graph.specs.Edges.{edge_with}
use Rattle.gq_edge.proofs.JoinLemmas.{pushed_is}
use Rattle.gq_edge.proofs.rows.EdgeRows.push.Goals as goal

pub returns-clause-ok : goal.returns-clause-ok
returns-clause-ok c =
    pushed_is c.self.inside.ends.items c.put.new.all.items c.self.inside.attributes c.push.new.self c.args.self.now (edge_with c.args.kind c.args.from c.args.to c.args.attributes.now) c.self.view_is c.self.invariant
    (c.put.ensures ∙ ap (λ l. l ++ edge_with c.args.kind c.args.from c.args.to [] ∷ []) c.reserve.ensures.items) c.in_ok-push.ensures.ok
