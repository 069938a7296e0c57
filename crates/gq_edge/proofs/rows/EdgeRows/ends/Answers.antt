use Rattle.std.proofs.Common.{◌∙◌, List, length, ap}
use Rattle.gq_graph.specs.declared.rows.EdgeRow.{EdgeRow}
use Rattle.gq_graph.specs.Edges.{edge_at}
use Rattle.gq_edge.proofs.JoinLemmas.{view_long, view_at}
use Rattle.gq_edge.proofs.rows.EdgeRows.ends.Goals as goal

pub returns-clause-long : goal.returns-clause-long
returns-clause-long c =
    ap length c.as_slice.ensures.value ∙ view_long c.self.inside.ends.items c.self.inside.attributes c.args.self.now c.self.view_is c.self.invariant

pub returns-clause-kinds : goal.returns-clause-kinds
returns-clause-kinds c = λ r low.
    ap (λ (l : List EdgeRow). (edge_at l r).kind) c.as_slice.ensures.value
    ∙ ap (λ (e : EdgeRow). e.kind) (view_at c.self.inside.ends.items c.self.inside.attributes c.args.self.now r c.self.view_is c.self.invariant low)

pub returns-clause-froms : goal.returns-clause-froms
returns-clause-froms c = λ r low.
    ap (λ (l : List EdgeRow). (edge_at l r).from) c.as_slice.ensures.value
    ∙ ap (λ (e : EdgeRow). e.from) (view_at c.self.inside.ends.items c.self.inside.attributes c.args.self.now r c.self.view_is c.self.invariant low)

pub returns-clause-tos : goal.returns-clause-tos
returns-clause-tos c = λ r low.
    ap (λ (l : List EdgeRow). (edge_at l r).to) c.as_slice.ensures.value
    ∙ ap (λ (e : EdgeRow). e.to) (view_at c.self.inside.ends.items c.self.inside.attributes c.args.self.now r c.self.view_is c.self.invariant low)
