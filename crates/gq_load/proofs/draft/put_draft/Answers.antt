use Rattle.std.proofs.Common.{◌≡◌, Some, ap, subst, rules}
use Rattle.gq_graph.specs.declared.types.EdgeType.{EdgeType}
use Rattle.gq_graph.specs.declared.rows.Naming.{Naming}
use Rattle.gq_graph.specs.declared.rows.VertexRow.{VertexRow}
use Rattle.gq_graph.specs.Edges.{naming_with}
use Rattle.gq_index.specs.Ends.{edge_steps}
use Rattle.gq_index.specs.Steps.{Puts}
use Rattle.gq_load_check.specs.Targets.{edge_type_at}
use Rattle.gq_load.specs.Found.{EndsAreFound}
use Rattle.gq_load.specs.Rows.{vertex_row}
use Rattle.gq_load.proofs.draft.put_draft.Goals as goal

pub returns-in-Some-Some-clause-puts : goal.returns-in-Some-Some-clause-puts
returns-in-Some-Some-clause-puts c =
    let edge : EdgeType = edge_type_at c.args.catalog.now c.in-Edge.kind in
    let found : EndsAreFound c.args.store.now.vertices edge.from edge.to c.args.draft.now c.args.ends = rw c.in-Edge.is at c.requires.found in
    let from : c.args.ends.from ≡ Some c.in-Some-Some.from = search rules in
    let to : c.args.ends.to ≡ Some c.in-Some-Some.to = search rules in
    let a : VertexRow = vertex_row edge.from c.args.draft.now.from c.args.route.now.from in
    let b : VertexRow = vertex_row edge.to c.args.draft.now.to c.args.route.now.to in
    rw c.in-Edge.is
    (subst (λ (naming : Naming). Puts c.args.store.now (edge_steps naming a b c.args.draft.now.row) c.put_between.new.store c.put_between.result)
    (ap (λ (e : EdgeType). naming_with c.in-Edge.kind e.directed e.discriminators) c.edge_at-edge.ensures)
    (c.put_between.ensures.puts a b (found.from c.in-Some-Some.from from) (found.to c.in-Some-Some.to to)))

pub returns-in-Some-Some-clause-named : goal.returns-in-Some-Some-clause-named
returns-in-Some-Some-clause-named c =
    c.put_between.ensures.named (edge_type_at c.args.catalog.now)
    (ap (λ (edge : EdgeType). naming_with c.in-Edge.kind edge.directed edge.discriminators) c.edge_at-edge.ensures) c.requires.named

pub returns-after-ends-clause-named : goal.returns-after-ends-clause-named
returns-after-ends-clause-named c =
    c.put_edge.ensures.named (edge_type_at c.args.catalog.now)
    (ap (λ (edge : EdgeType). naming_with c.in-Edge.kind edge.directed edge.discriminators) c.edge_at-edge.ensures) c.requires.named
