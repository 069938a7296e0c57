use Rattle.std.proofs.Common.{◌≡◌, ◌∙◌, refl, ap, sym, subst, Some}
use Rattle.gq_graph.specs.declared.rows.EdgeRow.{EdgeRow}
use Rattle.gq_graph.specs.Edges.{EdgeTable, Agrees, edge_with, naming_with, edge_number}
use Rattle.gq_edge.specs.Named.{IsFindable}
use Rattle.gq_edge.specs.Sorted.{AreSorted, IsSorted}
use Rattle.gq_edge.proofs.TableLemmas.{findable, searchable, found_row, replaced_is}
use Rattle.gq_edge.proofs.edges.Edges.upsert.Goals as goal

pub find-requires-clause-findable : goal.find-requires-clause-findable
find-requires-clause-findable c =
    let naming = naming_with c.args.kind c.args.directed c.args.key in let edge = edge_with c.args.kind c.args.from c.args.to c.args.attributes.now in
    let agrees = subst (λ (t : EdgeTable). Agrees t.namings naming) (sym c.self.view_is) c.requires.agrees in
    subst (λ (e : EdgeRow). IsFindable naming e c.self.inside.rows c.self.inside.index) (sym c.lent-edge.ensures)
    (findable naming edge c.self.inside.rows c.self.inside.namings.items c.self.inside.index c.self.invariant.named agrees refl)

pub find-requires-clause-sorted : goal.find-requires-clause-sorted
find-requires-clause-sorted c =
    let naming = naming_with c.args.kind c.args.directed c.args.key in let edge = edge_with c.args.kind c.args.from c.args.to c.args.attributes.now in
    let agrees = subst (λ (t : EdgeTable). Agrees t.namings naming) (sym c.self.view_is) c.requires.agrees in
    subst (λ (e : EdgeRow). IsSorted naming e c.self.inside.rows c.self.inside.names) (sym c.lent-edge.ensures)
    (searchable naming edge c.self.inside.rows c.self.inside.namings.items c.self.inside.index c.self.inside.names c.self.invariant.named agrees refl
    c.self.invariant.sorted)

pub invariant_of-self-in-Some : goal.invariant_of-self-in-Some
invariant_of-self-in-Some c =
    let naming = naming_with c.args.kind c.args.directed c.args.key in let edge = edge_with c.args.kind c.args.from c.args.to c.args.attributes.now in
    let agrees = subst (λ (t : EdgeTable). Agrees t.namings naming) (sym c.self.view_is) c.requires.agrees in
    let found : edge_number c.self.inside.rows naming edge ≡ Some c.in-Some.number =
    ap (edge_number c.self.inside.rows naming) (sym c.lent-edge.ensures) ∙ sym c.find.ensures ∙ c.in-Some.is in
    let row = found_row c.self.inside.rows c.self.inside.namings.items c.self.inside.index naming edge c.in-Some.number c.self.invariant.named agrees refl found in
    rw (c.replace.ensures.done c.if-not-replace.false) (record {
      named = row.1;
      sorted = subst (λ names. AreSorted names c.self.inside.names) (sym row.3) c.self.invariant.sorted;
    })

pub returns-else-not-replace-clause-done : goal.returns-else-not-replace-clause-done
returns-else-not-replace-clause-done c =
    let naming = naming_with c.args.kind c.args.directed c.args.key in let edge = edge_with c.args.kind c.args.from c.args.to c.args.attributes.now in
    let agrees = subst (λ (t : EdgeTable). Agrees t.namings naming) (sym c.self.view_is) c.requires.agrees in
    let found : edge_number c.self.inside.rows naming edge ≡ Some c.in-Some.number =
    ap (edge_number c.self.inside.rows naming) (sym c.lent-edge.ensures) ∙ sym c.find.ensures ∙ c.in-Some.is in
    let row = found_row c.self.inside.rows c.self.inside.namings.items c.self.inside.index naming edge c.in-Some.number c.self.invariant.named agrees refl found in
    replaced_is c.self.inside.rows c.self.inside.namings.items c.args.self.now c.replace.new.rows naming edge c.in-Some.number c.self.view_is found row.2 (c.replace.ensures.done c.if-not-replace.false)
