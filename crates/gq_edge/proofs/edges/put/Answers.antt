use Rattle.std.proofs.Common.{ℕ, ◌<◌, ◌≤◌, ◌≡◌, ◌∙◌, List, length, map, Option, refl, ap, sym, subst, arith}
use Rattle.std.specs.Option.{unwrap_or}
use Rattle.gq_base.specs.Keys.{number_of}
use Rattle.gq_graph.specs.declared.rows.EdgeRow.{EdgeRow}
use Rattle.gq_graph.specs.Edges.{noted, edge_with, edge_number, edge_put}
use Rattle.gq_value.specs.Val.{Val}
use Rattle.gq_edge.specs.Sorted.{AreSorted, IsPlaced, name_row, row_name}
use Rattle.gq_edge.proofs.TableLemmas.{named_added, known_added, found_row, known_number, new_number}
use Rattle.gq_edge.proofs.edges.put.Goals as goal

pub returns-then-number-len-clause-named : goal.returns-then-number-len-clause-named
returns-then-number-len-clause-named c =
    let rows = c.args.rows.now in let namings = c.args.namings.now.items in let naming = c.args.naming in let n = c.in_ok-number.number in
    let edge = edge_with naming.kind c.args.from c.args.to c.args.attributes.now in
    let at : n ≡ unwrap_or (edge_number rows naming edge) (length rows) =
    c.in_ok-number.ensures.number ∙ ap (λ (e : EdgeRow). unwrap_or (edge_number rows naming e) (length rows)) c.lent.ensures in
    let low : n < length rows = omega (arith, c.if-number-len.true, c.len.ensures) in
    let is = known_number (edge_number rows naming edge) n (length rows) at low in
    let row = found_row rows namings c.args.index.now naming edge n c.requires.named c.requires.agrees refl is in
    rw (c.reserve.ensures.items, c.in_ok-set.ensures.ok) row.1

pub returns-then-number-len-clause-sorted : goal.returns-then-number-len-clause-sorted
returns-then-number-len-clause-sorted c =
    let rows = c.args.rows.now in let namings = c.args.namings.now.items in let naming = c.args.naming in let n = c.in_ok-number.number in
    let edge = edge_with naming.kind c.args.from c.args.to c.args.attributes.now in
    let at : n ≡ unwrap_or (edge_number rows naming edge) (length rows) =
    c.in_ok-number.ensures.number ∙ ap (λ (e : EdgeRow). unwrap_or (edge_number rows naming e) (length rows)) c.lent.ensures in
    let low : n < length rows = omega (arith, c.if-number-len.true, c.len.ensures) in
    let is = known_number (edge_number rows naming edge) n (length rows) at low in
    let row = found_row rows namings c.args.index.now naming edge n c.requires.named c.requires.agrees refl is in
    let more = rw (c.deref.ensures.value, c.reserve.ensures.items) at c.in_ok-number.ensures.placed in
    let placed = subst (λ (e : EdgeRow). IsPlaced (map (row_name namings) rows) (name_row naming e) (edge_number rows naming e) c.place.new.names)
    c.lent.ensures more in
    let own = subst (λ (o : Option ℕ). IsPlaced (map (row_name namings) rows) (name_row naming edge) o c.place.new.names) is placed in
    rw (c.reserve.ensures.items, c.in_ok-set.ensures.ok) (subst (λ (names : List (List Val)). AreSorted names c.place.new.names) (sym row.3) own)

pub returns-then-number-len-clause-done : goal.returns-then-number-len-clause-done
returns-then-number-len-clause-done c =
    let rows = c.args.rows.now in let namings = c.args.namings.now.items in let naming = c.args.naming in let n = c.in_ok-number.number in
    let edge = edge_with naming.kind c.args.from c.args.to c.args.attributes.now in
    let at : n ≡ unwrap_or (edge_number rows naming edge) (length rows) =
    c.in_ok-number.ensures.number ∙ ap (λ (e : EdgeRow). unwrap_or (edge_number rows naming e) (length rows)) c.lent.ensures in
    let low : n < length rows = omega (arith, c.if-number-len.true, c.len.ensures) in
    let is = known_number (edge_number rows naming edge) n (length rows) at low in
    let row = found_row rows namings c.args.index.now naming edge n c.requires.named c.requires.agrees refl is in
    (at, c.in_ok-set.ensures.ok ∙ ap (edge_put rows edge) (sym is), c.reserve.ensures.items ∙ sym row.2)

pub returns-clause-named : goal.returns-clause-named
returns-clause-named c =
    let rows = c.args.rows.now in let namings = c.args.namings.now.items in let naming = c.args.naming in let n = c.in_ok-number.number in
    let edge = edge_with naming.kind c.args.from c.args.to c.args.attributes.now in
    let at : n ≡ unwrap_or (edge_number rows naming edge) (length rows) =
    c.in_ok-number.ensures.number ∙ ap (λ (e : EdgeRow). unwrap_or (edge_number rows naming e) (length rows)) c.lent.ensures in
    let high : length rows ≤ n = omega (arith, c.if-number-len.false, c.len.ensures) in
    let none = new_number rows naming edge n at high in
    let namings_are : c.note.new.namings.items ≡ noted namings naming = c.note.ensures ∙ ap (λ l. noted l naming) c.reserve.ensures.items in
    rw (c.in_ok-push.ensures.0, namings_are, c.in_ok-push.ensures.1)
    (named_added rows namings c.args.index.now naming edge (number_of c.args.key) c.requires.agrees refl none c.requires.room
    c.requires.keyed c.requires.ends c.requires.named)

pub returns-clause-sorted : goal.returns-clause-sorted
returns-clause-sorted c =
    let rows = c.args.rows.now in let namings = c.args.namings.now.items in let naming = c.args.naming in let n = c.in_ok-number.number in
    let edge = edge_with naming.kind c.args.from c.args.to c.args.attributes.now in
    let at : n ≡ unwrap_or (edge_number rows naming edge) (length rows) =
    c.in_ok-number.ensures.number ∙ ap (λ (e : EdgeRow). unwrap_or (edge_number rows naming e) (length rows)) c.lent.ensures in
    let high : length rows ≤ n = omega (arith, c.if-number-len.false, c.len.ensures) in
    let none = new_number rows naming edge n at high in
    let namings_are : c.note.new.namings.items ≡ noted namings naming = c.note.ensures ∙ ap (λ l. noted l naming) c.reserve.ensures.items in
    let more = rw (c.deref.ensures.value, c.reserve.ensures.items) at c.in_ok-number.ensures.placed in
    let placed = subst (λ (e : EdgeRow). IsPlaced (map (row_name namings) rows) (name_row naming e) (edge_number rows naming e) c.place.new.names)
    c.lent.ensures more in
    let own = subst (λ (o : Option ℕ). IsPlaced (map (row_name namings) rows) (name_row naming edge) o c.place.new.names) none placed in
    rw (c.in_ok-push.ensures.0, namings_are, c.in_ok-push.ensures.2)
    (subst (λ (names : List (List Val)). AreSorted names c.place.new.names)
    (sym (known_added name_row rows namings c.args.index.now naming edge c.requires.named c.requires.agrees refl)) own)
