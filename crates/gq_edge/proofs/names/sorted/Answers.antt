use Rattle.std.proofs.Common.{◌∙◌, ◌<◌, [], length, map, sym, ap, arith}
use Rattle.std.proofs.lemmas.List.{get_or-map, length-map}
use Rattle.gq_graph.specs.Edges.{no_edge}
use Rattle.gq_graph.specs.declared.rows.EdgeRow.{EdgeRow}
use Rattle.gq_edge.specs.Flat.{edge_of}
use Rattle.gq_edge.specs.Sorted.{name_row, row_name}
use Rattle.gq_edge.proofs.SortedLemmas.{sorted_next}
use Rattle.gq_edge.proofs.TableLemmas.{names_apart}
use Rattle.gq_edge.proofs.names.sorted.Goals as goal

pub loop-number-preserved : goal.loop-number-preserved
loop-number-preserved c =
    let rows = c.args.rows.now in let namings = c.args.namings.now in let n = c.loop-number.number in let row = edge_of c.row-row.result in
    let under : n < length rows = omega (arith, c.loop-number-test.true, c.loop-number.auto.number-end, c.len-number-end.ensures) in
    let low : n < length (map (row_name namings) rows) = omega (arith, under, length-map rows (row_name namings)) in
    let name = c.in_ok-name_of.ensures.row ∙ ap (λ m. name_row m row) c.naming_at.ensures
    ∙ ap (λ (r : EdgeRow). row_name namings r) c.row-row.ensures ∙ sym (get_or-map (row_name namings) rows n no_edge [] under) in
    sorted_next (map (row_name namings) rows) n c.in_ok-name_of.field-0 c.loop-number.names c.put.new.names (names_apart rows namings c.args.keys.now c.requires) low
    c.in_ok-name_of.ensures.hashed name c.loop-number.invariant c.in_ok-put.ensures.put
