use Rattle.std.proofs.Common.{◌∙◌, map, sym}
use Rattle.std.proofs.lemmas.List.{length-map}
use Rattle.gq_edge.specs.Flat.{edge_of}
use Rattle.gq_edge.specs.Sorted.{name_row, row_name}
use Rattle.gq_edge.proofs.SortedLemmas.{sorted_push, on_ok}
use Rattle.gq_edge.proofs.TableLemmas.{new_name}
use Rattle.gq_edge.proofs.names.insert.Goals as goal

pub returns-in_ok-name_of-in-Some-clause-put : goal.returns-in_ok-name_of-in-Some-clause-put
returns-in_ok-name_of-in-Some-clause-put c =
    let rows = c.args.rows.now in let namings = c.args.namings.now in
    on_ok c.put.result c.put.ensures.put
    (sorted_push (map (row_name namings) rows) (name_row c.args.naming (edge_of c.args.edge)) c.len.result c.in_ok-name_of-in-Some.field-0 c.in-Some.tree c.put.new.names
    (new_name c.args.naming (edge_of c.args.edge) rows namings c.args.keys.now c.requires.named c.requires.agrees c.requires.kind c.requires.new)
    (c.len.ensures ∙ sym (length-map rows (row_name namings))) c.in_ok-name_of-in-Some.ensures.hashed c.in_ok-name_of-in-Some.ensures.row (rw c.in-Some.is at c.make_if_crowded.ensures))
