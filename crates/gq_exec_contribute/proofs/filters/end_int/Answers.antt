use Rattle.std.proofs.Common.{FitsSigned, rules, w64}
use Rattle.std.proofs.lemmas.Int.{to_z-of_z}
use Rattle.gq_rules_calendar.specs.Gregorian.{gregorian}
use Rattle.gq_exec_contribute.proofs.ColumnLemmas.{column_int}
use Rattle.gq_exec_contribute.proofs.FilterLemmas.{end_int}
use Rattle.gq_exec_contribute.proofs.filters.end_int.Goals as goal

pub returns-in-Some : goal.returns-in-Some
returns-in-Some c =
    let fits : FitsSigned w64 c.in-Some.x = search rules in
    rw (to_z-of_z w64 c.in-Some.x fits) (column_int gregorian c.args.over.now c.args.leaves.now c.args.accums.now c.args.c.now c.args.at.now c.args.column.now c.requires.at c.requires.column c.in-Some.x c.in-Some.ensures)

pub returns-in-Some-end_content : goal.returns-in-Some-end_content
returns-in-Some-end_content c = end_int gregorian c.args.over.now c.args.leaves.now c.args.accums.now c.args.c.now c.args.at.now c.in-Some-end_content.content.now c.requires.at c.in-Some-end_content.ensures c.int_in.result c.int_in.ensures
