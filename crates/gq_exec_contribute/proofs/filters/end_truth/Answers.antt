use Rattle.gq_rules_calendar.specs.Gregorian.{gregorian}
use Rattle.gq_exec_contribute.proofs.ColumnLemmas.{column_truth}
use Rattle.gq_exec_contribute.proofs.FilterLemmas.{end_truth}
use Rattle.gq_exec_contribute.proofs.filters.end_truth.Goals as goal

pub returns-in-Some : goal.returns-in-Some
returns-in-Some c = column_truth gregorian c.args.over.now c.args.leaves.now c.args.accums.now c.args.c.now c.args.at.now c.args.column.now c.requires.at c.requires.column c.in-Some.truth c.in-Some.ensures

pub returns-in-Some-end_content : goal.returns-in-Some-end_content
returns-in-Some-end_content c = end_truth gregorian c.args.over.now c.args.leaves.now c.args.accums.now c.args.c.now c.args.at.now c.in-Some-end_content.content.now c.requires.at c.in-Some-end_content.ensures c.truth_in.result c.truth_in.ensures
