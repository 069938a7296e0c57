use Rattle.std.proofs.Common.{Some, ap, subst}
use Rattle.gq_tree.specs.Tree as tree
use Rattle.gq_rules_calendar.specs.Gregorian.{gregorian}
use Rattle.gq_exec_contribute.specs.declared.filters.Filter.{Filter}
use Rattle.gq_exec_contribute.specs.Filters.{AreResolved, end_tree, filter_tree}
use Rattle.gq_exec_contribute.specs.Prepared.{sees_in}
use Rattle.gq_exec_contribute.proofs.FilterLemmas.{stands_for}
use Rattle.gq_exec_contribute.proofs.TruthLemmas.{not_truth}
use Rattle.gq_exec_contribute.proofs.filters.decided.Goals as goal

pub compared_ends-requires : goal.compared_ends-requires
compared_ends-requires c = let h = subst (λ (f : Filter). AreResolved c.args.leaves.now f) c.in-Compared.is c.requires.ends in record { found = c.requires.found; column = c.requires.column; left = h.0; right = h.1 }

pub end_truth-requires : goal.end_truth-requires
end_truth-requires c = record { found = c.requires.found; column = c.requires.column; at = subst (λ (f : Filter). AreResolved c.args.leaves.now f) c.in-Held.is c.requires.ends }

pub end_truth-requires-in-NotHeld : goal.end_truth-requires-in-NotHeld
end_truth-requires-in-NotHeld c = record { found = c.requires.found; column = c.requires.column; at = subst (λ (f : Filter). AreResolved c.args.leaves.now f) c.in-NotHeld.is c.requires.ends }

pub returns-in-Compared : goal.returns-in-Compared
returns-in-Compared c = stands_for (sees_in gregorian c.args.over.now c.args.leaves.now c.args.accums.now c.args.c.now) c.args.filter.now (tree.Cmp (end_tree c.in-Compared.left) c.in-Compared.sign (end_tree c.in-Compared.right)) c.compared_ends.result (ap (λ (f : Filter). filter_tree f) c.in-Compared.is) c.compared_ends.ensures

pub returns-in-Held : goal.returns-in-Held
returns-in-Held c = stands_for (sees_in gregorian c.args.over.now c.args.leaves.now c.args.accums.now c.args.c.now) c.args.filter.now (end_tree c.in-Held.at) c.end_truth.result (ap (λ (f : Filter). filter_tree f) c.in-Held.is) c.end_truth.ensures

pub returns-in-Some : goal.returns-in-Some
returns-in-Some c = stands_for (sees_in gregorian c.args.over.now c.args.leaves.now c.args.accums.now c.args.c.now) c.args.filter.now (tree.Not c.in-NotHeld.count (end_tree c.in-NotHeld.at)) (Some c.nots.result) (ap (λ (f : Filter). filter_tree f) c.in-NotHeld.is)
    (not_truth (sees_in gregorian c.args.over.now c.args.leaves.now c.args.accums.now c.args.c.now) c.in-NotHeld.count (end_tree c.in-NotHeld.at) c.in-Some.holds c.nots.result c.in-Some.ensures c.nots.ensures)
