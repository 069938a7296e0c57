use Rattle.std.proofs.Common.{rules, subst}
use Rattle.gq_rules_calendar.specs.Gregorian.{gregorian}
use Rattle.gq_graph.specs.declared.rows.Candidate.{Candidate}
use Rattle.gq_plan_ir.specs.BlockView.{view_feed}
use Rattle.gq_exec_contribute.specs.Prepared.{IsFed, sees_in}
use Rattle.gq_exec_contribute.proofs.GatherLemmas.{added_is}
use Rattle.gq_exec_contribute.proofs.vertex.added_at.Goals as goal

pub returns-then-read : goal.returns-then-read
returns-then-read c =
    added_is gregorian c.args.over.now c.args.leaves.now c.args.accums.now c.args.slot c.args.vertex c.args.change.now c.in-Some.feed.now c.in-Some-get.cells.now c.read.new.input c.requires c.in-Some.ensures (search rules)
    (subst (λ (x : Candidate). IsFed (sees_in gregorian c.args.over.now c.args.leaves.now c.args.accums.now x) (view_feed c.in-Some.feed.now) c.in-Some-get.cells.now.takes c.read.new.input) c.only_source-c.ensures (c.read.ensures c.if-read.true))
