use Rattle.std.proofs.Common.{arith}
use Rattle.gq_stmt_read.proofs.StepLemmas.{semicolon_step, statement_step, fault_step}
use Rattle.gq_stmt_read.proofs.script.statements.Goals as goal

pub loop-at-preserved-in-Some : goal.loop-at-preserved-in-Some
loop-at-preserved-in-Some c =
    let l = c.loop-at in
    let s =
    semicolon_step c.args.bytes.now c.args.tokens.now c.new-source.result c.new-source.ensures l.found.items l.at c.in-Some.next l.invariant.counted
    l.invariant.before c.loop-at-test.true c.in-Some.ensures in
    record { within = s.within; counted = s.counted; before = s.before }

pub loop-at-smaller-in-Some : goal.loop-at-smaller-in-Some
loop-at-smaller-in-Some c =
    let l = c.loop-at in
    let s =
    semicolon_step c.args.bytes.now c.args.tokens.now c.new-source.result c.new-source.ensures l.found.items l.at c.in-Some.next l.invariant.counted
    l.invariant.before c.loop-at-test.true c.in-Some.ensures in
    omega (arith, s.further, s.within)

pub loop-at-preserved : goal.loop-at-preserved
loop-at-preserved c =
    let l = c.loop-at in
    let s =
    statement_step c.args.bytes.now c.args.tokens.now c.new-source.result c.new-source.ensures l.found.items
    c.push.new.self.items l.at c.in-Some-2.next c.in-Some-2.statement c.in_ok-statement-in-None.field-0 c.index-tokens-at-in-Some-2.result
    l.invariant.counted l.invariant.before c.loop-at-test.true c.in_ok-statement-in-None.ensures c.in-Some-2.is c.in_ok-push-in-Some-2.ensures.items in
    record { within = s.within; counted = s.counted; before = s.before }

pub loop-at-smaller : goal.loop-at-smaller
loop-at-smaller c =
    let l = c.loop-at in
    let s =
    statement_step c.args.bytes.now c.args.tokens.now c.new-source.result c.new-source.ensures l.found.items
    c.push.new.self.items l.at c.in-Some-2.next c.in-Some-2.statement c.in_ok-statement-in-None.field-0 c.index-tokens-at-in-Some-2.result
    l.invariant.counted l.invariant.before c.loop-at-test.true c.in_ok-statement-in-None.ensures c.in-Some-2.is c.in_ok-push-in-Some-2.ensures.items in
    omega (arith, s.further, s.within)

pub returns-in-None-2-clause-fault : goal.returns-in-None-2-clause-fault
returns-in-None-2-clause-fault c =
    let l = c.loop-at in
    fault_step c.args.bytes.now c.args.tokens.now c.new-source.result c.new-source.ensures l.found.items l.at c.len.result
    c.in_ok-statement-in-None.field-0 c.index-tokens-at.result l.invariant.before c.loop-at-test.true c.in-None.ensures c.in_ok-statement-in-None.ensures
    c.in-None-2.is (omega (arith, c.len.ensures, l.found.ok))
