use Rattle.std.proofs.Common.{◌≡◌, arith, length, subst}
use Rattle.std.specs.Prelude.{OnOk}
use Rattle.gq_value.specs.declared.kind.Input.{Input}
use Rattle.gq_exec_post.specs.Waiting.{IsQueued}
use Rattle.gq_exec_post.proofs.QueueLemmas.{read_queued}
use Rattle.gq_exec_post.proofs.waiting.queue_read.Goals as goal

pub returns-in-Some : goal.returns-in-Some
returns-in-Some c =
    let none : length c.args.waiting.now.others ≡ 0 = omega (arith, c.len.ensures, c.if-len-eq0.true) in
    read_queued c.args.slots.now c.args.cells.now c.args.slot c.in-Some.target c.args.x.now c.args.waiting.now c.push.new.self c.requires c.in-Some.ensures none c.in_ok-push-in-Some.ensures.ok

pub returns : goal.returns
returns c = subst (λ (i : Input). OnOk c.queue.result (IsQueued c.args.slots.now c.args.slot i c.args.waiting.now c.queue.new.waiting)) c.in_ok-input.ensures c.queue.ensures
