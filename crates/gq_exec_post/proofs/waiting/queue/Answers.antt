use Rattle.gq_exec_post.proofs.QueueLemmas.{other_queued}
use Rattle.gq_exec_post.proofs.waiting.queue.Goals as goal

pub returns : goal.returns
returns c = other_queued c.args.slots.now c.args.slot c.in_ok-target.target c.args.input c.args.waiting.now c.push.new.self c.in_ok-target.ensures.0 c.in_ok-target.ensures.1 c.in_ok-push.ensures.ok
