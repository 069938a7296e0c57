use Rattle.std.proofs.Common.{◌≤◌, ◌-◌, ◌^◌, length, arith}
use Rattle.gq_exec_post.proofs.FeedingLemmas.{all_fed}
use Rattle.gq_exec_post.proofs.feeding.feed_waiting.Goals as goal

pub returns : goal.returns
returns c =
    let few : length c.args.waiting.now.ints ≤ 2 ^ 60 - 1 = omega (arith, c.in_ok-within.ensures.ok, c.len.ensures) in
    let also : length c.args.waiting.now.others ≤ 2 ^ 60 - 1 = omega (arith, c.in_ok-within-2.ensures.ok, c.len-2.ensures) in
    all_fed c.args.accums.now c.feed_scalars.new.accums c.feed_all.new.accums c.args.waiting.now c.as_slice.result.now few also c.in_ok-feed_scalars.ensures c.as_slice.ensures c.in_ok-feed_all.ensures
