use Rattle.std.proofs.Common.{◌≤◌, length, arith}
use Rattle.gq_exec_post.proofs.ChangeLemmas.{change_stays}
use Rattle.gq_exec_post.proofs.changed.change_at.Goals as goal

pub returns-then-target-len-clause-ok : goal.returns-then-target-len-clause-ok
returns-then-target-len-clause-ok c =
    let past : length c.args.accums.now.contents ≤ c.in-Ok.target = omega (arith, c.if-target-len.true, c.len.ensures) in
    change_stays c.args.accums.now c.args.slot c.args.vertex c.in-Ok.target c.args.made.now c.requires c.in-Ok.ensures.0 c.in-Ok.ensures.1 past
