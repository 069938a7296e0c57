use Rattle.std.proofs.Common.{◌≡◌, ◌+◌, ◌-◌, arith}
use Rattle.gq_frame.specs.Pages.{page_size}
use Rattle.gq_frame.proofs.FillLemmas.{fill_as, fill_more}
use Rattle.gq_frame.proofs.filling.fill_by.Goals as goal

pub loop-left-preserved-then-branch : goal.loop-left-preserved-then-branch
loop-left-preserved-then-branch c =
    let l = c.loop-left.invariant.0 in let m = c.loop-left-test.true in
    let further : (c.args.count - c.loop-left.left) + page_size ≡ c.args.count - (c.loop-left.left - 128) = omega (arith, l, m) in
    (omega (arith, l), fill_as _ _ _ _ _ further (fill_more _ _ _ _ _ _ c.loop-left.invariant.1 ((rw c.if-branch.true at c.in_ok-push_page.ensures.pushes) c.args.content.now c.requires)))
