use Rattle.std.proofs.Common.{refl, arith}
use Rattle.std.proofs.lemmas.Result.{IfOk-weaker}
use Rattle.gq_index.specs.Ranges.{lowered}
use Rattle.gq_index.proofs.RangeLemmas.{put_in, put_out}
use Rattle.gq_index.proofs.ranges.put.Goals as goal

pub returns-then-walk-range : goal.returns-then-walk-range
returns-then-walk-range c = λ a n count walks low are. put_out a n count c.args.range.now walks c.args.walk c.if-walk-range.true are

pub returns : goal.returns
returns c =
    let range = c.args.range.now in
    IfOk-weaker c.put.result _ _ (λ ok h a n count walks low are.
    put_in a n count range (record { first = range.first; lists = c.put.new.lists }) walks c.args.walk refl (omega (arith, c.if-walk-range.false))
    (h n count (lowered range.first walks) low) are)
    c.put.ensures
