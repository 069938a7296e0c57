use Rattle.std.proofs.Common.{arith}
use Rattle.gq_workers.proofs.RoundLemmas.{joined}
use Rattle.gq_workers.proofs.joining.join.Goals as goal

pub returns : goal.returns
returns c = joined c.args.words.now c.args.other.now c.loop-place.place c.loop-place.words (let t = c.loop-place-test.false in omega (arith, t)) c.loop-place.invariant
