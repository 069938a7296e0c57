use Rattle.gq_value.specs.Accums.{SumAccum}
use Rattle.gq_value.specs.declared.kind.Number.TheVariants as number
use Rattle.gq_eval_operand.specs.Sound.{IsSound}
use Rattle.gq_parallel_tests.proofs.BlockLemmas.{one_sound, pushed}
use Rattle.gq_parallel_tests.proofs.blocks.push_one.Goals as goal

pub returns : goal.returns
returns c = pushed (IsSound (SumAccum number.Int)) c.push.result c.args.sums.now c.push.new.self _ c.push.ensures.ok c.push.ensures.err c.requires (one_sound c.of.result c.of.ensures)
