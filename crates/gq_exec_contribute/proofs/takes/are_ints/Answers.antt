use Rattle.std.proofs.Common.{◌≡◌, rules}
use Rattle.gq_value.specs.Accums.{INT}
use Rattle.gq_value.specs.AccumViews.{base_of}
use Rattle.gq_value.specs.declared.kind.BaseType.{BaseType}
use Rattle.gq_exec_contribute.proofs.KindLemmas.{all_step, all_whole}
use Rattle.gq_exec_contribute.proofs.takes.are_ints.Goals as goal

pub loop-base-preserved : goal.loop-base-preserved
loop-base-preserved c = all_step (λ (b : BaseType). base_of b ≡ INT) c.args.types.now c.loop-base.base-index c.base-item.result c.base-item.result (search rules) (search rules) (c.is_int.ensures (search rules)) c.loop-base.invariant

pub returns : goal.returns
returns c = λ e. all_whole (λ (b : BaseType). base_of b ≡ INT) c.args.types.now c.loop-base.base-index (search rules) c.loop-base.invariant
