use Rattle.std.proofs.Common.{◌≡◌, rules}
use Rattle.gq_value.specs.Accums.{INT}
use Rattle.gq_value.specs.AccumViews.{base_of}
use Rattle.gq_value.specs.declared.kind.BaseType.{BaseType}
use Rattle.gq_rules_typing.specs.Statements.{Bytes}
use Rattle.gq_exec_contribute.proofs.KindLemmas.{all_step, all_whole}
use Rattle.gq_exec_contribute.proofs.takes.are_keys_ints.Goals as goal

pub loop-key-preserved : goal.loop-key-preserved
loop-key-preserved c = all_step (λ (k : Bytes × BaseType). base_of k.1 ≡ INT) c.args.keys.now c.loop-key.key-index c.key-item.result c.key-item.result (search rules) (search rules) (c.is_int.ensures (search rules)) c.loop-key.invariant

pub returns : goal.returns
returns c = λ e. all_whole (λ (k : Bytes × BaseType). base_of k.1 ≡ INT) c.args.keys.now c.loop-key.key-index (search rules) c.loop-key.invariant
