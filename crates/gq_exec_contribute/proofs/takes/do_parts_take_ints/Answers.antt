use Rattle.std.proofs.Common.{rules}
use Rattle.gq_value.specs.AccumViews.{accum_of}
use Rattle.gq_value.specs.declared.kind.Kind.{Kind}
use Rattle.gq_rules_typing.specs.Statements.{Bytes}
use Rattle.gq_exec_contribute.specs.Prepared.{TakesInts}
use Rattle.gq_exec_contribute.proofs.KindLemmas.{all_step, all_whole}
use Rattle.gq_exec_contribute.proofs.takes.do_parts_take_ints.Goals as goal

pub loop-part-preserved : goal.loop-part-preserved
loop-part-preserved c = all_step (λ (p : Bytes × Kind). TakesInts (accum_of p.1)) c.args.parts.now c.loop-part.part-index c.part-item.result c.part-item.result (search rules) (search rules) (c.takes_ints.ensures (search rules)) c.loop-part.invariant

pub returns : goal.returns
returns c = λ e. all_whole (λ (p : Bytes × Kind). TakesInts (accum_of p.1)) c.args.parts.now c.loop-part.part-index (search rules) c.loop-part.invariant
