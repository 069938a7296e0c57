use Rattle.std.proofs.Common.{refl}
use Rattle.gq_exec_contribute.proofs.KindLemmas.{group_found}
use Rattle.gq_exec_contribute.proofs.takes.group_taken.Goals as goal

pub returns : goal.returns
returns c = group_found c.args.shape.now c.as_slice.result.now c.as_slice-2.result.now c.len.result c.len-2.result c.as_slice.ensures c.as_slice-2.ensures c.len.ensures c.len-2.ensures (c.if-not-are_keys_ints.ensures refl) (c.if-not-do_parts_take_ints.ensures refl)
