use Rattle.std.proofs.Common.{rules}
use Rattle.gq_exec_contribute.proofs.InputLemmas.{group_kind, group_past}
use Rattle.gq_exec_contribute.proofs.kinds.part_at.Goals as goal

pub returns-in-Some : goal.returns-in-Some
returns-in-Some c = group_kind c.args.kind.now c.in-Group.shape c.args.place c.in-Some.part.now c.in-Group.is (search rules)

pub returns-in-None : goal.returns-in-None
returns-in-None c = group_past c.args.kind.now c.in-Group.shape c.args.place c.in-Group.is (search rules)
