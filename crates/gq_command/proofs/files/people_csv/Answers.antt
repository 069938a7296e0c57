use Rattle.std.proofs.Common.{codes}
use Rattle.gq_command.specs.Sample.{people_file, person_line}
use Rattle.gq_command.proofs.FileLemmas.{one_more, all_lines}
use Rattle.gq_command.proofs.files.people_csv.Goals as goal

pub loop-i-preserved : goal.loop-i-preserved
loop-i-preserved c = one_more person_line (codes "id,age\n") c.loop-i.file.items _ c.loop-i.i c.loop-i.invariant c.in_ok-push_person_line.ensures

pub returns : goal.returns
unfolding people_file
returns c = all_lines person_line (codes "id,age\n") _ c.loop-i.i c.args.n c.loop-i.auto.i-end c.loop-i-test.false c.loop-i.invariant
