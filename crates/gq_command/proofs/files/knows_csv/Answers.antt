use Rattle.std.proofs.Common.{codes}
use Rattle.gq_command.specs.Sample.{edge_lines, knows_file}
use Rattle.gq_command.proofs.FileLemmas.{one_more, all_lines}
use Rattle.gq_command.proofs.files.knows_csv.Goals as goal

pub loop-i-preserved : goal.loop-i-preserved
loop-i-preserved c = one_more (edge_lines c.args.n) (codes "from,to,w\n") c.loop-i.file.items _ c.loop-i.i c.loop-i.invariant c.in_ok-push_edge_lines.ensures

pub returns : goal.returns
unfolding knows_file
returns c = all_lines (edge_lines c.args.n) (codes "from,to,w\n") _ c.loop-i.i c.args.n c.loop-i.auto.i-end c.loop-i-test.false c.loop-i.invariant
