use Rattle.std.proofs.Common.{◌+◌, ◌*◌, ◌%◌}
use Rattle.gq_command.specs.Sample.{edge_line, edge_lines}
use Rattle.gq_command.proofs.FileLemmas.{two_parts}
use Rattle.gq_command.proofs.files.push_edge_lines.Goals as goal

pub returns : goal.returns
unfolding edge_lines
returns c = two_parts c.args.file.now.items (edge_line c.args.i ((c.args.i + 1) % c.args.n) (c.args.i % 100)) (edge_line c.args.i ((7 * c.args.i + 3) % c.args.n) ((c.args.i + 1) % 100)) _ _ c.in_ok-push_edge_line.ensures c.in_ok-push_edge_line-2.ensures
