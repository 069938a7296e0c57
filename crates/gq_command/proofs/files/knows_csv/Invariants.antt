use Rattle.std.proofs.Common.{◌≡◌, ◌++◌, codes}
use Rattle.std.specs.List.{flat_map, range_with_len}
use Rattle.gq_command.specs.Sample.{edge_lines}
use Rattle.gq_command.proofs.files.knows_csv.Given as goal

abbrev pub invariant-loop-i : goal.invariant-loop-i
invariant-loop-i l = l.file.items ≡ codes "from,to,w\n" ++ flat_map (edge_lines l.n) (range_with_len 0 l.i)
