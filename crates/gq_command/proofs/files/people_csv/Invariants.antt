use Rattle.std.proofs.Common.{◌≡◌, ◌++◌, codes}
use Rattle.std.specs.List.{flat_map, range_with_len}
use Rattle.gq_command.specs.Sample.{person_line}
use Rattle.gq_command.proofs.files.people_csv.Given as goal

abbrev pub invariant-loop-i : goal.invariant-loop-i
invariant-loop-i l = l.file.items ≡ codes "id,age\n" ++ flat_map person_line (range_with_len 0 l.i)
