use Rattle.std.proofs.Common.{◌≡◌, drop}
use Rattle.gq_load_csv.specs.Cursors.{behind_end}
use Rattle.gq_load_csv.proofs.cursor.behind_line.Given as goal

abbrev pub invariant-loop-place : goal.invariant-loop-place
invariant-loop-place l = behind_end l.text ≡ behind_end (drop l.place l.text)
