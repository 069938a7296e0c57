use Rattle.gq_load_csv.proofs.CursorLemmas.{Running}
use Rattle.gq_load_csv.proofs.cursor.run_at.Given as goal

abbrev pub invariant-loop-place : goal.invariant-loop-place
invariant-loop-place l = Running l.text l.place l.number
