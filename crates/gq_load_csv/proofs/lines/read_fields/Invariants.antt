use Rattle.gq_load_csv.specs.Lines.{says}
use Rattle.gq_load_csv.proofs.LineLemmas.{SoFar}
use Rattle.gq_load_csv.proofs.lines.read_fields.Given as goal

abbrev pub invariant-loop-place : goal.invariant-loop-place
invariant-loop-place l = SoFar l.separator l.text (says l.fields.items) l.start l.place
