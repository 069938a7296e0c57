use Rattle.std.specs.Prelude.{◌≡◌, ℕ, Option, drop}
use Rattle.csv.specs.Reading.{records}
use Rattle.gq_load_csv.specs.Records.{config_of}
use Rattle.gq_load_csv.proofs.lines.behind_ends.Given as goal

abbrev pub invariant-loop-place : goal.invariant-loop-place
invariant-loop-place l = (separator : ℕ) (quote : Option ℕ) → records (config_of separator quote) l.text ≡ records (config_of separator quote) (drop l.place l.text)
