-- Schedule: which calls of a device in memory fail. Calls are numbered from 1.
use Rattle.std.specs.Prelude.{ℕ, Bool, ◌==◌, List, if◌then◌else◌}
use Rattle.std.specs.List.{list_any}
use Rattle.gq_io.specs.Counts.{raised}

pub record Schedule : Type 0 where
  -- how many calls there were
  pub calls : ℕ
  -- the numbers of the calls that fail
  pub failing : List ℕ
  -- how many calls have failed
  pub faults : ℕ

-- whether the next call fails
abbrev pub is_due : Schedule → Bool
is_due schedule = list_any (λ call. call == raised schedule.calls) schedule.failing

-- the schedule after the next call
abbrev pub called : Schedule → Schedule
called schedule = record {
  calls = raised schedule.calls;
  failing = schedule.failing;
  faults = if is_due schedule then raised schedule.faults else schedule.faults;
}
