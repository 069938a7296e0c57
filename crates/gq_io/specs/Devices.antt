-- Devices: what contracts see of files and sinks in memory.
use Rattle.std.specs.Prelude.{ℕ, List, ◌++◌, ◌∷◌, []}
use Rattle.gq_io.specs.Listing.{Listing}
use Rattle.gq_io.specs.Schedule.{Schedule}

-- a sink that never fails: what was written, and the maximum number of bytes of one write
pub record SureState : Type 0 where
  pub written : List ℕ
  pub most : ℕ

-- files whose calls may fail
pub record FilesState : Type 0 where
  pub listing : Listing
  pub schedule : Schedule

-- a sink whose calls may fail
pub record SinkState : Type 0 where
  pub written : List ℕ
  pub most : ℕ
  pub schedule : Schedule

-- the call with this number is to fail too
abbrev pub planned : Schedule → ℕ → Schedule
planned schedule call = record { calls = schedule.calls; failing = schedule.failing ++ call ∷ []; faults = schedule.faults }

-- no call was made, and none is to fail
abbrev pub unplanned : Schedule
unplanned = record { calls = 0; failing = []; faults = 0 }

-- files of the host: how often a read failed, how often a file didn't exist, and the number of bytes of the last read
pub record HostCounts : Type 0 where
  pub faults : ℕ
  pub absences : ℕ
  pub length_met : ℕ
