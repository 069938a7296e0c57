-- Known: which results a read of a file may have, given what is known of the files.
use Rattle.std.specs.Prelude.{◌≡◌, ℕ, ◌<◌, List, length, Option, Some, None, if◌then◌else◌, nat_lt, Result, Ok, Err, Vec}
use Rattle.std.specs.declared.alloc.Global.{Global}
use Rattle.gq_io.specs.Counts.{Rose}
use Rattle.gq_io.specs.Listing.{Listing, named}
use Rattle.gq_io.specs.Files.{most_bytes}
use Rattle.gq_io.specs.declared.files.FileFault.{FileFault}
use Rattle.gq_io.specs.declared.files.FileFault.TheVariants.{Missing, TooLarge, Failed, OutOfMemory}

-- the result for a name
pub data Answer : Type 0 where
  Absent : Answer
  TooLong : Answer
  Bytes : List ℕ → Answer

-- the result for these bytes, if there are any
abbrev pub answer_of : Option (List ℕ) → Answer
answer_of None = Absent
answer_of (Some bytes) = if nat_lt most_bytes (length bytes) then TooLong else Bytes bytes

-- what is known of files: their names and bytes; or, if the device doesn't say, how often a file didn't exist, before
-- and now, and how many bytes the last read had
pub data Known : Type 0 where
  Told : Listing → Known
  Counted : ℕ → ℕ → ℕ → Known

-- which of the two, depending on what the device says
abbrev pub known_of : Option Listing → ℕ → ℕ → ℕ → Known
known_of (Some pairs) before now met = Told pairs
known_of None before now met = Counted before now met

-- the count that justifies a result if the files aren't known
abbrev pub IsCounted : Answer → ℕ → ℕ → ℕ → Type 0
IsCounted Absent before now met = Rose before now
IsCounted TooLong before now met = most_bytes < met
IsCounted (Bytes bytes) before now met = Unit {0}

-- a read of this name may have this result
abbrev pub MayAnswer : Known → List ℕ → Answer → Type 0
MayAnswer (Told pairs) name answer = answer ≡ answer_of (named name pairs)
MayAnswer (Counted before now met) name answer = IsCounted answer before now met

-- a read of this name had a possible result, unless it failed or memory ran out
abbrev pub Answered : Known → List ℕ → Result (Vec ℕ Global) FileFault → Type 0
Answered known name (Ok bytes) = MayAnswer known name (Bytes bytes.items)
Answered known name (Err Missing) = MayAnswer known name Absent
Answered known name (Err TooLarge) = MayAnswer known name TooLong
Answered known name (Err Failed) = Unit {0}
Answered known name (Err OutOfMemory) = Unit {0}
