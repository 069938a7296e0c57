-- Unread: the records that a reader has left, and its invariant between two reads. No public clause cites this.
use Rattle.std.specs.Prelude.{◌≡◌, ℕ, ◌+◌, Bool, true, false, not, ◌&&◌, ◌||◌, is_none, List, [], length, Option, Some, None}
use Rattle.csv.specs.declared.parser.Config.{Config}
use Rattle.csv.specs.declared.parser.State.{State}
use Rattle.csv.specs.declared.reader.Reader.{Reader}
use Rattle.csv.specs.declared.reader.Trim.TheVariants as trim
use Rattle.csv.specs.Reading.{records_from, source_of, has_failed, reader_trim, is_flexible}

-- the records of the rest of a text
abbrev pub left : Config → State → Option (List ℕ) → List (List (List ℕ))
left config state None = []
left config state (Some bytes) = records_from config (length bytes + 1) state bytes

-- the records that a reader has left
abbrev pub unread : {R : Type 0} → (R → Option (List ℕ)) → Reader R → List (List (List ℕ))
unread rest reader = left reader.config reader.state (source_of rest reader)

-- whether the next read of a reader returns a record
abbrev pub is_ready : {R : Type 0} → Reader R → Bool
is_ready reader = reader.first || (not reader.has_headers && is_none reader.headers)

-- a reader that hasn't failed reads records of any length, without trimming
pub record Reads {R : Type 0} (reader : Reader R) : Type 0 where
  pub plain : has_failed reader ≡ false → reader_trim reader ≡ trim.None
  pub flexible : has_failed reader ≡ false → is_flexible reader ≡ true
  pub ready : has_failed reader ≡ false → is_ready reader ≡ true
