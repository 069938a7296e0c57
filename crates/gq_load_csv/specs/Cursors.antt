-- Cursors: places in a line, from field to field. No public clause cites this.
use Rattle.std.specs.Prelude.{◌≡◌, ◌≤◌, ◌<◌, ℕ, ◌==◌, ◌&&◌, not, nat_lt, Bool, true, if◌then◌else◌, List, [], ◌∷◌, length, take, drop, Option, Some}
use Rattle.std.specs.List.{list_all}
use Rattle.std.specs.Str.Parse.{AllDigits}
use Rattle.csv.specs.Reading.{records}
use Rattle.csv.specs.Records.{field_at}
use Rattle.gq_load_csv.specs.declared.cursor.Cursor.{Cursor}
use Rattle.gq_load_csv.specs.declared.cursor.Run.{Run}
use Rattle.gq_load_csv.specs.declared.lines.Lines.{Lines}
use Rattle.gq_load_csv.specs.Digits.{IsShort}
use Rattle.gq_load_csv.specs.Lines.{IsPlain, is_plain_byte, line_from}
use Rattle.gq_load_csv.specs.Records.{config_of}
use Rattle.gq_load_csv.specs.Next.{NextRecord}

-- a byte within a field
abbrev pub is_inner : ℕ → ℕ → Bool
is_inner separator c = not (c == separator) && not (c == 10)

-- a byte of ASCII
abbrev pub is_low : ℕ → Bool
is_low c = nat_lt c 128

-- no digit is the separator
abbrev pub IsApart : ℕ → Type 0
IsApart separator = 48 ≤ separator → separator ≤ 57 → ⊥

-- the fields that are left in a line, and the text behind it
abbrev pub left : ℕ → Cursor → List (List ℕ) × List ℕ
left separator cursor = if cursor.is_over then ([], cursor.rest.now) else line_from separator [] [] cursor.rest.now

-- a cursor is in a line, before the field of its number
pub record Stands (separator : ℕ) (line : List (List ℕ) × List ℕ) (cursor : Cursor) : Type 0 where
  pub fields : drop cursor.next line.0 ≡ (left separator cursor).0
  pub behind : line.1 ≡ (left separator cursor).1

-- a cursor stays in its line
pub record Goes (separator : ℕ) (old new : Cursor) : Type 0 where
  pub stands : (line : List (List ℕ) × List ℕ) → Stands separator line old → Stands separator line new
  pub plain : (p : ℕ → Bool) → list_all p old.rest.now ≡ true → list_all p new.rest.now ≡ true

-- the field of a number in a cursor's line
abbrev pub IsField : ℕ → Cursor → ℕ → List ℕ → Type 0
IsField separator cursor number field = (line : List (List ℕ) × List ℕ) → Stands separator line cursor → field_at line.0 number ≡ Some field

-- the digits at the beginning of a text, at most 18, and their number
pub record IsRun (text : List ℕ) (run : Run) : Type 0 where
  pub within : run.size ≤ length text
  pub digits : AllDigits 10 (take run.size text)
  pub short : 0 < run.size → IsShort (take run.size text) run.number

-- the next field is the digits of a number
pub record IsNumber (separator : ℕ) (cursor : Cursor) (n : ℕ) : Type 0 where
  pub field : List ℕ
  pub here : IsField separator cursor cursor.next field
  pub short : IsShort field n

-- the same of a field that was found
pub record HasNumber (found : Option (List ℕ)) (n : ℕ) : Type 0 where
  pub field : List ℕ
  pub here : found ≡ Some field
  pub short : IsShort field n

-- the text behind the first line end
abbrev pub behind_end : List ℕ → List ℕ
behind_end [] = []
behind_end (c ∷ rest) = if c == 10 then rest else behind_end rest

-- the first record of a text that is read by lines
abbrev pub first_of : Lines → NextRecord
first_of lines = record {
  fields = (line_from lines.separator [] [] lines.rest.now).0;
  others = records (config_of lines.separator lines.quote) (line_from lines.separator [] [] lines.rest.now).1;
}

-- a cursor is in the first line of a text
pub record IsWithin (lines : Lines) (cursor : Cursor) : Type 0 where
  pub plain : IsPlain lines.separator lines.quote lines.rest.now
  pub apart : IsApart lines.separator
  pub stands : Stands lines.separator (line_from lines.separator [] [] lines.rest.now) cursor
  pub rest : list_all (is_plain_byte lines.quote) cursor.rest.now ≡ true
