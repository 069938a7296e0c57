-- Lines: texts in which only the separator and line ends are special. No public clause cites this.
use Rattle.std.specs.Prelude.{◌≡◌, ℕ, ◌==◌, ◌&&◌, not, Bool, true, false, if◌then◌else◌, is_some, unwrap_or, List, [], ◌∷◌, ◌++◌, map, Option, Some, None}
use Rattle.std.specs.Borrow.{Bor}
use Rattle.std.specs.List.{list_all}
use Rattle.csv.specs.Reading.{records}
use Rattle.csv.specs.Records.{Row, fields_of}
use Rattle.gq_load_csv.specs.declared.records.Source.{Source}
use Rattle.gq_load_csv.specs.declared.records.Source.TheVariants as source
use Rattle.gq_load_csv.specs.declared.lines.Lines.{Lines}
use Rattle.gq_load_csv.specs.Records.{config_of}
use Rattle.gq_load_csv.specs.Unread.{unread, Reads}

-- a byte is neither the quote nor a carriage return
abbrev pub is_plain_byte : Option ℕ → ℕ → Bool
is_plain_byte quote c = not (is_some quote && (c == unwrap_or quote 34)) && not (c == 13)

-- each line of a text is a record, and its fields are split at the separator
pub record IsPlain (separator : ℕ) (quote : Option ℕ) (text : List ℕ) : Type 0 where
  pub line : (10 == separator) ≡ false
  pub plain : list_all (is_plain_byte quote) text ≡ true

-- the fields of a line, appended to those before, and the text after the line
unfoldable pub line_from : ℕ → List (List ℕ) → List ℕ → List ℕ → List (List ℕ) × List ℕ
line_from separator fields field [] = (fields ++ field ∷ [], [])
line_from separator fields field (c ∷ rest) =
    if c == separator then line_from separator (fields ++ field ∷ []) [] rest
    else if c == 10 then (fields ++ field ∷ [], rest) else line_from separator fields (field ++ c ∷ []) rest

-- the records of the lines that are left
abbrev pub lines_left : Lines → List (List (List ℕ))
lines_left lines = records (config_of lines.separator lines.quote) lines.rest.now

-- the records that a source has left
abbrev pub left_in : Source → List (List (List ℕ))
left_in (source.Any reader) = unread (λ rest. Some rest.now) reader
left_in (source.Plain lines) = lines_left lines

-- the invariant of a source between two reads
abbrev pub IsOpen : Source → Type 0
IsOpen (source.Any reader) = Reads reader
IsOpen (source.Plain lines) = IsPlain lines.separator lines.quote lines.rest.now

-- the bytes of pieces of a text
abbrev pub says : List (Bor (List ℕ)) → List (List ℕ)
says pieces = map (λ piece. piece.now) pieces

-- the fields of a record: the pieces of a line, or what was copied
abbrev pub fields_in : Bool → List (Bor (List ℕ)) → Row → List (List ℕ)
fields_in is_line pieces copies = if is_line then says pieces else fields_of copies

-- the bytes of an id: those of a borrowed piece, or its own copy
abbrev pub id_bytes : Option (Bor (List ℕ)) → List ℕ → List ℕ
id_bytes (Some piece) own = piece.now
id_bytes None own = own
