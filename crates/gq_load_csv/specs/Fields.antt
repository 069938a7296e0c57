-- Fields: the value of an attribute or the id that the bytes of a field give. None means that the field can't be read.
use Rattle.std.specs.Prelude.{◌≡◌, ℕ, ℤ, pos, Bool, true, false, ◌==◌, ◌&&◌, nat_lt, if◌then◌else◌, List, [], length, Option, Some, None, unwrap_or}
use Rattle.std.specs.Option.{option_map}
use Rattle.std.specs.Str.{is_utf8}
use Rattle.std.specs.Fmt.{decimal, signed_decimal}
use Rattle.gq_graph.specs.declared.types.Attribute.{Attribute}
use Rattle.gq_graph.specs.declared.types.IdKind.{IdKind}
use Rattle.gq_graph.specs.declared.types.IdKind.TheVariants as id
use Rattle.gq_value.specs.declared.value.Value.{Value}
use Rattle.gq_value.specs.declared.value.Value.TheVariants as value
use Rattle.gq_graph.specs.Defaults.{Sort, INT, UINT, BOOL, STRING, DATETIME, OTHER, sort_of}
use Rattle.gq_time.specs.Reading.{Reads, trimmed}
use Rattle.gq_load_csv.specs.Texts.{int_in, uint_in, truth_in}

-- a function reads each text as the seconds of the DATETIME that it shows, and reads no other texts
abbrev pub TellsTimes : (List ℕ → Option ℤ) → Type 0
TellsTimes read = (text : List ℕ) (seconds : ℤ)
    → (read text ≡ Some seconds → Reads text seconds) × (Reads text seconds → read text ≡ Some seconds)

-- the default values of the types: 0, false, the empty text, second 0
abbrev pub zero_of : Sort → Value
zero_of INT = value.Int (pos 0)
zero_of UINT = value.UInt 0
zero_of BOOL = value.Bool false
zero_of STRING = value.Text []
zero_of DATETIME = value.Int (pos 0)
zero_of OTHER = value.Int (pos 0)

-- an attribute's default
abbrev pub default_of : Attribute → Value
default_of attribute = unwrap_or attribute.default (zero_of (sort_of attribute.kind))

-- whether a field is only blanks and tabs
abbrev pub is_blank : List ℕ → Bool
is_blank field = length (trimmed field) == 0

-- a text
abbrev pub text_value : List ℕ → Option Value
text_value field = if is_utf8 field then Some (value.Text field) else None

-- a time
abbrev pub time_value : (List ℕ → Option ℤ) → List ℕ → Option Value
time_value read field = if is_utf8 field then option_map value.Int (read field) else None

-- a field as a value of a type. Blanks and tabs around a number, a truth value or a time are dropped; a text keeps them
abbrev pub value_in : (List ℕ → Option ℤ) → Sort → List ℕ → Option Value
value_in read INT field = option_map value.Int (int_in (trimmed field))
value_in read UINT field = option_map value.UInt (uint_in (trimmed field))
value_in read BOOL field = option_map value.Bool (truth_in (trimmed field))
value_in read STRING field = text_value field
value_in read DATETIME field = time_value read field
value_in read OTHER field = None

-- whether a blank field gives the attribute's default. A text is kept unchanged
abbrev pub may_be_blank : Sort → Bool
may_be_blank STRING = false
may_be_blank OTHER = false
may_be_blank _ = true

-- the value of an attribute that isn't a discriminator
abbrev pub field_value : (List ℕ → Option ℤ) → Attribute → List ℕ → Option Value
field_value read attribute field =
    if may_be_blank (sort_of attribute.kind) && is_blank field then Some (default_of attribute)
    else value_in read (sort_of attribute.kind) field

-- the value of a discriminator, which can't be empty
abbrev pub key_value : (List ℕ → Option ℤ) → Attribute → List ℕ → Option Value
key_value read attribute field = if length field == 0 then None else value_in read (sort_of attribute.kind) field

-- an id in stored form: a text that isn't empty, or the shortest text of a number
abbrev pub id_in : IdKind → List ℕ → Option (List ℕ)
id_in id.Text field = if nat_lt 0 (length field) && is_utf8 field then Some field else None
id_in id.Int field = option_map signed_decimal (int_in (trimmed field))
id_in id.UInt field = option_map decimal (uint_in (trimmed field))
