-- Json: the text of the lines that a run prints. It is compact, without blanks between its parts.
-- The specification concatenates the texts of a value's parts. The code appends to one buffer, from the front on.
use Rattle.std.specs.Prelude.{ℕ, ◌/◌, ◌%◌, ◌+◌, List, [], ◌∷◌, ◌++◌, map, codes, ◌==◌, nat_lt, Bool, if◌then◌else◌}
use Rattle.std.specs.List.{flat_map, join_with_byte}
use Rattle.std.specs.Fmt.{decimal, signed_decimal}
use Rattle.gq_json.specs.declared.out.Out.{Out, Out-F, fold-Out}
use Rattle.gq_json.specs.Average.{fraction_text}

-- a hexadecimal digit in lower case
abbrev pub hex_digit : ℕ → ℕ
hex_digit n = if nat_lt n 10 then 48 + n else 87 + n

-- a byte within quotes: a quote and a backslash get a backslash before them, and the bytes below 32 are written as an
-- escape of two characters, or as `\u00` and two digits
abbrev pub escaped : ℕ → List ℕ
escaped b =
    if b == 34 then codes "\\\""
    else (if b == 92 then codes "\\\\"
    else (if b == 8 then codes "\\b"
    else (if b == 9 then codes "\\t"
    else (if b == 10 then codes "\\n"
    else (if b == 12 then codes "\\f"
    else (if b == 13 then codes "\\r"
    else (if nat_lt b 32 then codes "\\u00" ++ hex_digit (b / 16) ∷ hex_digit (b % 16) ∷ []
    else b ∷ [])))))))

-- a text in quotes
abbrev pub quoted : List ℕ → List ℕ
quoted text = 34 ∷ flat_map escaped text ++ 34 ∷ []

-- texts separated by commas
abbrev pub listed : List (List ℕ) → List ℕ
listed texts = join_with_byte 44 texts

-- what is written before the item at a place: a comma, but nothing before the first
abbrev pub comma_before : ℕ → List ℕ
comma_before place = if place == 0 then [] else 44 ∷ []

-- a truth value
abbrev pub bool_text : Bool → List ℕ
bool_text b = if b then codes "true" else codes "false"

-- a list, from the texts of its values
abbrev pub list_text : List (List ℕ) → List ℕ
list_text values = 91 ∷ listed values ++ 93 ∷ []

-- a member, from its name and the text of its value
abbrev pub member_text : List ℕ × List ℕ → List ℕ
member_text member = quoted member.0 ++ 58 ∷ member.1

-- an object, from its names and the texts of their values, in order
abbrev pub object_text : List (List ℕ × List ℕ) → List ℕ
object_text members = 123 ∷ listed (map member_text members) ++ 125 ∷ []

-- a printed value, from the texts of its parts
abbrev pub text_of_parts : Out-F (List ℕ) → List ℕ
text_of_parts (Out-F.Int z) = signed_decimal z
text_of_parts (Out-F.UInt n) = decimal n
text_of_parts (Out-F.Bool b) = bool_text b
text_of_parts (Out-F.Text text) = quoted text
text_of_parts (Out-F.Fraction fraction) = fraction_text fraction
text_of_parts (Out-F.List values) = list_text values
text_of_parts (Out-F.Object members) = object_text members

-- a printed value of any depth
unfoldable pub out_text : Out → List ℕ
out_text = fold-Out (List ℕ) text_of_parts

-- a name with the text of its value
abbrev pub with_text : List ℕ × Out → List ℕ × List ℕ
with_text member = (member.0, out_text member.1)

-- the object that one PRINT printed
abbrev pub printed_text : List (List ℕ × Out) → List ℕ
printed_text members = object_text (map with_text members)

-- the line of a query that printed these objects
unfoldable pub line_text : List (List (List ℕ × Out)) → List ℕ
line_text objects = codes "{\"error\":false,\"message\":\"\",\"results\":[" ++ (listed (map printed_text objects) ++ codes "]}\n")

-- the line of a refusal
unfoldable pub error_text : List ℕ → List ℕ
error_text message = codes "{\"error\":true,\"message\":" ++ (quoted message ++ codes "}\n")
