-- Lines: the text of the output, by the definitions of gq_json.
use Rattle.std.specs.Prelude.{ℕ, ℤ, List, [], ◌∷◌, ◌++◌, map, codes}
use Rattle.std.specs.Fmt.{decimal, signed_decimal}
use Rattle.gq_value.specs.declared.value.Fraction as fraction
use Rattle.gq_json.specs.Average.{fraction_text}
use Rattle.gq_json.specs.Json.{quoted, bool_text, list_text, object_text, listed}
use Rattle.gq_rules_typing.specs.Statements.{Bytes}
use Rattle.gq_rules_meaning.specs.Outs.{Out, OutInt, OutUInt, OutBool, OutText, OutFraction, OutList, OutObject, Outs, no_out, out_and, Members, no_member, member_and}

abbrev pub fraction_of : ℤ → ℕ → fraction.Fraction
fraction_of s n = record { sum = s; count = n }

abbrev mutual
  pub text_of : Out → Bytes
  text_of (OutInt x) = signed_decimal x
  text_of (OutUInt n) = decimal n
  text_of (OutBool b) = bool_text b
  text_of (OutText s) = quoted s
  text_of (OutFraction s n) = fraction_text (fraction_of s n)
  text_of (OutList os) = list_text (texts_of os)
  text_of (OutObject ms) = object_text (member_texts ms)

  pub texts_of : Outs → List Bytes
  texts_of no_out = []
  texts_of (out_and o rest) = text_of o ∷ texts_of rest

  pub member_texts : Members → List (Bytes × Bytes)
  member_texts no_member = []
  member_texts (member_and name o rest) = (name, text_of o) ∷ member_texts rest

-- the output of one PRINT
abbrev pub print_text : List (Bytes × Out) → Bytes
print_text ms = object_text (map (λ m. (m.0, text_of m.1)) ms)

-- the line of a query that printed these objects
abbrev pub query_line : List (List (Bytes × Out)) → Bytes
query_line objects = codes "{\"error\":false,\"message\":\"\",\"results\":[" ++ (listed (map print_text objects) ++ codes "]}\n")
