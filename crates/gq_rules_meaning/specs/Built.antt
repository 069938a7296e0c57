-- Built: printed values, as the values of gq_json, by their constructors.
use Rattle.std.specs.Prelude.{◌≡◌, List, [], ◌∷◌, map}
use Rattle.gq_json.specs.declared.out.Out as json
use Rattle.gq_json.specs.declared.out.Out.TheVariants as out
use Rattle.gq_json.specs.Json.{line_text}
use Rattle.gq_rules_typing.specs.Statements.{Bytes}
use Rattle.gq_rules_meaning.specs.Outs.{Out, OutInt, OutUInt, OutBool, OutText, OutFraction, OutList, OutObject, Outs, no_out, out_and, Members, no_member, member_and}
use Rattle.gq_rules_meaning.specs.Lines.{fraction_of, query_line}

abbrev mutual
  pub built : Out → json.Out
  built (OutInt x) = out.Int x
  built (OutUInt n) = out.UInt n
  built (OutBool b) = out.Bool b
  built (OutText s) = out.Text s
  built (OutFraction s n) = out.Fraction (fraction_of s n)
  built (OutList os) = out.List (built_list os)
  built (OutObject ms) = out.Object (built_members ms)

  pub built_list : Outs → List json.Out
  built_list no_out = []
  built_list (out_and o rest) = built o ∷ built_list rest

  pub built_members : Members → List (Bytes × json.Out)
  built_members no_member = []
  built_members (member_and name o rest) = (name, built o) ∷ built_members rest

-- the output of one PRINT
abbrev pub built_print : List (Bytes × Out) → List (Bytes × json.Out)
built_print ms = map (λ m. (m.0, built m.1)) ms

-- the line of the output is that of gq_json
abbrev pub LineLaw : Type 0
LineLaw = (objects : List (List (Bytes × Out))) → line_text (map built_print objects) ≡ query_line objects
