-- LineLaws: the text of what is printed is gq_json's.
use Rattle.std.proofs.Common.{◌≡◌, List, [], ◌∷◌, ◌++◌, map, refl, ap, ap₂, ◌∙◌}
use Rattle.std.specs.Prelude.{codes}
use Rattle.gq_json.specs.Json.{out_text, list_text, object_text, with_text, printed_text, listed, line_text}
use Rattle.gq_json.proofs.OutLemmas.{text-Int, text-UInt, text-Bool, text-Text, text-Fraction, text-List, text-Object}
use Rattle.gq_rules_typing.specs.Statements.{Bytes}
use Rattle.gq_rules_meaning.specs.Outs.{Out, OutInt, OutUInt, OutBool, OutText, OutFraction, OutList, OutObject, Outs, no_out, out_and, Members, no_member, member_and}
use Rattle.gq_rules_meaning.specs.Lines.{fraction_of, text_of, texts_of, member_texts, print_text}
use Rattle.gq_rules_meaning.specs.Built.{built, built_list, built_members, built_print, LineLaw}

mutual
  pub text_built : (o : Out) → out_text (built o) ≡ text_of o
  text_built (OutInt x) = text-Int x
  text_built (OutUInt n) = text-UInt n
  text_built (OutBool b) = text-Bool b
  text_built (OutText s) = text-Text s
  text_built (OutFraction s n) = text-Fraction (fraction_of s n)
  text_built (OutList os) = text-List (built_list os) ∙ ap list_text (texts_built os)
  text_built (OutObject ms) = text-Object (built_members ms) ∙ ap object_text (members_built ms)

  texts_built : (os : Outs) → map out_text (built_list os) ≡ texts_of os
  texts_built no_out = refl
  texts_built (out_and o rest) = ap₂ (λ t ts. t ∷ ts) (text_built o) (texts_built rest)

  members_built : (ms : Members) → map with_text (built_members ms) ≡ member_texts ms
  members_built no_member = refl
  members_built (member_and name o rest) = ap₂ (λ t ts. (name, t) ∷ ts) (text_built o) (members_built rest)

one_print : (ms : List (Bytes × Out)) → map with_text (built_print ms) ≡ map (λ m. (m.0, text_of m.1)) ms
one_print [] = refl
one_print (m ∷ ms) = ap₂ (λ t ts. (m.0, t) ∷ ts) (text_built m.1) (one_print ms)

all_prints : (objects : List (List (Bytes × Out))) → map printed_text (map built_print objects) ≡ map print_text objects
all_prints [] = refl
all_prints (ms ∷ rest) = ap₂ (λ t ts. t ∷ ts) (ap object_text (one_print ms)) (all_prints rest)

pub line_law : LineLaw
unfolding line_text
line_law objects = ap (λ texts. codes "{\"error\":false,\"message\":\"\",\"results\":[" ++ (listed texts ++ codes "]}\n")) (all_prints objects)
