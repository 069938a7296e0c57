-- The text of a printed value, one equation for each variant.
use Rattle.std.proofs.Common.{◌≡◌, ℕ, ℤ, Bool, List, map, sym, ap, ◌∙◌}
use Rattle.std.specs.Fmt.{decimal, signed_decimal}
use Rattle.gq_value.specs.declared.value.Fraction.{Fraction}
use Rattle.gq_json.specs.declared.out.Out.{Out, Out-F, fold-roll-Out}
use Rattle.gq_json.specs.declared.out.Out.TheVariants as out
use Rattle.gq_json.specs.Average.{fraction_text}
use Rattle.gq_json.specs.Json.{quoted, bool_text, list_text, text_of_parts, out_text, printed_text}

pub text-Int : (z : ℤ) → out_text (out.Int z) ≡ signed_decimal z
unfolding out_text
text-Int z = ap out_text (sym (out.rolls-Int z)) ∙ fold-roll-Out (List ℕ) text_of_parts (Out-F.Int z)

pub text-UInt : (n : ℕ) → out_text (out.UInt n) ≡ decimal n
unfolding out_text
text-UInt n = ap out_text (sym (out.rolls-UInt n)) ∙ fold-roll-Out (List ℕ) text_of_parts (Out-F.UInt n)

pub text-Bool : (b : Bool) → out_text (out.Bool b) ≡ bool_text b
unfolding out_text
text-Bool b = ap out_text (sym (out.rolls-Bool b)) ∙ fold-roll-Out (List ℕ) text_of_parts (Out-F.Bool b)

pub text-Text : (text : List ℕ) → out_text (out.Text text) ≡ quoted text
unfolding out_text
text-Text text = ap out_text (sym (out.rolls-Text text)) ∙ fold-roll-Out (List ℕ) text_of_parts (Out-F.Text text)

pub text-Fraction : (f : Fraction) → out_text (out.Fraction f) ≡ fraction_text f
unfolding out_text
text-Fraction f = ap out_text (sym (out.rolls-Fraction f)) ∙ fold-roll-Out (List ℕ) text_of_parts (Out-F.Fraction f)

pub text-List : (values : List Out) → out_text (out.List values) ≡ list_text (map out_text values)
unfolding out_text
text-List values = ap out_text (sym (out.rolls-List values)) ∙ fold-roll-Out (List ℕ) text_of_parts (Out-F.List values)

pub text-Object : (members : List (List ℕ × Out)) → out_text (out.Object members) ≡ printed_text members
unfolding out_text
text-Object members = ap out_text (sym (out.rolls-Object members)) ∙ fold-roll-Out (List ℕ) text_of_parts (Out-F.Object members)

pub ruleset out_laws = (text-Int, text-UInt, text-Bool, text-Text, text-Fraction, text-List, text-Object)
