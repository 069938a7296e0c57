-- Texts without blanks: trimming leaves digits unchanged.
use Rattle.std.proofs.Common.{◌≡◌, ℕ, ◌≤◌, List, [], ◌∷◌, ◌++◌, reverse, false, refl, ap, ◌∙◌, arith}
use Rattle.std.specs.Str.Parse.{AllDigits}
use Rattle.std.proofs.lemmas.List.{reverse-append, reverse-reverse}
use Rattle.std.proofs.lemmas.Str.Parse.{digit_from_value}
use Rattle.std.proofs.lemmas.Bool.Decides.{nat_tests}
use Rattle.gq_time.specs.Reading.{is_blank, without_first_blanks, trimmed}
use Rattle.gq_load_csv.specs.Digits.{IsShort}

abbrev HasNoBlank : List ℕ → Type 0
HasNoBlank [] = Unit {0}
HasNoBlank (c ∷ text) = (is_blank c ≡ false) × HasNoBlank text

both_parts : (a b : List ℕ) → HasNoBlank a → HasNoBlank b → HasNoBlank (a ++ b)
both_parts [] b none others = others
both_parts (c ∷ a) b none others = (none.0, both_parts a b none.1 others)

from_back : (text : List ℕ) → HasNoBlank text → HasNoBlank (reverse text)
from_back [] none = tt
from_back (c ∷ text) none = rw (reverse-append (c ∷ []) text) (both_parts (reverse text) (c ∷ []) (from_back text none.1) (none.0, tt))

no_first_blank : (text : List ℕ) → HasNoBlank text → without_first_blanks text ≡ text
no_first_blank [] none = refl
no_first_blank (c ∷ text) none = rw none.0 refl

trimmed_whole : (text : List ℕ) → HasNoBlank text → trimmed text ≡ text
trimmed_whole text none =
    ap (λ (t : List ℕ). reverse (without_first_blanks (reverse t))) (no_first_blank text none)
    ∙ ap (λ (t : List ℕ). reverse t) (no_first_blank (reverse text) (from_back text none)) ∙ reverse-reverse text

digit_is_no_blank : (c : ℕ) → 48 ≤ c → is_blank c ≡ false
digit_is_no_blank c low = grind (arith, nat_tests)

no_blank : (text : List ℕ) → AllDigits 10 text → HasNoBlank text
no_blank [] digits = tt
no_blank (c ∷ text) digits = (digit_is_no_blank c (omega (arith, (digit_from_value c digits.0).0)), no_blank text digits.1)

pub trimmed_short : (text : List ℕ) (n : ℕ) → IsShort text n → trimmed text ≡ text
trimmed_short text n is = trimmed_whole text (no_blank text is.numeral.1)
