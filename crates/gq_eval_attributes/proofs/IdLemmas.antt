-- IdLemmas: a number digit by digit, and the number of an id in stored form.
use Rattle.std.proofs.Common.{◌≡◌, ℕ, zero, suc, ◌+◌, ◌*◌, ◌-◌, ◌<◌, ◌≤◌, ◌^◌, ◌==◌, Bool, true, false, ℤ, pos, negsuc, neg_ℤ, List, [], ◌∷◌, drop, length, get_or, refl, sym, ap, subst, ◌∙◌, arith, w64, FitsSigned}
use Rattle.std.specs.Prelude.{if◌then◌else◌}
use Rattle.std.specs.Fmt.{decimal, signed_decimal}
use Rattle.std.specs.Str.Parse.{AllDigits, digits_value_after}
use Rattle.std.specs.Char.{digit_value}
use Rattle.std.proofs.lemmas.Bool.Decides.{nat_tests}
use Rattle.std.proofs.lemmas.Fmt.{decimal_is_IsNumeral}
use Rattle.std.proofs.lemmas.List.{drop_more, drop_all}
use Rattle.std.proofs.lemmas.Str.{digit_value_digit}
use Rattle.std.proofs.lemmas.Str.Parse.{digit_from_value}
use Rattle.gq_value.specs.declared.kind.Number.TheVariants as number
use Rattle.gq_value.specs.Arithmetic.{is_within}
use Rattle.gq_graph.specs.declared.types.IdKind.{IdKind}
use Rattle.gq_graph.specs.declared.types.IdKind.TheVariants as id
use Rattle.gq_index.specs.Rows.{IsId}
use Rattle.gq_rules_meaning.specs.Graphs.{number_in, integer_in}

-- ---- digit by digit

digits_on : (ds : List ℕ) (i n m d e : ℕ) → number_in ds 0 ≡ number_in (drop i ds) n → i < length ds → d ≡ get_or ds i e → m ≡ 10 * n + (d - 48) → number_in ds 0 ≡ number_in (drop (i + 1) ds) m
digits_on ds i n m d e inv l is more = inv ∙ ap (λ xs. number_in xs n) (drop_more ds i e l) ∙ ap (λ x. number_in (drop (i + 1) ds) (10 * n + (x - 48))) (sym is) ∙ ap (number_in (drop (i + 1) ds)) (sym more)

pub digits_more : (ds : List ℕ) (i n m d e : ℕ) → number_in ds 0 ≡ number_in (drop i ds) n → i < length ds → d ≡ get_or ds i e → m ≡ 10 * n + (d - 48) → number_in ds 0 ≡ number_in (drop (i + 1) ds) m
digits_more ds i n m d e inv l is more = digits_on ds i n m d e inv l is more

pub digits_all : (ds : List ℕ) (i n : ℕ) → number_in ds 0 ≡ number_in (drop i ds) n → length ds ≤ i → number_in ds 0 ≡ n
digits_all ds i n inv l = inv ∙ ap (λ xs. number_in xs n) (drop_all i ds l)

-- more digits make no number less
number_up : (ds : List ℕ) (n : ℕ) → n ≤ number_in ds n
number_up [] n = omega arith
number_up (c ∷ cs) n = omega (arith, number_up cs (10 * n + (c - 48)))

pub digits_past : (ds : List ℕ) (i n d e : ℕ) → number_in ds 0 ≡ number_in (drop i ds) n → i < length ds → d ≡ get_or ds i e → 2 ^ 64 ≤ 10 * n + (d - 48) → 2 ^ 64 ≤ number_in ds 0
digits_past ds i n d e inv l is past =
    omega (arith, past, number_up (drop (i + 1) ds) (10 * n + (d - 48)), digits_on ds i n (10 * n + (d - 48)) d e inv l is refl)

pub ruleset digit_laws = (digits_more, digits_all, digits_past)

-- ---- with a sign

minus_is : (c : ℕ) (cs : List ℕ) → c ≡ 45 → integer_in (c ∷ cs) ≡ neg_ℤ (pos (number_in cs 0))
minus_is c cs e = ap (λ (c : ℕ). if c == 45 then neg_ℤ (pos (number_in cs 0)) else pos (number_in (c ∷ cs) 0)) e

differs : (c : ℕ) (b : Bool) → (c == 45) ≡ b → (c ≡ 45 → ⊥) → (c == 45) ≡ false
differs c false e h = e
differs c true e h = absurd (h (grind (arith, e)))

plain_is : (c : ℕ) (cs : List ℕ) → (c ≡ 45 → ⊥) → integer_in (c ∷ cs) ≡ pos (number_in (c ∷ cs) 0)
plain_is c cs e = ap (λ b. if b then neg_ℤ (pos (number_in cs 0)) else pos (number_in (c ∷ cs) 0)) (differs c (c == 45) refl e)

pub below_0 : (text : List ℕ) (n : ℕ) (x : ℤ) → 1 ≤ length text → get_or text 0 0 ≡ 45 → number_in (drop 1 text) 0 ≡ n → x ≡ neg_ℤ (pos n) → integer_in text ≡ x
below_0 [] n x l e h i = absurd (omega (arith, l))
below_0 (c ∷ cs) n x l e h i = minus_is c cs e ∙ ap (λ m. neg_ℤ (pos m)) h ∙ sym i

pub from_0 : (text : List ℕ) (n : ℕ) (x : ℤ) → 1 ≤ length text → (get_or text 0 0 ≡ 45 → ⊥) → number_in text 0 ≡ n → x ≡ pos n → integer_in text ≡ x
from_0 [] n x l e h i = absurd (omega (arith, l))
from_0 (c ∷ cs) n x l e h i = plain_is c cs e ∙ ap pos h ∙ sym i

wide_below : (n : ℕ) → 2 ^ 64 ≤ n → FitsSigned w64 (neg_ℤ (pos n)) → ⊥
wide_below zero past fits = omega (arith, past)
wide_below (suc n) past fits = let k : n < 2 ^ 63 = fits.sfits in omega (arith, past, k)

wide_above : (n : ℕ) → 2 ^ 64 ≤ n → FitsSigned w64 (pos n) → ⊥
wide_above n past fits = let k : n < 2 ^ 63 = fits.sfits in omega (arith, past, k)

pub past_below : (text : List ℕ) → 1 ≤ length text → get_or text 0 0 ≡ 45 → 2 ^ 64 ≤ number_in (drop 1 text) 0 → FitsSigned w64 (integer_in text) → ⊥
past_below [] l e past fits = absurd (omega (arith, l))
past_below (c ∷ cs) l e past fits = wide_below (number_in cs 0) past (subst (FitsSigned w64) (minus_is c cs e) fits)

pub past_above : (text : List ℕ) → 1 ≤ length text → (get_or text 0 0 ≡ 45 → ⊥) → 2 ^ 64 ≤ number_in text 0 → FitsSigned w64 (integer_in text) → ⊥
past_above [] l e past fits = absurd (omega (arith, l))
past_above (c ∷ cs) l e past fits = wide_above (number_in (c ∷ cs) 0) past (subst (FitsSigned w64) (plain_is c cs e) fits)

pub least_below : (text : List ℕ) (n : ℕ) → 1 ≤ length text → get_or text 0 0 ≡ 45 → number_in (drop 1 text) 0 ≡ n → (FitsSigned w64 (neg_ℤ (pos n)) → ⊥) → FitsSigned w64 (integer_in text) → ⊥
least_below text n l e h never fits = never (subst (FitsSigned w64) (below_0 text n (neg_ℤ (pos n)) l e h refl) fits)

pub most_above : (text : List ℕ) (n : ℕ) → 1 ≤ length text → (get_or text 0 0 ≡ 45 → ⊥) → number_in text 0 ≡ n → (FitsSigned w64 (pos n) → ⊥) → FitsSigned w64 (integer_in text) → ⊥
most_above text n l e h never fits = never (subst (FitsSigned w64) (from_0 text n (pos n) l e h refl) fits)

pub ruleset integer_laws = (below_0, from_0, past_below, past_above, least_below, most_above)

-- ---- ids in stored form

value_after : (ds : List ℕ) (n : ℕ) → AllDigits 10 ds → number_in ds n ≡ digits_value_after 10 n ds
value_after [] n is = refl
value_after (c ∷ cs) n is =
    let digit : digit_value c ≡ c - 48 = omega (arith, digit_value_digit c (digit_from_value c is.0)) in
    let one : 10 * n + (c - 48) ≡ n * 10 + digit_value c = omega (arith, digit) in
    value_after cs (10 * n + (c - 48)) is.1 ∙ ap (λ m. digits_value_after 10 m cs) one

number_back : (n : ℕ) → n < 2 ^ 64 → number_in (decimal n) 0 ≡ n
number_back n low = let numeral = decimal_is_IsNumeral n low in value_after (decimal n) 0 numeral.0.1 ∙ numeral.1

no_minus : (ds : List ℕ) → AllDigits 10 ds → 0 < length ds → integer_in ds ≡ pos (number_in ds 0)
no_minus [] is some = absurd (omega (arith, some))
no_minus (c ∷ cs) is some = plain_is c cs (λ e. omega (arith, e, (digit_from_value c is.0).0))

integer_back : (z : ℤ) → FitsSigned w64 z → integer_in (signed_decimal z) ≡ z
integer_back (pos n) fits =
    let k : n < 2 ^ 63 = fits.sfits in
    let low : n < 2 ^ 64 = omega (arith, k) in
    let numeral = decimal_is_IsNumeral n low in
    no_minus (decimal n) numeral.0.1 numeral.0.0 ∙ ap pos (number_back n low)
integer_back (negsuc n) fits =
    let k : n < 2 ^ 63 = fits.sfits in
    minus_is 45 (decimal (suc n)) refl ∙ ap (λ m. neg_ℤ (pos m)) (number_back (suc n) (omega (arith, k)))

int_fits : (z : ℤ) → is_within number.Int z ≡ true → FitsSigned w64 z
int_fits (pos n) h = let k : n < 2 ^ 63 = grind (arith, nat_tests) in record { sfits = k }
int_fits (negsuc n) h = let k : n < 2 ^ 63 = grind (arith, nat_tests) in record { sfits = k }

uint_low : (n : ℕ) → is_within number.UInt (pos n) ≡ true → n < 2 ^ 64
uint_low n h = grind (arith, nat_tests)

-- it is a number of its type
pub int_is_read : (kind : IdKind) (text : List ℕ) → kind ≡ id.Int → IsId kind text → (FitsSigned w64 (integer_in text) → ⊥) → ⊥
int_is_read id.Text text e is never = absurd (cc)
int_is_read id.UInt text e is never = absurd (cc)
int_is_read id.Int text e is never =
    let fits : FitsSigned w64 is.0 = int_fits is.0 is.1 in
    never (subst (FitsSigned w64) (sym (ap integer_in is.2 ∙ integer_back is.0 fits)) fits)

pub uint_is_read : (kind : IdKind) (text : List ℕ) → kind ≡ id.UInt → IsId kind text → 2 ^ 64 ≤ number_in text 0 → ⊥
uint_is_read id.Text text e is past = absurd (cc)
uint_is_read id.Int text e is past = absurd (cc)
uint_is_read id.UInt text e is past =
    let low : is.0 < 2 ^ 64 = uint_low is.0 is.1 in
    omega (arith, low, past, ap (λ t. number_in t 0) is.2 ∙ number_back is.0 low)

pub ruleset id_laws = (int_is_read, uint_is_read)
