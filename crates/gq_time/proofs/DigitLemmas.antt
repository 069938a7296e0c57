-- The digits of a number: their count, their bytes, that they determine the number, and that they are ordered like it.
use Rattle.std.proofs.Common.{◌≡◌, ℕ, zero, suc, ◌+◌, ◌-◌, ◌*◌, ◌/◌, ◌%◌, ◌^◌, ◌<◌, ◌≤◌, List, [], ◌∷◌, ◌++◌, length, get_or, take, refl, sym, ap, ◌∙◌, arith, inl, inr}
use Rattle.std.proofs.Math.Nat.{pow-succ', pow-le-pow_right}
use Rattle.std.proofs.lemmas.List.{same_from_push, take_more, length_push, get_or_push, get_or_append_left}
use Rattle.std.proofs.lemmas.Bool.{cases_lt}
use Rattle.gq_time.specs.Texts.{digits}

pub digits-zero : (k : ℕ) → digits 0 k ≡ []
unfolding digits
digits-zero k = refl

-- one digit more
pub digits_more : (n k : ℕ) → digits (n + 1) k ≡ digits n (k / 10) ++ (48 + k % 10) ∷ []
unfolding digits
digits_more n k = let is : n + 1 ≡ suc n = omega arith in rw is refl

-- the number with one digit more
pub digits_push : (n k d : ℕ) → d < 10 → digits (n + 1) (k * 10 + d) ≡ digits n k ++ (48 + d) ∷ []
digits_push n k d h =
    let front : (k * 10 + d) / 10 ≡ k = omega arith in
    let last : (k * 10 + d) % 10 ≡ d = omega arith in
    digits_more n (k * 10 + d) ∙ rw (front, last) refl

pub length-digits : (n k : ℕ) → length (digits n k) ≡ n
unfolding digits
length-digits zero k = refl
length-digits (suc n) k = length_push (digits n (k / 10)) (48 + k % 10) ∙ omega (arith, length-digits n (k / 10))

-- each of them is a digit
pub digits_byte : (n k i : ℕ) → i < n → (48 ≤ get_or (digits n k) i 0) × (get_or (digits n k) i 0 ≤ 57)
unfolding digits
digits_byte zero k i h = absurd (omega arith)
digits_byte (suc n) k i h =
    elim (cases_lt i n) [
      | inl lt ↦ rw (get_or_append_left (digits n (k / 10)) ((48 + k % 10) ∷ []) 0 i (omega (arith, length-digits n (k / 10)))) (digits_byte n (k / 10) i lt)
      | inr ge ↦ rw (get_or_push (digits n (k / 10)) (48 + k % 10) 0 i (omega (arith, length-digits n (k / 10)))) (omega arith, omega arith)
    ]

-- a power of ten
pub power_more : (n : ℕ) → 10 ^ (n + 1) ≡ 10 * 10 ^ n
power_more n = let is : n + 1 ≡ suc n = omega arith in rw is (pow-succ' 10 n)

-- the digits determine the number
pub digits_injective : (n a b : ℕ) → a < 10 ^ n → b < 10 ^ n → digits n a ≡ digits n b → a ≡ b
unfolding digits
digits_injective zero a b h k e = omega arith
digits_injective (suc n) a b h k e =
    let parts = same_from_push (digits n (a / 10)) (digits n (b / 10)) (48 + a % 10) (48 + b % 10) e in
    let more : 10 ^ suc n ≡ 10 * 10 ^ n = pow-succ' 10 n in
    let front = digits_injective n (a / 10) (b / 10) (omega arith) (omega arith) parts.0 in
    omega arith

-- a digit more of a text
pub digits_step : (text : List ℕ) (i n d : ℕ) → i < length text → take i text ≡ digits i n → 48 ≤ get_or text i 0 → get_or text i 0 ≤ 57 → d ≡ get_or text i 0 - 48 → take (i + 1) text ≡ digits (i + 1) (n * 10 + d)
digits_step text i n d below so_far low high is =
    let byte : get_or text i 0 ≡ 48 + d = omega arith in
    take_more text i 0 below ∙ ap (λ l. l ++ get_or text i 0 ∷ []) so_far ∙ ap (λ b. digits i n ++ b ∷ []) byte ∙ sym (digits_push i n d (omega arith))

-- twelve digits write a number below a million millions
pub few_digits : (i n : ℕ) → i ≤ 12 → n < 10 ^ i → n < 1_000_000_000_000
few_digits i n few fits = let le : 10 ^ i ≤ 10 ^ 12 = pow-le-pow_right (omega arith) few in omega arith

-- the next digit leaves room
pub digit_fits : (i n d : ℕ) → n < 10 ^ i → d ≤ 9 → n * 10 + d < 10 ^ (i + 1)
digit_fits i n d fits h = omega (arith, power_more i)

-- two digits
pub two_digits : (n : ℕ) → n < 100 → digits 2 n ≡ (48 + n / 10) ∷ (48 + n % 10) ∷ []
unfolding digits
two_digits n small = let ten : n / 10 % 10 ≡ n / 10 = omega arith in rw ten refl

-- four digits are two and two
pub four_digits : (n : ℕ) → digits 4 n ≡ digits 2 (n / 100) ++ digits 2 (n % 100)
unfolding digits
four_digits n =
    let a : n / 10 / 10 / 10 % 10 ≡ n / 100 / 10 % 10 = omega arith in
    let b : n / 10 / 10 % 10 ≡ n / 100 % 10 = omega arith in
    let c : n / 10 % 10 ≡ n % 100 / 10 % 10 = omega arith in
    let d : n % 10 ≡ n % 100 % 10 = omega arith in
    rw (a, b, c, d) refl
