-- DigitLemmas: the number that a prefix of some digits writes.
use Rattle.std.proofs.Common.{◌≡◌, ℕ, zero, suc, ◌+◌, ◌-◌, ◌*◌, ◌<◌, ◌≤◌, List, [], ◌∷◌, length, take, get_or, fold, arith}
use Rattle.std.proofs.lemmas.List.Sums.{fold_more}
use Rattle.gq_token.specs.Bytes.{number_of}

-- the number with this digit appended
abbrev with_digit : ℕ → ℕ → ℕ
with_digit n digit = 10 * n + (digit - 48)

-- appending digits doesn't make a number smaller
number-le-more : (n : ℕ) (digits : List ℕ) → n ≤ fold with_digit n digits
number-le-more n [] = omega arith
number-le-more n (d ∷ ds) = omega (arith, number-le-more (with_digit n d) ds)

-- appending more digits doesn't make it smaller
fold-take-le : (n i : ℕ) (digits : List ℕ) → fold with_digit n (take i digits) ≤ fold with_digit n digits
fold-take-le n zero digits = number-le-more n digits
fold-take-le n (suc i) [] = omega arith
fold-take-le n (suc i) (d ∷ ds) = fold-take-le (with_digit n d) i ds

-- a prefix of the digits doesn't write a larger number than all of them
pub number_of-take-le : (i : ℕ) (digits : List ℕ) → number_of (take i digits) ≤ number_of digits
number_of-take-le i digits = fold-take-le 0 i digits

-- one more digit
pub number_of_more : (digits : List ℕ) (i : ℕ) → i < length digits → number_of (take (i + 1) digits) ≡ 10 * number_of (take i digits) + (get_or digits i 0 - 48)
number_of_more digits i below = fold_more with_digit 0 digits i 0 below
