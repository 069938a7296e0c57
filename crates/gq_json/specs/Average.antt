-- Average: the text of an average, which is a sum divided by a count.
--
-- There are at most six digits after the decimal point. Further digits are truncated, towards zero. Trailing zeros are
-- removed, and so is a point without digits. The code takes the digits from a buffer on the stack, and scans back over
-- the zeros.
use Rattle.std.specs.Prelude.{ℕ, ◌+◌, ◌*◌, ◌/◌, ◌%◌, ℤ, pos, List, [], ◌∷◌, ◌++◌, drop, Bool, ◌&&◌, ◌||◌, ◌==◌, nat_lt, int_lt, unsigned_abs, if◌then◌else◌}
use Rattle.std.specs.Fmt.{decimal}
use Rattle.gq_value.specs.declared.value.Fraction.{Fraction}

-- a number below a million as six digits: the digits of a million plus that number, without the first
abbrev pub six_digits : ℕ → List ℕ
six_digits n = drop 1 (decimal (1000000 + n))

-- a digit before others; omitted if it is a zero and nothing follows
abbrev pub digit_before : ℕ → List ℕ → List ℕ
digit_before d [] = if d == 48 then [] else d ∷ []
digit_before d (e ∷ es) = d ∷ e ∷ es

-- digits without trailing zeros
abbrev pub trimmed : List ℕ → List ℕ
trimmed [] = []
trimmed (d ∷ ds) = digit_before d (trimmed ds)

-- the point and the digits of a number of millionths; empty for 0
abbrev pub decimals : ℕ → List ℕ
decimals millionths = if millionths == 0 then [] else 46 ∷ trimmed (six_digits millionths)

-- the minus sign of a number below 0, if one of its digits isn't a zero
abbrev pub sign : ℤ → Bool → List ℕ
sign number some_digit = if int_lt number (pos 0) && some_digit then 45 ∷ [] else []

-- a sum divided by a count: the quotient, and the millionths of the remainder
abbrev pub quotient_text : ℤ → ℕ → List ℕ
quotient_text sum count =
    let whole = unsigned_abs sum / count in
    let millionths = unsigned_abs sum % count * 1000000 / count in
    sign sum (nat_lt 0 whole || nat_lt 0 millionths) ++ (decimal whole ++ decimals millionths)

-- the text of an average; for a count of 0, which doesn't occur, it is 0
unfoldable pub fraction_text : Fraction → List ℕ
fraction_text f = if f.count == 0 then 48 ∷ [] else quotient_text f.sum f.count
