-- Clock: a calendar that computes, for examples. Days are counted from 0000-03-01, so that a leap day ends its year.
use Rattle.std.proofs.Common.{ℕ, zero, suc, ◌+◌, ◌*◌, ◌-◌, ◌/◌, ◌%◌, min, Bool, true, false, ◌&&◌, ◌||◌, ◌==◌, if◌then◌else◌, nat_lt, nat_le, List, [], ◌∷◌, ◌++◌, take, drop, length, ℤ, pos, negsuc, ◌+ℤ◌, ◌*ℤ◌, neg_ℤ, Option, Some, None}
use Rattle.std.specs.List.{list_all}
use Rattle.gq_value.specs.Typed.{in_calendar}
use Rattle.gq_rules_typing.specs.Unit.{Unit}
use Rattle.gq_rules_typing.specs.Unit.TheVariants as unit
use Rattle.gq_rules_typing.specs.Reading.{trimmed}
use Rattle.gq_rules_typing.specs.Words.{PartOfTime, Year, Month, Day, Hour, Minute, Second}
use Rattle.gq_rules_meaning.specs.Calendars.{Calendar}

-- from the begin of year 0 to that of 1970
abbrev offset : ℕ
offset = 62167219200

-- the seconds since year 0, of a time from then on
abbrev since_0 : ℤ → ℕ
since_0 x = whole (x +ℤ pos offset)
  where
    whole : ℤ → ℕ
    whole (pos n) = n
    whole (negsuc n) = 0

-- ---- days

-- 400 years have 146,097 days; they are added so that no number gets below 0
abbrev marching : ℕ → ℕ
marching n = n / 86400 + 146037

abbrev year_of_cycle : ℕ → ℕ
year_of_cycle d = (d + d / 36524 - d / 1460 - d / 146096) / 365

abbrev day_of_year : ℕ → ℕ
day_of_year d = let y = year_of_cycle d in d + y / 100 - 365 * y - y / 4

-- months from March on
abbrev month_from_march : ℕ → ℕ
month_from_march d = (5 * day_of_year d + 2) / 153

-- year, month and day
abbrev date_of : ℕ → ℕ × ℕ × ℕ
date_of n = let d = marching n % 146097 in let m = month_from_march d in (
  year_of_cycle d + 400 * (marching n / 146097) - 400 + (if nat_lt m 10 then 0 else 1),
  if nat_lt m 10 then m + 3 else m - 9,
  day_of_year d - (153 * m + 2) / 5 + 1,
)

-- the days from 0000-01-01 to a date
abbrev days_to : ℕ → ℕ → ℕ → ℕ
days_to y m d =
    let early = nat_le m 2 in let y₁ = y + 400 - (if early then 1 else 0) in let m₁ = if early then m + 9 else m - 3 in
    y₁ * 365 + y₁ / 4 + y₁ / 400 + (153 * m₁ + 2) / 5 + d - 1 - y₁ / 100 - 146037

abbrev is_leap : ℕ → Bool
is_leap y = (y % 4 == 0) && (if y % 100 == 0 then y % 400 == 0 else true)

abbrev month_length : ℕ → ℕ → ℕ
month_length y m = if m == 2 then (if is_leap y then 29 else 28) else (if (m == 4) || ((m == 6) || ((m == 9) || (m == 11))) then 30 else 31)

-- ---- parts

abbrev part : PartOfTime → ℤ → ℤ
part Year x = pos (date_of (since_0 x)).0
part Month x = pos (date_of (since_0 x)).1
part Day x = pos (date_of (since_0 x)).2
part Hour x = pos (since_0 x / 3600 % 24)
part Minute x = pos (since_0 x / 60 % 60)
part Second x = pos (since_0 x % 60)

-- ---- writing

abbrev last_digits : ℕ → ℕ → List ℕ
last_digits zero n = []
last_digits (suc k) n = last_digits k (n / 10) ++ (48 + n % 10) ∷ []

abbrev write : ℤ → List ℕ
write x = let n = since_0 x in let d = date_of n in
    last_digits 4 d.0 ++ (45 ∷ last_digits 2 d.1 ++ (45 ∷ last_digits 2 d.2 ++ (32 ∷ last_digits 2 (n / 3600 % 24) ++ (58 ∷ last_digits 2 (n / 60 % 60) ++ (58 ∷ last_digits 2 (n % 60))))))

-- ---- reading a date, and a date with a time after a blank

abbrev number_of : List ℕ → ℕ → ℕ
number_of [] n = n
number_of (c ∷ cs) n = number_of cs (10 * n + (c - 48))

abbrev is_digit : ℕ → Bool
is_digit c = nat_le 48 c && nat_le c 57

-- the number whose `size` digits begin at a place, below a bound
abbrev digits_at : ℕ → ℕ → List ℕ → Option ℕ
digits_at at size text = let ds = take size (drop at text) in if list_all is_digit ds && (length ds == size) then Some (number_of ds 0) else None

abbrev then_number : {A : Type 0} → Option ℕ → (ℕ → Option A) → Option A
then_number None f = None
then_number (Some n) f = f n

abbrev has_mark : ℕ → ℕ → List ℕ → Bool
has_mark at mark text = first (drop at text)
  where
    first : List ℕ → Bool
    first [] = false
    first (c ∷ cs) = c == mark

abbrev if_true : {A : Type 0} → Bool → Option A → Option A
if_true true a = a
if_true false a = None

abbrev date_in : ℕ → List ℕ → Option ℕ
date_in mark text =
    if_true (has_mark 4 mark text && has_mark 7 mark text) (then_number (digits_at 0 4 text) (λ y. then_number (digits_at 5 2 text) (λ m. then_number (digits_at 8 2 text) (λ d.
    if_true (nat_le 1 m && (nat_le m 12 && (nat_le 1 d && nat_le d (month_length y m)))) (Some (days_to y m d * 86400))))))

abbrev clock_in : List ℕ → Option ℕ
clock_in text =
    if_true (has_mark 2 58 text && (has_mark 5 58 text && (length text == 8))) (then_number (digits_at 0 2 text) (λ h. then_number (digits_at 3 2 text) (λ m. then_number (digits_at 6 2 text) (λ s.
    if_true (nat_lt h 24 && (nat_lt m 60 && nat_lt s 60)) (Some (3600 * h + 60 * m + s))))))

abbrev behind_date : ℕ → List ℕ → Option ℤ
behind_date days [] = Some (neg_ℤ (pos offset) +ℤ pos days)
behind_date days (c ∷ text) = if_true (c == 32) (then_number (clock_in text) (λ s. Some (neg_ℤ (pos offset) +ℤ pos (days + s))))

abbrev either : Option ℕ → Option ℕ → Option ℕ
either (Some a) b = Some a
either None b = b

abbrev read : List ℕ → Option ℤ
read text = let said = trimmed text in then_number (either (date_in 45 said) (date_in 47 said)) (λ days. behind_date days (drop 10 said))

-- ---- adding

abbrev if_in_range : ℤ → Option ℤ
if_in_range x = if in_calendar x then Some x else None

-- a number of months from year 0 on, with a day and a time
abbrev at_month : ℤ → ℕ → ℕ → Option ℤ
at_month (negsuc m) day time = None
at_month (pos m) day time = if_true (nat_lt m 120000) (Some (neg_ℤ (pos offset) +ℤ pos (days_to (m / 12) (m % 12 + 1) (min day (month_length (m / 12) (m % 12 + 1))) * 86400 + time)))

abbrev later : ℤ → ℤ → Option ℤ
later months x = let n = since_0 x in let d = date_of n in at_month (pos (12 * d.0 + d.1 - 1) +ℤ months) d.2 (n % 86400)

abbrev add : Unit → ℤ → ℤ → Option ℤ
add unit.Year n x = later (n *ℤ pos 12) x
add unit.Month n x = later n x
add unit.Day n x = if_in_range (x +ℤ n *ℤ pos 86400)
add unit.Hour n x = if_in_range (x +ℤ n *ℤ pos 3600)
add unit.Minute n x = if_in_range (x +ℤ n *ℤ pos 60)
add unit.Second n x = if_in_range (x +ℤ n)

abbrev pub clock : Calendar
clock = record { read = read; write = write; part = part; add = add }
