-- Reading: the seconds that a text denotes, part by part at their places.
use Rattle.std.specs.Prelude.{ℕ, ◌+◌, ◌-◌, ◌*◌, Bool, true, false, nat_le, nat_lt, ◌==◌, ◌&&◌, ◌||◌, if◌then◌else◌, List, [], ◌∷◌, length, get_or, take, drop, ℤ, pos, neg_ℤ, ◌+ℤ◌, ◌*ℤ◌, Option, Some, None}
use Rattle.jiff_core.specs.Calendar.{days_from_civil, days_in_month}
use Rattle.gq_time.specs.Reading.{trimmed}
use Rattle.gq_rules_calendar.specs.Adding.{if_in_range}

abbrev pub and_then : {A B : Type 0} → Option A → (A → Option B) → Option B
and_then None f = None
and_then (Some a) f = f a

abbrev pub or_else : {A : Type 0} → Option A → Option A → Option A
or_else None b = b
or_else (Some a) b = Some a

abbrev pub if_true : {A : Type 0} → Bool → Option A → Option A
if_true true a = a
if_true false a = None

abbrev pub is_some : {A : Type 0} → Option A → Bool
is_some None = false
is_some (Some a) = true

-- ---- digits

abbrev pub is_digit : ℕ → Bool
is_digit c = nat_le 48 c && nat_le c 57

-- the number whose digits are those of n and then these
abbrev pub number_behind : ℕ → List ℕ → Option ℕ
number_behind n [] = Some n
number_behind n (c ∷ text) = if_true (is_digit c) (number_behind (n * 10 + (c - 48)) text)

abbrev pub number : List ℕ → Option ℕ
number = number_behind 0

-- the marks of three numbers are at their places, and nothing follows them
abbrev pub is_marked : ℕ → ℕ → List ℕ → Bool
is_marked size mark text = (length text == size + 6) && ((get_or text size 0 == mark) && (get_or text (size + 3) 0 == mark))

-- three numbers with a mark between them, the first of `size` digits and the others of two
abbrev pub three : ℕ → ℕ → List ℕ → Option (ℕ × ℕ × ℕ)
three size mark text =
    if_true (is_marked size mark text) (and_then (number (take size text)) (λ a.
    and_then (number (take 2 (drop (size + 1) text))) (λ b.
    and_then (number (drop (size + 4) text)) (λ c. Some (a, b, c)))))

-- ---- a date and a time of day

abbrev pub is_date : ℕ → ℕ → ℕ → Bool
is_date y m d = (nat_le 1 m && nat_le m 12) && (nat_le 1 d && nat_le d (days_in_month (pos y) m))

-- the days since 1970-01-01 to a date with this mark
abbrev pub date : ℕ → List ℕ → Option ℤ
date mark text = and_then (three 4 mark text) (λ p. if_true (is_date p.0 p.1 p.2) (Some (days_from_civil (pos p.0) p.1 p.2)))

-- `-` or `/`
abbrev pub any_date : List ℕ → Option ℤ
any_date text = or_else (date 45 text) (date 47 text)

-- the seconds since midnight
abbrev pub clock : List ℕ → Option ℕ
clock text = and_then (three 2 58 text) (λ p. if_true (nat_lt p.0 24 && (nat_lt p.1 60 && nat_lt p.2 60)) (Some (p.0 * 3600 + p.1 * 60 + p.2)))

abbrev pub is_few_digits : List ℕ → Bool
is_few_digits text = (nat_le 1 (length text) && nat_le (length text) 9) && is_some (number text)

-- nothing, or `.` and one to nine digits
abbrev pub is_fraction : List ℕ → Bool
is_fraction [] = true
is_fraction (c ∷ text) = (c == 46) && is_few_digits text

-- the last is `Z` or `z`
abbrev pub has_zone : List ℕ → Bool
has_zone text = nat_le 1 (length text) && ((get_or text (length text - 1) 0 == 90) || (get_or text (length text - 1) 0 == 122))

abbrev pub is_end : List ℕ → Bool
is_end text = is_fraction text || (has_zone text && is_fraction (take (length text - 1) text))

abbrev pub clock_with_end : List ℕ → Option ℕ
clock_with_end text = if_true (nat_le 8 (length text) && is_end (drop 8 text)) (clock (take 8 text))

-- the rest after a date: nothing, a blank or `T`
abbrev pub time : List ℕ → Option ℕ
time [] = Some 0
time (c ∷ text) = if c == 32 then clock text else if_true (c == 84) (clock_with_end text)

abbrev pub moment : List ℕ → Option ℤ
moment text = if_true (nat_le 10 (length text)) (and_then (any_date (take 10 text)) (λ day. and_then (time (drop 10 text)) (λ second. Some (day *ℤ pos 86_400 +ℤ pos second))))

-- ---- a count of seconds

abbrev pub signed : Bool → ℕ → ℤ
signed negative n = if negative then neg_ℤ (pos n) else pos n

abbrev pub counted : Bool → List ℕ → Option ℤ
counted negative text = if_true (nat_le 1 (length text) && nat_le (length text) 12) (and_then (number text) (λ n. if_in_range (signed negative n)))

abbrev pub count : List ℕ → Option ℤ
count [] = None
count (c ∷ text) = if c == 45 then counted true text else counted false (c ∷ text)

-- ---- a text

abbrev pub told : List ℕ → Option ℤ
told text = or_else (moment text) (count text)

abbrev pub read : List ℕ → Option ℤ
read text = told (trimmed text)
