-- Reading: which texts are DATETIMEs, and of which seconds. Four forms read: a date, a date and a time of day, the same with
-- `T` and what may follow it, and a count of seconds.
-- The code reads fixed places; here a text is put together from its parts.
use Rattle.std.specs.Prelude.{◌≡◌, ◌⊎◌, ℕ, ◌<◌, ◌^◌, Bool, true, false, ◌==◌, ◌||◌, List, [], ◌∷◌, ◌++◌, reverse, ℤ, pos, neg_ℤ, ◌≤ℤ◌, if◌then◌else◌}
use Rattle.std.specs.Int.{IsInRange}
use Rattle.jiff_core.specs.declared.civil.time.Time.{Time}
use Rattle.jiff_core.specs.declared.civil.datetime.DateTime.{DateTime}
use Rattle.jiff_core.specs.DateTime.{civil_seconds}
use Rattle.jiff_core.specs.Time.{time_seconds}
use Rattle.gq_time.specs.Moments.{IsDatetime}
use Rattle.gq_time.specs.Texts.{digits, date_text, clock_text}

-- a blank or a tab
abbrev pub is_blank : ℕ → Bool
is_blank c = c == 32 || c == 9

-- a text without the blanks and tabs that it begins with
abbrev pub without_first_blanks : List ℕ → List ℕ
without_first_blanks [] = []
without_first_blanks (c ∷ text) = if is_blank c then without_first_blanks text else c ∷ text

-- a text without the blanks and tabs at its ends
abbrev pub trimmed : List ℕ → List ℕ
trimmed text = reverse (without_first_blanks (reverse (without_first_blanks text)))

-- a separator of the parts of a date: `-` or `/`
abbrev pub IsMark : ℕ → Type 0
IsMark c = (c ≡ 45) ⊎ (c ≡ 47)

-- one to nine digits
abbrev pub IsFewDigits : List ℕ → Type 0
IsFewDigits text = (size : ℕ) × (number : ℕ) × IsInRange 1 9 size × (text ≡ digits size number)

-- `.` and one to nine digits
abbrev pub IsFraction : List ℕ → Type 0
IsFraction text = (digits : List ℕ) × IsFewDigits digits × (text ≡ 46 ∷ digits)

-- `Z` or `z`
abbrev pub IsZone : List ℕ → Type 0
IsZone text = (text ≡ 90 ∷ []) ⊎ (text ≡ 122 ∷ [])

-- what may follow a time of day with `T`, without effect: a fraction, a zone, a fraction and then a zone, or nothing
pub record IsEnd (text : List ℕ) : Type 0 where
  pub fraction : List ℕ
  pub zone : List ℕ
  pub is_fraction : (fraction ≡ []) ⊎ IsFraction fraction
  pub is_zone : (zone ≡ []) ⊎ IsZone zone
  pub whole : text ≡ fraction ++ zone

-- after `T`: a time of day and what may follow it
pub record TellsTimeWithEnd (text : List ℕ) (time : Time) : Type 0 where
  pub end : List ℕ
  pub is_end : IsEnd end
  pub whole : text ≡ 84 ∷ (clock_text time ++ end)

-- the text after a date denotes the time of day; an empty text denotes midnight
abbrev pub TellsTime : List ℕ → Time → Type 0
TellsTime text time = ((text ≡ []) × (time_seconds time ≡ 0)) ⊎ ((text ≡ 32 ∷ clock_text time) ⊎ TellsTimeWithEnd text time)

-- a date from the year 0 on, of one mark, and a text that denotes the time of day
pub record TellsMoment (text : List ℕ) (moment : DateTime) : Type 0 where
  pub mark : ℕ
  pub behind : List ℕ
  pub is_mark : IsMark mark
  pub from_year_0 : pos 0 ≤ℤ moment.date.year
  pub whole : text ≡ date_text mark moment.date ++ behind
  pub time : TellsTime behind moment.time

-- one to twelve digits that count seconds in range, negated if `negative`
pub record IsCount (negative : Bool) (text : List ℕ) (seconds : ℤ) : Type 0 where
  pub size : ℕ
  pub number : ℕ
  pub few : IsInRange 1 12 size
  pub fits : number < 10 ^ size
  pub whole : text ≡ digits size number
  pub are : seconds ≡ (if negative then neg_ℤ (pos number) else pos number)
  pub in_range : IsDatetime seconds

-- a count of seconds, after a `-` if it is negative
abbrev pub TellsCount : List ℕ → ℤ → Type 0
TellsCount text seconds = IsCount false text seconds ⊎ ((digits : List ℕ) × (text ≡ 45 ∷ digits) × IsCount true digits seconds)

-- the text denotes these seconds, as a moment or as their count
abbrev pub Tells : List ℕ → ℤ → Type 0
Tells text seconds = ((moment : DateTime) × TellsMoment text moment × (seconds ≡ civil_seconds moment)) ⊎ TellsCount text seconds

-- the text reads as these seconds: blanks and tabs at its ends are dropped
abbrev pub Reads : List ℕ → ℤ → Type 0
Reads text = Tells (trimmed text)
