-- Texts: how the parts of a DATETIME are written, with leading zeros.
-- The code writes digit by digit; here each part has its text.
use Rattle.std.specs.Prelude.{◌≡◌, ℕ, zero, suc, ◌+◌, ◌/◌, ◌%◌, List, [], ◌∷◌, ◌++◌, ℤ, unsigned_abs}
use Rattle.jiff_core.specs.declared.civil.date.Date.{Date}
use Rattle.jiff_core.specs.declared.civil.time.Time.{Time}
use Rattle.jiff_core.specs.declared.civil.datetime.DateTime.{DateTime}
use Rattle.gq_time.specs.Moments.{IsMoment}

-- the last n decimal digits of a number
unfoldable pub digits : ℕ → ℕ → List ℕ
digits zero number = []
digits (suc n) number = digits n (number / 10) ++ (48 + number % 10) ∷ []

-- three numbers, of which the second and the third have two digits, with a mark between them
abbrev pub three_text : ℕ → ℕ → ℕ → ℕ → ℕ → List ℕ
three_text size mark first second third = digits size first ++ mark ∷ (digits 2 second ++ mark ∷ digits 2 third)

-- a date: `YYYY-MM-DD` if the mark is `-`
abbrev pub date_text : ℕ → Date → List ℕ
date_text mark date = three_text 4 mark (unsigned_abs date.year) date.month date.day

-- a time of day: `HH:MM:SS`
abbrev pub clock_text : Time → List ℕ
clock_text time = three_text 2 58 time.hour time.minute time.second

-- a moment as a text: `YYYY-MM-DD HH:MM:SS`
abbrev pub moment_text : DateTime → List ℕ
moment_text moment = date_text 45 moment.date ++ 32 ∷ clock_text moment.time

-- the text as which these seconds are written
pub record IsWritten (seconds : ℤ) (text : List ℕ) : Type 0 where
  pub moment : DateTime
  pub of_moment : IsMoment seconds moment
  pub is : text ≡ moment_text moment
