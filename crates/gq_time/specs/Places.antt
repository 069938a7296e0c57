-- Places: the results of the functions that read digits at fixed places. No public clause refers to it.
use Rattle.std.specs.Prelude.{◌≡◌, ℕ, ◌<◌, ◌^◌, List, ◌++◌, length, pos, ◌≤ℤ◌}
use Rattle.jiff_core.specs.declared.civil.date.Date.{Date}
use Rattle.jiff_core.specs.declared.civil.time.Time.{Time}
use Rattle.gq_time.specs.Texts.{digits, three_text, date_text, clock_text}
use Rattle.gq_time.specs.Reading.{IsMark, IsEnd}

-- the text is the number's digits, with leading zeros
pub record IsNumber (text : List ℕ) (number : ℕ) : Type 0 where
  pub is : text ≡ digits (length text) number
  pub fits : number < 10 ^ length text

-- the text is that of three numbers with a mark between them
pub record IsThree (text : List ℕ) (size mark : ℕ) (three : ℕ × ℕ × ℕ) : Type 0 where
  pub is : text ≡ three_text size mark three.0 three.1 three.2
  pub first : three.0 < 10 ^ size
  pub second : three.1 < 100
  pub third : three.2 < 100

-- the text is that of a date from the year 0 on, with this mark
abbrev pub ShowsDate : List ℕ → ℕ → Date → Type 0
ShowsDate text mark date = (text ≡ date_text mark date) × (pos 0 ≤ℤ date.year)

-- the same with one of the marks
abbrev pub ShowsAnyDate : List ℕ → Date → Type 0
ShowsAnyDate text date = (mark : ℕ) × IsMark mark × ShowsDate text mark date

-- the text is that of a time of day, and what may follow it
pub record ShowsClockWithEnd (text : List ℕ) (time : Time) : Type 0 where
  pub end : List ℕ
  pub is_end : IsEnd end
  pub whole : text ≡ clock_text time ++ end
