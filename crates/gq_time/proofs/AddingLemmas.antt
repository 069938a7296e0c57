-- Adding months gives at most one moment, and the month determines whether there is one.
use Rattle.std.proofs.Common.{◌≡◌, ℕ, refl, sym, ap, ◌∙◌, arith, ℤ, pos, ◌+ℤ◌, ◌≤ℤ◌, min, FitsSigned, w64}
use Rattle.jiff_core.specs.declared.civil.date.Date.{Date}
use Rattle.jiff_core.specs.declared.civil.datetime.DateTime.{DateTime}
use Rattle.jiff_core.specs.Calendar.{days_in_month}
use Rattle.jiff_core.specs.Date.{epoch_day, month_length}
use Rattle.jiff_core.specs.DateTime.{civil_seconds}
use Rattle.jiff_core.specs.Time.{time_seconds}
use Rattle.jiff_core.proofs.SignedLemmas.{signed_arith}
use Rattle.jiff_core.proofs.DateLemmas.{epoch_day_same}
use Rattle.gq_time.specs.Moments.{IsMoment}
use Rattle.gq_time.specs.Adding.{month_number, IsMonthsLater, AreMonthsLater}
use Rattle.gq_time.proofs.MomentLemmas.{civil_seconds-parts, same_date, same_day_and_time}

-- a month's number determines the year and the month
same_month : (a b : Date) → month_number a ≡ month_number b → (a.year ≡ b.year) × (a.month ≡ b.month)
same_month a b e = omega (arith, signed_arith)

-- the last day of a month, by its year and month
pub constrained : (d : Date) (y : ℤ) (m n : ℕ) → d.year ≡ y → d.month ≡ m → d.day ≡ min n (days_in_month y m) → d.day ≡ min n (month_length d)
constrained d y m n year month day = rw (year, month) day

-- the seconds of moments at the same date and the same seconds of the day
same_seconds : (a b : DateTime) → epoch_day a.date ≡ epoch_day b.date → time_seconds a.time ≡ time_seconds b.time → civil_seconds a ≡ civil_seconds b
same_seconds a b day time = omega (arith, signed_arith, civil_seconds-parts a, civil_seconds-parts b)

-- adding a number of months to a moment gives one moment
months_later_same : (months : ℤ) (a b p q : DateTime) → civil_seconds a ≡ civil_seconds b → IsMonthsLater months a p → IsMonthsLater months b q → civil_seconds p ≡ civil_seconds q
months_later_same months a b p q same ap_ bq =
    let date = same_date a b same in
    let number : month_number p.date ≡ month_number q.date = omega (arith, signed_arith, ap_.month, bq.month, date) in
    let month = same_month p.date q.date number in
    let long : month_length p.date ≡ month_length q.date = rw (month.0, month.1) refl in
    let day : p.date.day ≡ q.date.day = ap_.day ∙ ap (λ d. min d (month_length p.date)) date.2 ∙ ap (λ n. min b.date.day n) long ∙ sym bq.day in
    same_seconds p q (epoch_day_same p.date q.date month.0 month.1 day)
    (ap time_seconds ap_.time ∙ (same_day_and_time a b same).1 ∙ sym (ap time_seconds bq.time))

pub months_later_one : (months s x y : ℤ) → AreMonthsLater months s x → AreMonthsLater months s y → x ≡ y
months_later_one months s x y p q =
    p.of_to.are ∙ months_later_same months p.from q.from p.to q.to (sym p.of_from.are ∙ q.of_from.are) p.later q.later ∙ sym q.of_to.are

-- the month after adding `months` is from 0000-01 to 9999-12
pub months_later_bound : (months s x : ℤ) (m : DateTime) → IsMoment s m → AreMonthsLater months s x → (pos 1 ≤ℤ (month_number m.date +ℤ months)) × ((month_number m.date +ℤ months) ≤ℤ pos 120_000)
months_later_bound months s x m of h =
    let date = same_date m h.from (sym of.are ∙ h.of_from.are) in
    let to = h.to in
    omega (arith, signed_arith, h.later.month, h.of_to.from_year_0, date, to.date.year_in, to.date.month_in)

-- so it isn't more than 64 bits away
pub months_fit : (months s x : ℤ) → AreMonthsLater months s x → FitsSigned w64 months
months_fit months s x h =
    let bound = months_later_bound months s x h.from h.of_from h in
    let from = h.from in
    omega (arith, signed_arith, from.date.year_in, from.date.month_in)
