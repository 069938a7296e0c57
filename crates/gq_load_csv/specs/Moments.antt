-- Moments: which date and time of day a text shows.
use Rattle.std.proofs.Common.{◌≡◌, ◌⊎◌, ℕ, ◌-◌, ◌<◌, ◌≤◌, List, [], ◌∷◌, ◌++◌, length, get_or, take, drop, refl, sym, ap, subst, ◌∙◌, arith, inl, inr, ℤ, pos, ◌≤ℤ◌}
use Rattle.std.proofs.lemmas.Bool.{cases_lt, cases_eq}
use Rattle.std.proofs.lemmas.List.{append-nil, take-append-drop, length_push, same_from_push}
use Rattle.jiff_core.specs.declared.civil.date.Date.{Date}
use Rattle.jiff_core.specs.declared.civil.time.Time.{Time}
use Rattle.jiff_core.specs.Calendar.{days_in_month, IsYear}
use Rattle.jiff_core.proofs.SignedLemmas.{signed_arith}
use Rattle.gq_time.specs.Texts.{digits, three_text, clock_text}
use Rattle.gq_time.specs.Reading.{IsFewDigits, IsFraction, IsZone, IsEnd, TellsTime, TellsMoment}
use Rattle.gq_time.specs.Places.{IsNumber, IsThree, ShowsDate, ShowsAnyDate, ShowsClockWithEnd}
use Rattle.gq_time.proofs.PlaceLemmas.{sized, front_and_last}
use Rattle.gq_time.proofs.CountLemmas.{few_long}
use Rattle.gq_time.proofs.TimeLemmas.{date_parts, clock_parts, has_clock, has_date, end_before_zone, zone_after, no_time}
use Rattle.gq_load_csv.specs.Deciding.{Found, Decided}
use Rattle.gq_load_csv.specs.Numbers.{number_found, three_found_in}

pub both_or : {A B : Type 0} → Decided A → Decided B → Decided (A × B)
both_or (inl a) (inl b) = inl (a, b)
both_or (inl a) (inr none) = inr (λ p. none p.1)
both_or (inr none) b = inr (λ p. none p.0)

below_or : (m n : ℕ) → Decided (m < n)
below_or m n = elim (cases_lt m n) [ inl low ↦ inl low | inr high ↦ inr (λ low. omega arith) ]

pub upto_or : (m n : ℕ) → Decided (m ≤ n)
upto_or m n = elim (cases_lt n m) [ inl high ↦ inr (λ low. omega arith) | inr low ↦ inl low ]

-- ---- dates

abbrev HasDay : ℤ → ℕ → ℕ → Type 0
HasDay y m d = ((1 ≤ m) × (m ≤ 12)) × ((1 ≤ d) × (d ≤ days_in_month y m))

day_or : (y : ℤ) (m d : ℕ) → Decided (HasDay y m d)
day_or y m d = both_or (both_or (upto_or 1 m) (upto_or m 12)) (both_or (upto_or 1 d) (upto_or d (days_in_month y m)))

is_year : (y : ℕ) → y < 10000 → IsYear (pos y)
is_year y low = (omega (arith, signed_arith), omega (arith, signed_arith))

abbrev date_with : (y m d : ℕ) → IsYear (pos y) → HasDay (pos y) m d → Date
date_with y m d in_years day = record {
  year = pos y;
  month = m;
  day = d;
  year_in = in_years;
  month_in = (day.0.0, day.0.1);
  day_in = (day.1.0, day.1.1);
}

from_zero : (y : ℕ) → pos 0 ≤ℤ pos y
from_zero y = omega (arith, signed_arith)

same_day : (y z : ℤ) (m n d e : ℕ) → y ≡ z → m ≡ n → d ≡ e → HasDay z n e → HasDay y m d
same_day y z m n d e year month day there =
    let P : ℤ → Type 0 = λ x. HasDay x m d in
    let Q : ℕ → Type 0 = λ x. HasDay z x d in
    let R : ℕ → Type 0 = λ x. HasDay z n x in
    subst P (sym year) (subst Q (sym month) (subst R (sym day) there))

-- the date that a text shows, with this mark between the numbers
date_found : (text : List ℕ) (mark : ℕ) → Found (ShowsDate text mark)
date_found text mark = by (three_found_in text 4 mark)
  where
    dated : (three : ℕ × ℕ × ℕ) → IsThree text 4 mark three → Decided (HasDay (pos three.0) three.1 three.2) → Found (ShowsDate text mark)
    dated three is (inl day) = inl (date_with three.0 three.1 three.2 (is_year three.0 (omega (arith, is.first))) day, (is.is, from_zero three.0))
    dated three is (inr none) = inr (λ (date : Date) shows.
        let parts = date_parts text mark mark three date is shows in
        let there : HasDay date.year date.month date.day = ((date.month_in.0, date.month_in.1), (date.day_in.0, date.day_in.1)) in
        none (same_day (pos three.0) date.year three.1 date.month three.2 date.day parts.0 parts.1 parts.2 there))

    by : ((three : ℕ × ℕ × ℕ) × IsThree text 4 mark three) ⊎ ((a b c : ℕ) → text ≡ three_text 4 mark a b c → ⊥) → Found (ShowsDate text mark)
    by (inl (three, is)) = dated three is (day_or (pos three.0) three.1 three.2)
    by (inr none) = inr (λ date shows. none _ _ _ shows.0)

-- the same with either mark
any_date_found : (text : List ℕ) → Found (ShowsAnyDate text)
any_date_found text = by (date_found text 45) (date_found text 47)
  where
    by : Found (ShowsDate text 45) → Found (ShowsDate text 47) → Found (ShowsAnyDate text)
    by (inl (date, shows)) other = inl (date, (45, inl refl, shows))
    by (inr none) (inl (date, shows)) = inl (date, (47, inr refl, shows))
    by (inr none) (inr never) = inr (λ date shown. elim shown.1 [
      | inl is ↦ none date (let P : ℕ → Type 0 = λ m. ShowsDate text m date in subst P is shown.2)
      | inr is ↦ never date (let P : ℕ → Type 0 = λ m. ShowsDate text m date in subst P is shown.2)
    ])

-- ---- times of day

abbrev OnClock : ℕ → ℕ → ℕ → Type 0
OnClock h m s = (h < 24) × ((m < 60) × (s < 60))

clock_found : (text : List ℕ) → Found (λ (time : Time). text ≡ clock_text time)
clock_found text = by (three_found_in text 2 58)
  where
    timed : (three : ℕ × ℕ × ℕ) → IsThree text 2 58 three → Decided (OnClock three.0 three.1 three.2) → Found (λ (time : Time). text ≡ clock_text time)
    timed three is (inl on) = inl (
      record {
        hour = three.0;
        minute = three.1;
        second = three.2;
        subsec_nanosecond = 0;
        hour_in = on.0;
        minute_in = on.1.0;
        second_in = on.1.1;
        subsec_in = omega arith;
      },
      is.is,
    )
    timed three is (inr none) = inr (λ (time : Time) shows.
        let parts = clock_parts text three time is shows in
        none (omega (arith, parts.0, time.hour_in), (omega (arith, parts.1, time.minute_in), omega (arith, parts.2, time.second_in))))

    by : ((three : ℕ × ℕ × ℕ) × IsThree text 2 58 three) ⊎ ((a b c : ℕ) → text ≡ three_text 2 58 a b c → ⊥) → Found (λ (time : Time). text ≡ clock_text time)
    by (inl (three, is)) = timed three is (both_or (below_or three.0 24) (both_or (below_or three.1 60) (below_or three.2 60)))
    by (inr none) = inr (λ time shows. none _ _ _ shows)

-- ---- what may follow a time of day

few_or : (text : List ℕ) → Decided (IsFewDigits text)
few_or text = by (both_or (upto_or 1 (length text)) (upto_or (length text) 9)) (number_found text)
  where
    by : Decided ((1 ≤ length text) × (length text ≤ 9)) → ((n : ℕ) × IsNumber text n) ⊎ ((n : ℕ) → text ≡ digits (length text) n → ⊥) → Decided (IsFewDigits text)
    by (inr none) number = inr (λ few. none (few_long text few))
    by (inl long) (inl (n, is)) = inl (length text, n, (long.0, long.1), is.is)
    by (inl long) (inr none) = inr (λ few. none few.1 (sized text few.0 few.1 few.3))

-- a fraction, or nothing
fraction_or : (text : List ℕ) → Decided ((text ≡ []) ⊎ IsFraction text)
fraction_or [] = inl (inl refl)
fraction_or (c ∷ text) = by (cases_eq c 46) (few_or text)
  where
    parts : (ds : List ℕ) → c ∷ text ≡ 46 ∷ ds → (c ≡ 46) × (text ≡ ds)
    parts ds e = (cc, cc)

    by : Decided (c ≡ 46) → Decided (IsFewDigits text) → Decided ((c ∷ text ≡ []) ⊎ IsFraction (c ∷ text))
    by (inr other) few = inr (λ h. elim h [ inl e ↦ cc | inr f ↦ other (parts f.0 f.2).0 ])
    by (inl is) (inl few) = inl (inr (text, few, ap (λ b. b ∷ text) is))
    by (inl is) (inr none) = inr (λ h. elim h [ inl e ↦ cc | inr f ↦ none (subst IsFewDigits (sym (parts f.0 f.2).1) f.1) ])

-- a text that doesn't end with a zone is empty or a fraction
no_zone : (text : List ℕ) → ((front : List ℕ) (b : ℕ) → text ≡ front ++ b ∷ [] → (b ≡ 90) ⊎ (b ≡ 122) → ⊥) → IsEnd text → (text ≡ []) ⊎ IsFraction text
no_zone text none end = by end.is_zone
  where
    by : (end.zone ≡ []) ⊎ IsZone end.zone → (text ≡ []) ⊎ IsFraction text
    by (inl no_more) =
        let same : text ≡ end.fraction = end.whole ∙ ap (λ l. end.fraction ++ l) no_more ∙ append-nil end.fraction in
        let P : List ℕ → Type 0 = λ l. (l ≡ []) ⊎ IsFraction l in
        subst P (sym same) end.is_fraction
    by (inr (inl big)) = absurd (none end.fraction 90 (end.whole ∙ ap (λ l. end.fraction ++ l) big) (inl refl))
    by (inr (inr small)) = absurd (none end.fraction 122 (end.whole ∙ ap (λ l. end.fraction ++ l) small) (inr refl))

zone_or : (b : ℕ) → Decided ((b ≡ 90) ⊎ (b ≡ 122))
zone_or b = by (cases_eq b 90) (cases_eq b 122)
  where
    by : Decided (b ≡ 90) → Decided (b ≡ 122) → Decided ((b ≡ 90) ⊎ (b ≡ 122))
    by (inl big) small = inl (inl big)
    by (inr none) (inl small) = inl (inr small)
    by (inr none) (inr never) = inr (λ h. elim h [ inl big ↦ none big | inr small ↦ never small ])

end_or : (text : List ℕ) → Decided (IsEnd text)
end_or text = by (cases_eq (length text) 0) (zone_or last) (fraction_or front) (fraction_or text)
  where
    last : ℕ
    last = get_or text (length text - 1) 0

    front : List ℕ
    front = take (length text - 1) text

    plain : ((text ≡ []) ⊎ IsFraction text) → IsEnd text
    plain h = record { fraction = text; zone = []; is_fraction = h; is_zone = inl refl; whole = sym (append-nil text) }

    by : Decided (length text ≡ 0) → Decided ((last ≡ 90) ⊎ (last ≡ 122)) → Decided ((front ≡ []) ⊎ IsFraction front) → Decided ((text ≡ []) ⊎ IsFraction text) → Decided (IsEnd text)
    by long zone first (inl whole) = inl (plain whole)
    by (inl empty) zone first (inr none) = inr (λ end. none (no_zone text (λ f b is z. nothing f b is empty) end))
      where
        nothing : (f : List ℕ) (b : ℕ) → text ≡ f ++ b ∷ [] → length text ≡ 0 → ⊥
        nothing f b is no_byte = omega (arith, ap length is, length_push f b)
    by (inr some) (inl zone) (inl first) (inr none) = inl (zone_after text front last (front_and_last text last (omega arith) refl) zone first)
    by (inr some) (inl zone) (inr never) (inr none) = inr (λ end. never (end_before_zone text front last (front_and_last text last (omega arith) refl) (high zone) end))
      where
        high : (last ≡ 90) ⊎ (last ≡ 122) → 57 < last
        high (inl big) = omega arith
        high (inr small) = omega arith
    by (inr some) (inr other) first (inr none) = inr (λ end. none (no_zone text (λ f b is z. other (same f b is z)) end))
      where
        same : (f : List ℕ) (b : ℕ) → text ≡ f ++ b ∷ [] → (b ≡ 90) ⊎ (b ≡ 122) → (last ≡ 90) ⊎ (last ≡ 122)
        same f b is z =
            let two = same_from_push f front b last (sym is ∙ front_and_last text last (omega arith) refl) in
            let P : ℕ → Type 0 = λ c. (c ≡ 90) ⊎ (c ≡ 122) in
            subst P two.1 z

-- ---- moments

with_end_found : (text : List ℕ) → Found (ShowsClockWithEnd text)
with_end_found text = by (upto_or 8 (length text)) (end_or (drop 8 text)) (clock_found (take 8 text))
  where
    by : Decided (8 ≤ length text) → Decided (IsEnd (drop 8 text)) → Found (λ (time : Time). take 8 text ≡ clock_text time) → Found (ShowsClockWithEnd text)
    by (inr short) end clock = inr (λ time h. short (has_clock text time h.end h.whole).long)
    by (inl long) (inr none) clock = inr (λ time h. none (subst IsEnd (sym (has_clock text time h.end h.whole).behind) h.is_end))
    by (inl long) (inl end) (inl (time, is)) =
        inl (time, record { end = drop 8 text; is_end = end; whole = sym (take-append-drop 8 text) ∙ ap (λ l. l ++ drop 8 text) is })
    by (inl long) (inl end) (inr none) = inr (λ time h. none time (has_clock text time h.end h.whole).front)

-- the time of day that the text after a date shows
pub time_found : (text : List ℕ) → Found (TellsTime text)
time_found [] = inl (record { hour = 0; minute = 0; second = 0; subsec_nanosecond = 0; hour_in = omega arith; minute_in = omega arith; second_in = omega arith; subsec_in = omega arith }, inl (refl, refl))
time_found (c ∷ text) = by (cases_eq c 32) (cases_eq c 84) (clock_found text) (with_end_found text)
  where
    parts : (b : ℕ) (rest : List ℕ) → c ∷ text ≡ b ∷ rest → (c ≡ b) × (text ≡ rest)
    parts b rest e = (cc, cc)

    by : Decided (c ≡ 32) → Decided (c ≡ 84) → Found (λ (time : Time). text ≡ clock_text time) → Found (ShowsClockWithEnd text) → Found (TellsTime (c ∷ text))
    by (inl blank) mark (inl (time, is)) end = inl (time, inr (inl (ap (λ b. b ∷ text) blank ∙ ap (λ l. 32 ∷ l) is)))
    by (inl blank) mark (inr none) end = inr (λ time h. elim h [
      | inl e ↦ let f = e.0 in cc
      | inr (inl e) ↦ none time (parts 32 (clock_text time) e).1
      | inr (inr e) ↦ omega (arith, blank, (parts 84 (clock_text time ++ e.end) e.whole).0)
    ])
    by (inr other) (inl mark) clock (inl (time, h)) = inl (time, inr (inr (record { end = h.end; is_end = h.is_end; whole = ap (λ b. b ∷ text) mark ∙ ap (λ l. 84 ∷ l) h.whole })))
    by (inr other) (inl mark) clock (inr none) = inr (λ time h. no_time (c ∷ text) text time (ap (λ b. b ∷ text) mark) (none time) h)
    by (inr other) (inr never) clock end = inr (λ time h. elim h [
      | inl e ↦ let f = e.0 in cc
      | inr (inl e) ↦ other (parts 32 (clock_text time) e).0
      | inr (inr e) ↦ never (parts 84 (clock_text time ++ e.end) e.whole).0
    ])

-- the moment that a text shows
pub moment_found : (text : List ℕ) → Found (TellsMoment text)
moment_found text = by (upto_or 10 (length text)) (any_date_found (take 10 text)) (time_found (drop 10 text))
  where
    by : Decided (10 ≤ length text) → Found (ShowsAnyDate (take 10 text)) → Found (TellsTime (drop 10 text)) → Found (TellsMoment text)
    by (inr short) date time = inr (λ moment h. short (has_date text h.mark moment.date h.behind h.whole).long)
    by (inl long) (inr none) time = inr (λ moment h. none moment.date (h.mark, h.is_mark, ((has_date text h.mark moment.date h.behind h.whole).front, h.from_year_0)))
    by (inl long) (inl date) (inr none) = inr (λ moment h.
        let P : List ℕ → Type 0 = λ l. TellsTime l moment.time in
        none moment.time (subst P (sym (has_date text h.mark moment.date h.behind h.whole).rest) h.time))
    by (inl long) (inl (date, (mark, is_mark, shows))) (inl (time, tells)) =
        inl (
          record { date = date; time = time },
          record {
            mark = mark;
            behind = drop 10 text;
            is_mark = is_mark;
            from_year_0 = shows.1;
            whole = sym (take-append-drop 10 text) ∙ ap (λ l. l ++ drop 10 text) shows.0;
            time = tells;
          },
        )
