-- Dates and times of day as texts: the places of their parts, and that they denote one date and one time of day.
use Rattle.std.proofs.Common.{◌≡◌, ◌⊎◌, ℕ, suc, ◌+◌, ◌-◌, ◌/◌, ◌%◌, ◌<◌, ◌≤◌, List, [], ◌∷◌, ◌++◌, length, get_or, take, drop, refl, sym, ap, subst, ◌∙◌, arith, append_assoc, inl, inr, ℤ, pos, negsuc, ◌≤ℤ◌, unsigned_abs}
use Rattle.std.proofs.lemmas.List.{append-nil, length-append, length_push, take_at, drop_at, get_or_append_left, get_or_push, same_from_push}
use Rattle.jiff_core.specs.declared.civil.date.Date.{Date}
use Rattle.jiff_core.specs.declared.civil.time.Time.{Time}
use Rattle.jiff_core.specs.declared.civil.datetime.DateTime.{DateTime}
use Rattle.jiff_core.specs.Calendar.{IsDate}
use Rattle.jiff_core.specs.Date.{epoch_day}
use Rattle.jiff_core.specs.Time.{time_seconds, IsTime}
use Rattle.jiff_core.specs.DateTime.{civil_seconds}
use Rattle.jiff_core.proofs.SignedLemmas.{signed_arith}
use Rattle.jiff_core.proofs.CalendarLemmas.{days_in_month_bounds}
use Rattle.jiff_core.proofs.DateLemmas.{epoch_day_same}
use Rattle.gq_time.specs.Texts.{digits, date_text, clock_text, moment_text, IsWritten}
use Rattle.gq_time.specs.Reading.{IsFraction, IsZone, IsEnd, TellsTime, TellsTimeWithEnd, TellsMoment}
use Rattle.gq_time.specs.Places.{IsThree, ShowsDate, ShowsClockWithEnd}
use Rattle.gq_time.proofs.DigitLemmas.{length-digits, digits_byte, four_digits}
use Rattle.gq_time.proofs.PlaceLemmas.{has_three, three_injective}
use Rattle.gq_time.proofs.MomentLemmas.{civil_seconds-parts, same_date, same_time, same_day_and_time}

-- a year from 0 on is its own magnitude
pub magnitude : (y : ℤ) → pos 0 ≤ℤ y → pos (unsigned_abs y) ≡ y
magnitude (pos n) h = refl
magnitude (negsuc n) h = absurd (omega (arith, signed_arith))

-- the parts of a date, as bounded numbers
pub record IsSmallDate (d : Date) : Type 0 where
  pub year : unsigned_abs d.year < 10000
  pub month : d.month < 100
  pub day : d.day < 100

pub small_date : (d : Date) → pos 0 ≤ℤ d.year → IsSmallDate d
small_date d h = record {
  year = omega (arith, signed_arith, d.year_in, magnitude d.year h);
  month = omega (arith, d.month_in);
  day = omega (arith, d.day_in, days_in_month_bounds d.year d.month);
}

pub length-date_text : (mark : ℕ) (d : Date) → length (date_text mark d) ≡ 10
length-date_text mark d = (has_three (date_text mark d) 4 mark (unsigned_abs d.year) d.month d.day refl).long

pub length-clock_text : (t : Time) → length (clock_text t) ≡ 8
length-clock_text t = (has_three (clock_text t) 2 58 t.hour t.minute t.second refl).long

-- three numbers that a date's text shows are its parts
pub date_parts : (text : List ℕ) (mark other : ℕ) (three : ℕ × ℕ × ℕ) (d : Date) → IsThree text 4 mark three → ShowsDate text other d → (pos three.0 ≡ d.year) × (three.1 ≡ d.month) × (three.2 ≡ d.day)
date_parts text mark other three d h shows =
    let small = small_date d shows.1 in
    let same = three_injective 4 mark three.0 three.1 three.2 other (unsigned_abs d.year) d.month d.day h.first small.year h.second small.month h.third small.day (sym h.is ∙ shows.0) in
    (ap pos same.0 ∙ magnitude d.year shows.1, same.1, same.2)

pub is_date : (d : Date) (y m n : ℤ) → y ≡ d.year → m ≡ pos d.month → n ≡ pos d.day → IsDate y m n
is_date d y m n year month day = rw (year, month, day) (d.year_in, (omega (arith, signed_arith, d.month_in), omega (arith, signed_arith, d.month_in)), (omega (arith, signed_arith, d.day_in), omega (arith, signed_arith, d.day_in)))

-- the same of a time of day
pub clock_parts : (text : List ℕ) (three : ℕ × ℕ × ℕ) (t : Time) → IsThree text 2 58 three → text ≡ clock_text t → (three.0 ≡ t.hour) × (three.1 ≡ t.minute) × (three.2 ≡ t.second)
clock_parts text three t h is =
    three_injective 2 58 three.0 three.1 three.2 58 t.hour t.minute t.second h.first (omega (arith, t.hour_in)) h.second (omega (arith, t.minute_in)) h.third (omega (arith, t.second_in)) (sym h.is ∙ is)

pub is_time : (t : Time) (h m s : ℤ) → h ≡ pos t.hour → m ≡ pos t.minute → s ≡ pos t.second → IsTime h m s (pos 0)
is_time t h m s hour minute second =
    ((omega (arith, signed_arith), omega (arith, signed_arith, t.hour_in)), (omega (arith, signed_arith), omega (arith, signed_arith, t.minute_in)), (omega (arith, signed_arith), omega (arith, signed_arith, t.second_in)), (omega (arith, signed_arith), omega (arith, signed_arith)))

-- a time of day and what follows it, by their places
pub record HasClock (text : List ℕ) (t : Time) (end : List ℕ) : Type 0 where
  pub long : 8 ≤ length text
  pub front : take 8 text ≡ clock_text t
  pub behind : drop 8 text ≡ end

pub has_clock : (text : List ℕ) (t : Time) (end : List ℕ) → text ≡ clock_text t ++ end → HasClock text t end
has_clock text t end is = record {
  long = omega (arith, ap length is, length-append (clock_text t) end, length-clock_text t);
  front = ap (take 8) is ∙ take_at (clock_text t) end 8 (length-clock_text t);
  behind = ap (drop 8) is ∙ drop_at (clock_text t) end 8 (length-clock_text t);
}

-- a date and what follows it, by their places
pub record HasDate (text : List ℕ) (mark : ℕ) (d : Date) (behind : List ℕ) : Type 0 where
  pub long : 10 ≤ length text
  pub front : take 10 text ≡ date_text mark d
  pub rest : drop 10 text ≡ behind

pub has_date : (text : List ℕ) (mark : ℕ) (d : Date) (behind : List ℕ) → text ≡ date_text mark d ++ behind → HasDate text mark d behind
has_date text mark d behind is = record {
  long = omega (arith, ap length is, length-append (date_text mark d) behind, length-date_text mark d);
  front = ap (take 10) is ∙ take_at (date_text mark d) behind 10 (length-date_text mark d);
  rest = ap (drop 10) is ∙ drop_at (date_text mark d) behind 10 (length-date_text mark d);
}

-- the mark of a date is at the fifth place
pub date_mark : (text : List ℕ) (mark : ℕ) (d : Date) (behind : List ℕ) → text ≡ date_text mark d ++ behind → get_or text 4 0 ≡ mark
date_mark text mark d behind is =
    ap (λ l. get_or l 4 0) is ∙ get_or_append_left (date_text mark d) behind 0 4 (omega (arith, length-date_text mark d))
    ∙ (has_three (date_text mark d) 4 mark (unsigned_abs d.year) d.month d.day refl).mark_one

-- the text of one time of day is that of no other
clock_same : (a b : Time) → clock_text a ≡ clock_text b → time_seconds a ≡ time_seconds b
clock_same a b e =
    let same = three_injective 2 58 a.hour a.minute a.second 58 b.hour b.minute b.second (omega (arith, a.hour_in)) (omega (arith, b.hour_in)) (omega (arith, a.minute_in)) (omega (arith, b.minute_in)) (omega (arith, a.second_in)) (omega (arith, b.second_in)) e in
    omega (arith, same.0, same.1, same.2)

tail_same : (c d : ℕ) (xs ys : List ℕ) → c ∷ xs ≡ d ∷ ys → xs ≡ ys
tail_same c d xs ys e = cc

clock_end_same : (text : List ℕ) (a b : Time) → TellsTimeWithEnd text a → TellsTimeWithEnd text b → time_seconds a ≡ time_seconds b
clock_end_same text a b h k =
    let same : clock_text a ++ h.end ≡ clock_text b ++ k.end = tail_same 84 84 _ _ (sym h.whole ∙ k.whole) in
    let left = has_clock (clock_text a ++ h.end) a h.end refl in
    let right = has_clock (clock_text a ++ h.end) b k.end same in
    clock_same a b (sym left.front ∙ right.front)

-- the text after a date denotes one time of day
time_same : (text : List ℕ) (a b : Time) → TellsTime text a → TellsTime text b → time_seconds a ≡ time_seconds b
time_same text a b (inl h) (inl k) = h.1 ∙ sym k.1
time_same text a b (inl h) (inr (inl k)) = absurd (let e = sym h.0 ∙ k in cc)
time_same text a b (inl h) (inr (inr k)) = absurd (let e = sym h.0 ∙ k.whole in cc)
time_same text a b (inr (inl h)) (inl k) = absurd (let e = sym k.0 ∙ h in cc)
time_same text a b (inr (inl h)) (inr (inl k)) = clock_same a b (tail_same 32 32 _ _ (sym h ∙ k))
time_same text a b (inr (inl h)) (inr (inr k)) = absurd (let e = ap (λ l. get_or l 0 0) (sym h ∙ k.whole) in omega arith)
time_same text a b (inr (inr h)) (inl k) = absurd (let e = sym k.0 ∙ h.whole in cc)
time_same text a b (inr (inr h)) (inr (inl k)) = absurd (let e = ap (λ l. get_or l 0 0) (sym k ∙ h.whole) in omega arith)
time_same text a b (inr (inr h)) (inr (inr k)) = clock_end_same text a b h k

-- and a text one moment
pub moment_same : (text : List ℕ) (a b : DateTime) → TellsMoment text a → TellsMoment text b → civil_seconds a ≡ civil_seconds b
moment_same text a b h k =
    let left = has_date text h.mark a.date h.behind h.whole in
    let right = has_date text k.mark b.date k.behind k.whole in
    let small_a = small_date a.date h.from_year_0 in
    let small_b = small_date b.date k.from_year_0 in
    let same = three_injective 4 h.mark (unsigned_abs a.date.year) a.date.month a.date.day k.mark (unsigned_abs b.date.year) b.date.month b.date.day small_a.year small_b.year small_a.month small_b.month small_a.day small_b.day (sym left.front ∙ right.front) in
    let year : a.date.year ≡ b.date.year = sym (magnitude a.date.year h.from_year_0) ∙ ap pos same.0 ∙ magnitude b.date.year k.from_year_0 in
    let day : epoch_day a.date ≡ epoch_day b.date = epoch_day_same a.date b.date year same.1 same.2 in
    let time : time_seconds a.time ≡ time_seconds b.time = time_same h.behind a.time b.time h.time (subst (λ l. TellsTime l b.time) (sym right.rest ∙ left.rest) k.time) in
    omega (arith, signed_arith, civil_seconds-parts a, civil_seconds-parts b, day, time)

-- a fraction ends in a digit
fraction_last : (text : List ℕ) → IsFraction text → (1 ≤ length text) × (get_or text (length text - 1) 0 ≤ 57)
fraction_last text (digits, few, is) =
    let size = ap length few.3 ∙ length-digits few.0 few.1 in
    let long = ap length is in
    let byte = digits_byte few.0 few.1 (few.0 - 1) (omega (arith, few.2)) in
    let place : length text - 1 ≡ suc (few.0 - 1) = omega (arith, few.2) in
    let same = ap (λ l. get_or l (length text - 1) 0) is ∙ ap (λ i. get_or (46 ∷ digits) i 0) place ∙ ap (λ l. get_or l (few.0 - 1) 0) few.3 in
    (omega (arith, few.2), omega (arith, same, byte))

pub end_before_zone : (text front : List ℕ) (b : ℕ) → text ≡ front ++ b ∷ [] → 57 < b → IsEnd text → (front ≡ []) ⊎ IsFraction front
end_before_zone text front b is high h = by h.is_zone
  where
    long : length text ≡ length front + 1
    long = ap length is ∙ length_push front b

    last : get_or text (length text - 1) 0 ≡ b
    last = let place : length text - 1 ≡ length front = omega (arith, long) in ap (λ l. get_or l (length text - 1) 0) is ∙ get_or_push front b 0 (length text - 1) (sym place)

    whole : h.fraction ≡ text → (h.fraction ≡ []) ⊎ IsFraction h.fraction → ⊥
    whole same (inl none) = let size = ap length (sym same ∙ none) in omega (arith, long)
    whole same (inr some) = let byte = fraction_last text (subst IsFraction same some) in omega (arith, last)

    before : (z : ℕ) → h.zone ≡ z ∷ [] → (front ≡ []) ⊎ IsFraction front
    before z zone =
        let same = same_from_push front h.fraction b z (sym is ∙ h.whole ∙ ap (λ l. h.fraction ++ l) zone) in
        subst (λ l. (l ≡ []) ⊎ IsFraction l) (sym same.0) h.is_fraction

    by : (h.zone ≡ []) ⊎ IsZone h.zone → (front ≡ []) ⊎ IsFraction front
    by (inl none) = absurd (whole (sym (h.whole ∙ ap (λ l. h.fraction ++ l) none ∙ append-nil h.fraction)) h.is_fraction)
    by (inr (inl big)) = before 90 big
    by (inr (inr small)) = before 122 small

-- and a zone may follow a fraction, or occur without one
pub zone_after : (text front : List ℕ) (b : ℕ) → text ≡ front ++ b ∷ [] → (b ≡ 90) ⊎ (b ≡ 122) → (front ≡ []) ⊎ IsFraction front → IsEnd text
zone_after text front b is zone fraction = record {
  fraction = front;
  zone = b ∷ [];
  is_fraction = fraction;
  is_zone = inr (elim zone as (λ _. IsZone (b ∷ [])) [ inl big ↦ inl (ap (λ c. c ∷ []) big) | inr small ↦ inr (ap (λ c. c ∷ []) small) ]);
  whole = is;
}

-- no time of day with `T` if none follows it
pub no_time : (text rest : List ℕ) (t : Time) → text ≡ 84 ∷ rest → (ShowsClockWithEnd rest t → ⊥) → TellsTime text t → ⊥
no_time text rest t is none (inl h) = let e = sym is ∙ h.0 in cc
no_time text rest t is none (inr (inl h)) = let e = ap (λ l. get_or l 0 0) (sym is ∙ h) in omega arith
no_time text rest t is none (inr (inr h)) = none (record { end = h.end; is_end = h.is_end; whole = tail_same 84 84 _ _ (sym is ∙ h.whole) })

-- pieces appended one after another
pieces : (year month day hour minute second : List ℕ) → ((((year ++ 45 ∷ month) ++ 45 ∷ day) ++ 32 ∷ hour) ++ 58 ∷ minute) ++ 58 ∷ second ≡ (year ++ 45 ∷ (month ++ 45 ∷ day)) ++ 32 ∷ (hour ++ 58 ∷ (minute ++ 58 ∷ second))
pieces year month day hour minute second =
    let date = year ++ 45 ∷ (month ++ 45 ∷ day) in
    ap (λ l. ((l ++ 32 ∷ hour) ++ 58 ∷ minute) ++ 58 ∷ second) (append_assoc year (45 ∷ month) (45 ∷ day))
    ∙ append_assoc (date ++ 32 ∷ hour) (58 ∷ minute) (58 ∷ second)
    ∙ append_assoc date (32 ∷ hour) (58 ∷ (minute ++ 58 ∷ second))

-- the text of a moment, piece by piece
pub written_text : (m : DateTime) (a b c d e f g : List ℕ) → a ≡ digits 2 (unsigned_abs m.date.year / 100) → b ≡ a ++ digits 2 (unsigned_abs m.date.year % 100) → c ≡ b ++ 45 ∷ digits 2 m.date.month
    → d ≡ c ++ 45 ∷ digits 2 m.date.day → e ≡ d ++ 32 ∷ digits 2 m.time.hour → f ≡ e ++ 58 ∷ digits 2 m.time.minute → g ≡ f ++ 58 ∷ digits 2 m.time.second → g ≡ moment_text m
written_text m a b c d e f g ea eb ec ed ee ef eg =
    let year : b ≡ digits 4 (unsigned_abs m.date.year) = eb ∙ ap (λ l. l ++ digits 2 (unsigned_abs m.date.year % 100)) ea ∙ sym (four_digits (unsigned_abs m.date.year)) in
    rw (eg, ef, ee, ed, ec, year) (pieces (digits 4 (unsigned_abs m.date.year)) (digits 2 m.date.month) (digits 2 m.date.day) (digits 2 m.time.hour) (digits 2 m.time.minute) (digits 2 m.time.second))

-- a number of seconds has one text
pub written_same : (s : ℤ) (x y : List ℕ) → IsWritten s x → IsWritten s y → x ≡ y
written_same s x y h k =
    let a = h.moment in
    let b = k.moment in
    let same : civil_seconds a ≡ civil_seconds b = sym h.of_moment.are ∙ k.of_moment.are in
    let date = same_date a b same in
    let time = same_time a.time b.time (same_day_and_time a b same).1 in
    let dates : date_text 45 a.date ≡ date_text 45 b.date = rw (date.0, date.1, date.2) refl in
    let clocks : clock_text a.time ≡ clock_text b.time = rw (time.0, time.1, time.2) refl in
    h.is ∙ ap (λ l. l ++ 32 ∷ clock_text a.time) dates ∙ ap (λ l. date_text 45 b.date ++ 32 ∷ l) clocks ∙ sym k.is
