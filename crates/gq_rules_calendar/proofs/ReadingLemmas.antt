-- ReadingLemmas: a text is read as the seconds that it denotes.
use Rattle.std.proofs.Common.{◌≡◌, ◌⊎◌, inl, inr, ℕ, ◌+◌, ◌-◌, ◌*◌, ◌<◌, ◌≤◌, ◌^◌, Bool, true, false, ◌==◌, ◌&&◌, ◌||◌, nat_le, nat_lt, List, [], ◌∷◌, ◌++◌, length, get_or, take, drop, refl, sym, ap, subst, ◌∙◌, arith, Option, Some, None, ℤ, pos, ◌+ℤ◌, ◌*ℤ◌, unsigned_abs}
use Rattle.std.specs.Prelude.{if◌then◌else◌}
use Rattle.std.proofs.lemmas.List.{append-nil, take-append-drop, length_push, take_at, get_or_push}
use Rattle.std.proofs.lemmas.Bool.Decides.{nat_tests}
use Rattle.jiff_core.specs.declared.civil.date.Date.{Date}
use Rattle.jiff_core.specs.declared.civil.time.Time.{Time}
use Rattle.jiff_core.specs.declared.civil.datetime.DateTime.{DateTime}
use Rattle.jiff_core.specs.Calendar.{days_in_month, days_from_civil}
use Rattle.jiff_core.specs.Date.{epoch_day}
use Rattle.jiff_core.specs.Time.{time_seconds}
use Rattle.jiff_core.specs.DateTime.{civil_seconds}
use Rattle.jiff_core.proofs.SignedLemmas.{signed_arith}
use Rattle.gq_time.specs.Texts.{digits, date_text, clock_text}
use Rattle.gq_time.specs.Reading.{IsFewDigits, IsFraction, IsZone, IsEnd, TellsTime, TellsMoment, IsCount, TellsCount, Tells, Reads, trimmed}
use Rattle.gq_time.specs.Places.{IsNumber, ShowsDate, ShowsClockWithEnd}
use Rattle.gq_time.proofs.MomentLemmas.{civil_seconds-parts}
use Rattle.gq_time.proofs.DigitLemmas.{length-digits}
use Rattle.gq_time.proofs.PlaceLemmas.{front_and_last}
use Rattle.gq_time.proofs.CountLemmas.{count_long, few_long, count_no_sign}
use Rattle.gq_time.proofs.TimeLemmas.{magnitude, small_date, has_clock, has_date, date_mark, zone_after}
use Rattle.gq_time.proofs.ReadingLemmas.{tells_same}
use Rattle.gq_rules_meaning.specs.Calendars.{Exactly}
use Rattle.gq_rules_calendar.specs.Adding.{if_in_range}
use Rattle.gq_rules_calendar.specs.Reading.{and_then, or_else, if_true, is_some, number, three, is_date, date, any_date, clock, is_few_digits, is_fraction, has_zone, is_end, clock_with_end, time, moment, signed, counted, count, told, read}
use Rattle.gq_rules_calendar.proofs.AddingLemmas.{in_range_gives, in_range_given}
use Rattle.gq_rules_calendar.proofs.NumberLemmas.{both, both_true, same, same_true, if_is, if_given, comes, then_given, number_is, number_given, number_some, are_digits, three_is, three_given}

-- ---- dates

-- a date with its day
record IsDateOn (text : List ℕ) (mark : ℕ) (n : ℤ) : Type 0 where
  date : Date
  shows : ShowsDate text mark date
  day : epoch_day date ≡ n

date_is : (mark : ℕ) (text : List ℕ) (n : ℤ) → date mark text ≡ Some n → IsDateOn text mark n
date_is mark text n e =
    let c = comes (three 4 mark text) _ n e in
    let p = c.first in
    let is = three_is 4 mark text p c.is in
    let small : p.0 < 10_000 = is.first in
    let test = if_is (is_date p.0 p.1 p.2) (Some (days_from_civil (pos p.0) p.1 p.2)) n c.gives in
    let halves = both (nat_le 1 p.1 && nat_le p.1 12) (nat_le 1 p.2 && nat_le p.2 (days_in_month (pos p.0) p.1)) test.0 in
    let months = both (nat_le 1 p.1) (nat_le p.1 12) halves.0 in
    let days = both (nat_le 1 p.2) (nat_le p.2 (days_in_month (pos p.0) p.1)) halves.1 in
    record {
      date = record {
        year = pos p.0;
        month = p.1;
        day = p.2;
        year_in = (omega (arith, signed_arith), omega (arith, signed_arith));
        month_in = (at_most 1 p.1 months.0, at_most p.1 12 months.1);
        day_in = (at_most 1 p.2 days.0, at_most p.2 (days_in_month (pos p.0) p.1) days.1);
      };
      shows = (is.is, omega (arith, signed_arith));
      day = (let e = test.1 in cc);
    }
  where
    at_most : (a b : ℕ) → nat_le a b ≡ true → a ≤ b
    at_most a b h = grind (arith, nat_tests)

at_most_true : (a b : ℕ) → a ≤ b → nat_le a b ≡ true
at_most_true a b h = grind (arith, nat_tests)

below_true : (a b : ℕ) → a < b → nat_lt a b ≡ true
below_true a b h = grind (arith, nat_tests)

date_given : (mark : ℕ) (text : List ℕ) (d : Date) → ShowsDate text mark d → date mark text ≡ Some (epoch_day d)
date_given mark text d shows =
    let small = small_date d shows.1 in
    let y = unsigned_abs d.year in
    let parts = three_given 4 mark text y d.month d.day shows.0 small.year small.month small.day in
    let year : pos y ≡ d.year = magnitude d.year shows.1 in
    let last : d.day ≤ days_in_month (pos y) d.month = subst (λ z. d.day ≤ days_in_month z d.month) (sym year) d.day_in.1 in
    let test : is_date y d.month d.day ≡ true = both_true (nat_le 1 d.month && nat_le d.month 12) (nat_le 1 d.day && nat_le d.day (days_in_month (pos y) d.month))
    (both_true (nat_le 1 d.month) (nat_le d.month 12) (at_most_true 1 d.month d.month_in.0) (at_most_true d.month 12 d.month_in.1))
    (both_true (nat_le 1 d.day) (nat_le d.day (days_in_month (pos y) d.month)) (at_most_true 1 d.day d.day_in.0) (at_most_true d.day (days_in_month (pos y) d.month) last)) in
    then_given (three 4 mark text) (λ p. if_true (is_date p.0 p.1 p.2) (Some (days_from_civil (pos p.0) p.1 p.2))) (y, d.month, d.day) parts
    ∙ if_given (is_date y d.month d.day) (Some (days_from_civil (pos y) d.month d.day)) test ∙ ap (λ z. Some (days_from_civil z d.month d.day)) year

-- a date with one of the marks
record IsAnyDateOn (text : List ℕ) (n : ℤ) : Type 0 where
  mark : ℕ
  is_mark : (mark ≡ 45) ⊎ (mark ≡ 47)
  on : IsDateOn text mark n

any_date_is : (text : List ℕ) (n : ℤ) → any_date text ≡ Some n → IsAnyDateOn text n
any_date_is text n e = by (date 45 text) refl e
  where
    by : (o : Option ℤ) → date 45 text ≡ o → or_else o (date 47 text) ≡ Some n → IsAnyDateOn text n
    by (Some m) first e = record { mark = 45; is_mark = inl refl; on = date_is 45 text n (first ∙ e) }
    by None first e = record { mark = 47; is_mark = inr refl; on = date_is 47 text n e }

any_date_given : (mark : ℕ) (text : List ℕ) (d : Date) → (mark ≡ 45) ⊎ (mark ≡ 47) → ShowsDate text mark d → any_date text ≡ Some (epoch_day d)
any_date_given mark text d (inl is) shows = rw (date_given 45 text d (subst (λ m. ShowsDate text m d) is shows)) refl
any_date_given mark text d (inr is) shows = by (date 45 text) refl
  where
    shown : ShowsDate text 47 d
    shown = subst (λ m. ShowsDate text m d) is shows

    by : (o : Option ℤ) → date 45 text ≡ o → or_else o (date 47 text) ≡ Some (epoch_day d)
    by (Some m) first =
        let other = date_is 45 text m first in
        let one = date_mark text 45 other.date [] (other.shows.0 ∙ sym (append-nil (date_text 45 other.date))) in
        let two = date_mark text 47 d [] (shown.0 ∙ sym (append-nil (date_text 47 d))) in
        absurd (omega (arith, one, two))
    by None first = date_given 47 text d shown

-- ---- times of day

record IsClockOf (text : List ℕ) (n : ℕ) : Type 0 where
  time : Time
  shows : text ≡ clock_text time
  second : time_seconds time ≡ n

clock_is : (text : List ℕ) (n : ℕ) → clock text ≡ Some n → IsClockOf text n
clock_is text n e =
    let c = comes (three 2 58 text) _ n e in
    let p = c.first in
    let is = three_is 2 58 text p c.is in
    let test = if_is (nat_lt p.0 24 && (nat_lt p.1 60 && nat_lt p.2 60)) (Some (p.0 * 3600 + p.1 * 60 + p.2)) n c.gives in
    let all = both (nat_lt p.0 24) (nat_lt p.1 60 && nat_lt p.2 60) test.0 in
    let rest = both (nat_lt p.1 60) (nat_lt p.2 60) all.1 in
    record {
      time = record {
        hour = p.0;
        minute = p.1;
        second = p.2;
        subsec_nanosecond = 0;
        hour_in = below p.0 24 all.0;
        minute_in = below p.1 60 rest.0;
        second_in = below p.2 60 rest.1;
        subsec_in = omega arith;
      };
      shows = is.is;
      second = (let e = test.1 in cc);
    }
  where
    below : (a b : ℕ) → nat_lt a b ≡ true → a < b
    below a b h = grind (arith, nat_tests)

clock_given : (text : List ℕ) (t : Time) → text ≡ clock_text t → clock text ≡ Some (time_seconds t)
clock_given text t shows =
    let parts = three_given 2 58 text t.hour t.minute t.second shows (omega (arith, t.hour_in)) (omega (arith, t.minute_in)) (omega (arith, t.second_in)) in
    let test : (nat_lt t.hour 24 && (nat_lt t.minute 60 && nat_lt t.second 60)) ≡ true = both_true (nat_lt t.hour 24) (nat_lt t.minute 60 && nat_lt t.second 60) (below_true t.hour 24 t.hour_in)
    (both_true (nat_lt t.minute 60) (nat_lt t.second 60) (below_true t.minute 60 t.minute_in) (below_true t.second 60 t.second_in)) in
    then_given (three 2 58 text) (λ p. if_true (nat_lt p.0 24 && (nat_lt p.1 60 && nat_lt p.2 60)) (Some (p.0 * 3600 + p.1 * 60 + p.2))) (t.hour, t.minute, t.second) parts
    ∙ if_given (nat_lt t.hour 24 && (nat_lt t.minute 60 && nat_lt t.second 60)) (Some (time_seconds t)) test

-- ---- what may follow a time of day

few_is : (text : List ℕ) → is_few_digits text ≡ true → IsFewDigits text
few_is text h =
    let test = both (nat_le 1 (length text) && nat_le (length text) 9) (is_some (number text)) h in
    let size = both (nat_le 1 (length text)) (nat_le (length text) 9) test.0 in
    by (number text) refl test.1 size.0 size.1
  where
    by : (o : Option ℕ) → number text ≡ o → is_some o ≡ true → nat_le 1 (length text) ≡ true → nat_le (length text) 9 ≡ true → IsFewDigits text
    by None is some low high = absurd cc
    by (Some n) is some low high = (length text, n, (grind (arith, nat_tests), grind (arith, nat_tests)), (number_is text n is).is)

few_given : (text : List ℕ) → IsFewDigits text → is_few_digits text ≡ true
few_given text h =
    let long = few_long text h in
    let some = number_some 0 text (are_digits text h.0 h.1 h.3) in
    let is : is_some (number text) ≡ true = rw some.1 refl in
    both_true (nat_le 1 (length text) && nat_le (length text) 9) (is_some (number text)) (both_true (nat_le 1 (length text)) (nat_le (length text) 9) (at_most_true 1 (length text) long.0) (at_most_true (length text) 9 long.1)) is

fraction_is : (text : List ℕ) → is_fraction text ≡ true → (text ≡ []) ⊎ IsFraction text
fraction_is [] h = inl refl
fraction_is (c ∷ text) h =
    let test = both (c == 46) (is_few_digits text) h in
    inr (text, few_is text test.1, ap (λ b. b ∷ text) (same c 46 test.0))

fraction_given : (text : List ℕ) → (text ≡ []) ⊎ IsFraction text → is_fraction text ≡ true
fraction_given text (inl none) = rw none refl
fraction_given text (inr (digits, few, is)) = rw is (few_given digits few)

either_is : (a b : Bool) → (a || b) ≡ true → (a ≡ true) ⊎ (b ≡ true)
either_is true b h = inl refl
either_is false b h = inr h

left_true : (a b : Bool) → a ≡ true → (a || b) ≡ true
left_true a b h = rw h refl

right_true : (a b : Bool) → b ≡ true → (a || b) ≡ true
right_true true b h = refl
right_true false b h = h

end_is : (text : List ℕ) → is_end text ≡ true → IsEnd text
end_is text h = by (either_is (is_fraction text) (has_zone text && is_fraction (take (length text - 1) text)) h)
  where
    zoned : (b : ℕ) → get_or text (length text - 1) 0 ≡ b → (b ≡ 90) ⊎ (b ≡ 122) → 1 ≤ length text → is_fraction (take (length text - 1) text) ≡ true → IsEnd text
    zoned b last zone some fraction = zone_after text (take (length text - 1) text) b (front_and_last text b some last) zone (fraction_is (take (length text - 1) text) fraction)

    by : (is_fraction text ≡ true) ⊎ ((has_zone text && is_fraction (take (length text - 1) text)) ≡ true) → IsEnd text
    by (inl h) = record { fraction = text; zone = []; is_fraction = fraction_is text h; is_zone = inl refl; whole = sym (append-nil text) }
    by (inr h) =
        let test = both (has_zone text) (is_fraction (take (length text - 1) text)) h in
        let zone = both (nat_le 1 (length text)) ((get_or text (length text - 1) 0 == 90) || (get_or text (length text - 1) 0 == 122)) test.0 in
        let some : 1 ≤ length text = (let h = zone.0 in grind (arith, nat_tests)) in
        elim (either_is (get_or text (length text - 1) 0 == 90) (get_or text (length text - 1) 0 == 122) zone.1) [
          | inl big ↦ zoned 90 (same (get_or text (length text - 1) 0) 90 big) (inl refl) some test.1
          | inr small ↦ zoned 122 (same (get_or text (length text - 1) 0) 122 small) (inr refl) some test.1
        ]

end_given : (text : List ℕ) → IsEnd text → is_end text ≡ true
end_given text h = by h.is_zone
  where
    zoned : (b : ℕ) → h.zone ≡ b ∷ [] → (b ≡ 90) ⊎ (b ≡ 122) → is_end text ≡ true
    zoned b is zone =
        let whole : text ≡ h.fraction ++ b ∷ [] = h.whole ∙ ap (λ l. h.fraction ++ l) is in
        let long : length text ≡ length h.fraction + 1 = ap length whole ∙ length_push h.fraction b in
        let place : length text - 1 ≡ length h.fraction = omega (arith, long) in
        let last : get_or text (length text - 1) 0 ≡ b = ap (λ l. get_or l (length text - 1) 0) whole ∙ get_or_push h.fraction b 0 (length text - 1) (sym place) in
        let front : take (length text - 1) text ≡ h.fraction = ap (λ i. take i text) place ∙ ap (take (length h.fraction)) whole ∙ take_at h.fraction (b ∷ []) (length h.fraction) refl in
        let some : nat_le 1 (length text) ≡ true = at_most_true 1 (length text) (omega (arith, long)) in
        let letter : ((get_or text (length text - 1) 0 == 90) || (get_or text (length text - 1) 0 == 122)) ≡ true = elim zone [
          | inl big ↦ left_true (get_or text (length text - 1) 0 == 90) (get_or text (length text - 1) 0 == 122) (same_true (get_or text (length text - 1) 0) 90 (last ∙ big))
          | inr small ↦ right_true (get_or text (length text - 1) 0 == 90) (get_or text (length text - 1) 0 == 122) (same_true (get_or text (length text - 1) 0) 122 (last ∙ small))
        ] in
        let fraction : is_fraction (take (length text - 1) text) ≡ true = ap is_fraction front ∙ fraction_given h.fraction h.is_fraction in
        right_true (is_fraction text) (has_zone text && is_fraction (take (length text - 1) text))
        (both_true (has_zone text) (is_fraction (take (length text - 1) text)) (both_true (nat_le 1 (length text)) ((get_or text (length text - 1) 0 == 90) || (get_or text (length text - 1) 0 == 122)) some letter) fraction)

    by : (h.zone ≡ []) ⊎ IsZone h.zone → is_end text ≡ true
    by (inl none) =
        let whole : text ≡ h.fraction = h.whole ∙ ap (λ l. h.fraction ++ l) none ∙ append-nil h.fraction in
        left_true (is_fraction text) (has_zone text && is_fraction (take (length text - 1) text)) (ap is_fraction whole ∙ fraction_given h.fraction h.is_fraction)
    by (inr (inl big)) = zoned 90 big (inl refl)
    by (inr (inr small)) = zoned 122 small (inr refl)

record IsClockWithEnd (text : List ℕ) (n : ℕ) : Type 0 where
  time : Time
  shows : ShowsClockWithEnd text time
  second : time_seconds time ≡ n

clock_with_end_is : (text : List ℕ) (n : ℕ) → clock_with_end text ≡ Some n → IsClockWithEnd text n
clock_with_end_is text n e =
    let test = if_is (nat_le 8 (length text) && is_end (drop 8 text)) (clock (take 8 text)) n e in
    let is = clock_is (take 8 text) n test.1 in
    record {
      time = is.time;
      shows = record {
        end = drop 8 text;
        is_end = end_is (drop 8 text) (both (nat_le 8 (length text)) (is_end (drop 8 text)) test.0).1;
        whole = sym (take-append-drop 8 text) ∙ ap (λ l. l ++ drop 8 text) is.shows;
      };
      second = is.second;
    }

clock_with_end_given : (text : List ℕ) (t : Time) → ShowsClockWithEnd text t → clock_with_end text ≡ Some (time_seconds t)
clock_with_end_given text t h =
    let has = has_clock text t h.end h.whole in
    let ends : is_end (drop 8 text) ≡ true = ap is_end has.behind ∙ end_given h.end h.is_end in
    if_given (nat_le 8 (length text) && is_end (drop 8 text)) (clock (take 8 text)) (both_true (nat_le 8 (length text)) (is_end (drop 8 text)) (at_most_true 8 (length text) has.long) ends)
    ∙ clock_given (take 8 text) t has.front

record IsTimeOf (text : List ℕ) (n : ℕ) : Type 0 where
  time : Time
  tells : TellsTime text time
  second : time_seconds time ≡ n

midnight : Time
midnight = record { hour = 0; minute = 0; second = 0; subsec_nanosecond = 0; hour_in = omega arith; minute_in = omega arith; second_in = omega arith; subsec_in = omega arith }

time_is : (text : List ℕ) (n : ℕ) → time text ≡ Some n → IsTimeOf text n
unfolding midnight
time_is [] n e = record { time = midnight; tells = inl (refl, refl); second = cc }
time_is (c ∷ text) n e = by (c == 32) refl e
  where
    by : (b : Bool) → (c == 32) ≡ b → (if b then clock text else if_true (c == 84) (clock_with_end text)) ≡ Some n → IsTimeOf (c ∷ text) n
    by true h e =
        let is = clock_is text n e in
        record { time = is.time; tells = inr (inl (ap (λ b. b ∷ text) (same c 32 h) ∙ ap (λ l. 32 ∷ l) is.shows)); second = is.second }
    by false h e =
        let test = if_is (c == 84) (clock_with_end text) n e in
        let is = clock_with_end_is text n test.1 in
        record {
          time = is.time;
          tells = inr (inr (record { end = is.shows.end; is_end = is.shows.is_end; whole = ap (λ b. b ∷ text) (same c 84 test.0) ∙ ap (λ l. 84 ∷ l) is.shows.whole }));
          second = is.second;
        }

time_given : (text : List ℕ) (t : Time) → TellsTime text t → time text ≡ Some (time_seconds t)
time_given text t (inl h) = ap time h.0 ∙ ap Some (sym h.1)
time_given text t (inr (inl h)) = ap time h ∙ clock_given (clock_text t) t refl
time_given text t (inr (inr h)) = ap time h.whole ∙ clock_with_end_given (clock_text t ++ h.end) t (record { end = h.end; is_end = h.is_end; whole = refl })

-- ---- moments

record IsMomentOf (text : List ℕ) (x : ℤ) : Type 0 where
  moment : DateTime
  tells : TellsMoment text moment
  are : x ≡ civil_seconds moment

moment_is : (text : List ℕ) (x : ℤ) → moment text ≡ Some x → IsMomentOf text x
moment_is text x e =
    let test = if_is (nat_le 10 (length text)) (and_then (any_date (take 10 text)) (λ day. and_then (time (drop 10 text)) (λ second. Some (day *ℤ pos 86_400 +ℤ pos second)))) x e in
    let first = comes (any_date (take 10 text)) _ x test.1 in
    let second = comes (time (drop 10 text)) _ x first.gives in
    let any = any_date_is (take 10 text) first.first first.is in
    let on = any.on in
    let of = time_is (drop 10 text) second.first second.is in
    let m : DateTime = record { date = on.date; time = of.time } in
    record {
      moment = m;
      tells = record {
        mark = any.mark;
        behind = drop 10 text;
        is_mark = any.is_mark;
        from_year_0 = on.shows.1;
        whole = sym (take-append-drop 10 text) ∙ ap (λ l. l ++ drop 10 text) on.shows.0;
        time = of.tells;
      };
      are = (let e = second.gives in let sum : x ≡ first.first *ℤ pos 86_400 +ℤ pos second.first = cc in sum)
          ∙ ap (λ d. d *ℤ pos 86_400 +ℤ pos second.first) (sym on.day) ∙ ap (λ s. epoch_day on.date *ℤ pos 86_400 +ℤ pos s) (sym of.second) ∙ sym (civil_seconds-parts m);
    }

moment_given : (text : List ℕ) (m : DateTime) → TellsMoment text m → moment text ≡ Some (civil_seconds m)
moment_given text m h =
    let has = has_date text h.mark m.date h.behind h.whole in
    let day = any_date_given h.mark (take 10 text) m.date h.is_mark (has.front, h.from_year_0) in
    let second = time_given (drop 10 text) m.time (subst (λ l. TellsTime l m.time) (sym has.rest) h.time) in
    if_given (nat_le 10 (length text)) (and_then (any_date (take 10 text)) (λ day. and_then (time (drop 10 text)) (λ second. Some (day *ℤ pos 86_400 +ℤ pos second)))) (at_most_true 10 (length text) has.long)
    ∙ then_given (any_date (take 10 text)) (λ day. and_then (time (drop 10 text)) (λ second. Some (day *ℤ pos 86_400 +ℤ pos second))) (epoch_day m.date) day
    ∙ then_given (time (drop 10 text)) (λ second. Some (epoch_day m.date *ℤ pos 86_400 +ℤ pos second)) (time_seconds m.time) second
    ∙ ap Some (sym (civil_seconds-parts m))

-- ---- counts

counted_is : (negative : Bool) (text : List ℕ) (x : ℤ) → counted negative text ≡ Some x → IsCount negative text x
counted_is negative text x e =
    let test = if_is (nat_le 1 (length text) && nat_le (length text) 12) (and_then (number text) (λ n. if_in_range (signed negative n))) x e in
    let size = both (nat_le 1 (length text)) (nat_le (length text) 12) test.0 in
    let c = comes (number text) _ x test.1 in
    let is = number_is text c.first c.is in
    let range = in_range_gives (signed negative c.first) x c.gives in
    record {
      size = length text;
      number = c.first;
      few = (let h = size.0 in let k = size.1 in (grind (arith, nat_tests), grind (arith, nat_tests)));
      fits = is.fits;
      whole = is.is;
      are = sym range.0;
      in_range = range.1;
    }

counted_given : (negative : Bool) (text : List ℕ) (x : ℤ) → IsCount negative text x → counted negative text ≡ Some x
counted_given negative text x h =
    let long = count_long negative text x h in
    let size = ap length h.whole ∙ length-digits h.size h.number in
    let is : IsNumber text h.number = record { is = h.whole ∙ ap (λ i. digits i h.number) (sym size); fits = subst (λ i. h.number < 10 ^ i) (sym size) h.fits } in
    if_given (nat_le 1 (length text) && nat_le (length text) 12) (and_then (number text) (λ n. if_in_range (signed negative n)))
    (both_true (nat_le 1 (length text)) (nat_le (length text) 12) (at_most_true 1 (length text) long.0) (at_most_true (length text) 12 long.1))
    ∙ then_given (number text) (λ n. if_in_range (signed negative n)) h.number (number_given text h.number is)
    ∙ in_range_given (signed negative h.number) x (sym h.are) h.in_range

count_is : (text : List ℕ) (x : ℤ) → count text ≡ Some x → TellsCount text x
count_is [] x e = absurd cc
count_is (c ∷ text) x e = by (c == 45) refl e
  where
    by : (b : Bool) → (c == 45) ≡ b → (if b then counted true text else counted false (c ∷ text)) ≡ Some x → TellsCount (c ∷ text) x
    by true h e = inr (text, ap (λ b. b ∷ text) (same c 45 h), counted_is true text x e)
    by false h e = inl (counted_is false (c ∷ text) x e)

count_given : (text : List ℕ) (x : ℤ) → TellsCount text x → count text ≡ Some x
count_given [] x (inl h) = let long = count_long false [] x h in absurd (omega (arith, long))
count_given (c ∷ text) x (inl h) = by (c == 45) refl
  where
    by : (b : Bool) → (c == 45) ≡ b → (if b then counted true text else counted false (c ∷ text)) ≡ Some x
    by true is = absurd (count_no_sign false text x (subst (λ b. IsCount false (b ∷ text) x) (same c 45 is) h))
    by false is = counted_given false (c ∷ text) x h
count_given text x (inr (digits, is, h)) = ap count is ∙ counted_given true digits x h

-- ---- texts

told_is : (text : List ℕ) (x : ℤ) → told text ≡ Some x → Tells text x
told_is text x e = by (moment text) refl e
  where
    by : (o : Option ℤ) → moment text ≡ o → or_else o (count text) ≡ Some x → Tells text x
    by (Some y) first e = let is = moment_is text x (first ∙ e) in inl (is.moment, is.tells, is.are)
    by None first e = inr (count_is text x e)

told_given : (text : List ℕ) (x : ℤ) → Tells text x → told text ≡ Some x
told_given text x h = by (moment text) refl h
  where
    by : (o : Option ℤ) → moment text ≡ o → Tells text x → or_else o (count text) ≡ Some x
    by (Some y) first h = let is = moment_is text y first in ap Some (tells_same text y x (inl (is.moment, is.tells, is.are)) h)
    by None first (inl (m, tells, are)) = absurd (let e = sym first ∙ moment_given text m tells in cc)
    by None first (inr h) = count_given text x h

pub reads_exactly : (text : List ℕ) (x : ℤ) → Exactly (read text ≡ Some x) (Reads text x)
reads_exactly text x = (told_is (trimmed text) x, told_given (trimmed text) x)
