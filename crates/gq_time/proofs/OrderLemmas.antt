-- Written texts compare byte by byte as their seconds do.
use Rattle.std.proofs.Common.{◌≡◌, ℕ, zero, suc, ◌+◌, ◌*◌, ◌/◌, ◌%◌, ◌^◌, ◌<◌, List, [], ◌∷◌, ◌++◌, length, refl, sym, ap, ◌∙◌, arith, inl, inr, ℤ, pos, ◌+ℤ◌, ◌<ℤ◌, ◌≤ℤ◌, unsigned_abs}
use Rattle.std.proofs.lemmas.Bool.{cases_order}
use Rattle.std.proofs.lemmas.Bool.Decides.{nat_tests}
use Rattle.std.proofs.lemmas.Int.{by_lt_z, ints}
use Rattle.std.proofs.Math.Nat.{pow-succ'}
use Rattle.std.specs.Cmp.Lexicographic.{slice_cmp}
use Rattle.std.specs.declared.cmp.Ordering.{Ordering}
use Rattle.std.specs.declared.cmp.Ordering.TheVariants.{Less, Equal, Greater}
use Rattle.std.specs.Ordering.{nat_cmp, int_cmp, ordering_then}
use Rattle.jiff_core.specs.declared.civil.date.Date.{Date}
use Rattle.jiff_core.specs.declared.civil.time.Time.{Time}
use Rattle.jiff_core.specs.declared.civil.datetime.DateTime.{DateTime}
use Rattle.jiff_core.specs.Date.{epoch_day}
use Rattle.jiff_core.specs.Time.{time_seconds}
use Rattle.jiff_core.specs.DateTime.{civil_seconds}
use Rattle.jiff_core.proofs.SignedLemmas.{signed_arith}
use Rattle.jiff_core.proofs.CalendarLemmas.{days_in_month_bounds}
use Rattle.jiff_core.proofs.DateLemmas.{date_key, date_key-epoch_day}
use Rattle.gq_time.specs.Texts.{digits, three_text, date_text, clock_text, moment_text, IsWritten}
use Rattle.gq_time.proofs.DigitLemmas.{length-digits}
use Rattle.gq_time.proofs.MomentLemmas.{civil_seconds-parts}
use Rattle.gq_time.proofs.TimeLemmas.{length-date_text, magnitude, small_date}

-- texts of one length compare by their fronts first
cmp-append : (xs ys us vs : List ℕ) → length xs ≡ length ys → slice_cmp nat_cmp (xs ++ us) (ys ++ vs) ≡ ordering_then (slice_cmp nat_cmp xs ys) (slice_cmp nat_cmp us vs)
cmp-append [] [] us vs e = refl
cmp-append [] (y ∷ ys) us vs e = absurd (omega arith)
cmp-append (x ∷ xs) [] us vs e = absurd (omega arith)
cmp-append (x ∷ xs) (y ∷ ys) us vs e = ap (λ o. ordering_then (nat_cmp x y) o) (cmp-append xs ys us vs (omega arith)) ∙ then_assoc (nat_cmp x y) _ _
  where
    then_assoc : (a b c : Ordering) → ordering_then a (ordering_then b c) ≡ ordering_then (ordering_then a b) c
    then_assoc Less b c = refl
    then_assoc Equal b c = refl
    then_assoc Greater b c = refl

lt_cmp : (a b : ℕ) → a < b → nat_cmp a b ≡ Less
lt_cmp a b h = grind (arith, nat_tests)

eq_cmp : (a b : ℕ) → a ≡ b → nat_cmp a b ≡ Equal
eq_cmp a b h = grind (arith, nat_tests)

gt_cmp : (a b : ℕ) → b < a → nat_cmp a b ≡ Greater
gt_cmp a b h = grind (arith, nat_tests)

-- two numbers that compare as a pair does
then_is : (a a' b b' x x' : ℕ) → (a < a' → x < x') → (a' < a → x' < x) → (a ≡ a' → b < b' → x < x') → (a ≡ a' → b' < b → x' < x) → (a ≡ a' → b ≡ b' → x ≡ x')
    → ordering_then (nat_cmp a a') (nat_cmp b b') ≡ nat_cmp x x'
then_is a a' b b' x x' lt gt second_lt second_gt same =
    elim (cases_order a a') [
      | inr (inl h) ↦ ap (λ o. ordering_then o (nat_cmp b b')) (lt_cmp a a' h) ∙ sym (lt_cmp x x' (lt h))
      | inr (inr h) ↦ ap (λ o. ordering_then o (nat_cmp b b')) (gt_cmp a a' h) ∙ sym (gt_cmp x x' (gt h))
      | inl e ↦ ap (λ o. ordering_then o (nat_cmp b b')) (eq_cmp a a' e) ∙ elim (cases_order b b') [
        | inr (inl h) ↦ lt_cmp b b' h ∙ sym (lt_cmp x x' (second_lt e h))
        | inr (inr h) ↦ gt_cmp b b' h ∙ sym (gt_cmp x x' (second_gt e h))
        | inl f ↦ eq_cmp b b' f ∙ sym (eq_cmp x x' (same e f))
      ]
    ]

-- digits compare as their numbers do
digits_cmp : (n a b : ℕ) → a < 10 ^ n → b < 10 ^ n → slice_cmp nat_cmp (digits n a) (digits n b) ≡ nat_cmp a b
unfolding digits
digits_cmp zero a b h k = sym (eq_cmp a b (omega arith))
digits_cmp (suc n) a b h k =
    let more : 10 ^ suc n ≡ 10 * 10 ^ n = pow-succ' 10 n in
    let front = digits_cmp n (a / 10) (b / 10) (omega arith) (omega arith) in
    let last : slice_cmp nat_cmp ((48 + a % 10) ∷ []) ((48 + b % 10) ∷ []) ≡ nat_cmp (48 + a % 10) (48 + b % 10) = then_equal (nat_cmp (48 + a % 10) (48 + b % 10)) in
    cmp-append (digits n (a / 10)) (digits n (b / 10)) ((48 + a % 10) ∷ []) ((48 + b % 10) ∷ []) (length-digits n (a / 10) ∙ sym (length-digits n (b / 10)))
    ∙ ap (λ o. ordering_then o (slice_cmp nat_cmp ((48 + a % 10) ∷ []) ((48 + b % 10) ∷ []))) front
    ∙ ap (λ o. ordering_then (nat_cmp (a / 10) (b / 10)) o) last
    ∙ then_is (a / 10) (b / 10) (48 + a % 10) (48 + b % 10) a b (λ p. omega arith) (λ p. omega arith) (λ p q. omega arith) (λ p q. omega arith) (λ p q. omega arith)
  where
    then_equal : (o : Ordering) → ordering_then o Equal ≡ o
    then_equal Less = refl
    then_equal Equal = refl
    then_equal Greater = refl

marked : (mark : ℕ) (xs ys : List ℕ) → slice_cmp nat_cmp (mark ∷ xs) (mark ∷ ys) ≡ slice_cmp nat_cmp xs ys
marked mark xs ys = ap (λ o. ordering_then o (slice_cmp nat_cmp xs ys)) (eq_cmp mark mark refl)

-- numbers with a mark between them compare one after another
three_cmp : (size mark a b c a' b' c' : ℕ) → a < 10 ^ size → a' < 10 ^ size → b < 100 → b' < 100 → c < 100 → c' < 100
    → slice_cmp nat_cmp (three_text size mark a b c) (three_text size mark a' b' c') ≡ ordering_then (nat_cmp a a') (ordering_then (nat_cmp b b') (nat_cmp c c'))
three_cmp size mark a b c a' b' c' ha ha' hb hb' hc hc' =
    let rest = mark ∷ (digits 2 b ++ mark ∷ digits 2 c) in
    let rest' = mark ∷ (digits 2 b' ++ mark ∷ digits 2 c') in
    let third = marked mark (digits 2 c) (digits 2 c') ∙ digits_cmp 2 c c' hc hc' in
    let second : slice_cmp nat_cmp rest rest' ≡ ordering_then (nat_cmp b b') (nat_cmp c c') =
    marked mark (digits 2 b ++ mark ∷ digits 2 c) (digits 2 b' ++ mark ∷ digits 2 c') ∙ cmp-append (digits 2 b) (digits 2 b') (mark ∷ digits 2 c) (mark ∷ digits 2 c') (length-digits 2 b ∙ sym (length-digits 2 b'))
    ∙ ap (λ o. ordering_then o (slice_cmp nat_cmp (mark ∷ digits 2 c) (mark ∷ digits 2 c'))) (digits_cmp 2 b b' hb hb') ∙ ap (λ o. ordering_then (nat_cmp b b') o) third in
    cmp-append (digits size a) (digits size a') rest rest' (length-digits size a ∙ sym (length-digits size a'))
    ∙ ap (λ o. ordering_then o (slice_cmp nat_cmp rest rest')) (digits_cmp size a a' ha ha') ∙ ap (λ o. ordering_then (nat_cmp a a') o) second

lt_cmp_z : (a b : ℤ) → a <ℤ b → int_cmp a b ≡ Less
lt_cmp_z a b h = grind (arith, ints)

gt_cmp_z : (a b : ℤ) → b <ℤ a → int_cmp a b ≡ Greater
gt_cmp_z a b h = grind (arith, ints)

eq_cmp_z : (a b : ℤ) → a ≡ b → int_cmp a b ≡ Equal
eq_cmp_z a b h = grind (arith, ints)

cmp_pos : (m n : ℕ) → nat_cmp m n ≡ int_cmp (pos m) (pos n)
cmp_pos m n =
    elim (cases_order m n) [
      | inl e ↦ eq_cmp m n e ∙ sym (eq_cmp_z (pos m) (pos n) (ap pos e))
      | inr (inl h) ↦ lt_cmp m n h ∙ sym (lt_cmp_z (pos m) (pos n) (omega (arith, ints)))
      | inr (inr h) ↦ gt_cmp m n h ∙ sym (gt_cmp_z (pos m) (pos n) (omega (arith, ints)))
    ]

-- the texts of dates compare as their days do
date_cmp : (a b : Date) → pos 0 ≤ℤ a.year → pos 0 ≤ℤ b.year → slice_cmp nat_cmp (date_text 45 a) (date_text 45 b) ≡ int_cmp (epoch_day a) (epoch_day b)
date_cmp a b from_a from_b =
    let x = small_date a from_a in
    let y = small_date b from_b in
    let in_year_a = a.month * 32 + a.day in
    let in_year_b = b.month * 32 + b.day in
    let short_a : a.day < 32 = omega (arith, a.day_in, days_in_month_bounds a.year a.month) in
    let short_b : b.day < 32 = omega (arith, b.day_in, days_in_month_bounds b.year b.month) in
    let few_a : in_year_a < 512 = omega (arith, a.month_in) in
    let few_b : in_year_b < 512 = omega (arith, b.month_in) in
    let key_a : pos (unsigned_abs a.year * 512 + in_year_a) ≡ date_key a = omega (arith, signed_arith, magnitude a.year from_a) in
    let key_b : pos (unsigned_abs b.year * 512 + in_year_b) ≡ date_key b = omega (arith, signed_arith, magnitude b.year from_b) in
    three_cmp 4 45 (unsigned_abs a.year) a.month a.day (unsigned_abs b.year) b.month b.day x.year y.year x.month y.month x.day y.day
    ∙ ap (λ o. ordering_then (nat_cmp (unsigned_abs a.year) (unsigned_abs b.year)) o) (then_is a.month b.month a.day b.day in_year_a in_year_b (λ p. omega arith) (λ p. omega arith) (λ p q. omega arith) (λ p q. omega arith) (λ p q. omega arith))
    ∙ then_is (unsigned_abs a.year) (unsigned_abs b.year) in_year_a in_year_b (unsigned_abs a.year * 512 + in_year_a) (unsigned_abs b.year * 512 + in_year_b) (λ p. omega arith) (λ p. omega arith) (λ p q. omega arith) (λ p q. omega arith) (λ p q. omega arith)
    ∙ cmp_pos (unsigned_abs a.year * 512 + in_year_a) (unsigned_abs b.year * 512 + in_year_b)
    ∙ ap (λ z. int_cmp z (pos (unsigned_abs b.year * 512 + in_year_b))) key_a ∙ ap (λ z. int_cmp (date_key a) z) key_b
    ∙ (date_key-epoch_day a b).0

-- and those of times of day as their seconds
time_cmp : (a b : Time) → slice_cmp nat_cmp (clock_text a) (clock_text b) ≡ nat_cmp (time_seconds a) (time_seconds b)
time_cmp a b =
    let in_hour_a = a.minute * 60 + a.second in
    let in_hour_b = b.minute * 60 + b.second in
    let seconds_a = a.second_in in
    let seconds_b = b.second_in in
    let few_a : in_hour_a < 3600 = omega (arith, a.minute_in) in
    let few_b : in_hour_b < 3600 = omega (arith, b.minute_in) in
    three_cmp 2 58 a.hour a.minute a.second b.hour b.minute b.second (omega (arith, a.hour_in)) (omega (arith, b.hour_in)) (omega (arith, a.minute_in)) (omega (arith, b.minute_in)) (omega arith) (omega arith)
    ∙ ap (λ o. ordering_then (nat_cmp a.hour b.hour) o) (then_is a.minute b.minute a.second b.second in_hour_a in_hour_b (λ p. omega arith) (λ p. omega arith) (λ p q. omega arith) (λ p q. omega arith) (λ p q. omega arith))
    ∙ then_is a.hour b.hour in_hour_a in_hour_b (time_seconds a) (time_seconds b) (λ p. omega arith) (λ p. omega arith) (λ p q. omega arith) (λ p q. omega arith) (λ p q. omega arith)

-- days and then seconds of the day compare as seconds do
moment_cmp : (a b : DateTime) → ordering_then (int_cmp (epoch_day a.date) (epoch_day b.date)) (nat_cmp (time_seconds a.time) (time_seconds b.time)) ≡ int_cmp (civil_seconds a) (civil_seconds b)
moment_cmp a b =
    let s = time_seconds a.time in
    let t = time_seconds b.time in
    let x = civil_seconds-parts a in
    let y = civil_seconds-parts b in
    let short_a : s < 86400 = omega arith in
    let short_b : t < 86400 = omega arith in
    by_lt_z (epoch_day a.date) (epoch_day b.date)
    (λ lt. ap (λ o. ordering_then o (nat_cmp s t)) (lt_cmp_z (epoch_day a.date) (epoch_day b.date) lt) ∙ sym (lt_cmp_z (civil_seconds a) (civil_seconds b) (omega (arith, signed_arith, x, y, lt))))
    (λ ge. by_lt_z (epoch_day b.date) (epoch_day a.date)
    (λ gt. ap (λ o. ordering_then o (nat_cmp s t)) (gt_cmp_z (epoch_day a.date) (epoch_day b.date) gt) ∙ sym (gt_cmp_z (civil_seconds a) (civil_seconds b) (omega (arith, signed_arith, x, y, gt))))
    (λ le. let same : epoch_day a.date ≡ epoch_day b.date = omega (arith, signed_arith) in
    ap (λ o. ordering_then o (nat_cmp s t)) (eq_cmp_z (epoch_day a.date) (epoch_day b.date) same) ∙ same_day s t (civil_seconds a) (civil_seconds b) (omega (arith, signed_arith, x, y, same))))
  where
    same_day : (s t : ℕ) (m n : ℤ) → m +ℤ pos t ≡ n +ℤ pos s → nat_cmp s t ≡ int_cmp m n
    same_day s t m n e =
        elim (cases_order s t) [
          | inl same ↦ eq_cmp s t same ∙ sym (eq_cmp_z m n (omega (arith, signed_arith)))
          | inr (inl lt) ↦ lt_cmp s t lt ∙ sym (lt_cmp_z m n (omega (arith, signed_arith)))
          | inr (inr gt) ↦ gt_cmp s t gt ∙ sym (gt_cmp_z m n (omega (arith, signed_arith)))
        ]

-- so written texts compare as their seconds do
pub ordered : (s t : ℤ) (x y : List ℕ) → IsWritten s x → IsWritten t y → slice_cmp nat_cmp x y ≡ int_cmp s t
ordered s t x y h k =
    let a = h.moment in
    let b = k.moment in
    ap (λ l. slice_cmp nat_cmp l y) h.is ∙ ap (λ l. slice_cmp nat_cmp (moment_text a) l) k.is
    ∙ cmp-append (date_text 45 a.date) (date_text 45 b.date) (32 ∷ clock_text a.time) (32 ∷ clock_text b.time) (length-date_text 45 a.date ∙ sym (length-date_text 45 b.date))
    ∙ ap (λ o. ordering_then o (slice_cmp nat_cmp (32 ∷ clock_text a.time) (32 ∷ clock_text b.time))) (date_cmp a.date b.date h.of_moment.from_year_0 k.of_moment.from_year_0)
    ∙ ap (λ o. ordering_then (int_cmp (epoch_day a.date) (epoch_day b.date)) o) (marked 32 (clock_text a.time) (clock_text b.time) ∙ time_cmp a.time b.time)
    ∙ moment_cmp a b
    ∙ ap (λ z. int_cmp z (civil_seconds b)) (sym h.of_moment.are) ∙ ap (λ z. int_cmp s z) (sym k.of_moment.are)
