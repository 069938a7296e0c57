-- Readings: the function that reads a text as DATETIME: returns its seconds, or None if it isn't a DATETIME.
use Rattle.std.proofs.Common.{◌≡◌, ◌⊎◌, ℕ, ◌≤◌, Bool, true, false, List, [], ◌∷◌, length, Option, Some, None, refl, ap, subst, arith, inl, inr, ℤ, pos, neg_ℤ, ◌≤ℤ◌}
use Rattle.std.specs.Prelude.{if◌then◌else◌}
use Rattle.std.proofs.lemmas.Bool.{cases_eq}
use Rattle.std.proofs.lemmas.Int.{by_lt_z}
use Rattle.jiff_core.specs.DateTime.{civil_seconds}
use Rattle.jiff_core.proofs.SignedLemmas.{signed_arith}
use Rattle.gq_time.specs.Moments.{IsDatetime}
use Rattle.gq_time.specs.Texts.{digits}
use Rattle.gq_time.specs.Places.{IsNumber}
use Rattle.gq_time.specs.Reading.{IsCount, TellsCount, TellsMoment, Tells, Reads, trimmed}
use Rattle.gq_time.proofs.PlaceLemmas.{sized}
use Rattle.gq_time.proofs.CountLemmas.{count_long, count_is, no_signed_count, no_count}
use Rattle.gq_time.proofs.ReadingLemmas.{tells_same}
use Rattle.gq_load_csv.specs.Fields.{TellsTimes}
use Rattle.gq_load_csv.specs.Deciding.{Found, Decided}
use Rattle.gq_load_csv.specs.Numbers.{number_found}
use Rattle.gq_load_csv.specs.Moments.{both_or, upto_or, moment_found}

-- ---- counts

below_z : (a b : ℤ) → Decided (a ≤ℤ b)
below_z a b = by_lt_z b a (λ lt. inr (λ le. omega (arith, signed_arith))) (λ ge. inl ge)

range_or : (s : ℤ) → Decided (IsDatetime s)
range_or s = both_or (below_z (neg_ℤ (pos 62_167_219_200)) s) (below_z s (pos 253_402_300_799))

-- the seconds of a number
abbrev signed_of : Bool → ℕ → ℤ
signed_of negative n = if negative then neg_ℤ (pos n) else pos n

counted_found : (negative : Bool) (text : List ℕ) → Found (IsCount negative text)
counted_found negative text = by (both_or (upto_or 1 (length text)) (upto_or (length text) 12)) (number_found text)
  where
    ranged : (1 ≤ length text) × (length text ≤ 12) → (n : ℕ) → IsNumber text n → Decided (IsDatetime (signed_of negative n)) → Found (IsCount negative text)
    ranged long n is (inl range) =
        inl (signed_of negative n, record { size = length text; number = n; few = (long.0, long.1); fits = is.fits; whole = is.is; are = refl; in_range = range })
    ranged long n is (inr never) = inr (λ s count. never (subst IsDatetime (count_is negative text s n is count) count.in_range))

    by : Decided ((1 ≤ length text) × (length text ≤ 12)) → ((n : ℕ) × IsNumber text n) ⊎ ((n : ℕ) → text ≡ digits (length text) n → ⊥) → Found (IsCount negative text)
    by (inr never) number = inr (λ s count. never (count_long negative text s count))
    by (inl long) (inl (n, is)) = ranged long n is (range_or (signed_of negative n))
    by (inl long) (inr none) = inr (λ s count. none count.number (sized text count.size count.number count.whole))

count_found : (text : List ℕ) → Found (TellsCount text)
count_found [] = by (counted_found false [])
  where
    by : Found (IsCount false []) → Found (TellsCount [])
    by (inl (s, count)) = inl (s, inl count)
    by (inr none) = inr (λ s tells. no_count [] s (λ e. omega (arith, e)) (none s) tells)
count_found (c ∷ text) = by (cases_eq c 45) (counted_found true text) (counted_found false (c ∷ text))
  where
    by : Decided (c ≡ 45) → Found (IsCount true text) → Found (IsCount false (c ∷ text)) → Found (TellsCount (c ∷ text))
    by (inl minus) (inl (s, count)) plain = inl (s, inr (text, ap (λ b. b ∷ text) minus, count))
    by (inl minus) (inr none) plain = inr (λ s tells. no_signed_count (c ∷ text) text s (ap (λ b. b ∷ text) minus) (none s) tells)
    by (inr other) signed (inl (s, count)) = inl (s, inl count)
    by (inr other) signed (inr none) = inr (λ s tells. no_count (c ∷ text) s other (none s) tells)

-- ---- texts

tells_found : (text : List ℕ) → Found (Tells text)
tells_found text = by (moment_found text) (count_found text)
  where
    by : Found (TellsMoment text) → Found (TellsCount text) → Found (Tells text)
    by (inl (moment, tells)) count = inl (civil_seconds moment, inl (moment, tells, refl))
    by (inr none) (inl (s, tells)) = inl (s, inr tells)
    by (inr none) (inr never) = inr (λ s tells. elim tells [ inl m ↦ none m.0 m.1 | inr c ↦ never s c ])

-- the seconds that were found, or None
abbrev seconds_of : {P : ℤ → Type 0} → Found P → Option ℤ
seconds_of (inl found) = Some found.0
seconds_of (inr none) = None

-- the seconds that the text reads as
pub reading : List ℕ → Option ℤ
reading text = seconds_of (tells_found (trimmed text))

-- it reads the seconds of each text, and no others
pub reading_tells : TellsTimes reading
unfolding reading
reading_tells text s = (read (tells_found (trimmed text)), back (tells_found (trimmed text)))
  where
    same : (a b : ℤ) → Some a ≡ Some b → a ≡ b
    same a b e = cc

    read : (found : Found (Tells (trimmed text))) → seconds_of found ≡ Some s → Reads text s
    read (inl (t, tells)) is = subst (Tells (trimmed text)) (same t s is) tells
    read (inr none) is = absurd (cc)

    back : (found : Found (Tells (trimmed text))) → Reads text s → seconds_of found ≡ Some s
    back (inl (t, tells)) reads = ap Some (tells_same (trimmed text) t s tells reads)
    back (inr none) reads = absurd (none s reads)
