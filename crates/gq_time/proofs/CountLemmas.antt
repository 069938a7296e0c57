-- Counts of seconds: their length, their bytes, and that each denotes one number.
use Rattle.std.proofs.Common.{◌≡◌, ℕ, ◌<◌, ◌≤◌, ◌^◌, Bool, true, false, List, ◌∷◌, length, get_or, sym, ap, subst, ◌∙◌, arith, inl, inr, ℤ, pos, neg_ℤ}
use Rattle.std.specs.Prelude.{if◌then◌else◌}
use Rattle.gq_time.specs.Texts.{digits}
use Rattle.gq_time.specs.Reading.{IsCount, IsFewDigits, TellsCount}
use Rattle.gq_time.specs.Places.{IsNumber}
use Rattle.gq_time.proofs.DigitLemmas.{length-digits, digits_byte, digits_injective}

pub count_long : (negative : Bool) (text : List ℕ) (s : ℤ) → IsCount negative text s → (1 ≤ length text) × (length text ≤ 12)
count_long negative text s h = let long = ap length h.whole ∙ length-digits h.size h.number in (omega (arith, h.few), omega (arith, h.few))

pub few_long : (text : List ℕ) → IsFewDigits text → (1 ≤ length text) × (length text ≤ 9)
few_long text h = let long = ap length h.3 ∙ length-digits h.0 h.1 in (omega (arith, h.2), omega (arith, h.2))

-- each byte of a count is a digit
pub count_byte : (negative : Bool) (text : List ℕ) (s : ℤ) (i : ℕ) → IsCount negative text s → i < length text → (48 ≤ get_or text i 0) × (get_or text i 0 ≤ 57)
count_byte negative text s i h below =
    let long = ap length h.whole ∙ length-digits h.size h.number in
    let byte = digits_byte h.size h.number i (omega arith) in
    let same = ap (λ l. get_or l i 0) h.whole in
    (omega arith, omega arith)

-- the seconds are those of the digits' number
pub count_is : (negative : Bool) (text : List ℕ) (s : ℤ) (n : ℕ) → IsNumber text n → IsCount negative text s → s ≡ (if negative then neg_ℤ (pos n) else pos n)
count_is negative text s n is h =
    let long = ap length h.whole ∙ length-digits h.size h.number in
    let fits : n < 10 ^ h.size = subst (λ i. n < 10 ^ i) long is.fits in
    let same : digits h.size h.number ≡ digits h.size n = sym h.whole ∙ is.is ∙ ap (λ i. digits i n) long in
    let number : h.number ≡ n = digits_injective h.size h.number n h.fits fits same in
    h.are ∙ ap (λ k. if negative then neg_ℤ (pos k) else pos k) number

-- a count has one meaning
count_same : (negative : Bool) (text : List ℕ) (s t : ℤ) → IsCount negative text s → IsCount negative text t → s ≡ t
count_same negative text s t h k =
    let long = ap length h.whole ∙ length-digits h.size h.number in
    let is : IsNumber text h.number = record {
      is = h.whole ∙ ap (λ i. digits i h.number) (sym long);
      fits = subst (λ i. h.number < 10 ^ i) (sym long) h.fits;
    } in
    count_is negative text s h.number is h ∙ sym (count_is negative text t h.number is k)

-- a count doesn't begin with `-`
pub count_no_sign : (negative : Bool) (digits : List ℕ) (s : ℤ) → IsCount negative (45 ∷ digits) s → ⊥
count_no_sign negative digits s h = let byte = count_byte negative (45 ∷ digits) s 0 h (omega arith) in omega arith

pub tells_count_same : (text : List ℕ) (s t : ℤ) → TellsCount text s → TellsCount text t → s ≡ t
tells_count_same text s t (inl h) (inl k) = count_same false text s t h k
tells_count_same text s t (inl h) (inr (digits, is, k)) = absurd (count_no_sign false digits s (subst (λ l. IsCount false l s) is h))
tells_count_same text s t (inr (digits, is, h)) (inl k) = absurd (count_no_sign false digits t (subst (λ l. IsCount false l t) is k))
tells_count_same text s t (inr (digits, is, h)) (inr (others, are, k)) =
    let both : 45 ∷ others ≡ 45 ∷ digits = sym are ∙ is in
    let same : others ≡ digits = cc in
    count_same true digits s t h (subst (λ l. IsCount true l t) same k)

-- at the fifth place of a count that is ten bytes long there is a digit
pub tells_count_byte : (text : List ℕ) (s : ℤ) → TellsCount text s → 10 ≤ length text → (48 ≤ get_or text 4 0) × (get_or text 4 0 ≤ 57)
tells_count_byte text s (inl h) long = count_byte false text s 4 h (omega arith)
tells_count_byte text s (inr (digits, is, h)) long =
    let size = ap length is in
    let byte = count_byte true digits s 3 h (omega arith) in
    let same = ap (λ l. get_or l 4 0) is in
    (omega arith, omega arith)

-- no count if what follows a `-` isn't one
pub no_signed_count : (text rest : List ℕ) (s : ℤ) → text ≡ 45 ∷ rest → (IsCount true rest s → ⊥) → TellsCount text s → ⊥
no_signed_count text rest s is none (inl h) = count_no_sign false rest s (subst (λ l. IsCount false l s) is h)
no_signed_count text rest s is none (inr (digits, are, h)) =
    let both : 45 ∷ digits ≡ 45 ∷ rest = sym are ∙ is in
    let same : digits ≡ rest = cc in
    none (subst (λ l. IsCount true l s) same h)

-- nor without a leading `-`, if the text isn't one
pub no_count : (text : List ℕ) (s : ℤ) → (get_or text 0 0 ≡ 45 → ⊥) → (IsCount false text s → ⊥) → TellsCount text s → ⊥
no_count text s signed none (inl h) = none h
no_count text s signed none (inr (rest, is, h)) = signed (ap (λ l. get_or l 0 0) is)
