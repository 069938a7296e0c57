-- Seeks: a walk through the rows of one hash, for the first row that passes a test. Tables use it.
use Rattle.std.proofs.Common.{ℕ, zero, suc, ◌+◌, ◌<◌, ◌≡◌, Bool, true, false, cond, List, [], ◌∷◌, length, get_or, Option, Some, None, refl, ap, sym, ◌∙◌, arith, inl, inr}
use Rattle.std.specs.List.{position, position_from}
use Rattle.std.proofs.lemmas.Iterator.Adapters.{position_from-zero}
use Rattle.std.proofs.lemmas.Bool.{cases_lt}
use Rattle.std.proofs.lemmas.Bool.Decides.{eqb_tells}
use Rattle.gq_base.specs.Last.{IsLast}

-- the next row to look at, if any: no later row passes
abbrev pub Seeks : {X : Type 0} → (X → Bool) → X → List X → List ℕ → ℕ → Option ℕ → Type 0
Seeks p d rows hashes hash None = (k : ℕ) → k < length rows → p (get_or rows k d) ≡ false
Seeks p d rows hashes hash (Some n) =
    (n < length rows) × (get_or hashes n 0 ≡ hash) × ((k : ℕ) → n < k → k < length rows → p (get_or rows k d) ≡ false)

-- a row that passes has the hash
abbrev pub Hits : {X : Type 0} → (X → Bool) → X → List X → List ℕ → ℕ → Type 0
Hits p d rows hashes hash = (k : ℕ) → k < length rows → p (get_or rows k d) ≡ true → get_or hashes k 0 ≡ hash

-- the number of steps left at most
abbrev pub steps_left : Option ℕ → ℕ
steps_left None = 0
steps_left (Some n) = n + 1

missed : (b : Bool) → (b ≡ true → ⊥) → b ≡ false
missed true not = absurd (not refl)
missed false not = refl

pub seek_starts : {X : Type 0} (p : X → Bool) (d : X) (rows : List X) (hashes : List ℕ) (hash : ℕ) (next : Option ℕ) → length hashes ≡ length rows
    → Hits p d rows hashes hash → IsLast hashes hash (length hashes) next → Seeks p d rows hashes hash next
seek_starts p d rows hashes hash None long hits last = λ k low. missed (p (get_or rows k d)) (λ is. last k (omega arith) (hits k low is))
seek_starts p d rows hashes hash (Some n) long hits last =
    (omega (arith, last.0), last.1, λ k over low. missed (p (get_or rows k d)) (λ is. last.2 k over (omega arith) (hits k low is)))

pub seek_goes : {X : Type 0} (p : X → Bool) (d : X) (rows : List X) (hashes : List ℕ) (hash n : ℕ) (next : Option ℕ)
    → Hits p d rows hashes hash → Seeks p d rows hashes hash (Some n) → p (get_or rows n d) ≡ false
    → IsLast hashes (get_or hashes n 0) n next → Seeks p d rows hashes hash next
seek_goes p d rows hashes hash n None hits here miss last = λ k low. elim (cases_lt k n) [
  | inl under ↦ missed (p (get_or rows k d)) (λ is. last k under (hits k low is ∙ sym here.1))
  | inr over ↦ elim (eqb_tells k n) [
    | inl h ↦ ap (λ j. p (get_or rows j d)) h.1 ∙ miss
    | inr h ↦ here.2 k (omega (arith, h.1)) low
  ]
]
seek_goes p d rows hashes hash n (Some m) hits here miss last = (
  omega (arith, last.0, here.0),
  last.1 ∙ here.1,
  λ k behind low. elim (cases_lt k n) [
    | inl under ↦ missed (p (get_or rows k d)) (λ is. last.2 k behind under (hits k low is ∙ sym here.1))
    | inr over ↦ elim (eqb_tells k n) [
      | inl h ↦ ap (λ j. p (get_or rows j d)) h.1 ∙ miss
      | inr h ↦ here.2 k (omega (arith, h.1)) low
    ]
  ],
)

none_from : {X : Type 0} (p : X → Bool) (d : X) (i : ℕ) (rows : List X) → ((k : ℕ) → k < length rows → p (get_or rows k d) ≡ false) → position_from p i rows ≡ None
none_from p d i [] miss = refl
none_from p d i (x ∷ xs) miss =
    ap (λ b. cond b (Some i) (position_from p (i + 1) xs)) (miss 0 (omega arith)) ∙ none_from p d (i + 1) xs (λ k low. miss (suc k) (omega arith))

pub seek_none : {X : Type 0} (p : X → Bool) (d : X) (rows : List X) → ((k : ℕ) → k < length rows → p (get_or rows k d) ≡ false) → position p rows ≡ None
seek_none p d rows miss = position_from-zero p rows ∙ none_from p d 0 rows miss

found_from : {X : Type 0} (p : X → Bool) (d : X) (i n : ℕ) (rows : List X) → n < length rows → p (get_or rows n d) ≡ true
    → ((k : ℕ) → k < n → p (get_or rows k d) ≡ false) → position_from p i rows ≡ Some (i + n)
found_from p d i n [] low is first = absurd (omega arith)
found_from p d i zero (x ∷ xs) low is first =
    ap (λ b. cond b (Some i) (position_from p (i + 1) xs)) is ∙ ap Some (let e : i ≡ i + 0 = omega arith in e)
found_from p d i (suc n) (x ∷ xs) low is first =
    ap (λ b. cond b (Some i) (position_from p (i + 1) xs)) (first 0 (omega arith))
    ∙ found_from p d (i + 1) n xs (omega arith) is (λ k under. first (suc k) (omega arith)) ∙ ap Some (let e : i + 1 + n ≡ i + suc n = omega arith in e)

-- if no two rows pass, a row that passes is the first one
pub seek_found : {X : Type 0} (p : X → Bool) (d : X) (n : ℕ) (rows : List X) → n < length rows → p (get_or rows n d) ≡ true
    → ((i j : ℕ) → i < j → j < length rows → p (get_or rows i d) ≡ true → p (get_or rows j d) ≡ true → ⊥) → position p rows ≡ Some n
seek_found p d n rows low is apart =
    position_from-zero p rows
    ∙ found_from p d 0 n rows low is (λ k under. missed (p (get_or rows k d)) (λ hit. apart k n under low hit is))
    ∙ ap Some (let e : 0 + n ≡ n = omega arith in e)

-- if rows of one hash all pass, the last of them is the answer
pub seek_exact : {X : Type 0} (p : X → Bool) (d : X) (rows : List X) (hashes : List ℕ) (hash : ℕ) (next : Option ℕ) → length hashes ≡ length rows
    → Hits p d rows hashes hash → ((k : ℕ) → k < length rows → get_or hashes k 0 ≡ hash → p (get_or rows k d) ≡ true)
    → ((i j : ℕ) → i < j → j < length rows → p (get_or rows i d) ≡ true → p (get_or rows j d) ≡ true → ⊥)
    → IsLast hashes hash (length hashes) next → next ≡ position p rows
seek_exact p d rows hashes hash None long hits exact one last = sym (seek_none p d rows (seek_starts p d rows hashes hash None long hits last))
seek_exact p d rows hashes hash (Some n) long hits exact one last =
    let low : n < length rows = omega (arith, last.0) in
    sym (seek_found p d n rows low (exact n low last.1) one)

-- if no row is found, none passes
pub nowhere : {X : Type 0} (p : X → Bool) (d : X) (rows : List X) (i : ℕ) → position p rows ≡ None → i < length rows → p (get_or rows i d) ≡ true → ⊥
nowhere p d rows i none low is = none_passes p d 0 rows i (sym (position_from-zero p rows) ∙ none) low is
  where
    missing : (b : Bool) (n : ℕ) (r : Option ℕ) → cond b (Some n) r ≡ None → (b ≡ false) × (r ≡ None)
    missing true n r h = absurd (cc)
    missing false n r h = (refl, h)

    none_passes : {X : Type 0} (p : X → Bool) (d : X) (n : ℕ) (rows : List X) (i : ℕ) → position_from p n rows ≡ None → i < length rows → p (get_or rows i d) ≡ true → ⊥
    none_passes p d n [] i none low is = absurd (omega arith)
    none_passes p d n (x ∷ xs) zero none low is = let hit : p x ≡ false = (missing (p x) n (position_from p (n + 1) xs) none).0 in absurd (cc)
    none_passes p d n (x ∷ xs) (suc i) none low is = none_passes p d (n + 1) xs i (missing (p x) n (position_from p (n + 1) xs) none).1 (omega arith) is
