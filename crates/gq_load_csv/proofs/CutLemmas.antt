-- Cuts: a text that is read by lines, cut behind a line end. The records of the parts, one after the other, are its records.
use Rattle.std.proofs.Common.{◌≡◌, ℕ, zero, suc, ◌+◌, ◌-◌, ◌<◌, List, [], ◌∷◌, ◌++◌, length, Option, Some, None, Bool, true, false, inl, inr, ◌⊎◌, refl, sym, ap, ap₂, subst, ◌∙◌, arith, take, drop, get_or, add-one}
use Rattle.std.specs.Prelude.{if◌then◌else◌, unwrap_or, ◌==◌}
use Rattle.std.specs.List.{list_all}
use Rattle.std.proofs.Math.Seq.{take-suc}
use Rattle.std.proofs.lemmas.List.{append-nil, drop_all, take_all, take-append-drop, get_or-drop}
use Rattle.std.proofs.lemmas.Bool.{cases_Bool}
use Rattle.std.proofs.lemmas.Bool.Decides.{nat_tests}
use Rattle.csv.specs.Reading.{records}
use Rattle.memchr.specs.Find.{IsFirstByte, is_byte}
use Rattle.gq_load_csv.specs.Lines.{is_plain_byte, line_from}
use Rattle.gq_load_csv.specs.Cursors.{behind_end}
use Rattle.gq_load_csv.specs.Records.{config_of}
use Rattle.gq_load_csv.proofs.LineLemmas.{both, end_before, first_line, length_behind, none_left}
use Rattle.gq_load_csv.proofs.CursorLemmas.{behind_line_is, plain_end}

-- ---- the first line of a text that is cut behind a line end

-- a text that ends with a line end
abbrev ended : List ℕ → List ℕ
ended text = text ++ 10 ∷ []

-- the fields of the first line don't depend on what is behind the cut
same_byte : (d c : ℕ) (a b : List ℕ) (f : List (List ℕ)) (p : List ℕ)
    → ((g : List (List ℕ)) (q : List ℕ) → (line_from d g q (ended a ++ b)).0 ≡ (line_from d g q (ended a)).0)
    → (x y : Bool)
    → (if x then line_from d (f ++ p ∷ []) [] (ended a ++ b) else if y then (f ++ p ∷ [], ended a ++ b) else line_from d f (p ++ c ∷ []) (ended a ++ b)).0
    ≡ (if x then line_from d (f ++ p ∷ []) [] (ended a) else if y then (f ++ p ∷ [], ended a) else line_from d f (p ++ c ∷ []) (ended a)).0
same_byte d c a b f p more true y = more (f ++ p ∷ []) []
same_byte d c a b f p more false true = refl
same_byte d c a b f p more false false = more f (p ++ c ∷ [])

same_fields : (d : ℕ) (a b : List ℕ) → (10 == d) ≡ false → (f : List (List ℕ)) (p : List ℕ) → (line_from d f p (ended a ++ b)).0 ≡ (line_from d f p (ended a)).0
unfolding line_from
same_fields d [] b line f p = rw line refl
same_fields d (c ∷ a) b line f p = same_byte d c a b f p (same_fields d a b line) (c == d) (c == 10)

-- what is behind the first line is longer by what is behind the cut
longer : (a b : List ℕ) → behind_end (ended a ++ b) ≡ behind_end (ended a) ++ b
longer [] b = refl
longer (c ∷ a) b = by (c == 10) (longer a b)
  where
    by : (e : Bool) → behind_end (ended a ++ b) ≡ behind_end (ended a) ++ b → (if e then ended a ++ b else behind_end (ended a ++ b)) ≡ (if e then ended a else behind_end (ended a)) ++ b
    by true more = refl
    by false more = more

-- it is nothing, or a shorter text that ends with a line end
pub record Ended (n : ℕ) (text : List ℕ) : Type 0 where
  front : List ℕ
  is : text ≡ ended front
  short : length front < n

fewer : (a : List ℕ) → (behind_end (ended a) ≡ []) ⊎ Ended (length a) (behind_end (ended a))
fewer [] = inl refl
fewer (c ∷ a) = by (c == 10) (fewer a)
  where
    wider : (behind_end (ended a) ≡ []) ⊎ Ended (length a) (behind_end (ended a)) → (behind_end (ended a) ≡ []) ⊎ Ended (suc (length a)) (behind_end (ended a))
    wider (inl none) = inl none
    wider (inr some) = inr (record { front = some.front; is = some.is; short = omega (arith, some.short) })

    by : (e : Bool) → (behind_end (ended a) ≡ []) ⊎ Ended (length a) (behind_end (ended a))
        → ((if e then ended a else behind_end (ended a)) ≡ []) ⊎ Ended (suc (length a)) (if e then ended a else behind_end (ended a))
    by true more = inr (record { front = a; is = refl; short = omega arith })
    by false more = wider more

-- ---- the records of both parts

plain_front : (p : ℕ → Bool) (a b : List ℕ) → list_all p (a ++ b) ≡ true → list_all p a ≡ true
plain_front p [] b plain = refl
plain_front p (c ∷ a) b plain =
    let parts = both (p c) (list_all p (a ++ b)) plain in
    rw (parts.0, plain_front p a b parts.1) refl

pub plain_taken : (p : ℕ → Bool) (n : ℕ) (text : List ℕ) → list_all p text ≡ true → list_all p (take n text) ≡ true
plain_taken p n text plain = plain_front p (take n text) (drop n text) (ap (list_all p) (take-append-drop n text) ∙ plain)

abbrev Cut : ℕ → Option ℕ → List ℕ → List ℕ → Type 0
Cut d q a b = records (config_of d q) (a ++ b) ≡ records (config_of d q) a ++ records (config_of d q) b

-- the parts of a text whose first line is behind the cut's front
cut_line : (d : ℕ) (q : Option ℕ) (c : ℕ) (a b : List ℕ) → (10 == d) ≡ false → list_all (is_plain_byte q) (ended (c ∷ a) ++ b) ≡ true → (c == 10) ≡ false
    → ((front : List ℕ) → length front < suc (length a) → list_all (is_plain_byte q) (ended front ++ b) ≡ true → Cut d q (ended front) b)
    → Cut d q (ended (c ∷ a)) b
cut_line d q c a b line plain other shorter =
    whole ∙ ap₂ (λ (l : List (List ℕ)) (r : List (List (List ℕ))). l ∷ r) (same_fields d (c ∷ a) b line [] []) (rest (fewer (c ∷ a)))
    ∙ ap (λ (r : List (List (List ℕ))). r ++ records (config_of d q) b) (sym front)
  where
    text : List ℕ
    text = ended (c ∷ a)

    whole : records (config_of d q) (text ++ b) ≡ (line_from d [] [] (text ++ b)).0 ∷ records (config_of d q) (line_from d [] [] (text ++ b)).1
    whole = first_line d q c (ended a ++ b) plain other

    front : records (config_of d q) text ≡ (line_from d [] [] text).0 ∷ records (config_of d q) (line_from d [] [] text).1
    front = first_line d q c (ended a) (plain_front (is_plain_byte q) text b plain) other

    behind : (line_from d [] [] (text ++ b)).1 ≡ behind_end text ++ b
    behind = behind_line_is d (text ++ b) line [] [] ∙ longer (c ∷ a) b

    plain_rest : list_all (is_plain_byte q) (behind_end text ++ b) ≡ true
    plain_rest = ap (list_all (is_plain_byte q)) (sym (longer (c ∷ a) b)) ∙ plain_end (is_plain_byte q) (text ++ b) plain

    parts : (behind_end text ≡ []) ⊎ Ended (suc (length a)) (behind_end text) → Cut d q (behind_end text) b
    parts (inl none) = rw none (ap (λ (r : List (List (List ℕ))). r ++ records (config_of d q) b) (sym (none_left d q)))
    parts (inr some) = subst (λ (r : List ℕ). Cut d q r b) (sym some.is) (shorter some.front some.short (subst (λ (r : List ℕ). list_all (is_plain_byte q) (r ++ b) ≡ true) some.is plain_rest))

    rest : (behind_end text ≡ []) ⊎ Ended (suc (length a)) (behind_end text)
        → records (config_of d q) (line_from d [] [] (text ++ b)).1 ≡ records (config_of d q) (line_from d [] [] text).1 ++ records (config_of d q) b
    rest some =
        ap (records (config_of d q)) behind ∙ parts some
        ∙ ap (λ (r : List ℕ). records (config_of d q) r ++ records (config_of d q) b) (sym (behind_line_is d text line [] []))

cut_within : (n : ℕ) (d : ℕ) (q : Option ℕ) (a b : List ℕ) → length a < n → (10 == d) ≡ false → list_all (is_plain_byte q) (ended a ++ b) ≡ true → Cut d q (ended a) b
cut_within zero d q a b short line plain = absurd (omega (arith, short))
cut_within (suc n) d q [] b short line plain =
    end_before d q b ∙ ap (λ (r : List (List (List ℕ))). r ++ records (config_of d q) b) (sym (end_before d q [] ∙ none_left d q))
cut_within (suc n) d q (c ∷ a) b short line plain = go (cases_Bool (c == 10)) (cut_within n d q)
  where
    tail : list_all (is_plain_byte q) (ended a ++ b) ≡ true
    tail = (both (is_plain_byte q c) (list_all (is_plain_byte q) (ended a ++ b)) plain).1

    go : ((c == 10) ≡ true) ⊎ ((c == 10) ≡ false) → ((front more : List ℕ) → length front < n → (10 == d) ≡ false → list_all (is_plain_byte q) (ended front ++ more) ≡ true → Cut d q (ended front) more)
        → Cut d q (ended (c ∷ a)) b
    go (inl is) again =
        let here : c ≡ 10 = grind (arith, nat_tests) in
        subst (λ (k : ℕ). Cut d q (ended (k ∷ a)) b) (sym here)
        (end_before d q (ended a ++ b) ∙ again a b (omega (arith, short)) line tail
        ∙ ap (λ (r : List (List (List ℕ))). r ++ records (config_of d q) b) (sym (end_before d q (ended a))))
    go (inr isnt) again = cut_line d q c a b line plain isnt (λ front low plain_front. again front b (omega (arith, short, low)) line plain_front)

-- ---- a cut at a place

abbrev Parts : ℕ → Option ℕ → List ℕ → ℕ → Type 0
Parts d q text place = records (config_of d q) text ≡ records (config_of d q) (take place text) ++ records (config_of d q) (drop place text)

-- behind a line end
pub cut_behind : (d : ℕ) (q : Option ℕ) (text : List ℕ) (place : ℕ) → (10 == d) ≡ false → list_all (is_plain_byte q) text ≡ true → place < length text → get_or text place 0 ≡ 10
    → Parts d q text (place + 1)
cut_behind d q text place line plain low is = subst (Parts d q text) (sym (add-one place)) parts
  where
    front : take (suc place) text ≡ ended (take place text)
    front = take-suc text place 0 low ∙ ap (λ (b : ℕ). take place text ++ b ∷ []) is

    whole : ended (take place text) ++ drop (suc place) text ≡ text
    whole = ap (λ (f : List ℕ). f ++ drop (suc place) text) (sym front) ∙ take-append-drop (suc place) text

    parts : Parts d q text (suc place)
    parts =
        ap (records (config_of d q)) (sym whole)
        ∙ cut_within (suc (length (take place text))) d q (take place text) (drop (suc place) text) (omega arith) line (ap (list_all (is_plain_byte q)) whole ∙ plain)
        ∙ ap (λ (f : List ℕ). records (config_of d q) f ++ records (config_of d q) (drop (suc place) text)) (sym front)

-- at the end
pub cut_end : (d : ℕ) (q : Option ℕ) (text : List ℕ) → Parts d q text (length text)
cut_end d q text =
    sym (append-nil (records (config_of d q) text))
    ∙ ap₂ (λ (f r : List (List (List ℕ))). f ++ r) (ap (records (config_of d q)) (sym (take_all (length text) text (omega arith))))
    (sym (ap (records (config_of d q)) (drop_all (length text) text (omega arith)) ∙ none_left d q))

-- the byte that a search found
first_is : (o : Option ℕ) (place : ℕ) (hay : List ℕ) → o ≡ Some place → IsFirstByte (is_byte 10) hay o → (place < length hay) × (get_or hay place 0 ≡ 10)
first_is None place hay e h = absurd (cc)
first_is (Some k) place hay e h =
    let same : k ≡ place = ap (λ (o : Option ℕ). unwrap_or o 0) e in
    let here : get_or hay k 0 ≡ 10 = grind (arith, nat_tests, h.1) in
    subst (λ (n : ℕ). (n < length hay) × (get_or hay n 0 ≡ 10)) same (h.0.high, here)

-- behind the line end that a search from a place found
pub cut_found : (d : ℕ) (q : Option ℕ) (text hay : List ℕ) (size place : ℕ) (o : Option ℕ) → hay ≡ take (length text - size) (drop size text) → size < length text
    → o ≡ Some place → IsFirstByte (is_byte 10) hay o → (10 == d) ≡ false → list_all (is_plain_byte q) text ≡ true → Parts d q text (size + place + 1)
cut_found d q text hay size place o is low e found line plain =
    let whole : hay ≡ drop size text = is ∙ take_all (length text - size) (drop size text) (omega (arith, length_behind size text (omega arith))) in
    let first : (place < length hay) × (get_or hay place 0 ≡ 10) = first_is o place hay e found in
    let here : get_or text (size + place) 0 ≡ 10 = sym (get_or-drop size text place 0) ∙ ap (λ (h : List ℕ). get_or h place 0) (sym whole) ∙ first.1 in
    cut_behind d q text (size + place) line plain (omega (arith, first.0, ap length whole, length_behind size text (omega arith))) here
