-- NumberLemmas: digits are read as the number that they write.
use Rattle.std.proofs.Common.{◌≡◌, ℕ, suc, ◌+◌, ◌-◌, ◌*◌, ◌<◌, ◌≤◌, ◌^◌, Bool, true, false, ◌==◌, ◌&&◌, nat_le, List, [], ◌∷◌, ◌++◌, length, get_or, take, drop, refl, sym, ap, subst, ◌∙◌, arith, append_assoc, Option, Some, None}
use Rattle.std.proofs.lemmas.List.{append-nil}
use Rattle.std.proofs.lemmas.Bool.Decides.{nat_tests}
use Rattle.gq_time.specs.Texts.{digits, three_text}
use Rattle.gq_time.specs.Places.{IsNumber, IsThree}
use Rattle.gq_time.proofs.DigitLemmas.{digits-zero, length-digits, digits_push, digits_byte, digits_injective, digit_fits}
use Rattle.gq_time.proofs.PlaceLemmas.{has_three, three_found, sized}
use Rattle.gq_rules_calendar.specs.Reading.{and_then, if_true, is_digit, number_behind, number, is_marked, three}

-- ---- tests and options

pub both : (a b : Bool) → (a && b) ≡ true → (a ≡ true) × (b ≡ true)
both true true h = (refl, refl)
both true false h = absurd cc
both false b h = absurd cc

pub both_true : (a b : Bool) → a ≡ true → b ≡ true → (a && b) ≡ true
both_true a b h k = rw (h, k) refl

pub same : (a b : ℕ) → (a == b) ≡ true → a ≡ b
same a b h = grind (arith, nat_tests)

pub same_true : (a b : ℕ) → a ≡ b → (a == b) ≡ true
same_true a b h = grind (arith, nat_tests)

pub if_is : {A : Type 0} (b : Bool) (o : Option A) (y : A) → if_true b o ≡ Some y → (b ≡ true) × (o ≡ Some y)
if_is true o y e = (refl, e)
if_is false o y e = absurd cc

pub if_given : {A : Type 0} (b : Bool) (o : Option A) → b ≡ true → if_true b o ≡ o
if_given b o h = rw h refl

pub record Comes {A B : Type 0} (o : Option A) (f : A → Option B) (y : B) : Type 0 where
  pub first : A
  pub is : o ≡ Some first
  pub gives : f first ≡ Some y

pub comes : {A B : Type 0} (o : Option A) (f : A → Option B) (y : B) → and_then o f ≡ Some y → Comes o f y
comes None f y e = absurd cc
comes (Some x) f y e = record { first = x; is = refl; gives = e }

pub then_given : {A B : Type 0} (o : Option A) (f : A → Option B) (x : A) → o ≡ Some x → and_then o f ≡ f x
then_given o f x e = rw e refl

-- ---- numbers

record Continues (n k : ℕ) (text : List ℕ) (m : ℕ) : Type 0 where
  whole : digits k n ++ text ≡ digits (k + length text) m
  fits : n < 10 ^ k → m < 10 ^ (k + length text)

continues : (n k : ℕ) (text : List ℕ) (m : ℕ) → number_behind n text ≡ Some m → Continues n k text m
continues n k [] m e =
    let is : n ≡ m = cc in let none : k + 0 ≡ k = omega arith in
    record {
      whole = rw none (append-nil (digits k n) ∙ ap (digits k) is);
      fits = λ h. rw none (subst (λ x. x < 10 ^ k) is h);
    }
continues n k (c ∷ text) m e =
    let test = if_is (is_digit c) (number_behind (n * 10 + (c - 48)) text) m e in
    let ends = both (nat_le 48 c) (nat_le c 57) test.0 in
    let low : 48 ≤ c = (let h = ends.0 in grind (arith, nat_tests)) in
    let high : c ≤ 57 = (let h = ends.1 in grind (arith, nat_tests)) in
    let byte : 48 + (c - 48) ≡ c = omega arith in
    let rest = continues (n * 10 + (c - 48)) (k + 1) text m test.1 in
    let long : k + 1 + length text ≡ k + length (c ∷ text) = omega arith in
    record {
      whole = ap (λ b. digits k n ++ b ∷ text) (sym byte) ∙ sym (append_assoc (digits k n) ((48 + (c - 48)) ∷ []) text) ∙ ap (λ l. l ++ text) (sym (digits_push k n (c - 48) (omega arith))) ∙ rest.whole ∙ ap (λ i. digits i m) long;
      fits = λ h. subst (λ i. m < 10 ^ i) long (rest.fits (digit_fits k n (c - 48) h (omega arith)));
    }

pub number_is : (text : List ℕ) (m : ℕ) → number text ≡ Some m → IsNumber text m
number_is text m e =
    let h = continues 0 0 text m e in
    let all : 0 + length text ≡ length text = omega arith in
    record {
      is = sym (ap (λ l. l ++ text) (digits-zero 0)) ∙ h.whole ∙ ap (λ i. digits i m) all;
      fits = subst (λ i. m < 10 ^ i) all (h.fits (omega arith));
    }

abbrev pub AreDigits : List ℕ → Type 0
AreDigits text = (i : ℕ) → i < length text → (48 ≤ get_or text i 0) × (get_or text i 0 ≤ 57)

pub number_some : (n : ℕ) (text : List ℕ) → AreDigits text → (m : ℕ) × (number_behind n text ≡ Some m)
number_some n [] h = (n, refl)
number_some n (c ∷ text) h =
    let first = h 0 (omega arith) in
    let test : is_digit c ≡ true = both_true (nat_le 48 c) (nat_le c 57) (let low : 48 ≤ c = first.0 in grind (arith, nat_tests)) (let high : c ≤ 57 = first.1 in grind (arith, nat_tests)) in
    let rest = number_some (n * 10 + (c - 48)) text (λ i below. h (suc i) (omega arith)) in
    (rest.0, if_given (is_digit c) (number_behind (n * 10 + (c - 48)) text) test ∙ rest.1)

pub are_digits : (text : List ℕ) (size n : ℕ) → text ≡ digits size n → AreDigits text
are_digits text size n is i below =
    let long = ap length is ∙ length-digits size n in
    let byte = digits_byte size n i (omega arith) in
    let at = ap (λ l. get_or l i 0) is in
    (omega arith, omega arith)

pub number_given : (text : List ℕ) (m : ℕ) → IsNumber text m → number text ≡ Some m
number_given text m h =
    let some = number_some 0 text (are_digits text (length text) m h.is) in
    let is = number_is text some.0 some.1 in
    some.1 ∙ ap Some (digits_injective (length text) some.0 m is.fits h.fits (sym is.is ∙ h.is))

-- ---- three numbers

pub three_is : (size mark : ℕ) (text : List ℕ) (p : ℕ × ℕ × ℕ) → three size mark text ≡ Some p → IsThree text size mark p
three_is size mark text p e =
    let test = if_is (is_marked size mark text) (and_then (number (take size text)) (λ a. and_then (number (take 2 (drop (size + 1) text))) (λ b. and_then (number (drop (size + 4) text)) (λ c. Some (a, b, c))))) p e in
    let long = both (length text == size + 6) ((get_or text size 0 == mark) && (get_or text (size + 3) 0 == mark)) test.0 in
    let marks = both (get_or text size 0 == mark) (get_or text (size + 3) 0 == mark) long.1 in
    let one = comes (number (take size text)) _ p test.1 in
    let two = comes (number (take 2 (drop (size + 1) text))) _ p one.gives in
    let three = comes (number (drop (size + 4) text)) _ p two.gives in
    let all : (one.first, two.first, three.first) ≡ p = (let e = three.gives in cc) in
    subst (IsThree text size mark) all (three_found text size mark (one.first, two.first, three.first) (same (length text) (size + 6) long.0) (same (get_or text size 0) mark marks.0) (same (get_or text (size + 3) 0) mark marks.1)
    (number_is (take size text) one.first one.is) (number_is (take 2 (drop (size + 1) text)) two.first two.is) (number_is (drop (size + 4) text) three.first three.is))

sized_number : (part : List ℕ) (size n : ℕ) → part ≡ digits size n → n < 10 ^ size → IsNumber part n
sized_number part size n is small = record { is = sized part size n is; fits = subst (λ i. n < 10 ^ i) (sym (ap length is ∙ length-digits size n)) small }

pub three_given : (size mark : ℕ) (text : List ℕ) (a b c : ℕ) → text ≡ three_text size mark a b c → a < 10 ^ size → b < 100 → c < 100 → three size mark text ≡ Some (a, b, c)
three_given size mark text a b c is first second third =
    let has = has_three text size mark a b c is in
    let test : is_marked size mark text ≡ true = both_true (length text == size + 6) ((get_or text size 0 == mark) && (get_or text (size + 3) 0 == mark)) (same_true (length text) (size + 6) has.long)
    (both_true (get_or text size 0 == mark) (get_or text (size + 3) 0 == mark) (same_true (get_or text size 0) mark has.mark_one) (same_true (get_or text (size + 3) 0) mark has.mark_two)) in
    let one = number_given (take size text) a (sized_number (take size text) size a has.first first) in
    let two = number_given (take 2 (drop (size + 1) text)) b (sized_number (take 2 (drop (size + 1) text)) 2 b has.second second) in
    let three = number_given (drop (size + 4) text) c (sized_number (drop (size + 4) text) 2 c has.third third) in
    rw (test, one, two, three) refl
