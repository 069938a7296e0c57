-- Three numbers with a mark between them, by the places of their parts.
use Rattle.std.proofs.Common.{◌≡◌, ℕ, ◌+◌, ◌-◌, ◌<◌, ◌≤◌, ◌^◌, List, [], ◌∷◌, ◌++◌, length, get_or, take, drop, refl, sym, ap, subst, ◌∙◌, arith, append_assoc}
use Rattle.std.specs.Prelude.{Option, None, Some, IfNone}
use Rattle.std.proofs.lemmas.List.{take_all, take_more, take_rest, length-append, length-take, length-drop, take-append-drop, take_at, drop_at, drop-drop, drop_more, get_or_at, get_or-drop}
use Rattle.gq_time.specs.Texts.{digits, three_text}
use Rattle.gq_time.specs.Places.{IsNumber, IsThree}
use Rattle.gq_time.proofs.DigitLemmas.{length-digits, digits_injective}

-- a part, a mark and the rest, by the part's size
pub record HasPart (text part : List ℕ) (mark : ℕ) (rest : List ℕ) (size : ℕ) : Type 0 where
  pub front : take size text ≡ part
  pub at : get_or text size 0 ≡ mark
  pub behind : drop (size + 1) text ≡ rest

pub has_part : (text part : List ℕ) (mark : ℕ) (rest : List ℕ) (size : ℕ) → length part ≡ size → text ≡ part ++ mark ∷ rest → HasPart text part mark rest size
has_part text part mark rest size long is = record {
  front = ap (take size) is ∙ take_at part (mark ∷ rest) size long;
  at = ap (λ l. get_or l size 0) is ∙ get_or_at part mark rest 0 size long;
  behind = ap (drop (size + 1)) (is ∙ sym (append_assoc part (mark ∷ []) rest)) ∙ drop_at (part ++ mark ∷ []) rest (size + 1) (omega (arith, length-append part (mark ∷ [])));
}

-- and back
pub part_from : (text part : List ℕ) (mark : ℕ) (rest : List ℕ) (size : ℕ) → size < length text → HasPart text part mark rest size → text ≡ part ++ mark ∷ rest
part_from text part mark rest size below h =
    sym (take-append-drop size text) ∙ ap (λ l. l ++ drop size text) h.front ∙ ap (λ l. part ++ l) (drop_more text size 0 below)
    ∙ ap (λ b. part ++ b ∷ drop (size + 1) text) h.at ∙ ap (λ l. part ++ mark ∷ l) h.behind

-- the parts of the text of three numbers, by their places
pub record HasThree (text : List ℕ) (size mark a b c : ℕ) : Type 0 where
  pub long : length text ≡ size + 6
  pub first : take size text ≡ digits size a
  pub mark_one : get_or text size 0 ≡ mark
  pub second : take 2 (drop (size + 1) text) ≡ digits 2 b
  pub mark_two : get_or text (size + 3) 0 ≡ mark
  pub third : drop (size + 4) text ≡ digits 2 c

pub has_three : (text : List ℕ) (size mark a b c : ℕ) → text ≡ three_text size mark a b c → HasThree text size mark a b c
has_three text size mark a b c is =
    let rest = digits 2 b ++ mark ∷ digits 2 c in
    let one = has_part text (digits size a) mark rest size (length-digits size a) is in
    let two = has_part (drop (size + 1) text) (digits 2 b) mark (digits 2 c) 2 (length-digits 2 b) one.behind in
    record {
      long = ap length is ∙ omega (arith, length-append (digits size a) (mark ∷ rest), length-append (digits 2 b) (mark ∷ digits 2 c), length-digits size a, length-digits 2 b, length-digits 2 c);
      first = one.front;
      mark_one = one.at;
      second = two.front;
      mark_two = (let place : size + 3 ≡ size + 1 + 2 = omega arith in ap (λ i. get_or text i 0) place) ∙ sym (get_or-drop (size + 1) text 2 0) ∙ two.at;
      third = (let place : size + 4 ≡ size + 1 + 3 = omega arith in ap (λ i. drop i text) place) ∙ sym (drop-drop 3 (size + 1) text) ∙ two.behind;
    }

pub three_from : (text : List ℕ) (size mark a b c : ℕ) → HasThree text size mark a b c → text ≡ three_text size mark a b c
three_from text size mark a b c h =
    let rest = drop (size + 1) text in
    let long : length rest ≡ 5 = omega (arith, h.long, length-drop (size + 1) text) in
    let two : HasPart rest (digits 2 b) mark (digits 2 c) 2 = record {
      front = h.second;
      at = get_or-drop (size + 1) text 2 0 ∙ (let place : size + 1 + 2 ≡ size + 3 = omega arith in ap (λ i. get_or text i 0) place) ∙ h.mark_two;
      behind = drop-drop 3 (size + 1) text ∙ (let place : size + 1 + 3 ≡ size + 4 = omega arith in ap (λ i. drop i text) place) ∙ h.third;
    } in
    part_from text (digits size a) mark (digits 2 b ++ mark ∷ digits 2 c) size (omega (arith, h.long)) (record {
      front = h.first;
      at = h.mark_one;
      behind = part_from rest (digits 2 b) mark (digits 2 c) 2 (omega arith) two;
    })

-- a text is that of three numbers at most, whatever the mark
pub three_injective : (size mark a b c mark' a' b' c' : ℕ) → a < 10 ^ size → a' < 10 ^ size → b < 100 → b' < 100 → c < 100 → c' < 100
    → three_text size mark a b c ≡ three_text size mark' a' b' c' → (a ≡ a') × (b ≡ b') × (c ≡ c')
three_injective size mark a b c mark' a' b' c' ha ha' hb hb' hc hc' e =
    let left = has_three (three_text size mark a b c) size mark a b c refl in
    let right = has_three (three_text size mark a b c) size mark' a' b' c' e in (
      digits_injective size a a' ha ha' (sym left.first ∙ right.first),
      digits_injective 2 b b' hb hb' (sym left.second ∙ right.second),
      digits_injective 2 c c' hc hc' (sym left.third ∙ right.third),
    )

-- the size of digits is their length
pub sized : (part : List ℕ) (size n : ℕ) → part ≡ digits size n → part ≡ digits (length part) n
sized part size n is = is ∙ ap (λ i. digits i n) (sym (ap length is ∙ length-digits size n))

pub unsized : (part : List ℕ) (size n : ℕ) → length part ≡ size → part ≡ digits (length part) n → part ≡ digits size n
unsized part size n long is = is ∙ ap (λ i. digits i n) long

-- the two bytes between places that lie two apart
pub two_bytes : (text : List ℕ) (size : ℕ) → take ((size + 3) - (size + 1)) (drop (size + 1) text) ≡ take 2 (drop (size + 1) text)
two_bytes text size = let two : (size + 3) - (size + 1) ≡ 2 = omega arith in ap (λ i. take i (drop (size + 1) text)) two

-- the parts of a text are those found at their places
pub three_found : (text : List ℕ) (size mark : ℕ) (three : ℕ × ℕ × ℕ) → length text ≡ size + 6 → get_or text size 0 ≡ mark → get_or text (size + 3) 0 ≡ mark
    → IsNumber (take size text) three.0 → IsNumber (take 2 (drop (size + 1) text)) three.1 → IsNumber (drop (size + 4) text) three.2 → IsThree text size mark three
three_found text size mark three long one two first second third =
    let long_first : length (take size text) ≡ size = omega (arith, length-take size text) in
    let long_second : length (take 2 (drop (size + 1) text)) ≡ 2 = omega (arith, length-take 2 (drop (size + 1) text), length-drop (size + 1) text) in
    let long_third : length (drop (size + 4) text) ≡ 2 = omega (arith, length-drop (size + 4) text) in
    record {
      is = three_from text size mark three.0 three.1 three.2 (record {
        long = long;
        first = unsized _ size three.0 long_first first.is;
        mark_one = one;
        second = unsized _ 2 three.1 long_second second.is;
        mark_two = two;
        third = unsized _ 2 three.2 long_third third.is;
      });
      first = subst (λ i. three.0 < 10 ^ i) long_first first.fits;
      second = subst (λ i. three.1 < 10 ^ i) long_second second.fits;
      third = subst (λ i. three.2 < 10 ^ i) long_third third.fits;
    }

-- the first byte and the rest, as a slice's pattern names them
pub first_and_rest : (text : List ℕ) (b : ℕ) → 1 ≤ length text → get_or text 0 0 ≡ b → text ≡ b ∷ take (length text - 1) (drop 1 text)
first_and_rest text b some is = drop_more text 0 0 some ∙ ap (λ c. c ∷ drop 1 text) is ∙ ap (λ l. b ∷ l) (sym (take_rest text 1))

-- the last byte and what comes before it
pub front_and_last : (text : List ℕ) (b : ℕ) → 1 ≤ length text → get_or text (length text - 1) 0 ≡ b → text ≡ take (length text - 1) text ++ b ∷ []
front_and_last text b some is =
    let all : length text ≡ length text - 1 + 1 = omega arith in
    sym (take_all (length text) text (omega arith)) ∙ ap (λ i. take i text) all ∙ take_more text (length text - 1) 0 (omega arith) ∙ ap (λ c. take (length text - 1) text ++ c ∷ []) is

-- a consequence of what None states
pub none_then : {X : Type 0} (r : Option X) {P Q : Type 0} → IfNone r P → (P → Q) → IfNone r Q
none_then None h f = f h
none_then (Some x) h f = tt
