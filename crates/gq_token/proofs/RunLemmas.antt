-- RunLemmas: blanks, line comments, words and numbers are runs.
use Rattle.std.proofs.Common.{◌≡◌, ℕ, zero, suc, ◌+◌, ◌^◌, ◌<◌, ◌≤◌, true, false, List, [], ◌∷◌, length, take, drop, get_or, None, ◌≢◌, refl, sym, subst, ◌∙◌, arith, inl, inr, ◌⊎◌}
use Rattle.std.specs.Prelude.{nat_eq, codes, not, ◌==◌}
use Rattle.std.specs.List.{starts_with}
use Rattle.std.proofs.lemmas.Bool.{ne_eqb}
use Rattle.gq_token.specs.declared.class.Class.TheVariants as class
use Rattle.gq_token.specs.declared.token.TokenKind.TheVariants.{Word, Global, Attached, Number}
use Rattle.gq_token.specs.Bytes.{is_blank, is_word_start, is_word_byte, is_digit, number_of}
use Rattle.gq_token.specs.Spelling.{Item, Gap, TokenOf, spelled, is_word}
use Rattle.gq_token.specs.Faults.{BeginsTooBig, BeginsNothing}
use Rattle.gq_token.specs.Class.{class_of, IsRun}
use Rattle.gq_token.specs.Items.{IsItem}
use Rattle.gq_token.proofs.ClassLemmas.{class_blank, class_word, class_line, word_begins, digit_begins, spelled_blank, spelled_word, spelled_number, spelled_hash, spelled_slashes, spelled_global, spelled_attached, spelled_sign, spelled_nothing}
use Rattle.gq_token.proofs.ItemLemmas.{longest_from, run_item, run_some, run_spelled, run_longest, SpelledByRun}

-- what doesn't begin with `/` isn't a comment
pub no_comment : (c : ℕ) (cs : List ℕ) → nat_eq 47 c ≡ false → starts_with nat_eq (c ∷ cs) (codes "/*") ≡ false
no_comment c cs other = rw other refl

-- blanks
pub blank_item : (rest : List ℕ) (size : ℕ) → 0 < length rest → class_of (get_or rest 0 0) (get_or rest 1 0) ≡ class.Blank → IsRun is_blank rest size
    → IsItem rest size Gap
blank_item [] size some is run = absurd (omega arith)
blank_item (c ∷ cs) size some is run =
    let enough = run_some is_blank c cs size run blank in
    run_item [] (c ∷ cs) 1 size size is_blank (λ _. Gap) run by_run enough (omega arith) (omega arith) tt (λ _. refl)
  where
    blank : is_blank c ≡ true
    blank = class_blank c (get_or cs 0 0) is

    by_run : SpelledByRun [] (c ∷ cs) 1 size size is_blank (λ _. Gap)
    by_run zero low = absurd (omega arith)
    by_run (suc m) low = spelled_blank c (take m cs) blank ∙ rw blank refl

-- words
pub word_item : (rest : List ℕ) (size : ℕ) → 0 < length rest → class_of (get_or rest 0 0) (get_or rest 1 0) ≡ class.Word → IsRun is_word_byte rest size
    → IsItem rest size (TokenOf Word)
word_item [] size some is run = absurd (omega arith)
word_item (c ∷ cs) size some is run =
    let go : is_word_byte c ≡ true = rw word refl in
    let enough = run_some is_word_byte c cs size run go in
    let none = no_comment c cs (word_begins c word).no_slash in
    run_item [] (c ∷ cs) 1 size size is_word_byte (λ _. TokenOf Word) run by_run enough (omega arith) (omega arith) tt (λ opens. cc (sym none ∙ opens))
  where
    word : is_word_start c ≡ true
    word = class_word c (get_or cs 0 0) is

    by_run : SpelledByRun [] (c ∷ cs) 1 size size is_word_byte (λ _. TokenOf Word)
    by_run zero low = absurd (omega arith)
    by_run (suc m) low = spelled_word c (take m cs) word ∙ rw word refl

-- what follows `#` or `//` up to an LF
pub line_item : (rest : List ℕ) (size : ℕ) → 0 < length rest → class_of (get_or rest 0 0) (get_or rest 1 0) ≡ class.LineComment
    → IsRun (λ c. not (c == 10)) rest size → IsItem rest size Gap
line_item [] size some is run = absurd (omega arith)
line_item (c ∷ cs) size some is run = by (class_line c (get_or cs 0 0) is)
  where
    hash : (ds : List ℕ) → IsRun (λ c. not (c == 10)) (35 ∷ ds) size → IsItem (35 ∷ ds) size Gap
    hash ds run =
        let enough = run_some (λ c. not (c == 10)) 35 ds size run refl in
        run_item [] (35 ∷ ds) 1 size size (λ c. not (c == 10)) (λ _. Gap) run by_run enough (omega arith) (omega arith) tt (λ _. refl)
      where
        by_run : SpelledByRun [] (35 ∷ ds) 1 size size (λ c. not (c == 10)) (λ _. Gap)
        by_run zero low = absurd (omega arith)
        by_run (suc m) low = spelled_hash (take m ds)

    slashes : (ds : List ℕ) → get_or ds 0 0 ≡ 47 → IsRun (λ c. not (c == 10)) (47 ∷ ds) size → IsItem (47 ∷ ds) size Gap
    slashes [] second run = cc
    slashes (d ∷ ds) second run =
        subst (λ n. IsItem (47 ∷ n ∷ ds) size Gap) (sym second)
        (run_item [] (47 ∷ 47 ∷ ds) 2 size size (λ c. not (c == 10)) (λ _. Gap) both by_run enough (omega arith) (omega (arith, enough)) tt (λ _. refl))
      where
        both : IsRun (λ c. not (c == 10)) (47 ∷ 47 ∷ ds) size
        both = subst (λ n. IsRun (λ c. not (c == 10)) (47 ∷ n ∷ ds) size) second run

        two : (n : ℕ) → IsRun (λ c. not (c == 10)) (47 ∷ 47 ∷ ds) n → 2 ≤ n
        two zero run = let stop : true ≡ false = run.behind (omega arith) in cc
        two (suc zero) run = let stop : true ≡ false = run.behind (omega arith) in cc
        two (suc (suc n)) run = omega arith

        enough : 2 ≤ size
        enough = two size both

        by_run : SpelledByRun [] (47 ∷ 47 ∷ ds) 2 size size (λ c. not (c == 10)) (λ _. Gap)
        by_run zero low = absurd (omega arith)
        by_run (suc zero) low = absurd (omega arith)
        by_run (suc (suc m)) low = spelled_slashes (take m ds)

    by : (c ≡ 35) ⊎ ((c ≡ 47) × (get_or cs 0 0 ≡ 47)) → IsItem (c ∷ cs) size Gap
    by (inl same) = subst (λ n. IsItem (n ∷ cs) size Gap) (sym same) (hash cs (subst (λ n. IsRun (λ c. not (c == 10)) (n ∷ cs) size) same run))
    by (inr both) = subst (λ n. IsItem (n ∷ cs) size Gap) (sym both.0) (slashes cs both.1 (subst (λ n. IsRun (λ c. not (c == 10)) (n ∷ cs) size) both.0 run))

-- digits, with their value
module _ (c : ℕ) (cs : List ℕ) (size : ℕ) (digit : is_digit c ≡ true) (run : IsRun is_digit (c ∷ cs) size) where
  -- the item that they spell
  abbrev number : List ℕ → Item
  number text = TokenOf (Number (number_of text))

  -- each prefix of digits spells it
  digits_by_run : SpelledByRun [] (c ∷ cs) 1 size size is_digit number
  digits_by_run zero low = absurd (omega arith)
  digits_by_run (suc m) low = spelled_number c (take m cs) digit ∙ rw digit refl

  -- a number that fits
  pub number_item : number_of (take size (c ∷ cs)) < 2 ^ 64 → IsItem (c ∷ cs) size (TokenOf (Number (number_of (take size (c ∷ cs)))))
  number_item fits =
      let enough = run_some is_digit c cs size run digit in
      let none = no_comment c cs (digit_begins c digit).no_slash in
      run_item [] (c ∷ cs) 1 size size is_digit number run digits_by_run enough (omega arith) (omega arith) fits (λ opens. cc (sym none ∙ opens))

  -- a number that doesn't fit
  pub number_too_big : 2 ^ 64 ≤ number_of (take size (c ∷ cs)) → BeginsTooBig (c ∷ cs)
  number_too_big big =
      let enough = run_some is_digit c cs size run digit in
      let spells = run_spelled [] (c ∷ cs) 1 size size is_digit number run digits_by_run enough (omega arith) in
      record {
        text = take size (c ∷ cs);
        number = number_of (take size (c ∷ cs));
        is_longest =
            longest_from (c ∷ cs) size (number (take size (c ∷ cs))) run.within spells (run_longest [] (c ∷ cs) 1 size size is_digit number run digits_by_run enough (omega arith));
        is_number = spells;
        too_big = big;
      }

-- `@@` and a word
pub global_item : (c : ℕ) (cs : List ℕ) (size : ℕ) → is_word_start c ≡ true → IsRun is_word_byte (c ∷ cs) size
    → IsItem (64 ∷ 64 ∷ c ∷ cs) (2 + size) (TokenOf Global)
global_item c cs size word run =
    let enough = run_some is_word_byte c cs size run (rw word refl) in
    run_item (64 ∷ 64 ∷ []) (c ∷ cs) 1 size (2 + size) is_word_byte (λ _. TokenOf Global) run by_run enough (omega arith) (omega arith) tt (λ opens. cc)
  where
    by_run : SpelledByRun (64 ∷ 64 ∷ []) (c ∷ cs) 1 size (2 + size) is_word_byte (λ _. TokenOf Global)
    by_run zero low = absurd (omega arith)
    by_run (suc m) low = spelled_global (c ∷ take m cs) ∙ rw word refl

-- a byte of a word isn't `@`
no_sign : (c : ℕ) → is_word_start c ≡ true → nat_eq 64 c ≡ false
no_sign c word = (word_begins c word).no_sign

-- `@` and a word
pub attached_item : (c : ℕ) (cs : List ℕ) (size : ℕ) → is_word_start c ≡ true → IsRun is_word_byte (c ∷ cs) size → IsItem (64 ∷ c ∷ cs) (1 + size) (TokenOf Attached)
attached_item c cs size word run =
    let enough = run_some is_word_byte c cs size run (rw word refl) in
    run_item (64 ∷ []) (c ∷ cs) 1 size (1 + size) is_word_byte (λ _. TokenOf Attached) run by_run enough (omega arith) (omega arith) tt (λ opens. cc)
  where
    by_run : SpelledByRun (64 ∷ []) (c ∷ cs) 1 size (1 + size) is_word_byte (λ _. TokenOf Attached)
    by_run zero low = absurd (omega arith)
    by_run (suc m) low = spelled_attached c (take m cs) (no_sign c word) ∙ rw word refl

-- a text that doesn't begin with a letter isn't a word
no_word : (cs : List ℕ) → is_word_start (get_or cs 0 0) ≡ false → (m : ℕ) → is_word (take m cs) ≡ false
no_word [] none zero = refl
no_word [] none (suc m) = refl
no_word (c ∷ cs) none zero = refl
no_word (c ∷ cs) none (suc m) = rw none refl

-- `@@` without a word
pub global_alone : (cs : List ℕ) → is_word_start (get_or cs 0 0) ≡ false → BeginsNothing (64 ∷ 64 ∷ cs)
global_alone cs none = record { no_item = by; no_comment = refl; no_text = refl }
  where
    by : (n : ℕ) → n ≤ length (64 ∷ 64 ∷ cs) → spelled (take n (64 ∷ 64 ∷ cs)) ≡ None
    by zero below = spelled_nothing
    by (suc zero) below = spelled_sign
    by (suc (suc m)) below = spelled_global (take m cs) ∙ rw (no_word cs none m) refl

-- `@` without a word
pub attached_alone : (cs : List ℕ) → get_or cs 0 0 ≢ 64 → is_word_start (get_or cs 0 0) ≡ false → BeginsNothing (64 ∷ cs)
attached_alone cs other none = record { no_item = by; no_comment = refl; no_text = refl }
  where
    behind : (ds : List ℕ) → get_or ds 0 0 ≢ 64 → is_word_start (get_or ds 0 0) ≡ false → (m : ℕ) → spelled (64 ∷ take m ds) ≡ None
    behind [] other none zero = spelled_sign
    behind [] other none (suc m) = spelled_sign
    behind (d ∷ ds) other none zero = spelled_sign
    behind (d ∷ ds) other none (suc m) = spelled_attached d (take m ds) (ne_eqb 64 d (λ same. other (sym same))) ∙ rw none refl

    by : (n : ℕ) → n ≤ length (64 ∷ cs) → spelled (take n (64 ∷ cs)) ≡ None
    by zero below = spelled_nothing
    by (suc m) below = behind cs other none m

-- a number that fits, at the beginning of the remaining bytes
pub digits_item : (rest : List ℕ) (size : ℕ) → 0 < length rest → is_digit (get_or rest 0 0) ≡ true → IsRun is_digit rest size
    → number_of (take size rest) < 2 ^ 64 → IsItem rest size (TokenOf (Number (number_of (take size rest))))
digits_item [] size some digit run fits = absurd (omega arith)
digits_item (c ∷ cs) size some digit run fits = number_item c cs size digit run fits

-- and one that doesn't fit
pub digits_too_big : (rest : List ℕ) (size : ℕ) → 0 < length rest → is_digit (get_or rest 0 0) ≡ true → IsRun is_digit rest size
    → 2 ^ 64 ≤ number_of (take size rest) → BeginsTooBig rest
digits_too_big [] size some digit run big = absurd (omega arith)
digits_too_big (c ∷ cs) size some digit run big = number_too_big c cs size digit run big

-- `@@` followed by a word
pub sign_global : (rest : List ℕ) (size total : ℕ) → 0 < length rest → get_or rest 0 0 ≡ 64 → get_or rest 1 0 ≡ 64 → is_word_start (get_or rest 2 0) ≡ true
    → IsRun is_word_byte (drop 2 rest) size → total ≡ 2 + size → IsItem rest total (TokenOf Global)
sign_global [] size total some first second word run is = absurd (omega arith)
sign_global (c ∷ []) size total some first second word run is = absurd (omega (arith, second))
sign_global (c ∷ d ∷ []) size total some first second word run is = cc
sign_global (c ∷ d ∷ e ∷ es) size total some first second word run is = rw (first, second, is) (global_item e es size word run)

-- `@@` not followed by a word
pub sign_global_alone : (rest : List ℕ) → 0 < length rest → get_or rest 0 0 ≡ 64 → get_or rest 1 0 ≡ 64 → is_word_start (get_or rest 2 0) ≡ false
    → BeginsNothing rest
sign_global_alone [] some first second none = absurd (omega arith)
sign_global_alone (c ∷ []) some first second none = absurd (omega (arith, second))
sign_global_alone (c ∷ d ∷ ds) some first second none = rw (first, second) (global_alone ds none)

-- `@` followed by a word
pub sign_attached : (rest : List ℕ) (size total : ℕ) → 0 < length rest → get_or rest 0 0 ≡ 64 → is_word_start (get_or rest 1 0) ≡ true
    → IsRun is_word_byte (drop 1 rest) size → total ≡ 1 + size → IsItem rest total (TokenOf Attached)
sign_attached [] size total some first word run is = absurd (omega arith)
sign_attached (c ∷ []) size total some first word run is = cc
sign_attached (c ∷ d ∷ ds) size total some first word run is = rw (first, is) (attached_item d ds size word run)

-- `@` not followed by a word
pub sign_attached_alone : (rest : List ℕ) → 0 < length rest → get_or rest 0 0 ≡ 64 → get_or rest 1 0 ≢ 64 → is_word_start (get_or rest 1 0) ≡ false
    → BeginsNothing rest
sign_attached_alone [] some first other none = absurd (omega arith)
sign_attached_alone (c ∷ cs) some first other none = rw first (attached_alone cs other none)
