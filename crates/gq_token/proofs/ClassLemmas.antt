-- ClassLemmas: what a text spells, given its first byte or its first two.
use Rattle.std.proofs.Common.{◌≡◌, ℕ, ◌<◌, Bool, true, false, List, [], ◌∷◌, Some, None, refl, sym, subst, arith, get_or, ◌⊎◌}
use Rattle.std.specs.Prelude.{if◌then◌else◌, nat_eq, option_map, not, ◌==◌, ◌||◌, ◌&&◌}
use mathlib.Core.Bool.{beq}
use Rattle.std.specs.List.{list_all, list_any}
use Rattle.std.specs.Str.{bytes_eq}
use Rattle.std.proofs.lemmas.Bool.{agree_below, agree_below_at, and_parts, not-true, eqb-true}
use Rattle.std.proofs.lemmas.Bool.Decides.{nat_tests}
use Rattle.gq_token.specs.declared.token.TokenKind.TheVariants.{Word, Global, Attached, Number, Text, Symbol}
use Rattle.gq_token.specs.Bytes.{is_blank, is_word_start, is_word_byte, is_digit, is_symbol, symbols, number_of}
use Rattle.gq_token.specs.Texts.{said}
use Rattle.gq_token.specs.declared.class.Class.TheVariants as class
use Rattle.gq_token.specs.Class.{class_of}
use Rattle.gq_token.specs.Spelling.{Gap, TokenOf, spelled, ends_at_close, is_word}

-- the text begins with this byte
abbrev begins : ℕ → List ℕ → Bool
begins c [] = false
begins c (d ∷ ds) = nat_eq c d

-- a symbol begins with this byte
unfoldable pub begins_symbol : ℕ → Bool
begins_symbol c = list_any (begins c) symbols

-- a text isn't the first of others if another byte begins that one, and it isn't any of the rest
none_with : (c : ℕ) (cs : List ℕ) (d : ℕ) (ds : List ℕ) (others : List (List ℕ)) (b : Bool) → nat_eq c d ≡ b
    → (list_any (begins c) others ≡ false → list_any (bytes_eq (c ∷ cs)) others ≡ false)
    → list_any (begins c) ((d ∷ ds) ∷ others) ≡ false → list_any (bytes_eq (c ∷ cs)) ((d ∷ ds) ∷ others) ≡ false
none_with c cs d ds others true is behind none = cc (rw is at none)
none_with c cs d ds others false is behind none = rw is (behind (rw is at none))

-- a text is none of others if none of them begins with its first byte
none_equal : (c : ℕ) (cs : List ℕ) (others : List (List ℕ)) → list_any (begins c) others ≡ false → list_any (bytes_eq (c ∷ cs)) others ≡ false
none_equal c cs [] none = refl
none_equal c cs ([] ∷ others) none = none_equal c cs others none
none_equal c cs ((d ∷ ds) ∷ others) none = none_with c cs d ds others (nat_eq c d) refl (none_equal c cs others) none

-- so a text isn't a symbol if none begins with its first byte
pub no_symbol : (c : ℕ) (cs : List ℕ) → begins_symbol c ≡ false → is_symbol (c ∷ cs) ≡ false
unfolding symbols begins_symbol
no_symbol c cs none = none_equal c cs symbols none

-- what a byte begins: a blank, a word or a number, and nothing else
pub record Begins (c : ℕ) (blank word digit : Bool) : Type 0 where
  pub blanks : is_blank c ≡ blank
  pub words : is_word_start c ≡ word
  pub digits : is_digit c ≡ digit
  pub no_hash : nat_eq 35 c ≡ false
  pub no_slash : nat_eq 47 c ≡ false
  pub no_sign : nat_eq 64 c ≡ false
  pub no_quote : nat_eq c 34 ≡ false
  pub no_mark : begins_symbol c ≡ false

-- the same as a test
abbrev begins_only : Bool → Bool → Bool → ℕ → Bool
begins_only blank word digit c =
    beq (is_blank c) blank && (beq (is_word_start c) word && (beq (is_digit c) digit
    && (not (nat_eq 35 c) && (not (nat_eq 47 c) && (not (nat_eq 64 c) && (not (nat_eq c 34) && not (begins_symbol c)))))))

-- two equal tests have one result
same_bool : (a b : Bool) → beq a b ≡ true → a ≡ b
same_bool true true is = refl
same_bool true false is = cc
same_bool false true is = cc
same_bool false false is = refl

-- the test establishes it
begins_from_test : (blank word digit : Bool) (c : ℕ) → begins_only blank word digit c ≡ true → Begins c blank word digit
begins_from_test blank word digit c is =
    let p1 = and_parts _ _ is in
    let p2 = and_parts _ _ p1.1 in
    let p3 = and_parts _ _ p2.1 in
    let p4 = and_parts _ _ p3.1 in
    let p5 = and_parts _ _ p4.1 in
    let p6 = and_parts _ _ p5.1 in
    let p7 = and_parts _ _ p6.1 in
    record {
      blanks = same_bool (is_blank c) blank p1.0;
      words = same_bool (is_word_start c) word p2.0;
      digits = same_bool (is_digit c) digit p3.0;
      no_hash = not-true (nat_eq 35 c) p4.0;
      no_slash = not-true (nat_eq 47 c) p5.0;
      no_sign = not-true (nat_eq 64 c) p6.0;
      no_quote = not-true (nat_eq c 34) p7.0;
      no_mark = not-true (begins_symbol c) p7.1;
    }

-- a test that implies begins_only for each byte below 128
from_table : (test : ℕ → Bool) (blank word digit : Bool) (c : ℕ) → c < 128 → agree_below (λ n. not (test n) || begins_only blank word digit n) (λ n. true) 128 ≡ true
    → test c ≡ true → Begins c blank word digit
from_table test blank word digit c below table is =
    let at : (not (test c) || begins_only blank word digit c) ≡ true =
    agree_below_at (λ n. not (test n) || begins_only blank word digit n) (λ n. true) 128 c table below in
    begins_from_test blank word digit c (rw is at at)

-- a byte that begins a word begins nothing else
pub word_begins : (c : ℕ) → is_word_start c ≡ true → Begins c false true false
unfolding begins_symbol symbols
word_begins c word = from_table is_word_start false true false c (grind (arith, nat_tests)) refl word

-- so does a digit
pub digit_begins : (c : ℕ) → is_digit c ≡ true → Begins c false false true
unfolding begins_symbol symbols
digit_begins c digit = from_table is_digit false false true c (grind (arith, nat_tests)) refl digit

-- so does a blank
pub blank_begins : (c : ℕ) → is_blank c ≡ true → Begins c true false false
unfolding begins_symbol symbols
blank_begins c blank = from_table is_blank true false false c (grind (arith, nat_tests)) refl blank

-- a text that begins with a blank
pub spelled_blank : (c : ℕ) (cs : List ℕ) → is_blank c ≡ true → spelled (c ∷ cs) ≡ (if list_all is_blank cs then Some Gap else None)
spelled_blank c cs blank = by (list_all is_blank cs) refl
  where
    by : (b : Bool) → list_all is_blank cs ≡ b → spelled (c ∷ cs) ≡ (if b then Some Gap else None)
    by true is = rw (blank, is) refl
    by false is =
        let b = blank_begins c blank in
        rw (blank, b.words, b.digits, b.no_hash, b.no_slash, b.no_sign, b.no_quote, no_symbol c cs b.no_mark, is) refl

-- a text that begins with a byte of a word
pub spelled_word : (c : ℕ) (cs : List ℕ) → is_word_start c ≡ true → spelled (c ∷ cs) ≡ (if list_all is_word_byte cs then Some (TokenOf Word) else None)
spelled_word c cs word =
    let b = word_begins c word in
    rw (b.blanks, word, b.digits, b.no_hash, b.no_slash, b.no_sign, b.no_quote, no_symbol c cs b.no_mark) refl

-- a text that begins with a digit
pub spelled_number : (c : ℕ) (cs : List ℕ) → is_digit c ≡ true
    → spelled (c ∷ cs) ≡ (if list_all is_digit cs then Some (TokenOf (Number (number_of (c ∷ cs)))) else None)
spelled_number c cs digit =
    let b = digit_begins c digit in
    rw (b.blanks, b.words, digit, b.no_hash, b.no_slash, b.no_sign, b.no_quote, no_symbol c cs b.no_mark) refl

-- a text that begins with `#`
pub spelled_hash : (cs : List ℕ) → spelled (35 ∷ cs) ≡ (if list_all (λ c. not (c == 10)) cs then Some Gap else None)
unfolding symbols
spelled_hash cs = by (list_all (λ c. not (c == 10)) cs) refl
  where
    by : (b : Bool) → list_all (λ c. not (c == 10)) cs ≡ b → spelled (35 ∷ cs) ≡ (if b then Some Gap else None)
    by true is = rw is refl
    by false is = rw is refl

-- a text that begins with `//`
pub spelled_slashes : (cs : List ℕ) → spelled (47 ∷ 47 ∷ cs) ≡ (if list_all (λ c. not (c == 10)) cs then Some Gap else None)
unfolding symbols
spelled_slashes cs = by (list_all (λ c. not (c == 10)) cs) refl
  where
    by : (b : Bool) → list_all (λ c. not (c == 10)) cs ≡ b → spelled (47 ∷ 47 ∷ cs) ≡ (if b then Some Gap else None)
    by true is = rw is refl
    by false is = rw is refl

-- a text that begins with `/*`
pub spelled_block : (cs : List ℕ) → spelled (47 ∷ 42 ∷ cs) ≡ (if ends_at_close cs then Some Gap else None)
unfolding symbols
spelled_block cs = by (ends_at_close cs) refl
  where
    by : (b : Bool) → ends_at_close cs ≡ b → spelled (47 ∷ 42 ∷ cs) ≡ (if b then Some Gap else None)
    by true is = rw is refl
    by false is = rw is refl

-- no bytes
pub spelled_nothing : spelled [] ≡ None
unfolding symbols
spelled_nothing = refl

-- `/` alone
pub spelled_slash : spelled (47 ∷ []) ≡ Some (TokenOf Symbol)
unfolding symbols
spelled_slash = refl

-- a text that begins with a quote
pub spelled_text : (cs : List ℕ) → spelled (34 ∷ cs) ≡ option_map (λ bytes. TokenOf (Text bytes)) (said cs)
unfolding symbols
spelled_text cs = refl

-- a text that begins with `@@`
pub spelled_global : (cs : List ℕ) → spelled (64 ∷ 64 ∷ cs) ≡ (if is_word cs then Some (TokenOf Global) else None)
unfolding symbols
spelled_global cs = refl

-- `@` alone
pub spelled_sign : spelled (64 ∷ []) ≡ None
unfolding symbols
spelled_sign = refl

-- a text that begins with `@` and another byte
pub spelled_attached : (c : ℕ) (cs : List ℕ) → nat_eq 64 c ≡ false → spelled (64 ∷ c ∷ cs) ≡ (if is_word (c ∷ cs) then Some (TokenOf Attached) else None)
unfolding symbols
spelled_attached c cs other = rw other refl

-- a blank is of the class of blanks
pub class_blank : (c d : ℕ) → class_of c d ≡ class.Blank → is_blank c ≡ true
class_blank c d is = grind (arith, nat_tests)

-- a line comment begins with `#` or `//`
pub class_line : (c d : ℕ) → class_of c d ≡ class.LineComment → (c ≡ 35) ⊎ ((c ≡ 47) × (d ≡ 47))
class_line c d is = grind (arith, nat_tests)

-- a comment between `/*` and `*/` begins with `/*`
pub class_block : (c d : ℕ) → class_of c d ≡ class.BlockComment → (c ≡ 47) × (d ≡ 42)
class_block c d is = (is_slash, star (subst (λ n. class_of n d ≡ class.BlockComment) is_slash is))
  where
    is_slash : c ≡ 47
    is_slash = grind (arith, nat_tests)

    star : class_of 47 d ≡ class.BlockComment → d ≡ 42
    star is = grind (arith, nat_tests)

-- a word begins with a letter or `_`
pub class_word : (c d : ℕ) → class_of c d ≡ class.Word → is_word_start c ≡ true
class_word c d is = grind (arith, nat_tests)

-- a sign is `@`
pub class_sign : (c d : ℕ) → class_of c d ≡ class.Sign → c ≡ 64
class_sign c d is = grind (arith, nat_tests)

-- a number begins with a digit
pub class_number : (c d : ℕ) → class_of c d ≡ class.Number → is_digit c ≡ true
class_number c d is = grind (arith, nat_tests)

-- a text begins with a quote
pub class_text : (c d : ℕ) → class_of c d ≡ class.Text → c ≡ 34
class_text c d is = grind (arith, nat_tests)

-- the tests that no byte of another class passes
pub record IsOther (c : ℕ) : Type 0 where
  pub no_blank : is_blank c ≡ false
  pub no_word : is_word_start c ≡ false
  pub no_digit : is_digit c ≡ false
  pub no_hash : nat_eq 35 c ≡ false
  pub no_sign : nat_eq 64 c ≡ false
  pub no_quote : nat_eq c 34 ≡ false

-- a byte of the last class passes none of them
pub class_other : (c d : ℕ) → class_of c d ≡ class.Other → IsOther c
class_other c d is = record {
  no_blank = grind (arith, nat_tests);
  no_word = grind (arith, nat_tests);
  no_digit = grind (arith, nat_tests);
  no_hash = grind (arith, nat_tests);
  no_sign = grind (arith, nat_tests);
  no_quote = grind (arith, nat_tests);
}

-- a `/` of that class isn't followed by `/` or `*`
pub slash_other : (d : ℕ) → class_of 47 d ≡ class.Other → (nat_eq 47 d ≡ false) × (nat_eq 42 d ≡ false)
slash_other d is = (grind (arith, nat_tests), grind (arith, nat_tests))

-- a text that begins with another byte
pub spelled_other : (c : ℕ) (cs : List ℕ) → class_of c (get_or cs 0 0) ≡ class.Other
    → spelled (c ∷ cs) ≡ (if is_symbol (c ∷ cs) then Some (TokenOf Symbol) else None)
spelled_other c cs other = by (nat_eq 47 c) refl
  where
    slash : (ds : List ℕ) → class_of 47 (get_or ds 0 0) ≡ class.Other → spelled (47 ∷ ds) ≡ (if is_symbol (47 ∷ ds) then Some (TokenOf Symbol) else None)
    slash [] is = refl
    slash (e ∷ es) is = let no = slash_other e is in rw (no.0, no.1) refl

    by : (b : Bool) → nat_eq 47 c ≡ b → spelled (c ∷ cs) ≡ (if is_symbol (c ∷ cs) then Some (TokenOf Symbol) else None)
    by true is =
        let same : 47 ≡ c =
        eqb-true 47 c is in subst (λ n. spelled (n ∷ cs) ≡ (if is_symbol (n ∷ cs) then Some (TokenOf Symbol) else None)) same
        (slash cs (subst (λ n. class_of n (get_or cs 0 0) ≡ class.Other) (sym same) other))
    by false is =
        let o = class_other c (get_or cs 0 0) other in
        rw (o.no_blank, o.no_word, o.no_digit, o.no_hash, is, o.no_sign, o.no_quote) refl
