-- SymbolLemmas: the longest symbol with which some bytes begin.
use Rattle.std.proofs.Common.{◌≡◌, ℕ, zero, suc, ◌<◌, ◌≤◌, Bool, true, false, List, [], ◌∷◌, length, take, get_or, Some, None, ◌≢◌, refl, ap, sym, subst, ◌∙◌, arith}
use Rattle.std.specs.Prelude.{if◌then◌else◌, nat_eq, codes, not, ◌&&◌, ◌||◌}
use Rattle.std.specs.List.{list_all, list_any, starts_with}
use Rattle.std.specs.Str.{bytes_eq}
use Rattle.std.proofs.lemmas.Bool.{and_parts, false_from_ne_true, eqb-true, eqb-false, ne_eqb}
use Rattle.std.proofs.lemmas.Bool.Decides.{nat_tests}
use Rattle.std.proofs.lemmas.Slice.Eq.{bytes_eq-Decides}
use Rattle.gq_token.specs.declared.class.Class.TheVariants as class
use Rattle.gq_token.specs.declared.token.TokenKind.TheVariants.{Symbol}
use Rattle.gq_token.specs.Bytes.{is_symbol, symbols}
use Rattle.gq_token.specs.Spelling.{TokenOf, spelled}
use Rattle.gq_token.specs.Faults.{BeginsNothing}
use Rattle.gq_token.specs.Class.{class_of, symbol_size, is_pair, is_single}
use Rattle.gq_token.specs.Items.{IsItem}
use Rattle.gq_token.proofs.ClassLemmas.{spelled_other, spelled_nothing, class_other, slash_other}
use Rattle.gq_token.proofs.ItemLemmas.{NoLonger, item_from}

-- a text that fails a test is none of others that pass it
none_passing : (test : List ℕ → Bool) (text : List ℕ) → test text ≡ false → (others : List (List ℕ)) → list_all test others ≡ true
    → list_any (bytes_eq text) others ≡ false
none_passing test text fails [] all = refl
none_passing test text fails (other ∷ others) all =
    let parts = and_parts (test other) (list_all test others) all in
    rw (differs parts.0) (none_passing test text fails others parts.1)
  where
    differs : test other ≡ true → bytes_eq text other ≡ false
    differs passes = false_from_ne_true (bytes_eq text other) (λ same. let e : text ≡ other = (bytes_eq-Decides text other).0 same in cc (ap test e))

-- a test and true is the test
and_true : (b : Bool) → (b && true) ≡ b
and_true true = refl
and_true false = refl

-- a test and false is false
and_false : (b : Bool) → (b && false) ≡ false
and_false true = refl
and_false false = refl

-- a test or false is the test
or_false : (b : Bool) → (b || false) ≡ b
or_false true = refl
or_false false = refl

-- a disjunction of three tests is associative
or_assoc : (a b d : Bool) → ((a || b) || d) ≡ (a || (b || d))
or_assoc true b d = refl
or_assoc false b d = refl

-- a text of two bytes at most, the second of which isn't 0
abbrev is_short : List ℕ → Bool
is_short [] = true
is_short (c ∷ []) = true
is_short (c ∷ d ∷ []) = not (nat_eq d 0)
is_short (c ∷ d ∷ e ∷ es) = false

-- no symbol has three bytes
no_long_symbol : (c d e : ℕ) (es : List ℕ) → is_symbol (c ∷ d ∷ e ∷ es) ≡ false
unfolding symbols
no_long_symbol c d e es = none_passing is_short (c ∷ d ∷ e ∷ es) refl symbols refl

-- no symbol has a second byte 0
no_zero_symbol : (c : ℕ) → is_symbol (c ∷ 0 ∷ []) ≡ false
unfolding symbols
no_zero_symbol c = none_passing is_short (c ∷ 0 ∷ []) refl symbols refl

-- a byte of the class of symbols
module _ (c : ℕ) (cs : List ℕ) (other : class_of c (get_or cs 0 0) ≡ class.Other) where
  -- `/*` isn't here
  no_opening : starts_with nat_eq (c ∷ cs) (codes "/*") ≡ false
  no_opening = by (nat_eq 47 c) refl
    where
      second : (ds : List ℕ) → class_of 47 (get_or ds 0 0) ≡ class.Other → starts_with nat_eq (47 ∷ ds) (codes "/*") ≡ false
      second [] is = refl
      second (d ∷ ds) is = rw (slash_other d is).1 refl

      by : (b : Bool) → nat_eq 47 c ≡ b → starts_with nat_eq (c ∷ cs) (codes "/*") ≡ false
      by true is =
          let same : 47 ≡ c = eqb-true 47 c is in
          subst (λ n. starts_with nat_eq (n ∷ cs) (codes "/*") ≡ false) same (second cs (subst (λ n. class_of n (get_or cs 0 0) ≡ class.Other) (sym same) other))
      by false is = rw is refl

  -- the class of its prefixes
  other_prefix : (m : ℕ) → class_of c (get_or (take m cs) 0 0) ≡ class.Other
  other_prefix m = by m cs other
    where
      alone : (d : ℕ) → class_of c d ≡ class.Other → class_of c 0 ≡ class.Other
      alone d is = grind (arith, nat_tests)

      by : (m : ℕ) (ds : List ℕ) → class_of c (get_or ds 0 0) ≡ class.Other → class_of c (get_or (take m ds) 0 0) ≡ class.Other
      by zero ds is = alone (get_or ds 0 0) is
      by (suc m) [] is = is
      by (suc m) (d ∷ ds) is = is

  -- what its prefixes spell
  spelled_prefix : (m : ℕ) → spelled (c ∷ take m cs) ≡ (if is_symbol (c ∷ take m cs) then Some (TokenOf Symbol) else None)
  spelled_prefix m = spelled_other c (take m cs) (other_prefix m)

  -- a prefix that isn't a symbol spells nothing
  spells_none : (m : ℕ) → is_symbol (c ∷ take m cs) ≡ false → spelled (c ∷ take m cs) ≡ None
  spells_none m none = spelled_prefix m ∙ rw none refl

-- a prefix longer than two bytes isn't a symbol
long_none : (c : ℕ) (cs : List ℕ) (m : ℕ) → suc m < length cs → is_symbol (c ∷ take (suc (suc m)) cs) ≡ false
long_none c [] m below = absurd (omega arith)
long_none c (d ∷ []) m below = absurd (omega arith)
long_none c (d ∷ e ∷ es) m below = no_long_symbol c d e (take m es)

-- the prefixes of more than one byte, if two bytes aren't a symbol
module _ (c : ℕ) (cs : List ℕ) (other : class_of c (get_or cs 0 0) ≡ class.Other) (two : is_symbol (c ∷ get_or cs 0 0 ∷ []) ≡ false) where
  -- they spell nothing
  two_none : (m : ℕ) → suc m ≤ length cs → spelled (c ∷ take (suc m) cs) ≡ None
  two_none zero below = by cs two other below
    where
      by : (ds : List ℕ) → is_symbol (c ∷ get_or ds 0 0 ∷ []) ≡ false → class_of c (get_or ds 0 0) ≡ class.Other → 1 ≤ length ds → spelled (c ∷ take 1 ds) ≡ None
      by [] none is below = absurd (omega arith)
      by (d ∷ ds) none is below = spells_none c (d ∷ ds) is 1 none
  two_none (suc m) below = spells_none c cs other (suc (suc m)) (long_none c cs m (omega arith))

-- the symbols of two bytes
pair_is : (c d : ℕ) → is_symbol (c ∷ d ∷ []) ≡ is_pair c d
unfolding symbols
pair_is c d = simp (and_true, and_false, or_false, or_assoc) refl

-- the symbols of one byte
single_is : (c : ℕ) → is_symbol (c ∷ []) ≡ is_single c
unfolding symbols
single_is c = simp (and_true, and_false, or_false, or_assoc) refl

-- two tests determine the size
module _ (c d size : ℕ) (is : symbol_size c d ≡ size) where
  -- two bytes
  size_two : is_symbol (c ∷ d ∷ []) ≡ true → 2 ≡ size
  size_two two = by (is_pair c d) (sym (pair_is c d) ∙ two) is
    where
      by : (b : Bool) → b ≡ true → (if b then 2 else (if is_single c then 1 else 0)) ≡ size → 2 ≡ size
      by true tells same = same
      by false tells same = cc

  -- one byte
  size_one : is_symbol (c ∷ d ∷ []) ≡ false → is_symbol (c ∷ []) ≡ true → 1 ≡ size
  size_one two one = by (is_pair c d) (is_single c) (sym (pair_is c d) ∙ two) (sym (single_is c) ∙ one) is
    where
      by : (b s : Bool) → b ≡ false → s ≡ true → (if b then 2 else (if s then 1 else 0)) ≡ size → 1 ≡ size
      by true s fails tells same = cc
      by false true fails tells same = same
      by false false fails tells same = cc

  -- none
  size_none : is_symbol (c ∷ d ∷ []) ≡ false → is_symbol (c ∷ []) ≡ false → 0 ≡ size
  size_none two one = by (is_pair c d) (is_single c) (sym (pair_is c d) ∙ two) (sym (single_is c) ∙ one) is
    where
      by : (b s : Bool) → b ≡ false → s ≡ false → (if b then 2 else (if s then 1 else 0)) ≡ size → 0 ≡ size
      by true s fails other same = cc
      by false true fails other same = cc
      by false false fails other same = same

-- a symbol of two bytes is the next item
symbol_of_two : (c : ℕ) (cs : List ℕ) → class_of c (get_or cs 0 0) ≡ class.Other → is_symbol (c ∷ get_or cs 0 0 ∷ []) ≡ true → IsItem (c ∷ cs) 2 (TokenOf Symbol)
symbol_of_two c [] other two = let none : is_symbol (c ∷ 0 ∷ []) ≡ false = no_zero_symbol c in cc
symbol_of_two c (d ∷ ds) other two =
    item_from (c ∷ d ∷ ds) 2 (TokenOf Symbol) (omega arith) (omega arith) spells longer tt (λ opens. cc (sym (no_opening c (d ∷ ds) other) ∙ opens))
  where
    spells : spelled (c ∷ d ∷ []) ≡ Some (TokenOf Symbol)
    spells = spelled_prefix c (d ∷ ds) other 1 ∙ rw two refl

    longer : NoLonger (c ∷ d ∷ ds) 2
    longer zero more below = absurd (omega arith)
    longer (suc zero) more below = absurd (omega arith)
    longer (suc (suc zero)) more below = absurd (omega arith)
    longer (suc (suc (suc m))) more below = spells_none c (d ∷ ds) other (suc (suc m)) (long_none c (d ∷ ds) m (omega arith))

-- a symbol of one byte is the next item
symbol_of_one : (c : ℕ) (cs : List ℕ) → class_of c (get_or cs 0 0) ≡ class.Other → is_symbol (c ∷ get_or cs 0 0 ∷ []) ≡ false → is_symbol (c ∷ []) ≡ true
    → IsItem (c ∷ cs) 1 (TokenOf Symbol)
symbol_of_one c cs other two one =
    item_from (c ∷ cs) 1 (TokenOf Symbol) (omega arith) (omega arith) spells longer tt (λ opens. cc (sym (no_opening c cs other) ∙ opens))
  where
    spells : spelled (c ∷ []) ≡ Some (TokenOf Symbol)
    spells = spelled_prefix c cs other 0 ∙ rw one refl

    longer : NoLonger (c ∷ cs) 1
    longer zero more below = absurd (omega arith)
    longer (suc zero) more below = absurd (omega arith)
    longer (suc (suc m)) more below = two_none c cs other two m (omega arith)

-- no symbol is the next item
nothing_here : (c : ℕ) (cs : List ℕ) → class_of c (get_or cs 0 0) ≡ class.Other → is_symbol (c ∷ get_or cs 0 0 ∷ []) ≡ false → is_symbol (c ∷ []) ≡ false
    → BeginsNothing (c ∷ cs)
nothing_here c cs other two one = record {
  no_item = by;
  no_comment = no_opening c cs other;
  no_text = let no = ne_eqb 34 c (λ same. let quote = (class_other c (get_or cs 0 0) other).no_quote in eqb-false c 34 quote (sym same)) in rw no refl;
}
  where
    by : (n : ℕ) → n ≤ length (c ∷ cs) → spelled (take n (c ∷ cs)) ≡ None
    by zero below = spelled_nothing
    by (suc zero) below = spells_none c cs other 0 one
    by (suc (suc m)) below = two_none c cs other two m (omega arith)

-- a symbol of the determined size is the next item
pub symbol_item : (rest : List ℕ) (size : ℕ) → 0 < length rest → class_of (get_or rest 0 0) (get_or rest 1 0) ≡ class.Other
    → symbol_size (get_or rest 0 0) (get_or rest 1 0) ≡ size → size ≢ 0 → IsItem rest size (TokenOf Symbol)
symbol_item [] size some other is more = absurd (omega arith)
symbol_item (c ∷ cs) size some other is more = by (is_symbol (c ∷ get_or cs 0 0 ∷ [])) (is_symbol (c ∷ [])) refl refl
  where
    by : (b s : Bool) → is_symbol (c ∷ get_or cs 0 0 ∷ []) ≡ b → is_symbol (c ∷ []) ≡ s → IsItem (c ∷ cs) size (TokenOf Symbol)
    by true s two one = subst (λ n. IsItem (c ∷ cs) n (TokenOf Symbol)) (size_two c (get_or cs 0 0) size is two) (symbol_of_two c cs other two)
    by false true two one = subst (λ n. IsItem (c ∷ cs) n (TokenOf Symbol)) (size_one c (get_or cs 0 0) size is two one) (symbol_of_one c cs other two one)
    by false false two one = absurd (more (sym (size_none c (get_or cs 0 0) size is two one)))

-- if the size is 0, nothing begins
pub no_symbol_item : (rest : List ℕ) → 0 < length rest → class_of (get_or rest 0 0) (get_or rest 1 0) ≡ class.Other
    → symbol_size (get_or rest 0 0) (get_or rest 1 0) ≡ 0 → BeginsNothing rest
no_symbol_item [] some other is = absurd (omega arith)
no_symbol_item (c ∷ cs) some other is = by (is_symbol (c ∷ get_or cs 0 0 ∷ [])) (is_symbol (c ∷ [])) refl refl
  where
    by : (b s : Bool) → is_symbol (c ∷ get_or cs 0 0 ∷ []) ≡ b → is_symbol (c ∷ []) ≡ s → BeginsNothing (c ∷ cs)
    by true s two one = absurd (omega (arith, size_two c (get_or cs 0 0) 0 is two))
    by false true two one = absurd (omega (arith, size_one c (get_or cs 0 0) 0 is two one))
    by false false two one = nothing_here c cs other two one
