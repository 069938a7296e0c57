-- SuitLemmas: numbers within their types, and lists that are gone through together.
use Rattle.std.proofs.Common.{◌≡◌, ◌≢◌, ℕ, zero, suc, ◌+◌, ◌^◌, ◌<◌, ◌≤◌, ◌&&◌, ℤ, pos, negsuc, Bool, true, false, List, [], ◌∷◌, map, length, drop, get_or, refl, sym, ap, ap₂, ◌∙◌, arith}
use Rattle.std.specs.Prelude.{nat_lt}
use Rattle.std.specs.Int.{w64}
use Rattle.std.specs.Int.RustNames.{FitsSigned}
use Rattle.std.proofs.lemmas.Bool.Decides.{nat_tests}
use Rattle.gq_value.specs.declared.kind.Number.TheVariants as number
use Rattle.gq_value.specs.declared.kind.BaseType.{BaseType}
use Rattle.gq_value.specs.declared.kind.Input.{Input}
use Rattle.gq_value.specs.declared.kind.Kind.{Kind}
use Rattle.gq_value.specs.declared.value.Value.{Value}
use Rattle.gq_value.specs.Arithmetic.{is_within}
use Rattle.gq_value.specs.Val.{Val, vals_of}
use Rattle.gq_value.specs.Views.{val}
use Rattle.gq_value.specs.Accums.{Accum, MapAccum, GroupByAccum, Base, Given, Keyed, Givens, no_given, given_and, no_part, part_and}
use Rattle.gq_value.specs.AccumViews.{base_of, bases, accum_of, parts_of, given, givens}
use Rattle.gq_value.proofs.AccumLemmas.{given-One, given-Keyed}
use Rattle.gq_value.specs.Typed.{is_of, are_of, row_is_of, suits, suit}

pub within_int : (z : ℤ) → FitsSigned w64 z → is_within number.Int z ≡ true
within_int (pos n) h = let k : n < 2 ^ 63 = h.sfits in grind (arith, nat_tests)
within_int (negsuc n) h = let k : n < 2 ^ 63 = h.sfits in grind (arith, nat_tests)

pub within_uint : (n : ℕ) → n < 2 ^ 64 → nat_lt n (2 ^ 64) ≡ true
within_uint n h = grind (arith, nat_tests)

pub ruleset number_laws = (within_int, within_uint)

pub ruleset given_laws = (given-One, given-Keyed)

pub and_true_is : (b : Bool) → (b && true) ≡ b
and_true_is true = refl
and_true_is false = refl

and_true : (b : Bool) → (b && true) ≡ b
and_true true = refl
and_true false = refl

-- one key, and one part
pub map_suits : (b : Base) (k : Accum) (row : List Val) (xs : Givens) → suits (MapAccum b k) (Keyed row xs) ≡ (row_is_of (b ∷ []) row && suit (part_and [] k no_part) xs)
map_suits b k row no_given = sym (and_no (row_is_of (b ∷ []) row))
  where
    and_no : (c : Bool) → (c && false) ≡ false
    and_no true = refl
    and_no false = refl
map_suits b k row (given_and x no_given) = ap (λ c. row_is_of (b ∷ []) row && c) (sym (and_true (suits k x)))
map_suits b k row (given_and x (given_and y ys)) = sym (ap (λ c. row_is_of (b ∷ []) row && c) (and_no (suits k x)) ∙ and_no (row_is_of (b ∷ []) row))
  where
    and_no : (c : Bool) → (c && false) ≡ false
    and_no true = refl
    and_no false = refl

pub first_names : (keys : List (List ℕ × BaseType)) → map (λ (k : List ℕ × Base). k.1) (map (λ (k : List ℕ × BaseType). (k.0, base_of k.1)) keys) ≡ map (λ (k : List ℕ × BaseType). base_of k.1) keys
first_names [] = refl
first_names (k ∷ keys) = ap (λ l. base_of k.1 ∷ l) (first_names keys)

pub group_suits : (keys : List (List ℕ × BaseType)) (parts : List (List ℕ × Kind)) (k : Accum) (row : List Val) (xs : Givens) → k ≡ GroupByAccum (map (λ (k : List ℕ × BaseType). (k.0, base_of k.1)) keys) (parts_of (map (λ (p : List ℕ × Kind). (p.0, accum_of p.1)) parts))
    → suits k (Keyed row xs) ≡ (row_is_of (map (λ (k : List ℕ × BaseType). base_of k.1) keys) row && suit (parts_of (map (λ (p : List ℕ × Kind). (p.0, accum_of p.1)) parts)) xs)
group_suits keys parts k row xs e = ap (λ j. suits j (Keyed row xs)) e ∙ ap (λ bs. row_is_of bs row && suit (parts_of (map (λ (p : List ℕ × Kind). (p.0, accum_of p.1)) parts)) xs) (first_names keys)

pub then_both : (whole keys parts r p : Bool) → whole ≡ (keys && parts) → r ≡ keys → p ≡ parts → r ≡ true → p ≡ whole
then_both whole keys parts r p e k q h = q ∙ sym (e ∙ ap (λ b. b && parts) (sym k ∙ h))

pub else_both : (whole keys parts r : Bool) → whole ≡ (keys && parts) → r ≡ keys → r ≡ false → r ≡ whole
else_both whole keys parts r e k h = h ∙ sym (e ∙ ap (λ b. b && parts) (sym k ∙ h))

pub ruleset keyed_laws = (map_suits, and_true_is)

pub one_suit : (k : Accum) (x : Given) → suit (part_and [] k no_part) (given_and x no_given) ≡ suits k x
one_suit k x = and_true (suits k x)

pub one_none : (k : Accum) (xs : List Input) → 2 ≤ length xs → false ≡ suit (part_and [] k no_part) (givens (map given xs))
one_none k [] h = absurd (omega (arith, h))
one_none k (x ∷ []) h = absurd (omega (arith, h))
one_none k (x ∷ y ∷ xs) h = sym (and_no (suits k (given x)))
  where
    and_no : (c : Bool) → (c && false) ≡ false
    and_no true = refl
    and_no false = refl

pub ruleset one_laws = (one_suit, and_true_is)

-- ---- tests of two lists, item by item, which are false if one is longer

module _ {X Y A B : Type 0} (f : X → A) (g : Y → B) (item : A → B → Bool) (whole : List A → List B → Bool)
    (none : whole [] [] ≡ true) (first : (y : B) (ys : List B) → whole [] (y ∷ ys) ≡ false) (second : (x : A) (xs : List A) → whole (x ∷ xs) [] ≡ false)
    (more : (x : A) (y : B) (xs : List A) (ys : List B) → whole (x ∷ xs) (y ∷ ys) ≡ (item x y && whole xs ys)) where
  -- from an index on
  abbrev Rest : List X → List Y → ℕ → Bool
  Rest xs ys i = whole (map f (drop i xs)) (map g (drop i ys))

  pub uneven : (xs : List X) (ys : List Y) → length ys ≢ length xs → whole (map f xs) (map g ys) ≡ false
  uneven [] [] h = absurd (h refl)
  uneven [] (y ∷ ys) h = first (g y) (map g ys)
  uneven (x ∷ xs) [] h = second (f x) (map f xs)
  uneven (x ∷ xs) (y ∷ ys) h = more (f x) (g y) (map f xs) (map g ys) ∙ ap (λ b. item (f x) (g y) && b) (uneven xs ys (λ e. h (ap suc e))) ∙ and_false (item (f x) (g y))
    where
      and_false : (b : Bool) → (b && false) ≡ false
      and_false true = refl
      and_false false = refl

  drop_all : {Z : Type 0} (zs : List Z) (i : ℕ) → length zs ≤ i → drop i zs ≡ []
  drop_all [] zero h = refl
  drop_all [] (suc i) h = refl
  drop_all (z ∷ zs) zero h = absurd (omega (arith, h))
  drop_all (z ∷ zs) (suc i) h = drop_all zs i (omega (arith, h))

  pub at_end : (xs : List X) (ys : List Y) (i : ℕ) → length xs ≤ i → length ys ≤ i → Rest xs ys i ≡ true
  at_end xs ys i h k = ap₂ (λ u v. whole (map f u) (map g v)) (drop_all xs i h) (drop_all ys i k) ∙ none

  pub step : (xs : List X) (ys : List Y) (i : ℕ) (x : X) (y : Y) → i < length xs → i < length ys → x ≡ get_or xs i x → y ≡ get_or ys i y → Rest xs ys i ≡ (item (f x) (g y) && Rest xs ys (suc i))
  step [] ys i x y h k p q = absurd (omega (arith, h))
  step (a ∷ xs) [] i x y h k p q = absurd (omega (arith, k))
  step (a ∷ xs) (b ∷ ys) zero x y h k p q = more (f a) (g b) (map f xs) (map g ys) ∙ ap₂ (λ u v. item (f u) (g v) && whole (map f xs) (map g ys)) (sym p) (sym q)
  step (a ∷ xs) (b ∷ ys) (suc i) x y h k p q = step xs ys i x y (omega (arith, h)) (omega (arith, k)) p q

-- ---- values of types, keys of types, inputs of parts

abbrev pub AreWhole : List BaseType → List Value → Bool
AreWhole ts vs = are_of (bases (map base_of ts)) (vals_of (map val vs))

abbrev pub AreRest : List BaseType → List Value → ℕ → Bool
AreRest ts vs i = AreWhole (drop i ts) (drop i vs)

pub are_uneven : (ts : List BaseType) (vs : List Value) → length vs ≢ length ts → false ≡ AreWhole ts vs
are_uneven ts vs h = sym (uneven base_of val is_of (λ (bs : List Base) (ws : List Val). are_of (bases bs) (vals_of ws)) refl (λ y ys. refl) (λ x xs. refl) (λ x y xs ys. refl) ts vs h)

pub are_first : (ts : List BaseType) (vs : List Value) → AreRest ts vs 0 ≡ AreWhole ts vs
are_first ts vs = refl

pub are_more : (ts : List BaseType) (vs : List Value) (i : ℕ) (t : BaseType) (v : Value) (b whole : Bool) → i < length ts → i < length vs → t ≡ get_or ts i t → v ≡ get_or vs i v → b ≡ is_of (base_of t) (val v) → b ≡ true → AreRest ts vs i ≡ whole → AreRest ts vs (i + 1) ≡ whole
are_more ts vs i t v b whole h k p q e yes_it so = (let z : i + 1 ≡ suc i = omega arith in ap (AreRest ts vs) z) ∙ sym (step base_of val is_of (λ (bs : List Base) (ws : List Val). are_of (bases bs) (vals_of ws)) refl (λ y ys. refl) (λ x xs. refl) (λ x y xs ys. refl) ts vs i t v h k p q ∙ ap (λ c. c && AreRest ts vs (suc i)) (sym e ∙ yes_it)) ∙ so

pub are_not : (ts : List BaseType) (vs : List Value) (i : ℕ) (t : BaseType) (v : Value) (b whole : Bool) → i < length ts → i < length vs → t ≡ get_or ts i t → v ≡ get_or vs i v → b ≡ is_of (base_of t) (val v) → b ≡ false → AreRest ts vs i ≡ whole → false ≡ whole
are_not ts vs i t v b whole h k p q e no_it so = sym (step base_of val is_of (λ (bs : List Base) (ws : List Val). are_of (bases bs) (vals_of ws)) refl (λ y ys. refl) (λ x xs. refl) (λ x y xs ys. refl) ts vs i t v h k p q ∙ ap (λ c. c && AreRest ts vs (suc i)) (sym e ∙ no_it)) ∙ so

pub are_all : (ts : List BaseType) (vs : List Value) (i : ℕ) (whole : Bool) → length ts ≤ i → length vs ≤ i → AreRest ts vs i ≡ whole → true ≡ whole
are_all ts vs i whole h k so = sym (at_end base_of val is_of (λ (bs : List Base) (ws : List Val). are_of (bases bs) (vals_of ws)) refl (λ y ys. refl) (λ x xs. refl) (λ x y xs ys. refl) ts vs i h k) ∙ so

pub ruleset are_laws = (are_uneven, are_first, are_more, are_not, are_all)

abbrev pub KeysWhole : List (List ℕ × BaseType) → List Value → Bool
KeysWhole ts vs = row_is_of (map (λ k. base_of k.1) ts) (map val vs)

abbrev pub KeysRest : List (List ℕ × BaseType) → List Value → ℕ → Bool
KeysRest ts vs i = KeysWhole (drop i ts) (drop i vs)

pub keys_uneven : (ts : List (List ℕ × BaseType)) (vs : List Value) → length vs ≢ length ts → false ≡ KeysWhole ts vs
keys_uneven ts vs h = sym (uneven (λ (k : List ℕ × BaseType). base_of k.1) val is_of row_is_of refl (λ y ys. refl) (λ x xs. refl) (λ x y xs ys. refl) ts vs h)

pub keys_first : (ts : List (List ℕ × BaseType)) (vs : List Value) → KeysRest ts vs 0 ≡ KeysWhole ts vs
keys_first ts vs = refl

pub keys_more : (ts : List (List ℕ × BaseType)) (vs : List Value) (i : ℕ) (t : (List ℕ × BaseType)) (v : Value) (b whole : Bool) → i < length ts → i < length vs → t ≡ get_or ts i t → v ≡ get_or vs i v → b ≡ is_of (base_of t.1) (val v) → b ≡ true → KeysRest ts vs i ≡ whole → KeysRest ts vs (i + 1) ≡ whole
keys_more ts vs i t v b whole h k p q e yes_it so = (let z : i + 1 ≡ suc i = omega arith in ap (KeysRest ts vs) z) ∙ sym (step (λ (k : List ℕ × BaseType). base_of k.1) val is_of row_is_of refl (λ y ys. refl) (λ x xs. refl) (λ x y xs ys. refl) ts vs i t v h k p q ∙ ap (λ c. c && KeysRest ts vs (suc i)) (sym e ∙ yes_it)) ∙ so

pub keys_not : (ts : List (List ℕ × BaseType)) (vs : List Value) (i : ℕ) (t : (List ℕ × BaseType)) (v : Value) (b whole : Bool) → i < length ts → i < length vs → t ≡ get_or ts i t → v ≡ get_or vs i v → b ≡ is_of (base_of t.1) (val v) → b ≡ false → KeysRest ts vs i ≡ whole → false ≡ whole
keys_not ts vs i t v b whole h k p q e no_it so = sym (step (λ (k : List ℕ × BaseType). base_of k.1) val is_of row_is_of refl (λ y ys. refl) (λ x xs. refl) (λ x y xs ys. refl) ts vs i t v h k p q ∙ ap (λ c. c && KeysRest ts vs (suc i)) (sym e ∙ no_it)) ∙ so

pub keys_all : (ts : List (List ℕ × BaseType)) (vs : List Value) (i : ℕ) (whole : Bool) → length ts ≤ i → length vs ≤ i → KeysRest ts vs i ≡ whole → true ≡ whole
keys_all ts vs i whole h k so = sym (at_end (λ (k : List ℕ × BaseType). base_of k.1) val is_of row_is_of refl (λ y ys. refl) (λ x xs. refl) (λ x y xs ys. refl) ts vs i h k) ∙ so

pub ruleset keys_laws = (keys_uneven, keys_first, keys_more, keys_not, keys_all)

abbrev pub PartsWhole : List (List ℕ × Kind) → List Input → Bool
PartsWhole ts vs = suit (parts_of (map (λ p. (p.0, accum_of p.1)) ts)) (givens (map given vs))

abbrev pub PartsRest : List (List ℕ × Kind) → List Input → ℕ → Bool
PartsRest ts vs i = PartsWhole (drop i ts) (drop i vs)

pub parts_uneven : (ts : List (List ℕ × Kind)) (vs : List Input) → length vs ≢ length ts → false ≡ PartsWhole ts vs
parts_uneven ts vs h = sym (uneven (λ (p : List ℕ × Kind). (p.0, accum_of p.1)) given (λ (q : List ℕ × Accum) (x : Given). suits q.1 x) (λ (qs : List (List ℕ × Accum)) (ys : List Given). suit (parts_of qs) (givens ys)) refl (λ y ys. refl) (λ x xs. refl) (λ x y xs ys. refl) ts vs h)

pub parts_first : (ts : List (List ℕ × Kind)) (vs : List Input) → PartsRest ts vs 0 ≡ PartsWhole ts vs
parts_first ts vs = refl

pub parts_more : (ts : List (List ℕ × Kind)) (vs : List Input) (i : ℕ) (t : (List ℕ × Kind)) (v : Input) (b whole : Bool) → i < length ts → i < length vs → t ≡ get_or ts i t → v ≡ get_or vs i v → b ≡ suits (accum_of t.1) (given v) → b ≡ true → PartsRest ts vs i ≡ whole → PartsRest ts vs (i + 1) ≡ whole
parts_more ts vs i t v b whole h k p q e yes_it so = (let z : i + 1 ≡ suc i = omega arith in ap (PartsRest ts vs) z) ∙ sym (step (λ (p : List ℕ × Kind). (p.0, accum_of p.1)) given (λ (q : List ℕ × Accum) (x : Given). suits q.1 x) (λ (qs : List (List ℕ × Accum)) (ys : List Given). suit (parts_of qs) (givens ys)) refl (λ y ys. refl) (λ x xs. refl) (λ x y xs ys. refl) ts vs i t v h k p q ∙ ap (λ c. c && PartsRest ts vs (suc i)) (sym e ∙ yes_it)) ∙ so

pub parts_not : (ts : List (List ℕ × Kind)) (vs : List Input) (i : ℕ) (t : (List ℕ × Kind)) (v : Input) (b whole : Bool) → i < length ts → i < length vs → t ≡ get_or ts i t → v ≡ get_or vs i v → b ≡ suits (accum_of t.1) (given v) → b ≡ false → PartsRest ts vs i ≡ whole → false ≡ whole
parts_not ts vs i t v b whole h k p q e no_it so = sym (step (λ (p : List ℕ × Kind). (p.0, accum_of p.1)) given (λ (q : List ℕ × Accum) (x : Given). suits q.1 x) (λ (qs : List (List ℕ × Accum)) (ys : List Given). suit (parts_of qs) (givens ys)) refl (λ y ys. refl) (λ x xs. refl) (λ x y xs ys. refl) ts vs i t v h k p q ∙ ap (λ c. c && PartsRest ts vs (suc i)) (sym e ∙ no_it)) ∙ so

pub parts_all : (ts : List (List ℕ × Kind)) (vs : List Input) (i : ℕ) (whole : Bool) → length ts ≤ i → length vs ≤ i → PartsRest ts vs i ≡ whole → true ≡ whole
parts_all ts vs i whole h k so = sym (at_end (λ (p : List ℕ × Kind). (p.0, accum_of p.1)) given (λ (q : List ℕ × Accum) (x : Given). suits q.1 x) (λ (qs : List (List ℕ × Accum)) (ys : List Given). suit (parts_of qs) (givens ys)) refl (λ y ys. refl) (λ x xs. refl) (λ x y xs ys. refl) ts vs i h k) ∙ so

pub ruleset parts_laws = (parts_uneven, parts_first, parts_more, parts_not, parts_all)
