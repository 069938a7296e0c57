-- ReadSteps: values, openings by `=`, and what stands at a key.
use Rattle.std.proofs.Common.{if◌then◌else◌, ◌≡◌, ◌≢◌, ℕ, ◌<◌, ◌≤◌, ◌^◌, ◌≤ℤ◌, ℤ, pos, negsuc, Bool, true, false, ◌||◌, List, [], ◌∷◌, map, length, Option, Some, None, is_some, MatchOption, Bor, Ordering, Less, Equal, Greater, refl, sym, ap, ◌∙◌, subst, arith}
use Rattle.std.specs.Ordering.{is_eq, ordering_then}
use Rattle.std.specs.Option.{option_copied}
use Rattle.std.specs.Map.{lookup}
use Rattle.std.specs.BTreeMap.{BTreeMap}
use Rattle.std.specs.Int.{w64}
use Rattle.std.specs.Int.RustNames.{FitsSigned}
use Rattle.std.specs.Prelude.{int_le, nat_lt}
use Rattle.std.proofs.lemmas.Int.{ints}
use Rattle.gq_value.specs.declared.value.Value.{Value}
use Rattle.gq_value.specs.declared.kind.Number.TheVariants as number
use Rattle.gq_value.specs.Val.{Val, Int, UInt, Truth, Text, Vertex, Tuple, Fraction}
use Rattle.gq_value.specs.Views.{val}
use Rattle.gq_value.specs.Order.{place}
use Rattle.gq_value.specs.Arithmetic.{least, most, is_within, whole}
use Rattle.gq_value.specs.Accums.{Base, INT, UINT, Accum, AvgAccum, MapAccum}
use Rattle.gq_value.specs.Typed.{is_of, takes}
use Rattle.gq_accum_laws.specs.Gather.{distinct, among}
use Rattle.gq_accum_laws.specs.Holds.{Holds, row_cmp}
use Rattle.gq_accum_laws.specs.After.{fresh}
use Rattle.gq_accum_laws.specs.Fits.{fits, IsProper}
use Rattle.gq_accum_laws.specs.Reads.{set_to}
use Rattle.gq_accum_laws.proofs.KindLaws.{both}
use Rattle.gq_accum_laws.proofs.RowLaws.{row_linear, among_distinct}
use Rattle.gq_accum.specs.declared.scalar.Scalar.{Scalar}
use Rattle.gq_accum.specs.declared.scalar.Scalar.TheVariants.{SumInt, SumUInt, MinInt, MinUInt, MaxInt, MaxUInt, Or, And, BitOr, BitAnd, Avg}
use Rattle.gq_accum.specs.Scalars.{kind_of, content}
use Rattle.gq_nest.specs.declared.content.Content.{Content, Content-F, out-Content}
use Rattle.gq_nest.specs.declared.content.Content.TheVariants as made
use Rattle.gq_nest.specs.Entries.{key_row, at_or, is_row, rows, under}
use Rattle.gq_nest.specs.Forms.{view, IsOf, entries_in}
use Rattle.gq_nest.specs.Shows.{Shows}
use Rattle.gq_nest.specs.Tells.{IsFitting, CanBeSet, IsSet, is_settable, LacksKey, HasKey}
use Rattle.gq_nest.proofs.EntryLemmas.{test_is}
use Rattle.gq_nest.proofs.LevelLemmas.{opened-Scalar, opened-Map, scalar_view, scalar_deep}
use Rattle.gq_nest.proofs.TellSteps.{of_level}

-- ---- scalars

module _ (c : Content) (s : Scalar) (e : c ≡ made.Scalar s) where
  opened : out-Content c ≡ Content-F.Scalar s
  opened = ap out-Content e ∙ opened-Scalar s

  -- a content that shows a kind is the scalar of that kind
  kind_is : (k : Accum) (h : Holds k) → Shows k c h → k ≡ kind_of s
  kind_is k h = of_level (λ j d. j ≡ kind_of s) c (Content-F.Scalar s) opened (λ j i. i.0) k h

  pub fits_scalar : IsFitting c → fits (kind_of s) (content (kind_of s) s) ≡ false → ⊥
  fits_scalar f bad =
      let q = of_level (λ k h. fits k h ≡ false) c (Content-F.Scalar s) opened (λ k i. at k i.0) f.kind f.holds f.shows in
      let w : true ≡ false = sym f.fitting ∙ q in cc
    where
      at : (k : Accum) → k ≡ kind_of s → fits k (view k (Content-F.Scalar s)) ≡ false
      at k g = subst (λ (j : Accum). fits j (view j (Content-F.Scalar s)) ≡ false) (sym g) (ap (fits (kind_of s)) (scalar_view s (Content-F.Scalar s)) ∙ bad)

-- ---- set

not_average : (k : Accum) → is_settable k ≡ true → k ≢ AvgAccum
not_average k h e = let w : true ≡ false = sym h ∙ ap is_settable e in cc

setting_takes : (c : Content) (s : Scalar) (v : Val) → c ≡ made.Scalar s → CanBeSet c v → takes (kind_of s) v ≡ true
setting_takes c s v e f = subst (λ (k : Accum). takes k v ≡ true) (kind_is c s e f.kind f.holds f.shows) f.takes

setting_kind : (c : Content) (s : Scalar) (v : Val) → c ≡ made.Scalar s → CanBeSet c v → kind_of s ≢ AvgAccum
setting_kind c s v e f = not_average (kind_of s) (subst (λ (k : Accum). is_settable k ≡ true) (kind_is c s e f.kind f.holds f.shows) f.settable)

-- a number of a type
module _ (P : Val → Type 0) where
  of_int : ((x : ℤ) → is_within number.Int x ≡ true → P (Int x)) → (v : Val) → is_of INT v ≡ true → P v
  of_int f (Int x) h = f x h
  of_int f (UInt n) h = absurd (cc h)
  of_int f (Truth b) h = absurd (cc h)
  of_int f (Text s) h = absurd (cc h)
  of_int f (Vertex n) h = absurd (cc h)
  of_int f (Tuple row) h = absurd (cc h)
  of_int f (Fraction s n) h = absurd (cc h)

  of_uint : ((n : ℕ) → nat_lt n (2 ^ 64) ≡ true → P (UInt n)) → (v : Val) → is_of UINT v ≡ true → P v
  of_uint f (Int x) h = absurd (cc h)
  of_uint f (UInt n) h = f n h
  of_uint f (Truth b) h = absurd (cc h)
  of_uint f (Text s) h = absurd (cc h)
  of_uint f (Vertex n) h = absurd (cc h)
  of_uint f (Tuple row) h = absurd (cc h)
  of_uint f (Fraction s n) h = absurd (cc h)

at_most : (x : ℤ) → is_within number.Int x ≡ true → x ≤ℤ most number.Int
at_most x h = let p = both (int_le (least number.Int) x) (int_le x (most number.Int)) h in let b = p.1 in grind (arith, ints)

at_least : (x : ℤ) → is_within number.Int x ≡ true → least number.Int ≤ℤ x
at_least x h = let p = both (int_le (least number.Int) x) (int_le x (most number.Int)) h in let a = p.0 in grind (arith, ints)

uint_most : (n : ℕ) → nat_lt n (2 ^ 64) ≡ true → pos n ≤ℤ most number.UInt
uint_most n h = let l : n < 2 ^ 64 = grind arith in omega (arith, ints, l)

int_fits : (x : ℤ) → is_within number.Int x ≡ true → FitsSigned w64 x
int_fits (pos n) h = let b = at_most (pos n) h in record { sfits = omega (arith, ints, b) }
int_fits (negsuc n) h = let a = at_least (negsuc n) h in record { sfits = omega (arith, ints, a) }

-- a value of the kind's type is what inputs can lead to
set_proper : (s : Scalar) (v : Val) → takes (kind_of s) v ≡ true → kind_of s ≢ AvgAccum → IsProper (kind_of s) (set_to (kind_of s) v)
set_proper (SumInt c) v h n = tt
set_proper (SumUInt c) v h n = tt
set_proper (MinInt c) v h n = of_int (λ w. whole w ≤ℤ most number.Int) at_most v h
set_proper (MinUInt c) v h n = of_uint (λ w. whole w ≤ℤ most number.UInt) uint_most v h
set_proper (MaxInt c) v h n = of_int (λ w. least number.Int ≤ℤ whole w) at_least v h
set_proper (MaxUInt c) v h n = of_uint (λ w. least number.UInt ≤ℤ whole w) (λ m l. omega (arith, ints)) v h
set_proper (Or c) v h n = tt
set_proper (And c) v h n = tt
set_proper (BitOr c) v h n = of_int (λ w. FitsSigned w64 (whole w)) int_fits v h
set_proper (BitAnd c) v h n = of_int (λ w. FitsSigned w64 (whole w)) int_fits v h
set_proper (Avg c) v h n = absurd (n refl)

pub set_shows : (old new : Content) (s r : Scalar) (v : Val) → old ≡ made.Scalar s → new ≡ made.Scalar r → CanBeSet old v → kind_of r ≡ kind_of s → content (kind_of s) r ≡ set_to (kind_of s) v → IsSet old v new
set_shows old new s r v e f can kept set = record { each = λ k h shows. subst (λ (j : Accum). Shows j new (set_to j v)) (sym (kind_is old s e k h shows)) made_so }
  where
    made_so : Shows (kind_of s) new (set_to (kind_of s) v)
    made_so = record {
      of_kind = subst (IsOf (kind_of s)) (sym (ap out-Content f ∙ opened-Scalar r)) (sym kept, scalar_deep s (Content-F.Scalar r));
      holds = ap (view (kind_of s)) (ap out-Content f ∙ opened-Scalar r) ∙ scalar_view s (Content-F.Scalar r) ∙ set;
      proper = set_proper s v (setting_takes old s v e can) (setting_kind old s v e can);
    }

-- ---- what stands at a key

among_under : (q : List Val) (es : List (Value × Content)) → among row_cmp q (rows key_row es) ≡ is_some (under key_row q es)
among_under q [] = refl
among_under q (e ∷ es) = by (is_row key_row q e.0) (among_under q es)
  where
    by : (b : Bool) → among row_cmp q (rows key_row es) ≡ is_some (under key_row q es) → (b || among row_cmp q (rows key_row es)) ≡ is_some (if b then Some e.1 else under key_row q es)
    by true h = refl
    by false h = h

module _ (c o : Content) (m : BTreeMap Value Content) (e : c ≡ made.Map o m) where
  level : out-Content c ≡ Content-F.Map o m
  level = ap out-Content e ∙ opened-Map o m

  held : (q : List Val) (b : Base) (k : Accum) (h : Holds (MapAccum b k)) → Shows (MapAccum b k) c h → among row_cmp q h.0 ≡ among row_cmp q (rows key_row m.entries)
  held q b k h s = ap (λ (d : Holds (MapAccum b k)). among row_cmp q d.0) (sym s.holds) ∙ ap (λ l. among row_cmp q (distinct row_cmp (rows key_row (entries_in l)))) level ∙ among_distinct row_cmp row_linear q (rows key_row m.entries)

  pub lacks_key : (q : List Val) → among row_cmp q (rows key_row m.entries) ≡ false → LacksKey c q
  lacks_key q none = record { each = λ b k h s. held q b k h s ∙ none }

  pub lacks_value : (key : Value) (q : List Val) → q ≡ val key ∷ [] → None ≡ lookup (λ k. is_eq (place (val key) (val k))) m.entries → LacksKey c q
  lacks_value key q is none = lacks_key q (ap (λ r. among row_cmp r (rows key_row m.entries)) is ∙ among_under (val key ∷ []) m.entries ∙ ap is_some (sym (none ∙ ap (λ t. lookup t m.entries) (test_is (val key)))))

  pub has_key : (key : Value) (q : List Val) (part : Content) → q ≡ val key ∷ [] → Some part ≡ lookup (λ k. is_eq (place (val key) (val k))) m.entries → HasKey c q part
  has_key key q part is found = record { each = λ b k h s. (held q b k h s ∙ ap (λ r. among row_cmp r (rows key_row m.entries)) is ∙ among_under (val key ∷ []) m.entries ∙ ap is_some (sym there), shown b k h s) }
    where
      there : Some part ≡ under key_row (val key ∷ []) m.entries
      there = found ∙ ap (λ t. lookup t m.entries) (test_is (val key))

      here : under key_row q m.entries ≡ Some part
      here = ap (λ r. under key_row r m.entries) is ∙ sym there

      shown : (b : Base) (k : Accum) (h : Holds (MapAccum b k)) → Shows (MapAccum b k) c h → Shows k part (h.1 q)
      shown b k h s = record {
        of_kind = (subst (IsOf (MapAccum b k)) level s.of_kind).1.1 q part here;
        holds = ap (at_or (λ p. view k (out-Content p)) (fresh k)) (sym here) ∙ ap (λ l. at_or (λ p. view k (out-Content p)) (fresh k) (under key_row q (entries_in l))) (sym level) ∙ ap (λ (d : Holds (MapAccum b k)). d.1 q) s.holds;
        proper = s.proper.2 q;
      }

  pub gets_value : (key : Value) (q : List Val) → q ≡ val key ∷ [] → (r : Option (Bor Content)) → option_copied r ≡ lookup (λ k. is_eq (place (val key) (val k))) m.entries → MatchOption r (LacksKey c q) (λ p. HasKey c q p.now)
  gets_value key q is None h = lacks_value key q is h
  gets_value key q is (Some p) h = has_key key q p.now is h

  -- a key of a map is one value
  no_row : (es : List (Value × Content)) → among row_cmp [] (rows key_row es) ≡ false
  no_row [] = refl
  no_row (d ∷ es) = no_row es

  long_row : (a b : Val) (r : List Val) (es : List (Value × Content)) → among row_cmp (a ∷ b ∷ r) (rows key_row es) ≡ false
  long_row a b r [] = refl
  long_row a b r (d ∷ es) = by (place a (val d.0)) (long_row a b r es)
    where
      by : (x : Ordering) → among row_cmp (a ∷ b ∷ r) (rows key_row es) ≡ false → (is_eq (ordering_then x Greater) || among row_cmp (a ∷ b ∷ r) (rows key_row es)) ≡ false
      by Less h = h
      by Equal h = h
      by Greater h = h

  pub lacks_none : (ks : List Value) → length ks < 1 → LacksKey c (map val ks)
  lacks_none [] h = lacks_key [] (no_row m.entries)
  lacks_none (x ∷ ks) h = absurd (omega (arith, h))

  pub lacks_long : (ks : List Value) → 2 ≤ length ks → LacksKey c (map val ks)
  lacks_long [] h = absurd (omega (arith, h))
  lacks_long (x ∷ []) h = absurd (omega (arith, h))
  lacks_long (x ∷ y ∷ ks) h = lacks_key (val x ∷ val y ∷ map val ks) (long_row (val x) (val y) (map val ks) m.entries)
