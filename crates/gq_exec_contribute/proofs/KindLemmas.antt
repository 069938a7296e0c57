-- KindLemmas: collections, maps, groups and heaps of INTs.
use Rattle.std.proofs.Common.{◌≡◌, ℕ, suc, ◌+◌, ◌<◌, ◌≤◌, true, List, [], ◌∷◌, map, take, get_or, length, refl, sym, ap, ap₂, subst, ◌∙◌, arith}
use Rattle.std.specs.Prelude.{ℤ, ◌&&◌}
use Rattle.std.specs.List.{All}
use Rattle.std.specs.Int.{w64}
use Rattle.std.specs.Int.RustNames.{FitsSigned}
use Rattle.std.proofs.lemmas.List.{take_all}
use Rattle.std.proofs.lemmas.List.Elements.{All-nil, All-cons, All-head, All-tail, All-more}
use Rattle.gq_value.specs.Val.{Int, vals_of}
use Rattle.gq_value.specs.Accums.{Accum, Base, INT, Keyed, SetAccum, BagAccum, ListAccum, MapAccum}
use Rattle.gq_value.specs.AccumViews.{accum_of, base_of, bases, parts_of}
use Rattle.gq_value.specs.Typed.{is_of, are_of, row_is_of, suits, suit}
use Rattle.gq_value.specs.declared.kind.BaseType.{BaseType}
use Rattle.gq_value.specs.declared.kind.Kind.{Kind}
use Rattle.gq_value.specs.declared.kind.GroupShape.{GroupShape}
use Rattle.gq_value.specs.declared.kind.HeapShape.{HeapShape}
use Rattle.gq_rules_typing.specs.Kinds.{kinds_in}
use Rattle.gq_rules_typing.specs.Statements.{Bytes}
use Rattle.gq_exec_feed.proofs.SuitLemmas.{within_int}
use Rattle.gq_exec_contribute.specs.declared.cells.Taken.TheVariants as taken
use Rattle.gq_exec_contribute.specs.Prepared.{Takes, TakesInts, TakesKeyed, parts_given, group_of, heap_of}

-- ---- item by item

pub all_step : {A : Type 0} (P : A → Type 0) (xs : List A) (i : ℕ) (x d : A) → i < length xs → x ≡ get_or xs i d → P x → All P (take i xs) → All P (take (i + 1) xs)
all_step P xs i x d l e h so = All-more P xs i d l so (subst P e h)

pub all_whole : {A : Type 0} (P : A → Type 0) (xs : List A) (i : ℕ) → length xs ≤ i → All P (take i xs) → All P xs
all_whole P xs i l so = subst (All P) (take_all i xs l) so

-- ---- elements

pub set_takes : (b : Base) → b ≡ INT → Takes (SetAccum b) taken.Element
set_takes b e = subst (λ (b : Base). Takes (SetAccum b) taken.Element) (sym e) (record { typed = refl; suited = λ x h. within_int x h })

pub bag_takes : (b : Base) → b ≡ INT → Takes (BagAccum b) taken.Element
bag_takes b e = subst (λ (b : Base). Takes (BagAccum b) taken.Element) (sym e) (record { typed = refl; suited = λ x h. within_int x h })

pub list_takes : (b : Base) → b ≡ INT → Takes (ListAccum b) taken.Element
list_takes b e = subst (λ (b : Base). Takes (ListAccum b) taken.Element) (sym e) (record { typed = refl; suited = λ x h. within_int x h })

pub other_takes : (k : Accum) → Takes k taken.Other
other_takes k = tt

pub ruleset element_laws = (set_takes, bag_takes, list_takes, other_takes)

-- ---- maps

map_suits : (k : Accum) (xs ys : List ℤ) → TakesInts k → length xs ≡ 1 → length ys ≡ 1 → All (FitsSigned w64) xs → All (FitsSigned w64) ys → suits (MapAccum INT k) (Keyed (map Int xs) (parts_given ys)) ≡ true
map_suits k [] ys h l m f g = absurd (omega (arith, l))
map_suits k (x ∷ y ∷ xs) ys h l m f g = absurd (omega (arith, l))
map_suits k (x ∷ []) [] h l m f g = absurd (omega (arith, m))
map_suits k (x ∷ []) (y ∷ z ∷ ys) h l m f g = absurd (omega (arith, m))
map_suits k (x ∷ []) (y ∷ []) h l m f g = ap₂ (λ a b. (a && true) && b) (within_int x (All-head (FitsSigned w64) x [] f)) (h.suited y (All-head (FitsSigned w64) y [] g))

pub map_takes : (b : Base) (k : Accum) → b ≡ INT → TakesInts k → Takes (MapAccum b k) (taken.Keyed 1 1)
map_takes b k e h = subst (λ (b : Base). TakesKeyed (MapAccum b k) 1 1) (sym e) (record {
  keys = All-cons (λ (b : Base). b ≡ INT) INT [] refl (All-nil (λ (b : Base). b ≡ INT));
  key_count = refl;
  parts = All-cons TakesInts k [] h (All-nil TakesInts);
  part_count = refl;
  suited = λ xs ys l m f g. map_suits k xs ys h l m f g;
})

pub ruleset map_laws = (map_takes, other_takes)

-- ---- groups

keys_all : (ks : List (Bytes × BaseType)) → All (λ (k : Bytes × BaseType). base_of k.1 ≡ INT) ks → All (λ (b : Base). b ≡ INT) (map (λ (k : Bytes × Base). k.1) (map (λ (k : Bytes × BaseType). (k.0, base_of k.1)) ks))
keys_all [] h = All-nil (λ (b : Base). b ≡ INT)
keys_all (k ∷ ks) h = All-cons (λ (b : Base). b ≡ INT) (base_of k.1) _ (All-head (λ (k : Bytes × BaseType). base_of k.1 ≡ INT) k ks h) (keys_all ks (All-tail (λ (k : Bytes × BaseType). base_of k.1 ≡ INT) k ks h))

keys_many : (ks : List (Bytes × BaseType)) → length (map (λ (k : Bytes × Base). k.1) (map (λ (k : Bytes × BaseType). (k.0, base_of k.1)) ks)) ≡ length ks
keys_many [] = refl
keys_many (k ∷ ks) = ap suc (keys_many ks)

parts_all : (ps : List (Bytes × Kind)) → All (λ (p : Bytes × Kind). TakesInts (accum_of p.1)) ps → All TakesInts (kinds_in (parts_of (map (λ (p : Bytes × Kind). (p.0, accum_of p.1)) ps)))
parts_all [] h = All-nil TakesInts
parts_all (p ∷ ps) h = All-cons TakesInts (accum_of p.1) _ (All-head (λ (p : Bytes × Kind). TakesInts (accum_of p.1)) p ps h) (parts_all ps (All-tail (λ (p : Bytes × Kind). TakesInts (accum_of p.1)) p ps h))

parts_many : (ps : List (Bytes × Kind)) → length (kinds_in (parts_of (map (λ (p : Bytes × Kind). (p.0, accum_of p.1)) ps))) ≡ length ps
parts_many [] = refl
parts_many (p ∷ ps) = ap suc (parts_many ps)

row_suits : (bs : List Base) (xs : List ℤ) → All (λ (b : Base). b ≡ INT) bs → length xs ≡ length bs → All (FitsSigned w64) xs → row_is_of bs (map Int xs) ≡ true
row_suits [] [] h l f = refl
row_suits [] (x ∷ xs) h l f = absurd (omega (arith, l))
row_suits (b ∷ bs) [] h l f = absurd (omega (arith, l))
row_suits (b ∷ bs) (x ∷ xs) h l f =
    ap (λ (b : Base). is_of b (Int x) && row_is_of bs (map Int xs)) (All-head (λ (b : Base). b ≡ INT) b bs h)
    ∙ ap₂ (λ a c. a && c) (within_int x (All-head (FitsSigned w64) x xs f)) (row_suits bs xs (All-tail (λ (b : Base). b ≡ INT) b bs h) (omega (arith, l)) (All-tail (FitsSigned w64) x xs f))

parts_suit : (ps : List (Bytes × Kind)) (ys : List ℤ) → All (λ (p : Bytes × Kind). TakesInts (accum_of p.1)) ps → length ys ≡ length ps → All (FitsSigned w64) ys → suit (parts_of (map (λ (p : Bytes × Kind). (p.0, accum_of p.1)) ps)) (parts_given ys) ≡ true
parts_suit [] [] h l f = refl
parts_suit [] (y ∷ ys) h l f = absurd (omega (arith, l))
parts_suit (p ∷ ps) [] h l f = absurd (omega (arith, l))
parts_suit (p ∷ ps) (y ∷ ys) h l f =
    ap₂ (λ a c. a && c) ((All-head (λ (p : Bytes × Kind). TakesInts (accum_of p.1)) p ps h).suited y (All-head (FitsSigned w64) y ys f))
    (parts_suit ps ys (All-tail (λ (p : Bytes × Kind). TakesInts (accum_of p.1)) p ps h) (omega (arith, l)) (All-tail (FitsSigned w64) y ys f))

pub group_takes : (s : GroupShape) (n m : ℕ) → n ≡ length s.keys → m ≡ length s.parts → All (λ (k : Bytes × BaseType). base_of k.1 ≡ INT) s.keys → All (λ (p : Bytes × Kind). TakesInts (accum_of p.1)) s.parts → Takes (group_of s) (taken.Keyed n m)
group_takes s n m a b keys parts = record {
  keys = keys_all s.keys keys;
  key_count = keys_many s.keys ∙ sym a;
  parts = parts_all s.parts parts;
  part_count = parts_many s.parts ∙ sym b;
  suited = λ xs ys l q f g. ap₂ (λ a c. a && c) (row_suits _ xs (keys_all s.keys keys) (l ∙ a ∙ sym (keys_many s.keys)) f) (parts_suit s.parts ys parts (q ∙ b) g);
}

pub group_found : (s : GroupShape) (ks : List (Bytes × BaseType)) (ps : List (Bytes × Kind)) (n m : ℕ) → ks ≡ s.keys → ps ≡ s.parts → n ≡ length s.keys → m ≡ length s.parts → All (λ (k : Bytes × BaseType). base_of k.1 ≡ INT) ks → All (λ (p : Bytes × Kind). TakesInts (accum_of p.1)) ps → Takes (group_of s) (taken.Keyed n m)
group_found s ks ps n m e f a b keys parts = group_takes s n m a b (subst (All (λ (k : Bytes × BaseType). base_of k.1 ≡ INT)) e keys) (subst (All (λ (p : Bytes × Kind). TakesInts (accum_of p.1))) f parts)

pub ruleset group_laws = (group_takes, other_takes)

-- ---- heaps

fields_suit : (bs : List BaseType) (xs : List ℤ) → All (λ (b : BaseType). base_of b ≡ INT) bs → length xs ≡ length bs → All (FitsSigned w64) xs → are_of (bases (map base_of bs)) (vals_of (map Int xs)) ≡ true
fields_suit [] [] h l f = refl
fields_suit [] (x ∷ xs) h l f = absurd (omega (arith, l))
fields_suit (b ∷ bs) [] h l f = absurd (omega (arith, l))
fields_suit (b ∷ bs) (x ∷ xs) h l f =
    ap (λ (c : Base). is_of c (Int x) && are_of (bases (map base_of bs)) (vals_of (map Int xs))) (All-head (λ (b : BaseType). base_of b ≡ INT) b bs h)
    ∙ ap₂ (λ a c. a && c) (within_int x (All-head (FitsSigned w64) x xs f)) (fields_suit bs xs (All-tail (λ (b : BaseType). base_of b ≡ INT) b bs h) (omega (arith, l)) (All-tail (FitsSigned w64) x xs f))

pub heap_takes : (s : HeapShape) (n : ℕ) → n ≡ length s.fields → All (λ (b : BaseType). base_of b ≡ INT) s.fields → Takes (heap_of s) (taken.Tuple n)
heap_takes s n e h = record { number = s.tuple; fields = bases (map base_of s.fields); typed = refl; suited = λ xs l f. fields_suit s.fields xs h (l ∙ e) f }

pub ruleset heap_laws = (heap_takes, other_takes)
