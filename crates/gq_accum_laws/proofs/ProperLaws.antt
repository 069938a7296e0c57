-- Contents that inputs can lead to: openings, contents after inputs, merged contents. And the laws that need this.
use Rattle.std.proofs.Common.{◌≡◌, ◌≤ℤ◌, zero, suc, ◌+◌, ℤ, pos, ◌+ℤ◌, ◌||◌, ◌&&◌, Bool, true, false, List, [], ◌∷◌, ◌++◌, map, length, take, refl, sym, ap, ap₂, ◌∙◌, append_assoc, append-nil, arith}
use Rattle.std.specs.Int.{int_max, int_min, w64}
use Rattle.std.specs.Int.RustNames.{FitsSigned}
use Rattle.std.proofs.lemmas.Int.{ints, clamps, fits_signed_from_abs}
use Rattle.gq_value.specs.Val.{Val}
use Rattle.gq_value.specs.Order.{place}
use Rattle.gq_value.specs.Accums.{Accum, SumAccum, MinAccum, MaxAccum, OrAccum, AndAccum, BitwiseOrAccum, BitwiseAndAccum, AvgAccum, SetAccum, BagAccum, ListAccum, MapAccum, GroupByAccum, HeapAccum, Parts, no_part, part_and, Given, Givens}
use Rattle.gq_value.specs.Arithmetic.{least, most}
use Rattle.gq_accum_laws.specs.Gather.{into, sorted, distinct, among}
use Rattle.gq_accum_laws.specs.Holds.{Holds, HoldsEach, row_cmp, heap_cmp}
use Rattle.gq_accum_laws.specs.Inputs.{values, numbers, truths, total, either_bits, both_bits, rows_in, own, first, rest}
use Rattle.gq_accum_laws.specs.After.{fresh, fresh_each, after, after_each, merged, merged_each}
use Rattle.gq_accum_laws.specs.Fits.{IsProper, AreProper}
use Rattle.gq_accum_laws.specs.Laws.{merged_parts, joined, CutLaw, MergeLaw, ProperLaw}
use Rattle.gq_accum_laws.proofs.Shuffles.{past}
use Rattle.gq_accum_laws.proofs.GatherLaws.{gather_part, gathered_into}
use Rattle.gq_accum_laws.proofs.TopLaws.{top_part, top_fresh}
use Rattle.gq_accum_laws.proofs.NumberLaws.{min_commutes, max_commutes, or_commutes, and_commutes, either_commutes, both_commutes, or_none, and_none, either_none, both_none, either_fits, both_fits}
use Rattle.gq_accum_laws.proofs.RowLaws.{place_linear, row_linear, heap_linear, among_distinct, among-append, own_none}
use Rattle.gq_accum_laws.proofs.KindLaws.{after_cut, merged_turns, merged_groups}

neither : (a b : Bool) → (a || b) ≡ false → (a ≡ false) × (b ≡ false)
neither true b h = absurd (cc h)
neither false b h = (refl, h)

-- ---- no inputs, and the opening

fits_numeral : FitsSigned w64 (pos 0)
fits_numeral = fits_signed_from_abs w64 (pos 0) (omega arith)

mutual
  pub proper_fresh : (k : Accum) → IsProper k (fresh k)
  proper_fresh (SumAccum n) = tt
  proper_fresh (MinAccum n) = omega (arith, ints)
  proper_fresh (MaxAccum n) = omega (arith, ints)
  proper_fresh OrAccum = tt
  proper_fresh AndAccum = tt
  proper_fresh BitwiseOrAccum = fits_numeral
  proper_fresh BitwiseAndAccum = fits_signed_from_abs w64 _ (omega arith)
  proper_fresh AvgAccum = tt
  proper_fresh (SetAccum b) = refl
  proper_fresh (BagAccum b) = refl
  proper_fresh (ListAccum b) = tt
  proper_fresh (MapAccum b k) = (refl, λ q h. refl, λ q. proper_fresh k)
  proper_fresh (GroupByAccum ks ps) = (refl, λ q h. refl, λ q. proper_fresh_each ps)
  proper_fresh (HeapAccum b zero by) = refl
  proper_fresh (HeapAccum b (suc n) by) = refl

  pub proper_fresh_each : (ps : Parts) → AreProper ps (fresh_each ps)
  proper_fresh_each no_part = tt
  proper_fresh_each (part_and name k ps) = (proper_fresh k, proper_fresh_each ps)

no_rows : (c : List (List Val)) → distinct row_cmp c ≡ c → distinct row_cmp (c ++ []) ≡ c
no_rows c h = ap (distinct row_cmp) (append-nil c) ∙ h

mutual
  pub after_none : (k : Accum) (c : Holds k) → IsProper k c → after k c [] ≡ c
  after_none (SumAccum n) c h = omega (arith, ints)
  after_none (MinAccum n) c h = refl
  after_none (MaxAccum n) c h = refl
  after_none OrAccum c h = refl
  after_none AndAccum c h = refl
  after_none BitwiseOrAccum c h = refl
  after_none BitwiseAndAccum c h = refl
  after_none AvgAccum c h = let a : c.0 +ℤ pos 0 ≡ c.0 = omega (arith, ints) in let b : c.1 + 0 ≡ c.1 = omega arith in ap₂ (λ m n. (m, n)) a b
  after_none (SetAccum b) c h = ap (distinct place) (append-nil c) ∙ h
  after_none (BagAccum b) c h = ap (sorted place) (append-nil c) ∙ h
  after_none (ListAccum b) c h = append-nil c
  after_none (MapAccum b k) c h =
      let at : (q : List Val) → after k (c.1 q) [] ≡ c.1 q = λ q. after_none k (c.1 q) (h.2 q) in
      λ i. (no_rows c.0 h.0 i, λ q. at q i)
  after_none (GroupByAccum ks ps) c h =
      let at : (q : List Val) → after_each ps (c.1 q) [] ≡ c.1 q = λ q. each_none ps (c.1 q) (h.2 q) in
      λ i. (no_rows c.0 h.0 i, λ q. at q i)
  after_none (HeapAccum b n by) c h = ap (λ l. take n (sorted (heap_cmp by) l)) (append-nil c) ∙ h

  pub each_none : (ps : Parts) (c : HoldsEach ps) → AreProper ps c → after_each ps c [] ≡ c
  each_none no_part c h = refl
  each_none (part_and name k ps) c h = ap₂ (λ a b. (a, b)) (after_none k c.0 h.0) (each_none ps c.1 h.1)

-- ---- a part that was gathered from the opening

mutual
  pub merged_part : (k : Accum) (c : Holds k) (xs : List Given) → IsProper k c → merged k c (after k (fresh k) xs) ≡ after k c xs
  merged_part (SumAccum n) c xs h = omega (arith, ints)
  merged_part (MinAccum n) c xs h = sym (past int_min min_commutes c (numbers xs) (most n)) ∙ ap (into int_min (numbers xs)) (top (most n) c h)
    where
      top : (m c : ℤ) → c ≤ℤ m → int_min c m ≡ c
      top m c h = omega (arith, ints, clamps, h)
  merged_part (MaxAccum n) c xs h = sym (past int_max max_commutes c (numbers xs) (least n)) ∙ ap (into int_max (numbers xs)) (top (least n) c h)
    where
      top : (m c : ℤ) → m ≤ℤ c → int_max c m ≡ c
      top m c h = omega (arith, ints, clamps, h)
  merged_part OrAccum c xs h = sym (past ◌||◌ or_commutes c (truths xs) false) ∙ ap (into ◌||◌ (truths xs)) (or_none c)
  merged_part AndAccum c xs h = sym (past ◌&&◌ and_commutes c (truths xs) true) ∙ ap (into ◌&&◌ (truths xs)) (and_none c)
  merged_part BitwiseOrAccum c xs h = sym (past either_bits either_commutes c (numbers xs) (fresh BitwiseOrAccum)) ∙ ap (into either_bits (numbers xs)) (either_none c h)
  merged_part BitwiseAndAccum c xs h = sym (past both_bits both_commutes c (numbers xs) (fresh BitwiseAndAccum)) ∙ ap (into both_bits (numbers xs)) (both_none c h)
  merged_part AvgAccum c xs h =
      let a : c.0 +ℤ (pos 0 +ℤ total (numbers xs)) ≡ c.0 +ℤ total (numbers xs) = omega (arith, ints) in
      let b : c.1 + (0 + length xs) ≡ c.1 + length xs = omega arith in
      ap₂ (λ m n. (m, n)) a b
  merged_part (SetAccum b) c xs h = gather_part place place_linear false c (values xs)
  merged_part (BagAccum b) c xs h = gather_part place place_linear true c (values xs)
  merged_part (ListAccum b) c xs h = refl
  merged_part (MapAccum b k) c xs h =
      let keys = gather_part row_cmp row_linear false c.0 (rows_in xs) in
      let at : (q : List Val) → merged k (c.1 q) (after k (fresh k) (map first (own q xs))) ≡ after k (c.1 q) (map first (own q xs)) = λ q. merged_part k (c.1 q) (map first (own q xs)) (h.2 q) in
      λ i. (keys i, λ q. at q i)
  merged_part (GroupByAccum ks ps) c xs h =
      let keys = gather_part row_cmp row_linear false c.0 (rows_in xs) in
      let at : (q : List Val) → merged_each ps (c.1 q) (after_each ps (fresh_each ps) (own q xs)) ≡ after_each ps (c.1 q) (own q xs) = λ q. each_part ps (c.1 q) (own q xs) (h.2 q) in
      λ i. (keys i, λ q. at q i)
  merged_part (HeapAccum b n by) c xs h = top_part (heap_cmp by) (heap_linear by) n c (values xs)

  pub each_part : (ps : Parts) (c : HoldsEach ps) (xs : List Givens) → AreProper ps c → merged_each ps c (after_each ps (fresh_each ps) xs) ≡ after_each ps c xs
  each_part no_part c xs h = refl
  each_part (part_and name k ps) c xs h = ap₂ (λ a b. (a, b)) (merged_part k c.0 (map first xs) h.0) (each_part ps c.1 (map rest xs) h.1)

-- the opening merged into a content
pub merged_neutral : (k : Accum) (c : Holds k) → IsProper k c → merged k c (fresh k) ≡ c
merged_neutral k c h = ap (merged k c) (sym (after_none k (fresh k) (proper_fresh k))) ∙ merged_part k c [] h ∙ after_none k c h

pub each_neutral : (ps : Parts) (c : HoldsEach ps) → AreProper ps c → merged_each ps c (fresh_each ps) ≡ c
each_neutral ps c h = ap (merged_each ps c) (sym (each_none ps (fresh_each ps) (proper_fresh_each ps))) ∙ each_part ps c [] h ∙ each_none ps c h

-- ---- contents stay proper

min_stays : (m c : ℤ) (xs : List ℤ) → c ≤ℤ m → into int_min xs c ≤ℤ m
min_stays m c [] h = h
min_stays m c (x ∷ xs) h = let k = min_stays m c xs h in let e : int_min x (into int_min xs c) ≤ℤ into int_min xs c = omega (arith, ints, clamps) in omega (arith, ints, k, e)

max_stays : (m c : ℤ) (xs : List ℤ) → m ≤ℤ c → m ≤ℤ into int_max xs c
max_stays m c [] h = h
max_stays m c (x ∷ xs) h = let k = max_stays m c xs h in let e : into int_max xs c ≤ℤ int_max x (into int_max xs c) = omega (arith, ints, clamps) in omega (arith, ints, k, e)

either_stays : (c : ℤ) (xs : List ℤ) → FitsSigned w64 c → FitsSigned w64 (into either_bits xs c)
either_stays c [] h = h
either_stays c (x ∷ xs) h = either_fits x (into either_bits xs c)

both_stays : (c : ℤ) (xs : List ℤ) → FitsSigned w64 c → FitsSigned w64 (into both_bits xs c)
both_stays c [] h = h
both_stays c (x ∷ xs) h = both_fits x (into both_bits xs c)

-- a key row that is neither held nor given
away : (q : List Val) (c d : List (List Val)) → among row_cmp q (distinct row_cmp (c ++ d)) ≡ false → (among row_cmp q c ≡ false) × (among row_cmp q d ≡ false)
away q c d h = neither (among row_cmp q c) (among row_cmp q d) (sym (among-append row_cmp row_linear q c d) ∙ sym (among_distinct row_cmp row_linear q (c ++ d)) ∙ h)

mutual
  pub proper_after : (k : Accum) (c : Holds k) (xs : List Given) → IsProper k c → IsProper k (after k c xs)
  proper_after (SumAccum n) c xs h = tt
  proper_after (MinAccum n) c xs h = min_stays (most n) c (numbers xs) h
  proper_after (MaxAccum n) c xs h = max_stays (least n) c (numbers xs) h
  proper_after OrAccum c xs h = tt
  proper_after AndAccum c xs h = tt
  proper_after BitwiseOrAccum c xs h = either_stays c (numbers xs) h
  proper_after BitwiseAndAccum c xs h = both_stays c (numbers xs) h
  proper_after AvgAccum c xs h = tt
  proper_after (SetAccum b) c xs h = gathered_into place place_linear false (c ++ values xs) []
  proper_after (BagAccum b) c xs h = gathered_into place place_linear true (c ++ values xs) []
  proper_after (ListAccum b) c xs h = tt
  proper_after (MapAccum b k) c xs h = (
    gathered_into row_cmp row_linear false (c.0 ++ rows_in xs) [],
    λ q e. let a = away q c.0 (rows_in xs) e in
        ap₂ (λ d l. after k d (map first l)) (h.1 q a.0) (own_none q xs a.1) ∙ after_none k (fresh k) (proper_fresh k),
    λ q. proper_after k (c.1 q) (map first (own q xs)) (h.2 q),
  )
  proper_after (GroupByAccum ks ps) c xs h = (
    gathered_into row_cmp row_linear false (c.0 ++ rows_in xs) [],
    λ q e. let a = away q c.0 (rows_in xs) e in
        ap₂ (λ d l. after_each ps d l) (h.1 q a.0) (own_none q xs a.1) ∙ each_none ps (fresh_each ps) (proper_fresh_each ps),
    λ q. proper_each ps (c.1 q) (own q xs) (h.2 q),
  )
  proper_after (HeapAccum b n by) c xs h = top_fresh (heap_cmp by) (heap_linear by) n (c ++ values xs)

  pub proper_each : (ps : Parts) (c : HoldsEach ps) (xs : List Givens) → AreProper ps c → AreProper ps (after_each ps c xs)
  proper_each no_part c xs h = tt
  proper_each (part_and name k ps) c xs h = (proper_after k c.0 (map first xs) h.0, proper_each ps c.1 (map rest xs) h.1)

mutual
  pub proper_merged : (k : Accum) (c d : Holds k) → IsProper k c → IsProper k d → IsProper k (merged k c d)
  proper_merged (SumAccum n) c d h g = tt
  proper_merged (MinAccum n) c d h g = min_stays (most n) d (c ∷ []) g
  proper_merged (MaxAccum n) c d h g = max_stays (least n) d (c ∷ []) g
  proper_merged OrAccum c d h g = tt
  proper_merged AndAccum c d h g = tt
  proper_merged BitwiseOrAccum c d h g = either_fits c d
  proper_merged BitwiseAndAccum c d h g = both_fits c d
  proper_merged AvgAccum c d h g = tt
  proper_merged (SetAccum b) c d h g = gathered_into place place_linear false (c ++ d) []
  proper_merged (BagAccum b) c d h g = gathered_into place place_linear true (c ++ d) []
  proper_merged (ListAccum b) c d h g = tt
  proper_merged (MapAccum b k) c d h g = (
    gathered_into row_cmp row_linear false (c.0 ++ d.0) [],
    λ q e. let a = away q c.0 d.0 e in ap₂ (merged k) (h.1 q a.0) (g.1 q a.1) ∙ merged_neutral k (fresh k) (proper_fresh k),
    λ q. proper_merged k (c.1 q) (d.1 q) (h.2 q) (g.2 q),
  )
  proper_merged (GroupByAccum ks ps) c d h g = (
    gathered_into row_cmp row_linear false (c.0 ++ d.0) [],
    λ q e. let a = away q c.0 d.0 e in ap₂ (merged_each ps) (h.1 q a.0) (g.1 q a.1) ∙ each_neutral ps (fresh_each ps) (proper_fresh_each ps),
    λ q. proper_merged_each ps (c.1 q) (d.1 q) (h.2 q) (g.2 q),
  )
  proper_merged (HeapAccum b n by) c d h g = top_fresh (heap_cmp by) (heap_linear by) n (c ++ d)

  pub proper_merged_each : (ps : Parts) (c d : HoldsEach ps) → AreProper ps c → AreProper ps d → AreProper ps (merged_each ps c d)
  proper_merged_each no_part c d h g = tt
  proper_merged_each (part_and name k ps) c d h g = (proper_merged k c.0 d.0 h.0 g.0, proper_merged_each ps c.1 d.1 h.1 g.1)

pub proper_law : ProperLaw
proper_law = record { opening = proper_fresh; fed = proper_after; joint = proper_merged }

-- ---- the laws on parts and on merging

pub cut_law : CutLaw
cut_law k c begun [] h = ap (after k c) (sym (append-nil begun))
cut_law k c begun (piece ∷ pieces) h =
    ap (λ d. merged_parts k d pieces) (merged_part k (after k c begun) piece (proper_after k c begun h) ∙ after_cut k c begun piece)
    ∙ cut_law k c (begun ++ piece) pieces h ∙ ap (after k c) (append_assoc begun piece (joined pieces))

pub merge_law : MergeLaw
merge_law = record {
  commutes = merged_turns;
  associates = merged_groups;
  neutral = merged_neutral;
  one = λ k c x h. sym (merged_part k c (x ∷ []) h);
}
