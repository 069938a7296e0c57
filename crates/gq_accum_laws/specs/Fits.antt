-- Fits: when a content is judged to be in range, how large it may get before, and which contents inputs can lead to.
-- The code judges only a final content. Until then it must not run out of its 128 bits, and counts by how much it was fed.
use Rattle.std.specs.Prelude.{◌≡◌, ℕ, ◌*◌, ◌^◌, ◌<◌, ◌≤◌, nat_lt, Bool, true, false, ◌&&◌, List, take, nat_abs, ◌≤ℤ◌}
use Rattle.std.specs.List.{list_all}
use Rattle.std.specs.Int.{w64}
use Rattle.std.specs.Int.RustNames.{FitsSigned}
use Rattle.gq_value.specs.declared.kind.Number.TheVariants as number
use Rattle.gq_value.specs.Val.{Val}
use Rattle.gq_value.specs.Order.{place}
use Rattle.gq_value.specs.Arithmetic.{least, most, is_within}
use Rattle.gq_value.specs.Accums.{Accum, SumAccum, MinAccum, MaxAccum, BitwiseOrAccum, BitwiseAndAccum, AvgAccum, SetAccum, BagAccum, MapAccum, GroupByAccum, HeapAccum, Parts, no_part, part_and}
use Rattle.gq_accum_laws.specs.Gather.{sorted, distinct, among}
use Rattle.gq_accum_laws.specs.Holds.{Holds, HoldsEach, row_cmp, heap_cmp}
use Rattle.gq_accum_laws.specs.After.{fresh, fresh_each}

abbrev mutual
  -- each Sum at any level is within its type, and each Avg has a sum within INT and a count below 2^63
  pub fits : (k : Accum) → Holds k → Bool
  fits (SumAccum n) c = is_within n c
  fits AvgAccum c = is_within number.Int c.0 && nat_lt c.1 (2 ^ 63)
  fits (MapAccum b k) c = list_all (λ q. fits k (c.1 q)) c.0
  fits (GroupByAccum keys ps) c = list_all (λ q. fit ps (c.1 q)) c.0
  fits _ c = true

  pub fit : (ps : Parts) → HoldsEach ps → Bool
  fit no_part cs = true
  fit (part_and name k ps) cs = fits k cs.0 && fit ps cs.1

abbrev mutual
  -- f inputs can lead there: each sum lies at most f * 2^64 from 0, and each count is at most f * 2^63
  pub Fed : (k : Accum) → Holds k → ℕ → Type 0
  Fed (SumAccum n) c f = nat_abs c ≤ f * 2 ^ 64
  Fed AvgAccum c f = (nat_abs c.0 ≤ f * 2 ^ 64) × (c.1 ≤ f * 2 ^ 63)
  Fed (MapAccum b k) c f = (q : List Val) → Fed k (c.1 q) f
  Fed (GroupByAccum keys ps) c f = (q : List Val) → FedEach ps (c.1 q) f
  Fed _ c f = Unit {0}

  pub FedEach : (ps : Parts) → HoldsEach ps → ℕ → Type 0
  FedEach no_part cs f = Unit {0}
  FedEach (part_and name k ps) cs f = Fed k cs.0 f × FedEach ps cs.1 f

-- fewer than 2^62 inputs can lead there
abbrev pub HasRoom : (k : Accum) → Holds k → Type 0
HasRoom k c = (f : ℕ) × (f < 2 ^ 62) × Fed k c f

abbrev mutual
  -- contents that inputs can lead to: lists in order, only the opening at keys that aren't held, a Min or Max not
  -- beyond its opening, 64 bits
  pub IsProper : (k : Accum) → Holds k → Type 0
  IsProper (MinAccum n) c = c ≤ℤ most n
  IsProper (MaxAccum n) c = least n ≤ℤ c
  IsProper BitwiseOrAccum c = FitsSigned w64 c
  IsProper BitwiseAndAccum c = FitsSigned w64 c
  IsProper (SetAccum b) c = distinct place c ≡ c
  IsProper (BagAccum b) c = sorted place c ≡ c
  IsProper (HeapAccum b n by) c = take n (sorted (heap_cmp by) c) ≡ c
  IsProper (MapAccum b k) c = (distinct row_cmp c.0 ≡ c.0)
      × ((q : List Val) → among row_cmp q c.0 ≡ false → c.1 q ≡ fresh k)
      × ((q : List Val) → IsProper k (c.1 q))
  IsProper (GroupByAccum keys ps) c = (distinct row_cmp c.0 ≡ c.0)
      × ((q : List Val) → among row_cmp q c.0 ≡ false → c.1 q ≡ fresh_each ps)
      × ((q : List Val) → AreProper ps (c.1 q))
  IsProper _ c = Unit {0}

  pub AreProper : (ps : Parts) → HoldsEach ps → Type 0
  AreProper no_part cs = Unit {0}
  AreProper (part_and name k ps) cs = IsProper k cs.0 × AreProper ps cs.1
