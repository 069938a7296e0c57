-- After: the content of an accumulator before any input, after a whole list of inputs, and merged of two.
-- Each kind has one formula over the whole list. The code feeds one input at a time and merges the contents of parts.
use Rattle.std.specs.Prelude.{pos, negsuc, ◌+◌, ◌+ℤ◌, true, false, ◌||◌, ◌&&◌, List, [], ◌++◌, map, length, take}
use Rattle.std.specs.Int.{int_max, int_min}
use Rattle.gq_value.specs.Order.{place}
use Rattle.gq_value.specs.Arithmetic.{least, most}
use Rattle.gq_value.specs.Accums.{Accum, SumAccum, MinAccum, MaxAccum, OrAccum, AndAccum, BitwiseOrAccum, BitwiseAndAccum, AvgAccum, SetAccum, BagAccum, ListAccum, MapAccum, GroupByAccum, HeapAccum, Parts, no_part, part_and, Given, Givens}
use Rattle.gq_accum_laws.specs.Gather.{into, sorted, distinct}
use Rattle.gq_accum_laws.specs.Holds.{Holds, HoldsEach, row_cmp, heap_cmp}
use Rattle.gq_accum_laws.specs.Inputs.{values, numbers, truths, total, either_bits, both_bits, rows_in, own, first, rest}

abbrev mutual
  -- before any input
  pub fresh : (k : Accum) → Holds k
  fresh (SumAccum n) = pos 0
  fresh (MinAccum n) = most n
  fresh (MaxAccum n) = least n
  fresh OrAccum = false
  fresh AndAccum = true
  fresh BitwiseOrAccum = pos 0
  fresh BitwiseAndAccum = negsuc 0
  fresh AvgAccum = (pos 0, 0)
  fresh (SetAccum b) = []
  fresh (BagAccum b) = []
  fresh (ListAccum b) = []
  fresh (MapAccum b k) = ([], λ q. fresh k)
  fresh (GroupByAccum keys ps) = ([], λ q. fresh_each ps)
  fresh (HeapAccum b n by) = []

  pub fresh_each : (ps : Parts) → HoldsEach ps
  fresh_each no_part = tt
  fresh_each (part_and name k ps) = (fresh k, fresh_each ps)

abbrev mutual
  -- after all these inputs, whatever it was before
  pub after : (k : Accum) → Holds k → List Given → Holds k
  after (SumAccum n) c xs = c +ℤ total (numbers xs)
  after (MinAccum n) c xs = into int_min (numbers xs) c
  after (MaxAccum n) c xs = into int_max (numbers xs) c
  after OrAccum c xs = into ◌||◌ (truths xs) c
  after AndAccum c xs = into ◌&&◌ (truths xs) c
  after BitwiseOrAccum c xs = into either_bits (numbers xs) c
  after BitwiseAndAccum c xs = into both_bits (numbers xs) c
  after AvgAccum c xs = (c.0 +ℤ total (numbers xs), c.1 + length xs)
  after (SetAccum b) c xs = distinct place (c ++ values xs)
  after (BagAccum b) c xs = sorted place (c ++ values xs)
  after (ListAccum b) c xs = c ++ values xs
  after (MapAccum b k) c xs = (distinct row_cmp (c.0 ++ rows_in xs), λ q. after k (c.1 q) (map first (own q xs)))
  after (GroupByAccum keys ps) c xs = (distinct row_cmp (c.0 ++ rows_in xs), λ q. after_each ps (c.1 q) (own q xs))
  after (HeapAccum b n by) c xs = take n (sorted (heap_cmp by) (c ++ values xs))

  -- each part after its own inputs
  pub after_each : (ps : Parts) → HoldsEach ps → List Givens → HoldsEach ps
  after_each no_part cs xs = tt
  after_each (part_and name k ps) cs xs = (after k cs.0 (map first xs), after_each ps cs.1 (map rest xs))

abbrev mutual
  -- two contents of one kind in one
  pub merged : (k : Accum) → Holds k → Holds k → Holds k
  merged (SumAccum n) c d = c +ℤ d
  merged (MinAccum n) c d = int_min c d
  merged (MaxAccum n) c d = int_max c d
  merged OrAccum c d = c || d
  merged AndAccum c d = c && d
  merged BitwiseOrAccum c d = either_bits c d
  merged BitwiseAndAccum c d = both_bits c d
  merged AvgAccum c d = (c.0 +ℤ d.0, c.1 + d.1)
  merged (SetAccum b) c d = distinct place (c ++ d)
  merged (BagAccum b) c d = sorted place (c ++ d)
  merged (ListAccum b) c d = c ++ d
  merged (MapAccum b k) c d = (distinct row_cmp (c.0 ++ d.0), λ q. merged k (c.1 q) (d.1 q))
  merged (GroupByAccum keys ps) c d = (distinct row_cmp (c.0 ++ d.0), λ q. merged_each ps (c.1 q) (d.1 q))
  merged (HeapAccum b n by) c d = take n (sorted (heap_cmp by) (c ++ d))

  pub merged_each : (ps : Parts) → HoldsEach ps → HoldsEach ps → HoldsEach ps
  merged_each no_part cs ds = tt
  merged_each (part_and name k ps) cs ds = (merged k cs.0 ds.0, merged_each ps cs.1 ds.1)
