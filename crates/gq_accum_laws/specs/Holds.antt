-- Holds: the content of an accumulator, as a type for each kind.
-- The type is computed from the kind, so that no content is of a wrong kind. A map holds its key rows, ascending,
-- and a function from key rows to contents; the code has an ordered map.
use Rattle.std.specs.Prelude.{ℕ, zero, suc, ℤ, pos, Bool, true, false, List, [], ◌∷◌, map}
use Rattle.std.specs.declared.cmp.Ordering.{Ordering}
use Rattle.std.specs.Ordering.{on, then_cmp, flip_args}
use Rattle.std.specs.Cmp.Lexicographic.{slice_cmp}
use Rattle.gq_value.specs.Val.{Val, Vals, Int, none, more, fields}
use Rattle.gq_value.specs.Order.{place}
use Rattle.gq_value.specs.Accums.{Accum, SumAccum, MinAccum, MaxAccum, OrAccum, AndAccum, BitwiseOrAccum, BitwiseAndAccum, AvgAccum, SetAccum, BagAccum, ListAccum, MapAccum, GroupByAccum, HeapAccum, Parts, no_part, part_and}

abbrev mutual
  -- a number, a truth, a sum with a count, a list of values, or key rows with a content for each
  pub Holds : Accum → Type 0
  Holds (SumAccum n) = ℤ
  Holds (MinAccum n) = ℤ
  Holds (MaxAccum n) = ℤ
  Holds OrAccum = Bool
  Holds AndAccum = Bool
  Holds BitwiseOrAccum = ℤ
  Holds BitwiseAndAccum = ℤ
  Holds AvgAccum = ℤ × ℕ
  Holds (SetAccum b) = List Val
  Holds (BagAccum b) = List Val
  Holds (ListAccum b) = List Val
  Holds (MapAccum b k) = List (List Val) × (List Val → Holds k)
  Holds (GroupByAccum keys ps) = List (List Val) × (List Val → HoldsEach ps)
  Holds (HeapAccum b n by) = List Val

  -- a content for each part
  pub HoldsEach : Parts → Type 0
  HoldsEach no_part = Unit {0}
  HoldsEach (part_and name k ps) = Holds k × HoldsEach ps

-- the order of key rows: value by value
abbrev pub row_cmp : List Val → List Val → Ordering
row_cmp = slice_cmp place

-- a field of a tuple
abbrev pub field : ℕ → Vals → Val
field n none = Int (pos 0)
field zero (more v row) = v
field (suc n) (more v row) = field n row

-- true reverses an order
abbrev pub directed : Bool → (Val → Val → Ordering) → Val → Val → Ordering
directed true cmp = flip_args cmp
directed false cmp = cmp

-- the order of a heap: by its sort fields, true for the descending ones, then by all fields, ascending
abbrev pub heap_cmp : List (ℕ × Bool) → Val → Val → Ordering
heap_cmp [] = place
heap_cmp (f ∷ by) = then_cmp (directed f.1 (on (λ v. field f.0 (fields v)) place)) (heap_cmp by)

-- the entries of a map or group: each key row with its content, ascending
abbrev pub entries : {A : Type 0} → List (List Val) × (List Val → A) → List (List Val × A)
entries c = map (λ q. (q, c.1 q)) c.0
