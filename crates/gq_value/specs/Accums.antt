-- Accums: types, kinds of accumulators and their inputs, as plain data. The code's kinds and inputs own memory: AccumViews
-- maps them to this data.
use Rattle.std.specs.Prelude.{ℕ, Bool, List}
use Rattle.gq_value.specs.Val.{Val}
use Rattle.gq_value.specs.declared.kind.Number.{Number}

mutual
  -- types of values: a tuple type has its number among those of its query, and the types of its fields
  pub data Base : Type 0 where
    INT UINT BOOL STRING DATETIME VERTEX : Base
    VERTEX_OF : ℕ → Base
    TUPLE : ℕ → Bases → Base

  pub data Bases : Type 0 where
    no_base : Bases
    base_and : Base → Bases → Bases

mutual
  -- kinds: a map has the type of its keys and the kind of its contents, a group the names and types of its keys and its
  -- parts, a heap its tuple type, how many tuples it keeps, and its sort fields with true for the descending ones
  pub data Accum : Type 0 where
    SumAccum MinAccum MaxAccum : Number → Accum
    OrAccum AndAccum BitwiseOrAccum BitwiseAndAccum AvgAccum : Accum
    SetAccum BagAccum ListAccum : Base → Accum
    MapAccum : Base → Accum → Accum
    GroupByAccum : List (List ℕ × Base) → Parts → Accum
    HeapAccum : Base → ℕ → List (ℕ × Bool) → Accum

  -- the names and kinds of a group's parts
  pub data Parts : Type 0 where
    no_part : Parts
    part_and : List ℕ → Accum → Parts → Parts

mutual
  -- an input: one value, or key values with an input for each part
  pub data Given : Type 0 where
    One : Val → Given
    Keyed : List Val → Givens → Given

  pub data Givens : Type 0 where
    no_given : Givens
    given_and : Given → Givens → Givens
