-- Outs: the output that PRINT makes of values and contents.
-- A map prints as an object by the texts of its keys, a group as an array of objects, a tuple as an object.
use Rattle.std.specs.Prelude.{ℕ, Bool, true, false, List, [], ◌∷◌, ◌++◌, map, ℤ, Option, Some, None, codes, slice_get}
use Rattle.std.specs.Fmt.{decimal, signed_decimal}
use Rattle.gq_value.specs.Val.{Val, Vals, Int, UInt, Truth, Text, Vertex, Tuple, Fraction, more}
use Rattle.gq_value.specs.Accums.{Base, DATETIME, TUPLE, Accum, SumAccum, MinAccum, MaxAccum, OrAccum, AndAccum, BitwiseOrAccum, BitwiseAndAccum, AvgAccum, SetAccum, BagAccum, ListAccum, MapAccum, GroupByAccum, HeapAccum, Parts, no_part, part_and}
use Rattle.gq_value.specs.Typed.{number_type}
use Rattle.gq_rules_typing.specs.Holds.{Holds, HoldsEach, entries}
use Rattle.gq_rules_typing.specs.Reads.{value_in}
use Rattle.gq_rules_typing.specs.Statements.{Bytes}
use Rattle.gq_rules_typing.specs.Sorts.{Fields}
use Rattle.gq_rules_typing.specs.FieldTypes.{tuple_fields}
use Rattle.gq_rules_meaning.specs.Graphs.{Graph}
use Rattle.gq_rules_meaning.specs.Expressions.{World, setting}

mutual
  pub data Out : Type 0 where
    OutInt : ℤ → Out
    OutUInt : ℕ → Out
    OutBool : Bool → Out
    OutText : Bytes → Out
    OutFraction : ℤ → ℕ → Out
    OutList : Outs → Out
    OutObject : Members → Out

  pub data Outs : Type 0 where
    no_out : Outs
    out_and : Out → Outs → Outs

  pub data Members : Type 0 where
    no_member : Members
    member_and : Bytes → Out → Members → Members

abbrev pub outs : List Out → Outs
outs [] = no_out
outs (o ∷ rest) = out_and o (outs rest)

abbrev pub members : List (Bytes × Out) → Members
members [] = no_member
members (m ∷ ms) = member_and m.0 m.1 (members ms)

-- ---- values

abbrev pub id_of : Graph → ℕ → Bytes
id_of g v = or_nothing (slice_get g.ids v)
  where
    or_nothing : Option Bytes → Bytes
    or_nothing None = []
    or_nothing (Some id) = id

abbrev mutual
  -- a vertex as its id, a DATETIME as its text
  pub out_value : {N : Type 0} → World N → Base → Val → Out
  out_value world DATETIME (Int x) = OutText (world.calendar.write x)
  out_value world (TUPLE n bs) (Tuple row) = OutObject (out_fields world (tuple_fields (setting world) n) row)
  out_value world b (Int x) = OutInt x
  out_value world b (UInt n) = OutUInt n
  out_value world b (Truth t) = OutBool t
  out_value world b (Text s) = OutText s
  out_value world b (Vertex v) = OutText (id_of world.graph v)
  out_value world b (Fraction s n) = OutFraction s n
  out_value world b (Tuple row) = OutObject no_member

  pub out_fields : {N : Type 0} → World N → Fields → Vals → Members
  out_fields world (f ∷ fs) (more v row) = member_and f.0 (out_value world f.1 v) (out_fields world fs row)
  out_fields world _ _ = no_member

-- the printed text of a key
abbrev pub key_text : Graph → Val → Bytes
key_text g (Int x) = signed_decimal x
key_text g (UInt n) = decimal n
key_text g (Truth true) = codes "true"
key_text g (Truth false) = codes "false"
key_text g (Text s) = s
key_text g (Vertex v) = id_of g v
key_text g _ = []

abbrev pub first_text : Graph → List Val → Bytes
first_text g [] = []
first_text g (v ∷ vs) = key_text g v

-- ---- contents

-- fields with their values
abbrev pub out_named : {N : Type 0} → World N → Fields → List Val → List (Bytes × Out)
out_named world (f ∷ fs) (v ∷ vs) = (f.0, out_value world f.1 v) ∷ out_named world fs vs
out_named world _ _ = []

abbrev pub out_items : {N : Type 0} → World N → Base → List Val → Out
out_items world b vs = OutList (outs (map (out_value world b) vs))

abbrev mutual
  pub out_content : {N : Type 0} → World N → (k : Accum) → Holds k → Out
  out_content world (SetAccum b) c = out_items world b c
  out_content world (BagAccum b) c = out_items world b c
  out_content world (ListAccum b) c = out_items world b c
  out_content world (HeapAccum b n by) c = out_items world b c
  out_content world (MapAccum b k) c = OutObject (members (map (λ e. (first_text world.graph e.0, out_content world k e.1)) (entries c)))
  out_content world (GroupByAccum keys ps) c = OutList (outs (map (λ e. OutObject (members (out_named world keys e.0 ++ out_parts world ps e.1))) (entries c)))
  out_content world (SumAccum n) c = out_value world (number_type n) (value_in (SumAccum n) c)
  out_content world (MinAccum n) c = out_value world (number_type n) (value_in (MinAccum n) c)
  out_content world (MaxAccum n) c = out_value world (number_type n) (value_in (MaxAccum n) c)
  out_content world OrAccum c = OutBool c
  out_content world AndAccum c = OutBool c
  out_content world BitwiseOrAccum c = OutInt c
  out_content world BitwiseAndAccum c = OutInt c
  out_content world AvgAccum c = of_average (value_in AvgAccum c)
    where
      of_average : Val → Out
      of_average (Fraction s n) = OutFraction s n
      of_average v = OutList no_out

  pub out_parts : {N : Type 0} → World N → (ps : Parts) → HoldsEach ps → List (Bytes × Out)
  out_parts world no_part cs = []
  out_parts world (part_and name k ps) cs = (name, out_content world k cs.0) ∷ out_parts world ps cs.1
