-- Kinds: for accumulators of each kind, the type that they read as, of their inputs, and of what `=` sets them to.
use Rattle.std.specs.Prelude.{Bool, true, false, List, [], ◌∷◌, map, Option, Some, None}
use Rattle.gq_tree.specs.Accums.{Base, INT, BOOL, Accum, SumAccum, MinAccum, MaxAccum, OrAccum, AndAccum, BitwiseOrAccum, BitwiseAndAccum, AvgAccum, SetAccum, BagAccum, ListAccum, MapAccum, GroupByAccum, HeapAccum, Parts, no_part, part_and}
use Rattle.gq_tree.specs.Typed.{number_type}
use Rattle.gq_rules_typing.specs.Judging.{Typed, Of, Average, Whole}

-- the type that one reads as
abbrev pub read_type : Accum → Typed
read_type (SumAccum n) = Of (number_type n)
read_type (MinAccum n) = Of (number_type n)
read_type (MaxAccum n) = Of (number_type n)
read_type OrAccum = Of BOOL
read_type AndAccum = Of BOOL
read_type BitwiseOrAccum = Of INT
read_type BitwiseAndAccum = Of INT
read_type AvgAccum = Average
read_type k = Whole k

-- the type that `=` sets it to, if it can be set
abbrev pub set_type : Accum → Option Base
set_type (SumAccum n) = Some (number_type n)
set_type (MinAccum n) = Some (number_type n)
set_type (MaxAccum n) = Some (number_type n)
set_type OrAccum = Some BOOL
set_type AndAccum = Some BOOL
set_type BitwiseOrAccum = Some INT
set_type BitwiseAndAccum = Some INT
set_type _ = None

-- the type of an input that is one value, if it takes such inputs
abbrev pub input_type : Accum → Option Base
input_type AvgAccum = Some INT
input_type (SetAccum b) = Some b
input_type (BagAccum b) = Some b
input_type (ListAccum b) = Some b
input_type (HeapAccum b n by) = Some b
input_type k = set_type k

-- the types of its keys
abbrev pub key_types : Accum → List Base
key_types (MapAccum b k) = b ∷ []
key_types (GroupByAccum keys ps) = map (λ k. k.1) keys
key_types _ = []

-- the type of an element, if it has elements in an order of their own
abbrev pub element_type : Accum → Option Base
element_type (SetAccum b) = Some b
element_type (BagAccum b) = Some b
element_type (ListAccum b) = Some b
element_type (HeapAccum b n by) = Some b
element_type _ = None

-- the type that `.contains` takes: a heap has no `.contains`
abbrev pub contained_type : Accum → Option Base
contained_type (HeapAccum b n by) = None
contained_type k = element_type k

abbrev pub kinds_in : Parts → List Accum
kinds_in no_part = []
kinds_in (part_and name k ps) = k ∷ kinds_in ps

-- the kinds of the contents under a key
abbrev pub part_kinds : Accum → List Accum
part_kinds (MapAccum b k) = k ∷ []
part_kinds (GroupByAccum keys ps) = kinds_in ps
part_kinds _ = []

abbrev pub is_list : Accum → Bool
is_list (ListAccum b) = true
is_list _ = false
