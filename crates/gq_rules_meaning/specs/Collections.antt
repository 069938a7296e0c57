-- Collections: the results of the methods of collections.
use Rattle.std.specs.Prelude.{ℕ, Bool, if◌then◌else◌, List, length, Option, Some, None}
use Rattle.std.specs.List.{list_any}
use Rattle.std.specs.Ordering.{is_eq}
use Rattle.gq_value.specs.Val.{Val}
use Rattle.gq_value.specs.Order.{compare}
use Rattle.gq_value.specs.Accums.{Accum, SetAccum, BagAccum, ListAccum, MapAccum, GroupByAccum, HeapAccum}
use Rattle.gq_rules_typing.specs.Gather.{among}
use Rattle.gq_rules_typing.specs.Holds.{Holds, row_cmp}
use Rattle.gq_rules_typing.specs.After.{fresh, fresh_each}
use Rattle.gq_rules_meaning.specs.Meanings.{Meant, IsRow, read}

-- the elements of a Set, Bag, List or Heap, in order
abbrev pub elements : (k : Accum) → Holds k → Option (List Val)
elements (SetAccum b) c = Some c
elements (BagAccum b) c = Some c
elements (ListAccum b) c = Some c
elements (HeapAccum b n by) c = Some c
elements k c = None

-- the key rows of a Map or GroupBy, ascending
abbrev pub key_rows : (k : Accum) → Holds k → Option (List (List Val))
key_rows (MapAccum b k) c = Some c.0
key_rows (GroupByAccum keys ps) c = Some c.0
key_rows k c = None

abbrev pub size_of : (k : Accum) → Holds k → Option ℕ
size_of (SetAccum b) c = Some (length c)
size_of (BagAccum b) c = Some (length c)
size_of (ListAccum b) c = Some (length c)
size_of (HeapAccum b n by) c = Some (length c)
size_of (MapAccum b k) c = Some (length c.0)
size_of (GroupByAccum keys ps) c = Some (length c.0)
size_of k c = None

-- whether a Set, Bag or List has an equal element
abbrev pub has_element : (k : Accum) → Holds k → Val → Option Bool
has_element (SetAccum b) c v = Some (list_any (λ w. is_eq (compare v w)) c)
has_element (BagAccum b) c v = Some (list_any (λ w. is_eq (compare v w)) c)
has_element (ListAccum b) c v = Some (list_any (λ w. is_eq (compare v w)) c)
has_element k c v = None

-- whether a Map or GroupBy holds a key row
abbrev pub has_row : (k : Accum) → Holds k → List Val → Option Bool
has_row (MapAccum b k) c row = Some (among row_cmp row c.0)
has_row (GroupByAccum keys ps) c row = Some (among row_cmp row c.0)
has_row k c row = None

-- the content at a key row, or the opening if the row isn't held
abbrev pub got : (k : Accum) → Holds k → List Val → Option Meant
got (MapAccum b k) c row = Some (read k (if among row_cmp row c.0 then c.1 row else fresh k))
got (GroupByAccum keys ps) c row = Some (IsRow ps (if among row_cmp row c.0 then c.1 row else fresh_each ps))
got k c row = None
