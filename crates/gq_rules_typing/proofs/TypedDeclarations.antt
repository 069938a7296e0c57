-- TypedDeclarations: for declarations, which rule fails first, and which are accepted.
use Rattle.std.proofs.Common.{◌≡◌, true, false, [], ◌∷◌, Some, None, refl}
use Rattle.std.specs.Prelude.{codes}
use Rattle.gq_tree.specs.declared.kind.Plain.TheVariants as plain
use Rattle.gq_tree.specs.declared.kind.Bits.TheVariants as bits
use Rattle.gq_tree.specs.Tree.{Number, Text, Global}
use Rattle.gq_rules_typing.specs.Statements.{Ints, Bools, Strings, AnyVertex, VertexOf, OfBase, OfTuple, OverElem, OverBits, Averaged, MapTo, MapToElem, Grouped, Heap, no_part_tree, part_tree_and, TupleType, Accums}
use Rattle.gq_rules_typing.specs.Judging.{Mismatch, NotAllowedHere, TooMany, UnknownName, BadKind, NameTwice}
use Rattle.gq_rules_typing.proofs.Written.{stmts}
use Rattle.gq_rules_typing.proofs.Judged.{refused, so_many}

-- SumAccum<STRING> @@s;
a_sum_of_texts : refused false (Accums (OverElem plain.Sum (OfBase Strings)) ((false, codes "@@s", None) ∷ []) ∷ []) (stmts []) ≡ Some (BadKind (codes "@@s"))
a_sum_of_texts = refl

-- MinAccum<BOOL> @@s, @@t;
a_bad_kind_names_the_first : refused false (Accums (OverElem plain.Min (OfBase Bools)) ((false, codes "@@s", None) ∷ (false, codes "@@t", None) ∷ []) ∷ []) (stmts []) ≡ Some (BadKind (codes "@@s"))
a_bad_kind_names_the_first = refl

-- OrAccum<INT> @@s;
a_truth_over_numbers : refused false (Accums (OverBits bits.Or (Some (OfBase Ints))) ((false, codes "@@s", None) ∷ []) ∷ []) (stmts []) ≡ Some (BadKind (codes "@@s"))
a_truth_over_numbers = refl

-- OrAccum<BOOL> @@s; BitwiseAndAccum<INT> @@t;
a_truth_over_truths : refused false (Accums (OverBits bits.Or (Some (OfBase Bools))) ((false, codes "@@s", None) ∷ []) ∷ Accums (OverBits bits.BitwiseAnd (Some (OfBase Ints))) ((false, codes "@@t", None) ∷ []) ∷ []) (stmts []) ≡ None
a_truth_over_truths = refl

-- MapAccum<INT, STRING> @@m;
a_map_to_texts : refused false (Accums (MapToElem (OfBase Ints) (OfBase Strings)) ((false, codes "@@m", None) ∷ []) ∷ []) (stmts []) ≡ Some (BadKind (codes "@@m"))
a_map_to_texts = refl

-- MapAccum<INT, ListAccum<INT>> @@m;
a_map_of_lists : refused false (Accums (MapTo (OfBase Ints) (OverElem plain.List (OfBase Ints))) ((false, codes "@@m", None) ∷ []) ∷ []) (stmts []) ≡ Some (BadKind (codes "@@m"))
a_map_of_lists = refl

-- GroupByAccum<INT k, MapAccum<INT, ListAccum<INT>> m> @@g;
a_group_of_maps_of_lists : refused false (Accums (Grouped ((Ints, codes "k") ∷ []) (part_tree_and (MapTo (OfBase Ints) (OverElem plain.List (OfBase Ints))) (codes "m") no_part_tree)) ((false, codes "@@g", None) ∷ []) ∷ []) (stmts []) ≡ Some (BadKind (codes "@@g"))
a_group_of_maps_of_lists = refl

-- TYPEDEF TUPLE<INT a> P; MapAccum<P, INT> @@m;
a_tuple_as_key : refused false (TupleType ((Ints, codes "a") ∷ []) (codes "P") ∷ Accums (MapToElem (OfTuple (codes "P")) (OfBase Ints)) ((false, codes "@@m", None) ∷ []) ∷ []) (stmts []) ≡ Some (BadKind (codes "@@m"))
a_tuple_as_key = refl

-- MapAccum<VERTEX<person>, INT> @@m; MapAccum<VERTEX, SetAccum<INT>> @@n;
a_vertex_as_key : refused false (Accums (MapToElem (OfBase (VertexOf (codes "person"))) (OfBase Ints)) ((false, codes "@@m", None) ∷ []) ∷ Accums (MapTo (OfBase AnyVertex) (OverElem plain.Set (OfBase Ints))) ((false, codes "@@n", None) ∷ []) ∷ []) (stmts []) ≡ None
a_vertex_as_key = refl

-- SetAccum<P> @@s;
an_unknown_tuple_type : refused false (Accums (OverElem plain.Set (OfTuple (codes "P"))) ((false, codes "@@s", None) ∷ []) ∷ []) (stmts []) ≡ Some (UnknownName (codes "P"))
an_unknown_tuple_type = refl

-- SetAccum<VERTEX<ghost>> @@s;
an_unknown_vertex_type : refused false (Accums (OverElem plain.Set (OfBase (VertexOf (codes "ghost")))) ((false, codes "@@s", None) ∷ []) ∷ []) (stmts []) ≡ Some (UnknownName (codes "ghost"))
an_unknown_vertex_type = refl

-- HeapAccum<P>(2, a ASC) @@h;
a_heap_of_an_unknown_tuple_type : refused false (Accums (Heap (codes "P") 2 ((codes "a", false) ∷ [])) ((false, codes "@@h", None) ∷ []) ∷ []) (stmts []) ≡ Some (UnknownName (codes "P"))
a_heap_of_an_unknown_tuple_type = refl

-- TYPEDEF TUPLE<INT a> P; HeapAccum<P>(0, a ASC) @@h;
a_heap_of_nothing : refused false (TupleType ((Ints, codes "a") ∷ []) (codes "P") ∷ Accums (Heap (codes "P") 0 ((codes "a", false) ∷ [])) ((false, codes "@@h", None) ∷ []) ∷ []) (stmts []) ≡ Some (BadKind (codes "@@h"))
a_heap_of_nothing = refl

-- TYPEDEF TUPLE<INT a> P; HeapAccum<P>(1000001, a ASC) @@h;
a_heap_of_too_much : refused false (TupleType ((Ints, codes "a") ∷ []) (codes "P") ∷ Accums (Heap (codes "P") 1000001 ((codes "a", false) ∷ [])) ((false, codes "@@h", None) ∷ []) ∷ []) (stmts []) ≡ Some (BadKind (codes "@@h"))
a_heap_of_too_much = refl

-- TYPEDEF TUPLE<INT a> P; HeapAccum<P>(2, b ASC) @@h;
a_heap_by_an_unknown_field : refused false (TupleType ((Ints, codes "a") ∷ []) (codes "P") ∷ Accums (Heap (codes "P") 2 ((codes "b", false) ∷ [])) ((false, codes "@@h", None) ∷ []) ∷ []) (stmts []) ≡ Some (BadKind (codes "@@h"))
a_heap_by_an_unknown_field = refl

-- TYPEDEF TUPLE<INT a> P; HeapAccum<P>(2, a ASC, a DESC) @@h;
a_heap_by_one_field_twice : refused false (TupleType ((Ints, codes "a") ∷ []) (codes "P") ∷ Accums (Heap (codes "P") 2 ((codes "a", false) ∷ (codes "a", true) ∷ [])) ((false, codes "@@h", None) ∷ []) ∷ []) (stmts []) ≡ None
a_heap_by_one_field_twice = refl

-- TYPEDEF TUPLE<INT a, INT a> P;
a_field_twice : refused false (TupleType ((Ints, codes "a") ∷ (Ints, codes "a") ∷ []) (codes "P") ∷ []) (stmts []) ≡ Some (NameTwice (codes "a"))
a_field_twice = refl

-- TYPEDEF TUPLE<INT a0, INT a1, INT a2, INT a3, INT a4, INT a5, INT a6, INT a7, INT a8, INT a9, INT a10, INT a11, INT a12, INT a13, INT a14, INT a15, INT a16> P;
seventeen_fields : refused false (TupleType ((Ints, codes "a0") ∷ (Ints, codes "a1") ∷ (Ints, codes "a2") ∷ (Ints, codes "a3") ∷ (Ints, codes "a4") ∷ (Ints, codes "a5") ∷ (Ints, codes "a6") ∷ (Ints, codes "a7") ∷ (Ints, codes "a8") ∷ (Ints, codes "a9") ∷ (Ints, codes "a10") ∷ (Ints, codes "a11") ∷ (Ints, codes "a12") ∷ (Ints, codes "a13") ∷ (Ints, codes "a14") ∷ (Ints, codes "a15") ∷ (Ints, codes "a16") ∷ []) (codes "P") ∷ []) (stmts []) ≡ Some (TooMany)
seventeen_fields = refl

-- TYPEDEF TUPLE<INT a0, INT a1, INT a2, INT a3, INT a4, INT a5, INT a6, INT a7, INT a8, INT a9, INT a10, INT a11, INT a12, INT a13, INT a14, INT a15, INT a0> P;
the_seventeenth_field_given_twice : refused false (TupleType ((Ints, codes "a0") ∷ (Ints, codes "a1") ∷ (Ints, codes "a2") ∷ (Ints, codes "a3") ∷ (Ints, codes "a4") ∷ (Ints, codes "a5") ∷ (Ints, codes "a6") ∷ (Ints, codes "a7") ∷ (Ints, codes "a8") ∷ (Ints, codes "a9") ∷ (Ints, codes "a10") ∷ (Ints, codes "a11") ∷ (Ints, codes "a12") ∷ (Ints, codes "a13") ∷ (Ints, codes "a14") ∷ (Ints, codes "a15") ∷ (Ints, codes "a0") ∷ []) (codes "P") ∷ []) (stmts []) ≡ Some (NameTwice (codes "a0"))
the_seventeenth_field_given_twice = refl

-- GroupByAccum<INT k0, INT k1, INT k2, INT k3, INT k4, INT k5, INT k6, INT k7, INT k8, SumAccum<INT> n> @@g;
nine_keys : refused false (Accums (Grouped ((Ints, codes "k0") ∷ (Ints, codes "k1") ∷ (Ints, codes "k2") ∷ (Ints, codes "k3") ∷ (Ints, codes "k4") ∷ (Ints, codes "k5") ∷ (Ints, codes "k6") ∷ (Ints, codes "k7") ∷ (Ints, codes "k8") ∷ []) (part_tree_and (OverElem plain.Sum (OfBase Ints)) (codes "n") no_part_tree)) ((false, codes "@@g", None) ∷ []) ∷ []) (stmts []) ≡ Some (TooMany)
nine_keys = refl

-- GroupByAccum<INT k, SumAccum<INT> k> @@g;
a_part_like_a_key : refused false (Accums (Grouped ((Ints, codes "k") ∷ []) (part_tree_and (OverElem plain.Sum (OfBase Ints)) (codes "k") no_part_tree)) ((false, codes "@@g", None) ∷ []) ∷ []) (stmts []) ≡ Some (NameTwice (codes "k"))
a_part_like_a_key = refl

-- GroupByAccum<INT k, SumAccum<INT> n, SumAccum<INT> n> @@g;
a_part_twice : refused false (Accums (Grouped ((Ints, codes "k") ∷ []) (part_tree_and (OverElem plain.Sum (OfBase Ints)) (codes "n") (part_tree_and (OverElem plain.Sum (OfBase Ints)) (codes "n") no_part_tree))) ((false, codes "@@g", None) ∷ []) ∷ []) (stmts []) ≡ Some (NameTwice (codes "n"))
a_part_twice = refl

-- SumAccum<INT> @@a; MinAccum<INT> @@a;
an_accumulator_twice : refused false (Accums (OverElem plain.Sum (OfBase Ints)) ((false, codes "@@a", None) ∷ []) ∷ Accums (OverElem plain.Min (OfBase Ints)) ((false, codes "@@a", None) ∷ []) ∷ []) (stmts []) ≡ Some (NameTwice (codes "@@a"))
an_accumulator_twice = refl

-- SumAccum<INT> @@a, @a;
a_global_and_an_attached_one : refused false (Accums (OverElem plain.Sum (OfBase Ints)) ((false, codes "@@a", None) ∷ (true, codes "@a", None) ∷ []) ∷ []) (stmts []) ≡ None
a_global_and_an_attached_one = refl

-- TYPEDEF TUPLE<INT a> P; TYPEDEF TUPLE<INT a> P;
a_tuple_type_twice : refused false (TupleType ((Ints, codes "a") ∷ []) (codes "P") ∷ TupleType ((Ints, codes "a") ∷ []) (codes "P") ∷ []) (stmts []) ≡ Some (NameTwice (codes "P"))
a_tuple_type_twice = refl

-- SumAccum<INT> @@a = "x";
an_opening_of_another_type : refused false (Accums (OverElem plain.Sum (OfBase Ints)) ((false, codes "@@a", (Some (Text (codes "x")))) ∷ []) ∷ []) (stmts []) ≡ Some (Mismatch)
an_opening_of_another_type = refl

-- SetAccum<INT> @@a = 1;
an_opening_of_a_collection : refused false (Accums (OverElem plain.Set (OfBase Ints)) ((false, codes "@@a", (Some (Number 1))) ∷ []) ∷ []) (stmts []) ≡ Some (BadKind (codes "@@a"))
an_opening_of_a_collection = refl

-- AvgAccum @@a = 1;
an_opening_of_an_average : refused false (Accums Averaged ((false, codes "@@a", (Some (Number 1))) ∷ []) ∷ []) (stmts []) ≡ Some (BadKind (codes "@@a"))
an_opening_of_an_average = refl

-- SumAccum<INT> @@a, @@b = @@a;
an_opening_names_no_accumulator : refused false (Accums (OverElem plain.Sum (OfBase Ints)) ((false, codes "@@a", None) ∷ (false, codes "@@b", (Some (Global (codes "@@a")))) ∷ []) ∷ []) (stmts []) ≡ Some (NotAllowedHere)
an_opening_names_no_accumulator = refl

-- SumAccum<INT> @@b = @@a;
an_opening_names_no_unknown_one : refused false (Accums (OverElem plain.Sum (OfBase Ints)) ((false, codes "@@b", (Some (Global (codes "@@a")))) ∷ []) ∷ []) (stmts []) ≡ Some (UnknownName (codes "@@a"))
an_opening_names_no_unknown_one = refl

-- SumAccum<INT> @@a = @@a;
an_opening_names_not_itself : refused false (Accums (OverElem plain.Sum (OfBase Ints)) ((false, codes "@@a", (Some (Global (codes "@@a")))) ∷ []) ∷ []) (stmts []) ≡ Some (UnknownName (codes "@@a"))
an_opening_names_not_itself = refl

-- SumAccum<INT> @@a0, @@a1, @@a2, @@a3, @@a4, @@a5, @@a6, @@a7, @@a8, @@a9, @@a10, @@a11, @@a12, @@a13, @@a14, @ ..
256_accumulators : refused false (Accums (OverElem plain.Sum (OfBase Ints)) (so_many 256) ∷ []) (stmts []) ≡ None
256_accumulators = refl

-- SumAccum<INT> @@a0, @@a1, @@a2, @@a3, @@a4, @@a5, @@a6, @@a7, @@a8, @@a9, @@a10, @@a11, @@a12, @@a13, @@a14, @ ..
257_accumulators : refused false (Accums (OverElem plain.Sum (OfBase Ints)) (so_many 257) ∷ []) (stmts []) ≡ Some (TooMany)
257_accumulators = refl
