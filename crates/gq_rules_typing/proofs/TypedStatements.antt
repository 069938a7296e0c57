-- TypedStatements: for statements, which rule fails first, and which are accepted.
use Rattle.std.proofs.Common.{◌≡◌, true, false, [], ◌∷◌, Some, None, refl}
use Rattle.std.specs.Prelude.{codes}
use Rattle.gq_tree.specs.declared.expr.AddSign.TheVariants as add
use Rattle.gq_tree.specs.declared.body.SetOp.TheVariants as op
use Rattle.gq_tree.specs.declared.kind.Plain.TheVariants as plain
use Rattle.gq_tree.specs.Tree.{Number, Text, Truth, Global, Name, Post, Sum, Field, Method, Attached}
use Rattle.gq_tree.specs.View.{trees_of, parts_of, terms_of}
use Rattle.gq_rules_typing.specs.Selecting.{Plain, Keys, Adds, Puts, Nowhere}
use Rattle.gq_rules_typing.specs.Statements.{Ints, UInts, Strings, AnyVertex, VertexOf, OfBase, OverElem, Averaged, MapToElem, Grouped, Heap, no_part_tree, part_tree_and, AllOf, AllVertices, OneVertex, ContentOf, SetNamed, Seeds, AnyType, TypeOf, Selects, Sets, Expression, Whole, Selection, Elements, Range, Local, Assign, ChangeGlobal, If, While, Foreach, Print, no_stmt, else_, if_, TupleType, Accums}
use Rattle.gq_rules_typing.specs.Judging.{Mismatch, NotAllowedHere, UnknownName, NoAttribute, WiderSet, NameTwice}
use Rattle.gq_rules_typing.proofs.Written.{inputs_of, stmts, item, selecting}
use Rattle.gq_rules_typing.proofs.Judged.{refused}

-- INT x = x;
a_local_behind_its_own_value : refused false [] (stmts (Local Ints ((codes "x", (Some (Name (codes "x")))) ∷ []) ∷
    [])) ≡ Some (UnknownName (codes "x"))
a_local_behind_its_own_value = refl

-- INT x, x;
a_local_twice : refused false [] (stmts (Local Ints ((codes "x", None) ∷ (codes "x", None) ∷ []) ∷
    [])) ≡ Some (NameTwice (codes "x"))
a_local_twice = refl

-- VERTEX p;
a_vertex_without_a_value : refused false [] (stmts (Local AnyVertex ((codes "p", None) ∷ []) ∷
    [])) ≡ Some (NotAllowedHere)
a_vertex_without_a_value = refl

-- INT p; VERTEX p;
a_vertex_without_a_value_before_its_name : refused false [] (stmts (Local Ints ((codes "p", None) ∷ []) ∷
    Local AnyVertex ((codes "p", None) ∷ []) ∷
    [])) ≡ Some (NotAllowedHere)
a_vertex_without_a_value_before_its_name = refl

-- VERTEX<ghost> p;
a_vertex_of_an_unknown_type : refused false [] (stmts (Local (VertexOf (codes "ghost")) ((codes "p", None) ∷ []) ∷
    [])) ≡ Some (UnknownName (codes "ghost"))
a_vertex_of_an_unknown_type = refl

-- INT x = "a";
a_local_of_another_type : refused false [] (stmts (Local Ints ((codes "x", (Some (Text (codes "a")))) ∷ []) ∷
    [])) ≡ Some (Mismatch)
a_local_of_another_type = refl

-- UINT x = 1; INT y = x;
a_number_converts : refused false [] (stmts (Local UInts ((codes "x", (Some (Number 1))) ∷ []) ∷
    Local Ints ((codes "y", (Some (Name (codes "x")))) ∷ []) ∷
    [])) ≡ None
a_number_converts = refl

-- x = 1;
an_unknown_target : refused false [] (stmts (Assign (codes "x") None (Expression (Number 1)) ∷
    [])) ≡ Some (UnknownName (codes "x"))
an_unknown_target = refl

-- x = q;
an_unknown_target_before_the_right_side : refused false [] (stmts (Assign (codes "x") None (Expression (Name (codes "q"))) ∷
    [])) ≡ Some (UnknownName (codes "x"))
an_unknown_target_before_the_right_side = refl

-- TYPEDEF TUPLE<INT a> P; P = 1;
a_tuple_type_as_target : refused false (TupleType ((Ints, codes "a") ∷ []) (codes "P") ∷ []) (stmts (Assign (codes "P") None (Expression (Number 1)) ∷
    [])) ≡ Some (UnknownName (codes "P"))
a_tuple_type_as_target = refl

-- S = {person.*}; S = q;
a_set_gets_a_value : refused false [] (stmts (Assign (codes "S") None (Sets (Seeds (AllOf (codes "person") ∷ [])) []) ∷
    Assign (codes "S") None (Expression (Name (codes "q"))) ∷
    [])) ≡ Some (Mismatch)
a_set_gets_a_value = refl

-- INT i; i = {ghost.*};
a_number_gets_a_set : refused false [] (stmts (Local Ints ((codes "i", None) ∷ []) ∷
    Assign (codes "i") None (Sets (Seeds (AllOf (codes "ghost") ∷ [])) []) ∷
    [])) ≡ Some (Mismatch)
a_number_gets_a_set = refl

-- INT i; i = SELECT s FROM ghost:s;
a_number_gets_a_select : refused false [] (stmts (Local Ints ((codes "i", None) ∷ []) ∷
    Assign (codes "i") None (Selects (selecting (codes "s") (codes "ghost") (Some (codes "s")) Nowhere)) ∷
    [])) ≡ Some (Mismatch)
a_number_gets_a_select = refl

-- S = {person.*}; INT i; i = S;
a_number_gets_a_sets_name : refused false [] (stmts (Assign (codes "S") None (Sets (Seeds (AllOf (codes "person") ∷ [])) []) ∷
    Local Ints ((codes "i", None) ∷ []) ∷
    Assign (codes "i") None (Expression (Name (codes "S"))) ∷
    [])) ≡ Some (Mismatch)
a_number_gets_a_sets_name = refl

-- S = {person.*}; T = S; T = S;
a_set_by_name : refused false [] (stmts (Assign (codes "S") None (Sets (Seeds (AllOf (codes "person") ∷ [])) []) ∷
    Assign (codes "T") None (Expression (Name (codes "S"))) ∷
    Assign (codes "T") None (Expression (Name (codes "S"))) ∷
    [])) ≡ None
a_set_by_name = refl

-- S = {person.*}; S = {city.*};
a_set_of_other_types : refused false [] (stmts (Assign (codes "S") None (Sets (Seeds (AllOf (codes "person") ∷ [])) []) ∷
    Assign (codes "S") None (Sets (Seeds (AllOf (codes "city") ∷ [])) []) ∷
    [])) ≡ Some (WiderSet (codes "S"))
a_set_of_other_types = refl

-- S = {person.*}; S = {ANY};
a_set_of_more_types : refused false [] (stmts (Assign (codes "S") None (Sets (Seeds (AllOf (codes "person") ∷ [])) []) ∷
    Assign (codes "S") None (Sets (Seeds (AllVertices ∷ [])) []) ∷
    [])) ≡ Some (WiderSet (codes "S"))
a_set_of_more_types = refl

-- S (ANY) = {person.*}; S = {city.*};
a_set_of_any_type : refused false [] (stmts (Assign (codes "S") (Some AnyType) (Sets (Seeds (AllOf (codes "person") ∷ [])) []) ∷
    Assign (codes "S") None (Sets (Seeds (AllOf (codes "city") ∷ [])) []) ∷
    [])) ≡ None
a_set_of_any_type = refl

-- S = {person.*}; S = {};
nothing_has_all_types : refused false [] (stmts (Assign (codes "S") None (Sets (Seeds (AllOf (codes "person") ∷ [])) []) ∷
    Assign (codes "S") None (Sets (Seeds []) []) ∷
    [])) ≡ Some (WiderSet (codes "S"))
nothing_has_all_types = refl

-- S = {person.*}; S = S UNION {};
nothing_in_a_chain_has_no_type : refused false [] (stmts (Assign (codes "S") None (Sets (Seeds (AllOf (codes "person") ∷ [])) []) ∷
    Assign (codes "S") None (Sets (SetNamed (codes "S")) ((op.Union, (Seeds [])) ∷ [])) ∷
    [])) ≡ None
nothing_in_a_chain_has_no_type = refl

-- S = {person.*}; S (person) = {ghost.*};
a_set_declared_twice : refused false [] (stmts (Assign (codes "S") None (Sets (Seeds (AllOf (codes "person") ∷ [])) []) ∷
    Assign (codes "S") (Some (TypeOf (codes "person"))) (Sets (Seeds (AllOf (codes "ghost") ∷ [])) []) ∷
    [])) ≡ Some (NameTwice (codes "S"))
a_set_declared_twice = refl

-- S (ghost) = {};
a_set_of_an_unknown_type : refused false [] (stmts (Assign (codes "S") (Some (TypeOf (codes "ghost"))) (Sets (Seeds []) []) ∷
    [])) ≡ Some (UnknownName (codes "ghost"))
a_set_of_an_unknown_type = refl

-- S (person) = 5;
a_declared_set_gets_a_value : refused false [] (stmts (Assign (codes "S") (Some (TypeOf (codes "person"))) (Expression (Number 5)) ∷
    [])) ≡ Some (Mismatch)
a_declared_set_gets_a_value = refl

-- S (person) = q;
a_declared_set_gets_an_unknown_value : refused false [] (stmts (Assign (codes "S") (Some (TypeOf (codes "person"))) (Expression (Name (codes "q"))) ∷
    [])) ≡ Some (UnknownName (codes "q"))
a_declared_set_gets_an_unknown_value = refl

-- S (person) = {city.*};
a_declared_set_of_other_types : refused false [] (stmts (Assign (codes "S") (Some (TypeOf (codes "person"))) (Sets (Seeds (AllOf (codes "city") ∷ [])) []) ∷
    [])) ≡ Some (WiderSet (codes "S"))
a_declared_set_of_other_types = refl

-- S = {person};
a_type_in_braces : refused false [] (stmts (Assign (codes "S") None (Sets (Seeds (OneVertex (codes "person") ∷ [])) []) ∷
    [])) ≡ Some (UnknownName (codes "person"))
a_type_in_braces = refl

-- S = {person.*}; T = {S};
a_set_in_braces : refused false [] (stmts (Assign (codes "S") None (Sets (Seeds (AllOf (codes "person") ∷ [])) []) ∷
    Assign (codes "T") None (Sets (Seeds (OneVertex (codes "S") ∷ [])) []) ∷
    [])) ≡ Some (NotAllowedHere)
a_set_in_braces = refl

-- INT i; T = {i};
a_number_in_braces : refused false [] (stmts (Local Ints ((codes "i", None) ∷ []) ∷
    Assign (codes "T") None (Sets (Seeds (OneVertex (codes "i") ∷ [])) []) ∷
    [])) ≡ Some (Mismatch)
a_number_in_braces = refl

-- SetAccum<VERTEX<person>> @@v; FOREACH p IN @@v DO S = {p}; S = {person.*}; END;
a_vertex_in_braces : refused false (Accums (OverElem plain.Set (OfBase (VertexOf (codes "person")))) ((false, codes "@@v", None) ∷ []) ∷ []) (stmts (Foreach (codes "p") (Elements (Global (codes "@@v"))) (stmts (Assign (codes "S") None (Sets (Seeds (OneVertex (codes "p") ∷ [])) []) ∷ Assign (codes "S") None (Sets (Seeds (AllOf (codes "person") ∷ [])) []) ∷ [])) ∷
    [])) ≡ None
a_vertex_in_braces = refl

-- SetAccum<VERTEX<city>> @@v; S = {@@v}; S = {person.*};
a_content_in_braces : refused false (Accums (OverElem plain.Set (OfBase (VertexOf (codes "city")))) ((false, codes "@@v", None) ∷ []) ∷ []) (stmts (Assign (codes "S") None (Sets (Seeds (ContentOf (codes "@@v") ∷ [])) []) ∷
    Assign (codes "S") None (Sets (Seeds (AllOf (codes "person") ∷ [])) []) ∷
    [])) ≡ Some (WiderSet (codes "S"))
a_content_in_braces = refl

-- SetAccum<INT> @@v; S = {@@v};
a_content_of_numbers_in_braces : refused false (Accums (OverElem plain.Set (OfBase Ints)) ((false, codes "@@v", None) ∷ []) ∷ []) (stmts (Assign (codes "S") None (Sets (Seeds (ContentOf (codes "@@v") ∷ [])) []) ∷
    [])) ≡ Some (Mismatch)
a_content_of_numbers_in_braces = refl

-- INT i; S = {person.*} UNION i;
an_operand_that_is_no_set : refused false [] (stmts (Local Ints ((codes "i", None) ∷ []) ∷
    Assign (codes "S") None (Sets (Seeds (AllOf (codes "person") ∷ [])) ((op.Union, (SetNamed (codes "i"))) ∷ [])) ∷
    [])) ≡ Some (Mismatch)
an_operand_that_is_no_set = refl

-- S = {person.*} MINUS q;
an_unknown_operand : refused false [] (stmts (Assign (codes "S") None (Sets (Seeds (AllOf (codes "person") ∷ [])) ((op.Minus, (SetNamed (codes "q"))) ∷ [])) ∷
    [])) ≡ Some (UnknownName (codes "q"))
an_unknown_operand = refl

-- S = {person.*} INTERSECT {ANY}; S = {person.*};
an_intersection_has_the_left_types : refused false [] (stmts (Assign (codes "S") None (Sets (Seeds (AllOf (codes "person") ∷ [])) ((op.Intersect, (Seeds (AllVertices ∷ []))) ∷ [])) ∷
    Assign (codes "S") None (Sets (Seeds (AllOf (codes "person") ∷ [])) []) ∷
    [])) ≡ None
an_intersection_has_the_left_types = refl

-- S = {person.*} UNION {city.*}; PRINT S[S.age];
a_union_has_both_types : refused false [] (stmts (Assign (codes "S") None (Sets (Seeds (AllOf (codes "person") ∷ [])) ((op.Union, (Seeds (AllOf (codes "city") ∷ []))) ∷ [])) ∷
    Print (Selection (codes "S") ((item (Post (Name (codes "S")) (parts_of ((Field (codes "age")) ∷ []))) (codes "S.age")) ∷ []) (codes "S") ∷ []) ∷
    [])) ≡ Some (NoAttribute (codes "age"))
a_union_has_both_types = refl

-- WHILE TRUE DO INT n; END; PRINT n;
a_name_of_a_body_ends_with_it : refused false [] (stmts (While (Truth true) None (stmts (Local Ints ((codes "n", None) ∷ []) ∷ [])) ∷
    Print (Whole (item (Name (codes "n")) (codes "n")) ∷ []) ∷
    [])) ≡ Some (UnknownName (codes "n"))
a_name_of_a_body_ends_with_it = refl

-- IF TRUE THEN S = {person.*}; END; PRINT S;
a_set_of_a_body_ends_with_it : refused false [] (stmts (If (if_ (Truth true) (stmts (Assign (codes "S") None (Sets (Seeds (AllOf (codes "person") ∷ [])) []) ∷ [])) (else_ no_stmt)) ∷
    Print (Whole (item (Name (codes "S")) (codes "S")) ∷ []) ∷
    [])) ≡ Some (UnknownName (codes "S"))
a_set_of_a_body_ends_with_it = refl

-- IF 1 THEN END;
a_condition_is_a_truth : refused false [] (stmts (If (if_ (Number 1) (stmts []) (else_ no_stmt)) ∷
    [])) ≡ Some (Mismatch)
a_condition_is_a_truth = refl

-- WHILE TRUE LIMIT "x" DO END;
a_limit_is_a_number : refused false [] (stmts (While (Truth true) (Some (Text (codes "x"))) (stmts []) ∷
    [])) ≡ Some (Mismatch)
a_limit_is_a_number = refl

-- S = {person.*}; FOREACH v IN S DO END;
a_loop_over_a_set : refused false [] (stmts (Assign (codes "S") None (Sets (Seeds (AllOf (codes "person") ∷ [])) []) ∷
    Foreach (codes "v") (Elements (Name (codes "S"))) (stmts []) ∷
    [])) ≡ Some (NotAllowedHere)
a_loop_over_a_set = refl

-- MapAccum<INT, INT> @@m; FOREACH v IN @@m DO END;
a_loop_over_a_map : refused false (Accums (MapToElem (OfBase Ints) (OfBase Ints)) ((false, codes "@@m", None) ∷ []) ∷ []) (stmts (Foreach (codes "v") (Elements (Global (codes "@@m"))) (stmts []) ∷
    [])) ≡ Some (Mismatch)
a_loop_over_a_map = refl

-- S = {person.*}; FOREACH S IN q DO END;
the_name_of_a_loop_before_its_collection : refused false [] (stmts (Assign (codes "S") None (Sets (Seeds (AllOf (codes "person") ∷ [])) []) ∷
    Foreach (codes "S") (Elements (Name (codes "q"))) (stmts []) ∷
    [])) ≡ Some (NameTwice (codes "S"))
the_name_of_a_loop_before_its_collection = refl

-- FOREACH v IN RANGE[1, v] DO END;
the_name_of_a_loop_behind_its_collection : refused false [] (stmts (Foreach (codes "v") (Range (Number 1) (Name (codes "v"))) (stmts []) ∷
    [])) ≡ Some (UnknownName (codes "v"))
the_name_of_a_loop_behind_its_collection = refl

-- TYPEDEF TUPLE<INT a> P; HeapAccum<P>(2, a ASC) @@h; FOREACH p IN @@h DO PRINT p.a; END;
a_loop_over_tuples : refused false (TupleType ((Ints, codes "a") ∷ []) (codes "P") ∷ Accums (Heap (codes "P") 2 ((codes "a", false) ∷ [])) ((false, codes "@@h", None) ∷ []) ∷ []) (stmts (Foreach (codes "p") (Elements (Global (codes "@@h"))) (stmts (Print (Whole (item (Post (Name (codes "p")) (parts_of ((Field (codes "a")) ∷ []))) (codes "p.a")) ∷ []) ∷ [])) ∷
    [])) ≡ None
a_loop_over_tuples = refl

-- @@a += 1;
a_change_of_an_unknown_accumulator : refused false [] (stmts (ChangeGlobal (codes "@@a") (Adds (Plain (Number 1))) ∷
    [])) ≡ Some (UnknownName (codes "@@a"))
a_change_of_an_unknown_accumulator = refl

-- AvgAccum @@a; @@a = q;
an_average_is_not_set : refused false (Accums Averaged ((false, codes "@@a", None) ∷ []) ∷ []) (stmts (ChangeGlobal (codes "@@a") (Puts (Name (codes "q"))) ∷
    [])) ≡ Some (Mismatch)
an_average_is_not_set = refl

-- SetAccum<INT> @@a; @@a = 1;
a_collection_is_not_set : refused false (Accums (OverElem plain.Set (OfBase Ints)) ((false, codes "@@a", None) ∷ []) ∷ []) (stmts (ChangeGlobal (codes "@@a") (Puts (Number 1)) ∷
    [])) ≡ Some (Mismatch)
a_collection_is_not_set = refl

-- SumAccum<INT> @@a; @@a = 1;
a_sum_is_set : refused false (Accums (OverElem plain.Sum (OfBase Ints)) ((false, codes "@@a", None) ∷ []) ∷ []) (stmts (ChangeGlobal (codes "@@a") (Puts (Number 1)) ∷
    [])) ≡ None
a_sum_is_set = refl

-- SumAccum<INT> @@a; @@a += "x";
an_input_of_another_type : refused false (Accums (OverElem plain.Sum (OfBase Ints)) ((false, codes "@@a", None) ∷ []) ∷ []) (stmts (ChangeGlobal (codes "@@a") (Adds (Plain (Text (codes "x")))) ∷
    [])) ≡ Some (Mismatch)
an_input_of_another_type = refl

-- MapAccum<STRING, INT> @@m; @@m += ("a" -> 1);
an_input_with_keys : refused false (Accums (MapToElem (OfBase Strings) (OfBase Ints)) ((false, codes "@@m", None) ∷ []) ∷ []) (stmts (ChangeGlobal (codes "@@m") (Adds (Keys (trees_of ((Text (codes "a")) ∷ [])) (inputs_of ((Plain (Number 1)) ∷ [])))) ∷
    [])) ≡ None
an_input_with_keys = refl

-- MapAccum<STRING, INT> @@m; @@m += 1;
an_input_without_keys : refused false (Accums (MapToElem (OfBase Strings) (OfBase Ints)) ((false, codes "@@m", None) ∷ []) ∷ []) (stmts (ChangeGlobal (codes "@@m") (Adds (Plain (Number 1))) ∷
    [])) ≡ Some (Mismatch)
an_input_without_keys = refl

-- MapAccum<INT, INT> @@m; @@m += ("a" -> q);
keys_are_judged_at_the_end : refused false (Accums (MapToElem (OfBase Ints) (OfBase Ints)) ((false, codes "@@m", None) ∷ []) ∷ []) (stmts (ChangeGlobal (codes "@@m") (Adds (Keys (trees_of ((Text (codes "a")) ∷ [])) (inputs_of ((Plain (Name (codes "q"))) ∷ [])))) ∷
    [])) ≡ Some (UnknownName (codes "q"))
keys_are_judged_at_the_end = refl

-- GroupByAccum<INT k, SumAccum<INT> n> @@g; @@g += (1 -> 2, 3);
inputs_and_parts_are_as_many : refused false (Accums (Grouped ((Ints, codes "k") ∷ []) (part_tree_and (OverElem plain.Sum (OfBase Ints)) (codes "n") no_part_tree)) ((false, codes "@@g", None) ∷ []) ∷ []) (stmts (ChangeGlobal (codes "@@g") (Adds (Keys (trees_of ((Number 1) ∷ [])) (inputs_of ((Plain (Number 2)) ∷ (Plain (Number 3)) ∷ [])))) ∷
    [])) ≡ Some (Mismatch)
inputs_and_parts_are_as_many = refl

-- ListAccum<INT> @@l; @@l += 1;
an_input_to_a_list : refused false (Accums (OverElem plain.List (OfBase Ints)) ((false, codes "@@l", None) ∷ []) ∷ []) (stmts (ChangeGlobal (codes "@@l") (Adds (Plain (Number 1))) ∷
    [])) ≡ None
an_input_to_a_list = refl

-- S = {person.*}; PRINT S;
a_whole_set_is_printed : refused false [] (stmts (Assign (codes "S") None (Sets (Seeds (AllOf (codes "person") ∷ [])) []) ∷
    Print (Whole (item (Name (codes "S")) (codes "S")) ∷ []) ∷
    [])) ≡ None
a_whole_set_is_printed = refl

-- PRINT 1, 1;
a_key_twice : refused false [] (stmts (Print (Whole (item (Number 1) (codes "1")) ∷ Whole (item (Number 1) (codes "1")) ∷ []) ∷
    [])) ≡ Some (NameTwice (codes "1"))
a_key_twice = refl

-- PRINT 1, 1 + "x" AS a;
a_value_before_its_key : refused false [] (stmts (Print (Whole (item (Number 1) (codes "1")) ∷ Whole (item (Sum (Number 1) (terms_of ((add.Plus, (Text (codes "x"))) ∷ []))) (codes "a")) ∷ []) ∷
    [])) ≡ Some (Mismatch)
a_value_before_its_key = refl

-- PRINT q[1];
a_selection_of_an_unknown_set : refused false [] (stmts (Print (Selection (codes "q") ((item (Number 1) (codes "1")) ∷ []) (codes "q") ∷ []) ∷
    [])) ≡ Some (UnknownName (codes "q"))
a_selection_of_an_unknown_set = refl

-- INT i; PRINT i[q];
a_selection_of_a_number : refused false [] (stmts (Local Ints ((codes "i", None) ∷ []) ∷
    Print (Selection (codes "i") ((item (Name (codes "q")) (codes "q")) ∷ []) (codes "i") ∷ []) ∷
    [])) ≡ Some (Mismatch)
a_selection_of_a_number = refl

-- S = {person.*}; PRINT S[S.age, S.age];
a_key_twice_in_a_selection : refused false [] (stmts (Assign (codes "S") None (Sets (Seeds (AllOf (codes "person") ∷ [])) []) ∷
    Print (Selection (codes "S") ((item (Post (Name (codes "S")) (parts_of ((Field (codes "age")) ∷ []))) (codes "S.age")) ∷ (item (Post (Name (codes "S")) (parts_of ((Field (codes "age")) ∷ []))) (codes "S.age")) ∷ []) (codes "S") ∷ []) ∷
    [])) ≡ Some (NameTwice (codes "S.age"))
a_key_twice_in_a_selection = refl

-- S = {person.*}; PRINT S[S AS x];
the_set_within_a_selection : refused false [] (stmts (Assign (codes "S") None (Sets (Seeds (AllOf (codes "person") ∷ [])) []) ∷
    Print (Selection (codes "S") ((item (Name (codes "S")) (codes "x")) ∷ []) (codes "S") ∷ []) ∷
    [])) ≡ Some (NotAllowedHere)
the_set_within_a_selection = refl

-- S = {person.*}; PRINT S[S.size() AS x, S.type AS y, S.outdegree() AS z];
the_size_within_a_selection : refused false [] (stmts (Assign (codes "S") None (Sets (Seeds (AllOf (codes "person") ∷ [])) []) ∷
    Print (Selection (codes "S") ((item (Post (Name (codes "S")) (parts_of ((Method (codes "size") (trees_of [])) ∷ []))) (codes "x")) ∷ (item (Post (Name (codes "S")) (parts_of ((Field (codes "type")) ∷ []))) (codes "y")) ∷ (item (Post (Name (codes "S")) (parts_of ((Method (codes "outdegree") (trees_of [])) ∷ []))) (codes "z")) ∷ []) (codes "S") ∷ []) ∷
    [])) ≡ None
the_size_within_a_selection = refl

-- S = {person.*}; T = S; PRINT S[T.size() AS x];
another_set_within_a_selection : refused false [] (stmts (Assign (codes "S") None (Sets (Seeds (AllOf (codes "person") ∷ [])) []) ∷
    Assign (codes "T") None (Expression (Name (codes "S"))) ∷
    Print (Selection (codes "S") ((item (Post (Name (codes "T")) (parts_of ((Method (codes "size") (trees_of [])) ∷ []))) (codes "x")) ∷ []) (codes "S") ∷ []) ∷
    [])) ≡ None
another_set_within_a_selection = refl

-- S = {person.*}; T = S; PRINT S[T.age AS x];
another_sets_vertex_within_a_selection : refused false [] (stmts (Assign (codes "S") None (Sets (Seeds (AllOf (codes "person") ∷ [])) []) ∷
    Assign (codes "T") None (Expression (Name (codes "S"))) ∷
    Print (Selection (codes "S") ((item (Post (Name (codes "T")) (parts_of ((Field (codes "age")) ∷ []))) (codes "x")) ∷ []) (codes "S") ∷ []) ∷
    [])) ≡ Some (NoAttribute (codes "age"))
another_sets_vertex_within_a_selection = refl

-- SumAccum<INT> @n; S = {person.*}; PRINT S[S.@n AS n];
an_accumulator_within_a_selection : refused false (Accums (OverElem plain.Sum (OfBase Ints)) ((true, codes "@n", None) ∷ []) ∷ []) (stmts (Assign (codes "S") None (Sets (Seeds (AllOf (codes "person") ∷ [])) []) ∷
    Print (Selection (codes "S") ((item (Post (Name (codes "S")) (parts_of ((Attached (codes "@n")) ∷ []))) (codes "n")) ∷ []) (codes "S") ∷ []) ∷
    [])) ≡ None
an_accumulator_within_a_selection = refl

-- SumAccum<INT> @n; S = {person.*}; PRINT S.@n AS n;
an_accumulator_outside_a_selection : refused false (Accums (OverElem plain.Sum (OfBase Ints)) ((true, codes "@n", None) ∷ []) ∷ []) (stmts (Assign (codes "S") None (Sets (Seeds (AllOf (codes "person") ∷ [])) []) ∷
    Print (Whole (item (Post (Name (codes "S")) (parts_of ((Attached (codes "@n")) ∷ []))) (codes "n")) ∷ []) ∷
    [])) ≡ Some (NotAllowedHere)
an_accumulator_outside_a_selection = refl

-- S = {person.*}; PRINT S.age AS n;
an_attribute_outside_a_selection : refused false [] (stmts (Assign (codes "S") None (Sets (Seeds (AllOf (codes "person") ∷ [])) []) ∷
    Print (Whole (item (Post (Name (codes "S")) (parts_of ((Field (codes "age")) ∷ []))) (codes "n")) ∷ []) ∷
    [])) ≡ Some (NoAttribute (codes "age"))
an_attribute_outside_a_selection = refl
