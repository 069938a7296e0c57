-- TypedExpressions: for expressions, which rule fails first, and which are accepted.
use Rattle.std.proofs.Common.{◌≡◌, true, false, [], ◌∷◌, Some, None, refl}
use Rattle.std.specs.Prelude.{codes}
use Rattle.gq_tree.specs.declared.expr.AddSign.TheVariants as add
use Rattle.gq_tree.specs.declared.expr.CmpSign.TheVariants as cmp
use Rattle.gq_tree.specs.declared.kind.Plain.TheVariants as plain
use Rattle.gq_tree.specs.Tree.{Number, Text, Truth, Global, Name, Call, Post, Neg, Sum, Cmp, Not, And, Field, Method}
use Rattle.gq_tree.specs.View.{trees_of, parts_of, terms_of}
use Rattle.gq_rules_typing.specs.Statements.{Ints, UInts, Strings, OfBase, OverElem, Averaged, MapToElem, Grouped, Heap, no_part_tree, part_tree_and, Whole, Local, Print, TupleType, Accums}
use Rattle.gq_rules_typing.specs.Judging.{Mismatch, UnknownName, NoAttribute}
use Rattle.gq_rules_typing.proofs.Written.{stmts, item}
use Rattle.gq_rules_typing.proofs.Judged.{refused}

-- PRINT 1 AS x;
a_printed_number : refused false [] (stmts (Print (Whole (item (Number 1) (codes "x")) ∷ []) ∷
    [])) ≡ None
a_printed_number = refl

-- PRINT 1 + "x" AS n;
a_number_and_a_text : refused false [] (stmts (Print (Whole (item (Sum (Number 1) (terms_of ((add.Plus, (Text (codes "x"))) ∷ []))) (codes "n")) ∷ []) ∷
    [])) ≡ Some (Mismatch)
a_number_and_a_text = refl

-- PRINT "a" + "b" AS n;
two_texts : refused false [] (stmts (Print (Whole (item (Sum (Text (codes "a")) (terms_of ((add.Plus, (Text (codes "b"))) ∷ []))) (codes "n")) ∷ []) ∷
    [])) ≡ None
two_texts = refl

-- PRINT "a" - "b" AS n;
a_text_less_a_text : refused false [] (stmts (Print (Whole (item (Sum (Text (codes "a")) (terms_of ((add.Minus, (Text (codes "b"))) ∷ []))) (codes "n")) ∷ []) ∷
    [])) ≡ Some (Mismatch)
a_text_less_a_text = refl

-- PRINT 1 + "x" + q AS n;
a_chain_from_the_left : refused false [] (stmts (Print (Whole (item (Sum (Number 1) (terms_of ((add.Plus, (Text (codes "x"))) ∷ (add.Plus, (Name (codes "q"))) ∷ []))) (codes "n")) ∷ []) ∷
    [])) ≡ Some (Mismatch)
a_chain_from_the_left = refl

-- PRINT 1 AND q AS n;
both_operands_before_the_rule : refused false [] (stmts (Print (Whole (item (And (Number 1) (trees_of ((Name (codes "q")) ∷ []))) (codes "n")) ∷ []) ∷
    [])) ≡ Some (UnknownName (codes "q"))
both_operands_before_the_rule = refl

-- PRINT TRUE AND 1 AND q AS n;
a_chain_of_truths : refused false [] (stmts (Print (Whole (item (And (Truth true) (trees_of ((Number 1) ∷ (Name (codes "q")) ∷ []))) (codes "n")) ∷ []) ∷
    [])) ≡ Some (Mismatch)
a_chain_of_truths = refl

-- PRINT q AS n;
an_unknown_name : refused false [] (stmts (Print (Whole (item (Name (codes "q")) (codes "n")) ∷ []) ∷
    [])) ≡ Some (UnknownName (codes "q"))
an_unknown_name = refl

-- PRINT 1.foo(q) AS n;
arguments_before_the_name_of_a_method : refused false [] (stmts (Print (Whole (item (Post (Number 1) (parts_of ((Method (codes "foo") (trees_of ((Name (codes "q")) ∷ []))) ∷ []))) (codes "n")) ∷ []) ∷
    [])) ≡ Some (UnknownName (codes "q"))
arguments_before_the_name_of_a_method = refl

-- PRINT 1.foo(2) AS n;
a_method_of_another_name : refused false [] (stmts (Print (Whole (item (Post (Number 1) (parts_of ((Method (codes "foo") (trees_of ((Number 2) ∷ []))) ∷ []))) (codes "n")) ∷ []) ∷
    [])) ≡ Some (UnknownName (codes "foo"))
a_method_of_another_name = refl

-- PRINT foo(2) AS n;
a_function_of_another_name : refused false [] (stmts (Print (Whole (item (Call (codes "foo") (trees_of ((Number 2) ∷ []))) (codes "n")) ∷ []) ∷
    [])) ≡ Some (UnknownName (codes "foo"))
a_function_of_another_name = refl

-- PRINT abs(1, 2) AS n;
too_many_arguments : refused false [] (stmts (Print (Whole (item (Call (codes "abs") (trees_of ((Number 1) ∷ (Number 2) ∷ []))) (codes "n")) ∷ []) ∷
    [])) ≡ Some (Mismatch)
too_many_arguments = refl

-- PRINT -"x" AS n;
a_minus_before_a_text : refused false [] (stmts (Print (Whole (item (Neg 1 (Text (codes "x"))) (codes "n")) ∷ []) ∷
    [])) ≡ Some (Mismatch)
a_minus_before_a_text = refl

-- PRINT -9223372036854775808 AS n;
a_minus_before_an_unsigned_number : refused false [] (stmts (Print (Whole (item (Neg 1 (Number 9223372036854775808)) (codes "n")) ∷ []) ∷
    [])) ≡ None
a_minus_before_an_unsigned_number = refl

-- PRINT NOT 1 AS n;
not_a_number : refused false [] (stmts (Print (Whole (item (Not 1 (Number 1)) (codes "n")) ∷ []) ∷
    [])) ≡ Some (Mismatch)
not_a_number = refl

-- PRINT TRUE < FALSE AS n;
truths_have_no_order : refused false [] (stmts (Print (Whole (item (Cmp (Truth true) cmp.Less (Truth false)) (codes "n")) ∷ []) ∷
    [])) ≡ Some (Mismatch)
truths_have_no_order = refl

-- PRINT TRUE == FALSE AS n;
truths_are_equal_or_not : refused false [] (stmts (Print (Whole (item (Cmp (Truth true) cmp.Equal (Truth false)) (codes "n")) ∷ []) ∷
    [])) ≡ None
truths_are_equal_or_not = refl

-- PRINT "a" < "b" AS n;
texts_have_an_order : refused false [] (stmts (Print (Whole (item (Cmp (Text (codes "a")) cmp.Less (Text (codes "b"))) (codes "n")) ∷ []) ∷
    [])) ≡ None
texts_have_an_order = refl

-- PRINT 1 == "1" AS n;
a_number_against_a_text : refused false [] (stmts (Print (Whole (item (Cmp (Number 1) cmp.Equal (Text (codes "1"))) (codes "n")) ∷ []) ∷
    [])) ≡ Some (Mismatch)
a_number_against_a_text = refl

-- AvgAccum @@a; PRINT @@a > 1 AS n;
an_average_against_a_number : refused false (Accums Averaged ((false, codes "@@a", None) ∷ []) ∷ []) (stmts (Print (Whole (item (Cmp (Global (codes "@@a")) cmp.Greater (Number 1)) (codes "n")) ∷ []) ∷
    [])) ≡ None
an_average_against_a_number = refl

-- AvgAccum @@a; PRINT @@a == @@a AS n;
an_average_against_an_average : refused false (Accums Averaged ((false, codes "@@a", None) ∷ []) ∷ []) (stmts (Print (Whole (item (Cmp (Global (codes "@@a")) cmp.Equal (Global (codes "@@a"))) (codes "n")) ∷ []) ∷
    [])) ≡ None
an_average_against_an_average = refl

-- AvgAccum @@a; PRINT @@a + 1 AS n;
an_average_is_not_calculated_with : refused false (Accums Averaged ((false, codes "@@a", None) ∷ []) ∷ []) (stmts (Print (Whole (item (Sum (Global (codes "@@a")) (terms_of ((add.Plus, (Number 1)) ∷ []))) (codes "n")) ∷ []) ∷
    [])) ≡ Some (Mismatch)
an_average_is_not_calculated_with = refl

-- AvgAccum @@a; PRINT to_string(@@a) AS n;
an_average_has_no_text : refused false (Accums Averaged ((false, codes "@@a", None) ∷ []) ∷ []) (stmts (Print (Whole (item (Call (codes "to_string") (trees_of ((Global (codes "@@a")) ∷ []))) (codes "n")) ∷ []) ∷
    [])) ≡ Some (Mismatch)
an_average_has_no_text = refl

-- SetAccum<INT> @@a; PRINT @@a == @@a AS n;
collections_are_not_compared : refused false (Accums (OverElem plain.Set (OfBase Ints)) ((false, codes "@@a", None) ∷ []) ∷ []) (stmts (Print (Whole (item (Cmp (Global (codes "@@a")) cmp.Equal (Global (codes "@@a"))) (codes "n")) ∷ []) ∷
    [])) ≡ Some (Mismatch)
collections_are_not_compared = refl

-- TYPEDEF TUPLE<INT a> P; PRINT P(1) == P(1) AS n;
tuples_are_not_compared : refused false (TupleType ((Ints, codes "a") ∷ []) (codes "P") ∷ []) (stmts (Print (Whole (item (Cmp (Call (codes "P") (trees_of ((Number 1) ∷ []))) cmp.Equal (Call (codes "P") (trees_of ((Number 1) ∷ [])))) (codes "n")) ∷ []) ∷
    [])) ≡ Some (Mismatch)
tuples_are_not_compared = refl

-- TYPEDEF TUPLE<INT a, INT b> P; PRINT P(1) AS n;
a_tuple_of_too_few_fields : refused false (TupleType ((Ints, codes "a") ∷ (Ints, codes "b") ∷ []) (codes "P") ∷ []) (stmts (Print (Whole (item (Call (codes "P") (trees_of ((Number 1) ∷ []))) (codes "n")) ∷ []) ∷
    [])) ≡ Some (Mismatch)
a_tuple_of_too_few_fields = refl

-- TYPEDEF TUPLE<INT a, STRING b> P; PRINT P(1, "x").b AS n;
a_field_of_a_tuple : refused false (TupleType ((Ints, codes "a") ∷ (Strings, codes "b") ∷ []) (codes "P") ∷ []) (stmts (Print (Whole (item (Post (Call (codes "P") (trees_of ((Number 1) ∷ (Text (codes "x")) ∷ []))) (parts_of ((Field (codes "b")) ∷ []))) (codes "n")) ∷ []) ∷
    [])) ≡ None
a_field_of_a_tuple = refl

-- TYPEDEF TUPLE<INT a> P; PRINT P(1).b AS n;
no_such_field_of_a_tuple : refused false (TupleType ((Ints, codes "a") ∷ []) (codes "P") ∷ []) (stmts (Print (Whole (item (Post (Call (codes "P") (trees_of ((Number 1) ∷ []))) (parts_of ((Field (codes "b")) ∷ []))) (codes "n")) ∷ []) ∷
    [])) ≡ Some (NoAttribute (codes "b"))
no_such_field_of_a_tuple = refl

-- TYPEDEF TUPLE<STRING a> abs; PRINT abs("x") AS n;
a_tuple_type_goes_before_a_function : refused false (TupleType ((Strings, codes "a") ∷ []) (codes "abs") ∷ []) (stmts (Print (Whole (item (Call (codes "abs") (trees_of ((Text (codes "x")) ∷ []))) (codes "n")) ∷ []) ∷
    [])) ≡ None
a_tuple_type_goes_before_a_function = refl

-- TYPEDEF TUPLE<INT a> P; PRINT P AS n;
a_tuple_type_is_no_value : refused false (TupleType ((Ints, codes "a") ∷ []) (codes "P") ∷ []) (stmts (Print (Whole (item (Name (codes "P")) (codes "n")) ∷ []) ∷
    [])) ≡ Some (UnknownName (codes "P"))
a_tuple_type_is_no_value = refl

-- TYPEDEF TUPLE<INT type> P; PRINT P(1).type AS n;
a_field_that_is_called_type : refused false (TupleType ((Ints, codes "type") ∷ []) (codes "P") ∷ []) (stmts (Print (Whole (item (Post (Call (codes "P") (trees_of ((Number 1) ∷ []))) (parts_of ((Field (codes "type")) ∷ []))) (codes "n")) ∷ []) ∷
    [])) ≡ Some (Mismatch)
a_field_that_is_called_type = refl

-- MapAccum<STRING, INT> @@m; PRINT @@m.get("a") + 1 AS n, @@m.containsKey("b") AS b, @@m.size() AS s;
a_map_is_asked_for_its_keys : refused false (Accums (MapToElem (OfBase Strings) (OfBase Ints)) ((false, codes "@@m", None) ∷ []) ∷ []) (stmts (Print (Whole (item (Sum (Post (Global (codes "@@m")) (parts_of ((Method (codes "get") (trees_of ((Text (codes "a")) ∷ []))) ∷ []))) (terms_of ((add.Plus, (Number 1)) ∷ []))) (codes "n")) ∷ Whole (item (Post (Global (codes "@@m")) (parts_of ((Method (codes "containsKey") (trees_of ((Text (codes "b")) ∷ []))) ∷ []))) (codes "b")) ∷ Whole (item (Post (Global (codes "@@m")) (parts_of ((Method (codes "size") (trees_of [])) ∷ []))) (codes "s")) ∷ []) ∷
    [])) ≡ None
a_map_is_asked_for_its_keys = refl

-- MapAccum<STRING, INT> @@m; PRINT @@m.get(1) AS n;
a_key_of_another_type : refused false (Accums (MapToElem (OfBase Strings) (OfBase Ints)) ((false, codes "@@m", None) ∷ []) ∷ []) (stmts (Print (Whole (item (Post (Global (codes "@@m")) (parts_of ((Method (codes "get") (trees_of ((Number 1) ∷ []))) ∷ []))) (codes "n")) ∷ []) ∷
    [])) ≡ Some (Mismatch)
a_key_of_another_type = refl

-- MapAccum<STRING, INT> @@m; PRINT @@m.contains("a") AS n;
a_map_contains_nothing : refused false (Accums (MapToElem (OfBase Strings) (OfBase Ints)) ((false, codes "@@m", None) ∷ []) ∷ []) (stmts (Print (Whole (item (Post (Global (codes "@@m")) (parts_of ((Method (codes "contains") (trees_of ((Text (codes "a")) ∷ []))) ∷ []))) (codes "n")) ∷ []) ∷
    [])) ≡ Some (Mismatch)
a_map_contains_nothing = refl

-- TYPEDEF TUPLE<INT a> P; HeapAccum<P>(2, a ASC) @@h; PRINT @@h.contains(P(1)) AS n;
a_heap_contains_nothing : refused false (TupleType ((Ints, codes "a") ∷ []) (codes "P") ∷ Accums (Heap (codes "P") 2 ((codes "a", false) ∷ [])) ((false, codes "@@h", None) ∷ []) ∷ []) (stmts (Print (Whole (item (Post (Global (codes "@@h")) (parts_of ((Method (codes "contains") (trees_of ((Call (codes "P") (trees_of ((Number 1) ∷ []))) ∷ []))) ∷ []))) (codes "n")) ∷ []) ∷
    [])) ≡ Some (Mismatch)
a_heap_contains_nothing = refl

-- ListAccum<UINT> @@l; PRINT @@l.contains(-1) AS n;
a_list_contains_an_element : refused false (Accums (OverElem plain.List (OfBase UInts)) ((false, codes "@@l", None) ∷ []) ∷ []) (stmts (Print (Whole (item (Post (Global (codes "@@l")) (parts_of ((Method (codes "contains") (trees_of ((Neg 1 (Number 1)) ∷ []))) ∷ []))) (codes "n")) ∷ []) ∷
    [])) ≡ None
a_list_contains_an_element = refl

-- PRINT 1.size() AS n;
a_number_has_no_size : refused false [] (stmts (Print (Whole (item (Post (Number 1) (parts_of ((Method (codes "size") (trees_of [])) ∷ []))) (codes "n")) ∷ []) ∷
    [])) ≡ Some (Mismatch)
a_number_has_no_size = refl

-- SetAccum<INT> @@a; PRINT @@a.size(1) AS n;
a_size_of_something : refused false (Accums (OverElem plain.Set (OfBase Ints)) ((false, codes "@@a", None) ∷ []) ∷ []) (stmts (Print (Whole (item (Post (Global (codes "@@a")) (parts_of ((Method (codes "size") (trees_of ((Number 1) ∷ []))) ∷ []))) (codes "n")) ∷ []) ∷
    [])) ≡ Some (Mismatch)
a_size_of_something = refl

-- GroupByAccum<INT k, SumAccum<INT> n> @@g; PRINT @@g.get(1) AS x;
a_group_row_is_no_value : refused false (Accums (Grouped ((Ints, codes "k") ∷ []) (part_tree_and (OverElem plain.Sum (OfBase Ints)) (codes "n") no_part_tree)) ((false, codes "@@g", None) ∷ []) ∷ []) (stmts (Print (Whole (item (Post (Global (codes "@@g")) (parts_of ((Method (codes "get") (trees_of ((Number 1) ∷ []))) ∷ []))) (codes "x")) ∷ []) ∷
    [])) ≡ Some (Mismatch)
a_group_row_is_no_value = refl

-- GroupByAccum<INT k, SumAccum<INT> n> @@g; PRINT @@g.get(1).n AS x;
a_part_of_a_group : refused false (Accums (Grouped ((Ints, codes "k") ∷ []) (part_tree_and (OverElem plain.Sum (OfBase Ints)) (codes "n") no_part_tree)) ((false, codes "@@g", None) ∷ []) ∷ []) (stmts (Print (Whole (item (Post (Global (codes "@@g")) (parts_of ((Method (codes "get") (trees_of ((Number 1) ∷ []))) ∷ (Field (codes "n")) ∷ []))) (codes "x")) ∷ []) ∷
    [])) ≡ None
a_part_of_a_group = refl

-- GroupByAccum<INT k, SumAccum<INT> n> @@g; PRINT @@g.get(1).k AS x;
no_such_part : refused false (Accums (Grouped ((Ints, codes "k") ∷ []) (part_tree_and (OverElem plain.Sum (OfBase Ints)) (codes "n") no_part_tree)) ((false, codes "@@g", None) ∷ []) ∷ []) (stmts (Print (Whole (item (Post (Global (codes "@@g")) (parts_of ((Method (codes "get") (trees_of ((Number 1) ∷ []))) ∷ (Field (codes "k")) ∷ []))) (codes "x")) ∷ []) ∷
    [])) ≡ Some (NoAttribute (codes "k"))
no_such_part = refl

-- GroupByAccum<INT k, STRING l, SumAccum<INT> n> @@g; PRINT @@g.get(1).n AS x;
a_key_for_each_of_the_group : refused false (Accums (Grouped ((Ints, codes "k") ∷ (Strings, codes "l") ∷ []) (part_tree_and (OverElem plain.Sum (OfBase Ints)) (codes "n") no_part_tree)) ((false, codes "@@g", None) ∷ []) ∷ []) (stmts (Print (Whole (item (Post (Global (codes "@@g")) (parts_of ((Method (codes "get") (trees_of ((Number 1) ∷ []))) ∷ (Field (codes "n")) ∷ []))) (codes "x")) ∷ []) ∷
    [])) ≡ Some (Mismatch)
a_key_for_each_of_the_group = refl

-- PRINT year(to_datetime("2016-01-01")) AS n;
a_time_is_read : refused false [] (stmts (Print (Whole (item (Call (codes "year") (trees_of ((Call (codes "to_datetime") (trees_of ((Text (codes "2016-01-01")) ∷ []))) ∷ []))) (codes "n")) ∷ []) ∷
    [])) ≡ None
a_time_is_read = refl

-- PRINT year("2016-01-01") AS n;
the_year_of_a_text : refused false [] (stmts (Print (Whole (item (Call (codes "year") (trees_of ((Text (codes "2016-01-01")) ∷ []))) (codes "n")) ∷ []) ∷
    [])) ≡ Some (Mismatch)
the_year_of_a_text = refl

-- PRINT to_datetime("2016-01-01") < epoch_to_datetime(0) AS n;
times_are_compared : refused false [] (stmts (Print (Whole (item (Cmp (Call (codes "to_datetime") (trees_of ((Text (codes "2016-01-01")) ∷ []))) cmp.Less (Call (codes "epoch_to_datetime") (trees_of ((Number 0) ∷ [])))) (codes "n")) ∷ []) ∷
    [])) ≡ None
times_are_compared = refl

-- PRINT to_datetime("2016-01-01") < 1 AS n;
a_time_is_no_number : refused false [] (stmts (Print (Whole (item (Cmp (Call (codes "to_datetime") (trees_of ((Text (codes "2016-01-01")) ∷ []))) cmp.Less (Number 1)) (codes "n")) ∷ []) ∷
    [])) ≡ Some (Mismatch)
a_time_is_no_number = refl

-- PRINT to_datetime("2016-01-01") + 1 AS n;
a_time_is_not_added_to : refused false [] (stmts (Print (Whole (item (Sum (Call (codes "to_datetime") (trees_of ((Text (codes "2016-01-01")) ∷ []))) (terms_of ((add.Plus, (Number 1)) ∷ []))) (codes "n")) ∷ []) ∷
    [])) ≡ Some (Mismatch)
a_time_is_not_added_to = refl

-- PRINT to_string(epoch_to_datetime(0)) AS n;
a_time_has_no_text : refused false [] (stmts (Print (Whole (item (Call (codes "to_string") (trees_of ((Call (codes "epoch_to_datetime") (trees_of ((Number 0) ∷ []))) ∷ []))) (codes "n")) ∷ []) ∷
    [])) ≡ Some (Mismatch)
a_time_has_no_text = refl

-- PRINT datetime_add(epoch_to_datetime(0), 1, "month") AS n;
a_unit_in_any_case : refused false [] (stmts (Print (Whole (item (Call (codes "datetime_add") (trees_of ((Call (codes "epoch_to_datetime") (trees_of ((Number 0) ∷ []))) ∷ (Number 1) ∷ (Text (codes "month")) ∷ []))) (codes "n")) ∷ []) ∷
    [])) ≡ None
a_unit_in_any_case = refl

-- PRINT datetime_add(epoch_to_datetime(0), 1, "WEEK") AS n;
an_unknown_unit : refused false [] (stmts (Print (Whole (item (Call (codes "datetime_add") (trees_of ((Call (codes "epoch_to_datetime") (trees_of ((Number 0) ∷ []))) ∷ (Number 1) ∷ (Text (codes "WEEK")) ∷ []))) (codes "n")) ∷ []) ∷
    [])) ≡ Some (UnknownName (codes "WEEK"))
an_unknown_unit = refl

-- PRINT datetime_add(1, 1, "WEEK") AS n;
types_before_the_unit : refused false [] (stmts (Print (Whole (item (Call (codes "datetime_add") (trees_of ((Number 1) ∷ (Number 1) ∷ (Text (codes "WEEK")) ∷ []))) (codes "n")) ∷ []) ∷
    [])) ≡ Some (Mismatch)
types_before_the_unit = refl

-- STRING u = "DAY"; PRINT datetime_add(epoch_to_datetime(0), 1, u) AS n;
a_unit_is_a_text_in_quotes : refused false [] (stmts (Local Strings ((codes "u", (Some (Text (codes "DAY")))) ∷ []) ∷
    Print (Whole (item (Call (codes "datetime_add") (trees_of ((Call (codes "epoch_to_datetime") (trees_of ((Number 0) ∷ []))) ∷ (Number 1) ∷ (Name (codes "u")) ∷ []))) (codes "n")) ∷ []) ∷
    [])) ≡ Some (Mismatch)
a_unit_is_a_text_in_quotes = refl
