-- WorkedCollections: collections, each as a whole query with the line that it prints.
use Rattle.std.proofs.Common.{◌≡◌, true, false, [], ◌∷◌, Some, None, refl}
use Rattle.std.specs.Prelude.{codes}
use Rattle.std.specs.Fmt.{digits}
use Rattle.gq_rules_typing.specs.MulSign.TheVariants as times
use Rattle.gq_rules_typing.specs.CmpSign.TheVariants as cmp
use Rattle.gq_rules_typing.specs.Plain.TheVariants as plain
use Rattle.gq_rules_typing.specs.Bits.TheVariants as bits
use Rattle.gq_rules_typing.specs.Tree.{Number, Text, Truth, Global, Name, Call, Post, Neg, Mul, Cmp, Field, Method}
use Rattle.gq_rules_typing.specs.View.{trees_of, parts_of, factors_of}
use Rattle.gq_rules_typing.specs.Selecting.{Plain, Keys, Adds, Puts, AtGlobal, Nowhere}
use Rattle.gq_rules_typing.specs.Statements.{Ints, UInts, Bools, Strings, OfBase, OverElem, OverBits, Averaged, MapTo, MapToElem, Grouped, Heap, no_part_tree, part_tree_and, AllOf, Seeds, Selects, Sets, Whole, Assign, ChangeGlobal, Print, TupleType, Accums}
use Rattle.gq_rules_typing.proofs.Written.{inputs_of, acts, stmts, item, selecting}
use Rattle.gq_json.specs.Average.{fraction_text}
use Rattle.gq_json.specs.Json.{error_text}
use Rattle.gq_rules_meaning.proofs.Examples.{says, persons}

-- TYPEDEF TUPLE<INT score, STRING name> P; HeapAccum<P>(2, score DESC) @@h; @@h += P(5, "b"); @@h += P(5, "a"); @@h += P(5, "a");
-- PRINT @@h;
a_heap_keeps_equal_tuples : says persons (TupleType ((Ints, codes "score") ∷ (Strings, codes "name") ∷ []) (codes "P") ∷ Accums (Heap (codes "P") 2 ((codes "score", true) ∷ [])) ((false, codes "@@h", None) ∷ []) ∷ []) (stmts (ChangeGlobal (codes "@@h") (Adds (Plain (Call (codes "P") (trees_of ((Number 5) ∷ (Text (codes "b")) ∷ []))))) ∷
    ChangeGlobal (codes "@@h") (Adds (Plain (Call (codes "P") (trees_of ((Number 5) ∷ (Text (codes "a")) ∷ []))))) ∷
    ChangeGlobal (codes "@@h") (Adds (Plain (Call (codes "P") (trees_of ((Number 5) ∷ (Text (codes "a")) ∷ []))))) ∷
    Print (Whole (item (Global (codes "@@h")) (codes "@@h")) ∷ []) ∷
    [])) ≡ codes "{\"error\":false,\"message\":\"\",\"results\":[{\"@@h\":[{\"score\":5,\"name\":\"a\"},{\"score\":5,\"name\":\"a\"}]}]}\n"
unfolding fraction_text error_text digits
a_heap_keeps_equal_tuples = refl

-- GroupByAccum<INT parity, SumAccum<INT> total, MaxAccum<INT> oldest> @@g; S = {person.*}; T = SELECT s FROM S:s ACCUM @@g +=
-- (s.age % 2 -> s.age, s.age); PRINT @@g, @@g.get(1).total AS t, @@g.get(7).oldest AS o, @@g.containsKey(0) AS k;
a_group_with_two_parts : says persons (Accums (Grouped ((Ints, codes "parity") ∷ []) (part_tree_and (OverElem plain.Sum (OfBase Ints)) (codes "total") (part_tree_and (OverElem plain.Max (OfBase Ints)) (codes "oldest") no_part_tree))) ((false, codes "@@g", None) ∷ []) ∷ []) (stmts (Assign (codes "S") None (Sets (Seeds (AllOf (codes "person") ∷ [])) []) ∷
    Assign (codes "T") None (Selects (record (selecting (codes "s") (codes "S") (Some (codes "s")) Nowhere) { accum = (acts ((AtGlobal (codes "@@g") (Adds (Keys (trees_of ((Mul (Post (Name (codes "s")) (parts_of ((Field (codes "age")) ∷ []))) (factors_of ((times.Modulo, (Number 2)) ∷ []))) ∷ [])) (inputs_of ((Plain (Post (Name (codes "s")) (parts_of ((Field (codes "age")) ∷ [])))) ∷ (Plain (Post (Name (codes "s")) (parts_of ((Field (codes "age")) ∷ [])))) ∷ []))))) ∷ [])) })) ∷
    Print (Whole (item (Global (codes "@@g")) (codes "@@g")) ∷ Whole (item (Post (Global (codes "@@g")) (parts_of ((Method (codes "get") (trees_of ((Number 1) ∷ []))) ∷ (Field (codes "total")) ∷ []))) (codes "t")) ∷ Whole (item (Post (Global (codes "@@g")) (parts_of ((Method (codes "get") (trees_of ((Number 7) ∷ []))) ∷ (Field (codes "oldest")) ∷ []))) (codes "o")) ∷ Whole (item (Post (Global (codes "@@g")) (parts_of ((Method (codes "containsKey") (trees_of ((Number 0) ∷ []))) ∷ []))) (codes "k")) ∷ []) ∷
    [])) ≡ codes "{\"error\":false,\"message\":\"\",\"results\":[{\"@@g\":[{\"parity\":0,\"total\":2,\"oldest\":2},{\"parity\":1,\"total\":4,\"oldest\":3}],\"t\":4,\"o\":-9223372036854775808,\"k\":true}]}\n"
unfolding fraction_text error_text digits
a_group_with_two_parts = refl

-- AvgAccum @@a, @@b, @@c, @@d; @@a += 1; @@a += 2; @@b += 1; @@b += 1; @@b += 2; @@c += -1; @@c += -1; @@c += -2; PRINT @@a AS a,
-- @@b AS b, @@c AS c, @@d AS d, @@a > 1 AS x, @@b == @@a AS y;
averages : says persons (Accums Averaged ((false, codes "@@a", None) ∷ (false, codes "@@b", None) ∷ (false, codes "@@c", None) ∷ (false, codes "@@d", None) ∷ []) ∷ []) (stmts (ChangeGlobal (codes "@@a") (Adds (Plain (Number 1))) ∷
    ChangeGlobal (codes "@@a") (Adds (Plain (Number 2))) ∷
    ChangeGlobal (codes "@@b") (Adds (Plain (Number 1))) ∷
    ChangeGlobal (codes "@@b") (Adds (Plain (Number 1))) ∷
    ChangeGlobal (codes "@@b") (Adds (Plain (Number 2))) ∷
    ChangeGlobal (codes "@@c") (Adds (Plain (Neg 1 (Number 1)))) ∷
    ChangeGlobal (codes "@@c") (Adds (Plain (Neg 1 (Number 1)))) ∷
    ChangeGlobal (codes "@@c") (Adds (Plain (Neg 1 (Number 2)))) ∷
    Print (Whole (item (Global (codes "@@a")) (codes "a")) ∷ Whole (item (Global (codes "@@b")) (codes "b")) ∷ Whole (item (Global (codes "@@c")) (codes "c")) ∷ Whole (item (Global (codes "@@d")) (codes "d")) ∷ Whole (item (Cmp (Global (codes "@@a")) cmp.Greater (Number 1)) (codes "x")) ∷ Whole (item (Cmp (Global (codes "@@b")) cmp.Equal (Global (codes "@@a"))) (codes "y")) ∷ []) ∷
    [])) ≡ codes "{\"error\":false,\"message\":\"\",\"results\":[{\"a\":1.5,\"b\":1.333333,\"c\":-1.333333,\"d\":0,\"x\":true,\"y\":false}]}\n"
unfolding fraction_text error_text digits
averages = refl

-- ListAccum<INT> @@l; PRINT @@l AS x; @@l += 2; @@l += 1; PRINT @@l AS y, @@l.contains(2) AS c, @@l.contains(3) AS d;
a_list_in_order : says persons (Accums (OverElem plain.List (OfBase Ints)) ((false, codes "@@l", None) ∷ []) ∷ []) (stmts (Print (Whole (item (Global (codes "@@l")) (codes "x")) ∷ []) ∷
    ChangeGlobal (codes "@@l") (Adds (Plain (Number 2))) ∷
    ChangeGlobal (codes "@@l") (Adds (Plain (Number 1))) ∷
    Print (Whole (item (Global (codes "@@l")) (codes "y")) ∷ Whole (item (Post (Global (codes "@@l")) (parts_of ((Method (codes "contains") (trees_of ((Number 2) ∷ []))) ∷ []))) (codes "c")) ∷ Whole (item (Post (Global (codes "@@l")) (parts_of ((Method (codes "contains") (trees_of ((Number 3) ∷ []))) ∷ []))) (codes "d")) ∷ []) ∷
    [])) ≡ codes "{\"error\":false,\"message\":\"\",\"results\":[{\"x\":[]},{\"y\":[2,1],\"c\":true,\"d\":false}]}\n"
unfolding fraction_text error_text digits
a_list_in_order = refl

-- MapAccum<STRING, INT> @@m; @@m += ("b" -> 1); @@m += ("a" -> 2); @@m += ("b" -> 3); PRINT @@m, @@m.get("z") AS z, @@m.size() AS
-- n;
a_map_of_sums : says persons (Accums (MapToElem (OfBase Strings) (OfBase Ints)) ((false, codes "@@m", None) ∷ []) ∷ []) (stmts (ChangeGlobal (codes "@@m") (Adds (Keys (trees_of ((Text (codes "b")) ∷ [])) (inputs_of ((Plain (Number 1)) ∷ [])))) ∷
    ChangeGlobal (codes "@@m") (Adds (Keys (trees_of ((Text (codes "a")) ∷ [])) (inputs_of ((Plain (Number 2)) ∷ [])))) ∷
    ChangeGlobal (codes "@@m") (Adds (Keys (trees_of ((Text (codes "b")) ∷ [])) (inputs_of ((Plain (Number 3)) ∷ [])))) ∷
    Print (Whole (item (Global (codes "@@m")) (codes "@@m")) ∷ Whole (item (Post (Global (codes "@@m")) (parts_of ((Method (codes "get") (trees_of ((Text (codes "z")) ∷ []))) ∷ []))) (codes "z")) ∷ Whole (item (Post (Global (codes "@@m")) (parts_of ((Method (codes "size") (trees_of [])) ∷ []))) (codes "n")) ∷ []) ∷
    [])) ≡ codes "{\"error\":false,\"message\":\"\",\"results\":[{\"@@m\":{\"a\":2,\"b\":4},\"z\":0,\"n\":2}]}\n"
unfolding fraction_text error_text digits
a_map_of_sums = refl

-- MapAccum<INT, MapAccum<BOOL, MaxAccum<INT>>> @@m; @@m += (1 -> (TRUE -> 5)); @@m += (1 -> (TRUE -> 3)); @@m += (-1 -> (FALSE ->
-- 2)); PRINT @@m, @@m.get(1).get(TRUE) AS x;
a_map_of_maps : says persons (Accums (MapTo (OfBase Ints) (MapTo (OfBase Bools) (OverElem plain.Max (OfBase Ints)))) ((false, codes "@@m", None) ∷ []) ∷ []) (stmts (ChangeGlobal (codes "@@m") (Adds (Keys (trees_of ((Number 1) ∷ [])) (inputs_of ((Keys (trees_of ((Truth true) ∷ [])) (inputs_of ((Plain (Number 5)) ∷ []))) ∷ [])))) ∷
    ChangeGlobal (codes "@@m") (Adds (Keys (trees_of ((Number 1) ∷ [])) (inputs_of ((Keys (trees_of ((Truth true) ∷ [])) (inputs_of ((Plain (Number 3)) ∷ []))) ∷ [])))) ∷
    ChangeGlobal (codes "@@m") (Adds (Keys (trees_of ((Neg 1 (Number 1)) ∷ [])) (inputs_of ((Keys (trees_of ((Truth false) ∷ [])) (inputs_of ((Plain (Number 2)) ∷ []))) ∷ [])))) ∷
    Print (Whole (item (Global (codes "@@m")) (codes "@@m")) ∷ Whole (item (Post (Global (codes "@@m")) (parts_of ((Method (codes "get") (trees_of ((Number 1) ∷ []))) ∷ (Method (codes "get") (trees_of ((Truth true) ∷ []))) ∷ []))) (codes "x")) ∷ []) ∷
    [])) ≡ codes "{\"error\":false,\"message\":\"\",\"results\":[{\"@@m\":{\"-1\":{\"false\":2},\"1\":{\"true\":5}},\"x\":5}]}\n"
unfolding fraction_text error_text digits
a_map_of_maps = refl

-- MapAccum<INT, INT> @@m; @@m += (1 -> 9223372036854775807); @@m += (1 -> 1);
a_sum_in_a_map : says persons (Accums (MapToElem (OfBase Ints) (OfBase Ints)) ((false, codes "@@m", None) ∷ []) ∷ []) (stmts (ChangeGlobal (codes "@@m") (Adds (Keys (trees_of ((Number 1) ∷ [])) (inputs_of ((Plain (Number 9223372036854775807)) ∷ [])))) ∷
    ChangeGlobal (codes "@@m") (Adds (Keys (trees_of ((Number 1) ∷ [])) (inputs_of ((Plain (Number 1)) ∷ [])))) ∷
    [])) ≡ codes "{\"error\":true,\"message\":\"line 8: sum out of range in @@m\"}\n"
unfolding fraction_text error_text digits
a_sum_in_a_map = refl

-- SetAccum<STRING> @@s; BagAccum<INT> @@b; @@s += "b"; @@s += "a"; @@s += "b"; @@b += 2; @@b += 1; @@b += 2; PRINT @@s, @@b;
sets_and_bags_ascend : says persons (Accums (OverElem plain.Set (OfBase Strings)) ((false, codes "@@s", None) ∷ []) ∷ Accums (OverElem plain.Bag (OfBase Ints)) ((false, codes "@@b", None) ∷ []) ∷ []) (stmts (ChangeGlobal (codes "@@s") (Adds (Plain (Text (codes "b")))) ∷
    ChangeGlobal (codes "@@s") (Adds (Plain (Text (codes "a")))) ∷
    ChangeGlobal (codes "@@s") (Adds (Plain (Text (codes "b")))) ∷
    ChangeGlobal (codes "@@b") (Adds (Plain (Number 2))) ∷
    ChangeGlobal (codes "@@b") (Adds (Plain (Number 1))) ∷
    ChangeGlobal (codes "@@b") (Adds (Plain (Number 2))) ∷
    Print (Whole (item (Global (codes "@@s")) (codes "@@s")) ∷ Whole (item (Global (codes "@@b")) (codes "@@b")) ∷ []) ∷
    [])) ≡ codes "{\"error\":false,\"message\":\"\",\"results\":[{\"@@s\":[\"a\",\"b\"],\"@@b\":[1,2,2]}]}\n"
unfolding fraction_text error_text digits
sets_and_bags_ascend = refl

-- OrAccum @@o; AndAccum @@a; BitwiseOrAccum @@p; BitwiseAndAccum @@q; @@o += TRUE; @@a += FALSE; @@p += 5; @@p += 2; @@q += 6;
-- PRINT @@o, @@a, @@p, @@q;
truths_and_bits : says persons (Accums (OverBits bits.Or None) ((false, codes "@@o", None) ∷ []) ∷ Accums (OverBits bits.And None) ((false, codes "@@a", None) ∷ []) ∷ Accums (OverBits bits.BitwiseOr None) ((false, codes "@@p", None) ∷ []) ∷ Accums (OverBits bits.BitwiseAnd None) ((false, codes "@@q", None) ∷ []) ∷ []) (stmts (ChangeGlobal (codes "@@o") (Adds (Plain (Truth true))) ∷
    ChangeGlobal (codes "@@a") (Adds (Plain (Truth false))) ∷
    ChangeGlobal (codes "@@p") (Adds (Plain (Number 5))) ∷
    ChangeGlobal (codes "@@p") (Adds (Plain (Number 2))) ∷
    ChangeGlobal (codes "@@q") (Adds (Plain (Number 6))) ∷
    Print (Whole (item (Global (codes "@@o")) (codes "@@o")) ∷ Whole (item (Global (codes "@@a")) (codes "@@a")) ∷ Whole (item (Global (codes "@@p")) (codes "@@p")) ∷ Whole (item (Global (codes "@@q")) (codes "@@q")) ∷ []) ∷
    [])) ≡ codes "{\"error\":false,\"message\":\"\",\"results\":[{\"@@o\":true,\"@@a\":false,\"@@p\":7,\"@@q\":6}]}\n"
unfolding fraction_text error_text digits
truths_and_bits = refl

-- MinAccum<INT> @@m = 3; @@m += 5; PRINT @@m AS a; @@m = 7; PRINT @@m AS b; @@m += 6; PRINT @@m AS c;
an_opening_and_a_setting : says persons (Accums (OverElem plain.Min (OfBase Ints)) ((false, codes "@@m", (Some (Number 3))) ∷ []) ∷ []) (stmts (ChangeGlobal (codes "@@m") (Adds (Plain (Number 5))) ∷
    Print (Whole (item (Global (codes "@@m")) (codes "a")) ∷ []) ∷
    ChangeGlobal (codes "@@m") (Puts (Number 7)) ∷
    Print (Whole (item (Global (codes "@@m")) (codes "b")) ∷ []) ∷
    ChangeGlobal (codes "@@m") (Adds (Plain (Number 6))) ∷
    Print (Whole (item (Global (codes "@@m")) (codes "c")) ∷ []) ∷
    [])) ≡ codes "{\"error\":false,\"message\":\"\",\"results\":[{\"a\":3},{\"b\":7},{\"c\":6}]}\n"
unfolding fraction_text error_text digits
an_opening_and_a_setting = refl

-- SumAccum<UINT> @@u; @@u += -1;
an_input_is_converted : says persons (Accums (OverElem plain.Sum (OfBase UInts)) ((false, codes "@@u", None) ∷ []) ∷ []) (stmts (ChangeGlobal (codes "@@u") (Adds (Plain (Neg 1 (Number 1)))) ∷
    [])) ≡ codes "{\"error\":true,\"message\":\"line 8: number out of range\"}\n"
unfolding fraction_text error_text digits
an_input_is_converted = refl
