-- WorkedFinds: cases that are easily misread, each as a whole query with the line that it prints.
use Rattle.std.proofs.Common.{◌≡◌, true, false, [], ◌∷◌, Some, None, refl}
use Rattle.std.specs.Prelude.{codes}
use Rattle.std.specs.Fmt.{digits}
use Rattle.gq_rules_typing.specs.AddSign.TheVariants as add
use Rattle.gq_rules_typing.specs.CmpSign.TheVariants as cmp
use Rattle.gq_rules_typing.specs.Way.TheVariants as way
use Rattle.gq_rules_typing.specs.Plain.TheVariants as plain
use Rattle.gq_rules_typing.specs.Tree.{Number, Truth, Global, Name, Call, Post, Neg, Sum, Cmp, Field, Method, Attached, Before}
use Rattle.gq_rules_typing.specs.View.{trees_of, parts_of, terms_of}
use Rattle.gq_rules_typing.specs.Selecting.{Plain, Keys, Adds, Puts, AtAlias, AtGlobal, Every, These, Nowhere, Path}
use Rattle.gq_rules_typing.specs.Statements.{Ints, UInts, Bools, VertexOf, OfBase, OfTuple, OverElem, MapTo, MapToElem, AllOf, Seeds, Selects, Sets, Whole, Selection, Range, Assign, ChangeGlobal, Foreach, Print, TupleType, Accums}
use Rattle.gq_rules_typing.proofs.Written.{inputs_of, acts, stmts, item, hop, selecting}
use Rattle.gq_json.specs.Average.{fraction_text}
use Rattle.gq_json.specs.Json.{error_text}
use Rattle.gq_rules_meaning.proofs.Examples.{says, says_by_paths, persons, near, nobody, looped}

-- SumAccum<INT> @@s = abs(-5); TYPEDEF TUPLE<INT x> abs; PRINT @@s;
an_opening_before_a_tuple_type : says persons (Accums (OverElem plain.Sum (OfBase Ints)) ((false, codes "@@s", (Some (Call (codes "abs") (trees_of ((Neg 1 (Number 5)) ∷ []))))) ∷ []) ∷ TupleType ((Ints, codes "x") ∷ []) (codes "abs") ∷ []) (stmts (Print (Whole (item (Global (codes "@@s")) (codes "@@s")) ∷ []) ∷
    [])) ≡ codes "{\"error\":false,\"message\":\"\",\"results\":[{\"@@s\":5}]}\n"
unfolding fraction_text error_text digits
an_opening_before_a_tuple_type = refl

-- S = {person.*}; PRINT S[S.size() AS n, S.type AS t] AS x;
the_size_of_the_set_in_a_selection : says persons [] (stmts (Assign (codes "S") None (Sets (Seeds (AllOf (codes "person") ∷ [])) []) ∷
    Print (Selection (codes "S") ((item (Post (Name (codes "S")) (parts_of ((Method (codes "size") (trees_of [])) ∷ []))) (codes "n")) ∷ (item (Post (Name (codes "S")) (parts_of ((Field (codes "type")) ∷ []))) (codes "t")) ∷ []) (codes "x") ∷ []) ∷
    [])) ≡ codes "{\"error\":false,\"message\":\"\",\"results\":[{\"x\":[{\"v_id\":\"a\",\"v_type\":\"person\",\"attributes\":{\"n\":3,\"t\":\"person\"}},{\"v_id\":\"b\",\"v_type\":\"person\",\"attributes\":{\"n\":3,\"t\":\"person\"}},{\"v_id\":\"c\",\"v_type\":\"person\",\"attributes\":{\"n\":3,\"t\":\"person\"}}]}]}\n"
unfolding fraction_text error_text digits
the_size_of_the_set_in_a_selection = refl

-- FOREACH i IN RANGE[1, 2] DO T = SELECT s FROM person:s; person = {}; PRINT T.size() AS n; END;
a_set_of_a_body_hides_a_type_no_longer : says persons [] (stmts (Foreach (codes "i") (Range (Number 1) (Number 2)) (stmts (Assign (codes "T") None (Selects (selecting (codes "s") (codes "person") (Some (codes "s")) Nowhere)) ∷ Assign (codes "person") None (Sets (Seeds []) []) ∷ Print (Whole (item (Post (Name (codes "T")) (parts_of ((Method (codes "size") (trees_of [])) ∷ []))) (codes "n")) ∷ []) ∷ [])) ∷
    [])) ≡ codes "{\"error\":false,\"message\":\"\",\"results\":[{\"n\":3},{\"n\":3}]}\n"
unfolding fraction_text error_text digits
a_set_of_a_body_hides_a_type_no_longer = refl

-- SumAccum<INT> @x = 1, @@d; S = {person.*}; T = SELECT t FROM S:s -(knows:e)-> person:t ACCUM t.@x += 1 POST-ACCUM t.@x = 10,
-- @@d += s.age, @@d += t.@x - t.@x'; PRINT @@d;
three_phases : says persons (Accums (OverElem plain.Sum (OfBase Ints)) ((true, codes "@x", (Some (Number 1))) ∷ (false, codes "@@d", None) ∷ []) ∷ []) (stmts (Assign (codes "S") None (Sets (Seeds (AllOf (codes "person") ∷ [])) []) ∷
    Assign (codes "T") None (Selects (record (selecting (codes "t") (codes "S") (Some (codes "s")) (hop (These (codes "knows" ∷ [])) (Some (codes "e")) (These (codes "person" ∷ [])) (Some (codes "t")))) { accum = (acts ((AtAlias (codes "t") (codes "@x") (Adds (Plain (Number 1)))) ∷ [])); post = (acts ((AtAlias (codes "t") (codes "@x") (Puts (Number 10))) ∷ (AtGlobal (codes "@@d") (Adds (Plain (Post (Name (codes "s")) (parts_of ((Field (codes "age")) ∷ [])))))) ∷ (AtGlobal (codes "@@d") (Adds (Plain (Sum (Post (Name (codes "t")) (parts_of ((Attached (codes "@x")) ∷ []))) (terms_of ((add.Minus, (Post (Name (codes "t")) (parts_of ((Before (codes "@x")) ∷ [])))) ∷ [])))))) ∷ [])) })) ∷
    Print (Whole (item (Global (codes "@@d")) (codes "@@d")) ∷ []) ∷
    [])) ≡ codes "{\"error\":false,\"message\":\"\",\"results\":[{\"@@d\":21}]}\n"
unfolding fraction_text error_text digits
three_phases = refl

-- SumAccum<INT> @@a, @@b; S = {person.*}; T = SELECT s FROM S:s POST-ACCUM @@b += 9223372036854775807, @@a +=
-- 9223372036854775807;
the_first_global_out_of_range : says persons (Accums (OverElem plain.Sum (OfBase Ints)) ((false, codes "@@a", None) ∷ (false, codes "@@b", None) ∷ []) ∷ []) (stmts (Assign (codes "S") None (Sets (Seeds (AllOf (codes "person") ∷ [])) []) ∷
    Assign (codes "T") None (Selects (record (selecting (codes "s") (codes "S") (Some (codes "s")) Nowhere) { post = (acts ((AtGlobal (codes "@@b") (Adds (Plain (Number 9223372036854775807)))) ∷ (AtGlobal (codes "@@a") (Adds (Plain (Number 9223372036854775807)))) ∷ [])) })) ∷
    [])) ≡ codes "{\"error\":true,\"message\":\"line 8: sum out of range in @@a\"}\n"
unfolding fraction_text error_text digits
the_first_global_out_of_range = refl

-- SumAccum<INT> @@n; S = {person.*}; T = SELECT s FROM S:s POST-ACCUM @@n += 1 LIMIT @@n - 1; PRINT T.size() AS k;
a_limit_reads_behind_post_accum : says persons (Accums (OverElem plain.Sum (OfBase Ints)) ((false, codes "@@n", None) ∷ []) ∷ []) (stmts (Assign (codes "S") None (Sets (Seeds (AllOf (codes "person") ∷ [])) []) ∷
    Assign (codes "T") None (Selects (record (selecting (codes "s") (codes "S") (Some (codes "s")) Nowhere) { post = (acts ((AtGlobal (codes "@@n") (Adds (Plain (Number 1)))) ∷ [])); limit = (Some (Sum (Global (codes "@@n")) (terms_of ((add.Minus, (Number 1)) ∷ [])))) })) ∷
    Print (Whole (item (Post (Name (codes "T")) (parts_of ((Method (codes "size") (trees_of [])) ∷ []))) (codes "k")) ∷ []) ∷
    [])) ≡ codes "{\"error\":false,\"message\":\"\",\"results\":[{\"k\":2}]}\n"
unfolding fraction_text error_text digits
a_limit_reads_behind_post_accum = refl

-- S = {person.*}; S = SELECT s FROM S:s WHERE s.age < S.size(); PRINT S.size() AS n;
the_old_set_within_its_block : says persons [] (stmts (Assign (codes "S") None (Sets (Seeds (AllOf (codes "person") ∷ [])) []) ∷
    Assign (codes "S") None (Selects (record (selecting (codes "s") (codes "S") (Some (codes "s")) Nowhere) { filter = (Some (Cmp (Post (Name (codes "s")) (parts_of ((Field (codes "age")) ∷ []))) cmp.Less (Post (Name (codes "S")) (parts_of ((Method (codes "size") (trees_of [])) ∷ []))))) })) ∷
    Print (Whole (item (Post (Name (codes "S")) (parts_of ((Method (codes "size") (trees_of [])) ∷ []))) (codes "n")) ∷ []) ∷
    [])) ≡ codes "{\"error\":false,\"message\":\"\",\"results\":[{\"n\":2}]}\n"
unfolding fraction_text error_text digits
the_old_set_within_its_block = refl

-- SumAccum<UINT> @n = -1; PRINT 1;
an_opening_is_converted : says persons (Accums (OverElem plain.Sum (OfBase UInts)) ((true, codes "@n", (Some (Neg 1 (Number 1)))) ∷ []) ∷ []) (stmts (Print (Whole (item (Number 1) (codes "1")) ∷ []) ∷
    [])) ≡ codes "{\"error\":true,\"message\":\"line 8: number out of range\"}\n"
unfolding fraction_text error_text digits
an_opening_is_converted = refl

-- SumAccum<UINT> @n = -1; PRINT 1;
no_opening_without_a_vertex : says nobody (Accums (OverElem plain.Sum (OfBase UInts)) ((true, codes "@n", (Some (Neg 1 (Number 1)))) ∷ []) ∷ []) (stmts (Print (Whole (item (Number 1) (codes "1")) ∷ []) ∷
    [])) ≡ codes "{\"error\":false,\"message\":\"\",\"results\":[{\"1\":1}]}\n"
unfolding fraction_text error_text digits
no_opening_without_a_vertex = refl

-- SetAccum<UINT> @@s; PRINT @@s.contains(-1) AS x;
what_is_looked_for_is_converted : says persons (Accums (OverElem plain.Set (OfBase UInts)) ((false, codes "@@s", None) ∷ []) ∷ []) (stmts (Print (Whole (item (Post (Global (codes "@@s")) (parts_of ((Method (codes "contains") (trees_of ((Neg 1 (Number 1)) ∷ []))) ∷ []))) (codes "x")) ∷ []) ∷
    [])) ≡ codes "{\"error\":true,\"message\":\"line 8: number out of range\"}\n"
unfolding fraction_text error_text digits
what_is_looked_for_is_converted = refl

-- MapAccum<VERTEX<person>, INT> @@m; S = {person.*}; T = SELECT t FROM S:s -(knows:e)-> person:t ACCUM @@m += (t -> e.w); PRINT
-- @@m;
a_map_by_vertices : says persons (Accums (MapToElem (OfBase (VertexOf (codes "person"))) (OfBase Ints)) ((false, codes "@@m", None) ∷ []) ∷ []) (stmts (Assign (codes "S") None (Sets (Seeds (AllOf (codes "person") ∷ [])) []) ∷
    Assign (codes "T") None (Selects (record (selecting (codes "t") (codes "S") (Some (codes "s")) (hop (These (codes "knows" ∷ [])) (Some (codes "e")) (These (codes "person" ∷ [])) (Some (codes "t")))) { accum = (acts ((AtGlobal (codes "@@m") (Adds (Keys (trees_of ((Name (codes "t")) ∷ [])) (inputs_of ((Plain (Post (Name (codes "e")) (parts_of ((Field (codes "w")) ∷ [])))) ∷ []))))) ∷ [])) })) ∷
    Print (Whole (item (Global (codes "@@m")) (codes "@@m")) ∷ []) ∷
    [])) ≡ codes "{\"error\":false,\"message\":\"\",\"results\":[{\"@@m\":{\"b\":10,\"c\":50}}]}\n"
unfolding fraction_text error_text digits
a_map_by_vertices = refl

-- TYPEDEF TUPLE<INT n, BOOL b> P; SetAccum<P> @@s; @@s += P(2, TRUE); @@s += P(1, TRUE); @@s += P(2, TRUE); PRINT @@s;
a_set_of_tuples : says persons (TupleType ((Ints, codes "n") ∷ (Bools, codes "b") ∷ []) (codes "P") ∷ Accums (OverElem plain.Set (OfTuple (codes "P"))) ((false, codes "@@s", None) ∷ []) ∷ []) (stmts (ChangeGlobal (codes "@@s") (Adds (Plain (Call (codes "P") (trees_of ((Number 2) ∷ (Truth true) ∷ []))))) ∷
    ChangeGlobal (codes "@@s") (Adds (Plain (Call (codes "P") (trees_of ((Number 1) ∷ (Truth true) ∷ []))))) ∷
    ChangeGlobal (codes "@@s") (Adds (Plain (Call (codes "P") (trees_of ((Number 2) ∷ (Truth true) ∷ []))))) ∷
    Print (Whole (item (Global (codes "@@s")) (codes "@@s")) ∷ []) ∷
    [])) ≡ codes "{\"error\":false,\"message\":\"\",\"results\":[{\"@@s\":[{\"n\":1,\"b\":true},{\"n\":2,\"b\":true}]}]}\n"
unfolding fraction_text error_text digits
a_set_of_tuples = refl

-- MapAccum<INT, MinAccum<UINT>> @@m; PRINT @@m.get(1) AS x;
a_key_that_is_not_held : says persons (Accums (MapTo (OfBase Ints) (OverElem plain.Min (OfBase UInts))) ((false, codes "@@m", None) ∷ []) ∷ []) (stmts (Print (Whole (item (Post (Global (codes "@@m")) (parts_of ((Method (codes "get") (trees_of ((Number 1) ∷ []))) ∷ []))) (codes "x")) ∷ []) ∷
    [])) ≡ codes "{\"error\":false,\"message\":\"\",\"results\":[{\"x\":18446744073709551615}]}\n"
unfolding fraction_text error_text digits
a_key_that_is_not_held = refl

-- S = {person.*}; PRINT S[S.outdegree() AS o];
a_self_loop_counts_once : says near [] (stmts (Assign (codes "S") None (Sets (Seeds (AllOf (codes "person") ∷ [])) []) ∷
    Print (Selection (codes "S") ((item (Post (Name (codes "S")) (parts_of ((Method (codes "outdegree") (trees_of [])) ∷ []))) (codes "o")) ∷ []) (codes "S") ∷ []) ∷
    [])) ≡ codes "{\"error\":false,\"message\":\"\",\"results\":[{\"S\":[{\"v_id\":\"a\",\"v_type\":\"person\",\"attributes\":{\"o\":0}},{\"v_id\":\"b\",\"v_type\":\"person\",\"attributes\":{\"o\":1}},{\"v_id\":\"c\",\"v_type\":\"person\",\"attributes\":{\"o\":2}}]}]}\n"
unfolding fraction_text error_text digits
a_self_loop_counts_once = refl

-- SumAccum<INT> @@p; S = {person.*}; T = SELECT t FROM S:s -(knows>|<knows)- person:t ACCUM @@p += 1; PRINT @@p;
a_directed_loop_by_both_ways : says_by_paths looped (Accums (OverElem plain.Sum (OfBase Ints)) ((false, codes "@@p", None) ∷ []) ∷ []) (stmts (Assign (codes "S") None (Sets (Seeds (AllOf (codes "person") ∷ [])) []) ∷
    Assign (codes "T") None (Selects (record (selecting (codes "t") (codes "S") (Some (codes "s")) (Path (record { ways = ((way.Forward, codes "knows") ∷ (way.Backward, codes "knows") ∷ []); edge_alias = None; targets = (These (codes "person" ∷ [])); target_alias = (Some (codes "t")) } ∷ []))) { accum = (acts ((AtGlobal (codes "@@p") (Adds (Plain (Number 1)))) ∷ [])) })) ∷
    Print (Whole (item (Global (codes "@@p")) (codes "@@p")) ∷ []) ∷
    [])) ≡ codes "{\"error\":false,\"message\":\"\",\"results\":[{\"@@p\":2}]}\n"
unfolding fraction_text error_text digits
a_directed_loop_by_both_ways = refl

-- SumAccum<INT> @@p; S = {person.*}; T = SELECT t FROM S:s -(:e)-> :t ACCUM @@p += 1; PRINT @@p;
a_directed_loop_under_both_types : says looped (Accums (OverElem plain.Sum (OfBase Ints)) ((false, codes "@@p", None) ∷ []) ∷ []) (stmts (Assign (codes "S") None (Sets (Seeds (AllOf (codes "person") ∷ [])) []) ∷
    Assign (codes "T") None (Selects (record (selecting (codes "t") (codes "S") (Some (codes "s")) (hop Every (Some (codes "e")) Every (Some (codes "t")))) { accum = (acts ((AtGlobal (codes "@@p") (Adds (Plain (Number 1)))) ∷ [])) })) ∷
    Print (Whole (item (Global (codes "@@p")) (codes "@@p")) ∷ []) ∷
    [])) ≡ codes "{\"error\":false,\"message\":\"\",\"results\":[{\"@@p\":2}]}\n"
unfolding fraction_text error_text digits
a_directed_loop_under_both_types = refl
