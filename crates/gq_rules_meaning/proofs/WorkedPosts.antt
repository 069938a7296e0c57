-- WorkedPosts: POST-ACCUM, each as a whole query with the line that it prints.
use Rattle.std.proofs.Common.{◌≡◌, true, false, [], ◌∷◌, Some, None, refl}
use Rattle.std.specs.Prelude.{codes}
use Rattle.std.specs.Fmt.{digits}
use Rattle.gq_rules_typing.specs.AddSign.TheVariants as add
use Rattle.gq_rules_typing.specs.MulSign.TheVariants as times
use Rattle.gq_rules_typing.specs.CmpSign.TheVariants as cmp
use Rattle.gq_rules_typing.specs.Plain.TheVariants as plain
use Rattle.gq_rules_typing.specs.Tree.{Number, Global, Name, Call, Post, Neg, Mul, Sum, Cmp, Field, Attached, Before}
use Rattle.gq_rules_typing.specs.View.{trees_of, parts_of, factors_of, terms_of}
use Rattle.gq_rules_typing.specs.Selecting.{Plain, Adds, Puts, AtAlias, AtGlobal, Choose, no_act, otherwise, when, These, Nowhere}
use Rattle.gq_rules_typing.specs.Statements.{Ints, OfBase, OverElem, AllOf, Seeds, Selects, Sets, Whole, Selection, Assign, Print, Accums}
use Rattle.gq_rules_typing.proofs.Written.{acts, stmts, item, hop, selecting}
use Rattle.gq_json.specs.Average.{fraction_text}
use Rattle.gq_json.specs.Json.{error_text}
use Rattle.gq_rules_meaning.proofs.Examples.{says, persons}

-- SumAccum<INT> @x = 1, @y = 5, @@d; S = {person.*}; T = SELECT s FROM S:s ACCUM s.@y += 1 POST-ACCUM s.@x = s.@y, s.@y = 0, @@d
-- += abs(s.@x - s.@x'); PRINT @@d, S[S.@x AS x, S.@y AS y];
own_writes_and_before : says persons (Accums (OverElem plain.Sum (OfBase Ints)) ((true, codes "@x", (Some (Number 1))) ∷ (true, codes "@y", (Some (Number 5))) ∷ (false, codes "@@d", None) ∷ []) ∷ []) (stmts (Assign (codes "S") None (Sets (Seeds (AllOf (codes "person") ∷ [])) []) ∷
    Assign (codes "T") None (Selects (record (selecting (codes "s") (codes "S") (Some (codes "s")) Nowhere) { accum = (acts ((AtAlias (codes "s") (codes "@y") (Adds (Plain (Number 1)))) ∷ [])); post = (acts ((AtAlias (codes "s") (codes "@x") (Puts (Post (Name (codes "s")) (parts_of ((Attached (codes "@y")) ∷ []))))) ∷ (AtAlias (codes "s") (codes "@y") (Puts (Number 0))) ∷ (AtGlobal (codes "@@d") (Adds (Plain (Call (codes "abs") (trees_of ((Sum (Post (Name (codes "s")) (parts_of ((Attached (codes "@x")) ∷ []))) (terms_of ((add.Minus, (Post (Name (codes "s")) (parts_of ((Before (codes "@x")) ∷ [])))) ∷ []))) ∷ [])))))) ∷ [])) })) ∷
    Print (Whole (item (Global (codes "@@d")) (codes "@@d")) ∷ Selection (codes "S") ((item (Post (Name (codes "S")) (parts_of ((Attached (codes "@x")) ∷ []))) (codes "x")) ∷ (item (Post (Name (codes "S")) (parts_of ((Attached (codes "@y")) ∷ []))) (codes "y")) ∷ []) (codes "S") ∷ []) ∷
    [])) ≡ codes "{\"error\":false,\"message\":\"\",\"results\":[{\"@@d\":15,\"S\":[{\"v_id\":\"a\",\"v_type\":\"person\",\"attributes\":{\"x\":6,\"y\":0}},{\"v_id\":\"b\",\"v_type\":\"person\",\"attributes\":{\"x\":6,\"y\":0}},{\"v_id\":\"c\",\"v_type\":\"person\",\"attributes\":{\"x\":6,\"y\":0}}]}]}\n"
unfolding fraction_text error_text digits
own_writes_and_before = refl

-- SumAccum<INT> @@n, @@m; S = {person.*}; T = SELECT t FROM S:s -(knows:e)-> person:t POST-ACCUM @@n += 1, @@m += @@n; PRINT @@n,
-- @@m;
once_for_a_vertex_and_globals_from_before : says persons (Accums (OverElem plain.Sum (OfBase Ints)) ((false, codes "@@n", None) ∷ (false, codes "@@m", None) ∷ []) ∷ []) (stmts (Assign (codes "S") None (Sets (Seeds (AllOf (codes "person") ∷ [])) []) ∷
    Assign (codes "T") None (Selects (record (selecting (codes "t") (codes "S") (Some (codes "s")) (hop (These (codes "knows" ∷ [])) (Some (codes "e")) (These (codes "person" ∷ [])) (Some (codes "t")))) { post = (acts ((AtGlobal (codes "@@n") (Adds (Plain (Number 1)))) ∷ (AtGlobal (codes "@@m") (Adds (Plain (Global (codes "@@n"))))) ∷ [])) })) ∷
    Print (Whole (item (Global (codes "@@n")) (codes "@@n")) ∷ Whole (item (Global (codes "@@m")) (codes "@@m")) ∷ []) ∷
    [])) ≡ codes "{\"error\":false,\"message\":\"\",\"results\":[{\"@@n\":2,\"@@m\":0}]}\n"
unfolding fraction_text error_text digits
once_for_a_vertex_and_globals_from_before = refl

-- SumAccum<INT> @@n, @@m, @@k; S = {person.*}; T = SELECT t FROM S:s -(knows:e)-> person:t POST-ACCUM @@n += t.age, @@m += s.age
-- + @@n, @@k += t.age + @@m; PRINT @@n, @@m, @@k;
a_phase_sees_the_phase_before : says persons (Accums (OverElem plain.Sum (OfBase Ints)) ((false, codes "@@n", None) ∷ (false, codes "@@m", None) ∷ (false, codes "@@k", None) ∷ []) ∷ []) (stmts (Assign (codes "S") None (Sets (Seeds (AllOf (codes "person") ∷ [])) []) ∷
    Assign (codes "T") None (Selects (record (selecting (codes "t") (codes "S") (Some (codes "s")) (hop (These (codes "knows" ∷ [])) (Some (codes "e")) (These (codes "person" ∷ [])) (Some (codes "t")))) { post = (acts ((AtGlobal (codes "@@n") (Adds (Plain (Post (Name (codes "t")) (parts_of ((Field (codes "age")) ∷ [])))))) ∷ (AtGlobal (codes "@@m") (Adds (Plain (Sum (Post (Name (codes "s")) (parts_of ((Field (codes "age")) ∷ []))) (terms_of ((add.Plus, (Global (codes "@@n"))) ∷ [])))))) ∷ (AtGlobal (codes "@@k") (Adds (Plain (Sum (Post (Name (codes "t")) (parts_of ((Field (codes "age")) ∷ []))) (terms_of ((add.Plus, (Global (codes "@@m"))) ∷ [])))))) ∷ [])) })) ∷
    Print (Whole (item (Global (codes "@@n")) (codes "@@n")) ∷ Whole (item (Global (codes "@@m")) (codes "@@m")) ∷ Whole (item (Global (codes "@@k")) (codes "@@k")) ∷ []) ∷
    [])) ≡ codes "{\"error\":false,\"message\":\"\",\"results\":[{\"@@n\":5,\"@@m\":13,\"@@k\":31}]}\n"
unfolding fraction_text error_text digits
a_phase_sees_the_phase_before = refl

-- SumAccum<INT> @@n; S = {person.*}; T = SELECT t FROM S:s -(knows:e)-> person:t POST-ACCUM @@n += s.age, @@n += 10; PRINT @@n;
one_that_names_no_alias_is_for_the_selected_one : says persons (Accums (OverElem plain.Sum (OfBase Ints)) ((false, codes "@@n", None) ∷ []) ∷ []) (stmts (Assign (codes "S") None (Sets (Seeds (AllOf (codes "person") ∷ [])) []) ∷
    Assign (codes "T") None (Selects (record (selecting (codes "t") (codes "S") (Some (codes "s")) (hop (These (codes "knows" ∷ [])) (Some (codes "e")) (These (codes "person" ∷ [])) (Some (codes "t")))) { post = (acts ((AtGlobal (codes "@@n") (Adds (Plain (Post (Name (codes "s")) (parts_of ((Field (codes "age")) ∷ [])))))) ∷ (AtGlobal (codes "@@n") (Adds (Plain (Number 10)))) ∷ [])) })) ∷
    Print (Whole (item (Global (codes "@@n")) (codes "@@n")) ∷ []) ∷
    [])) ≡ codes "{\"error\":false,\"message\":\"\",\"results\":[{\"@@n\":23}]}\n"
unfolding fraction_text error_text digits
one_that_names_no_alias_is_for_the_selected_one = refl

-- SumAccum<INT> @x; SumAccum<INT> @@d; S = {person.*}; T = SELECT s FROM S:s POST-ACCUM s.@x += 9223372036854775807, s.@x += 1,
-- s.@x += -1; PRINT 1;
a_write_is_judged_at_once : says persons (Accums (OverElem plain.Sum (OfBase Ints)) ((true, codes "@x", None) ∷ []) ∷ Accums (OverElem plain.Sum (OfBase Ints)) ((false, codes "@@d", None) ∷ []) ∷ []) (stmts (Assign (codes "S") None (Sets (Seeds (AllOf (codes "person") ∷ [])) []) ∷
    Assign (codes "T") None (Selects (record (selecting (codes "s") (codes "S") (Some (codes "s")) Nowhere) { post = (acts ((AtAlias (codes "s") (codes "@x") (Adds (Plain (Number 9223372036854775807)))) ∷ (AtAlias (codes "s") (codes "@x") (Adds (Plain (Number 1)))) ∷ (AtAlias (codes "s") (codes "@x") (Adds (Plain (Neg 1 (Number 1))))) ∷ [])) })) ∷
    Print (Whole (item (Number 1) (codes "1")) ∷ []) ∷
    [])) ≡ codes "{\"error\":true,\"message\":\"line 8: sum out of range in @x\"}\n"
unfolding fraction_text error_text digits
a_write_is_judged_at_once = refl

-- SumAccum<INT> @@d; S = {person.*}; T = SELECT s FROM S:s WHERE s.age == 1 POST-ACCUM @@d += 9223372036854775807, @@d += 1, @@d
-- += -1; PRINT @@d;
an_input_to_a_global_waits : says persons (Accums (OverElem plain.Sum (OfBase Ints)) ((false, codes "@@d", None) ∷ []) ∷ []) (stmts (Assign (codes "S") None (Sets (Seeds (AllOf (codes "person") ∷ [])) []) ∷
    Assign (codes "T") None (Selects (record (selecting (codes "s") (codes "S") (Some (codes "s")) Nowhere) { filter = (Some (Cmp (Post (Name (codes "s")) (parts_of ((Field (codes "age")) ∷ []))) cmp.Equal (Number 1))); post = (acts ((AtGlobal (codes "@@d") (Adds (Plain (Number 9223372036854775807)))) ∷ (AtGlobal (codes "@@d") (Adds (Plain (Number 1)))) ∷ (AtGlobal (codes "@@d") (Adds (Plain (Neg 1 (Number 1))))) ∷ [])) })) ∷
    Print (Whole (item (Global (codes "@@d")) (codes "@@d")) ∷ []) ∷
    [])) ≡ codes "{\"error\":false,\"message\":\"\",\"results\":[{\"@@d\":9223372036854775807}]}\n"
unfolding fraction_text error_text digits
an_input_to_a_global_waits = refl

-- SumAccum<INT> @x; S = {person.*}; T = SELECT s FROM S:s POST-ACCUM IF s.age == 2 THEN s.@x += 1 / 0 END, IF s.age == 1 THEN
-- s.@x = 9223372036854775807 + s.age END; PRINT 1;
the_first_vertex_that_faults : says persons (Accums (OverElem plain.Sum (OfBase Ints)) ((true, codes "@x", None) ∷ []) ∷ []) (stmts (Assign (codes "S") None (Sets (Seeds (AllOf (codes "person") ∷ [])) []) ∷
    Assign (codes "T") None (Selects (record (selecting (codes "s") (codes "S") (Some (codes "s")) Nowhere) { post = (acts ((Choose (when (Cmp (Post (Name (codes "s")) (parts_of ((Field (codes "age")) ∷ []))) cmp.Equal (Number 2)) (acts ((AtAlias (codes "s") (codes "@x") (Adds (Plain (Mul (Number 1) (factors_of ((times.Over, (Number 0)) ∷ [])))))) ∷ [])) (otherwise no_act))) ∷ (Choose (when (Cmp (Post (Name (codes "s")) (parts_of ((Field (codes "age")) ∷ []))) cmp.Equal (Number 1)) (acts ((AtAlias (codes "s") (codes "@x") (Puts (Sum (Number 9223372036854775807) (terms_of ((add.Plus, (Post (Name (codes "s")) (parts_of ((Field (codes "age")) ∷ [])))) ∷ []))))) ∷ [])) (otherwise no_act))) ∷ [])) })) ∷
    Print (Whole (item (Number 1) (codes "1")) ∷ []) ∷
    [])) ≡ codes "{\"error\":true,\"message\":\"line 8: number out of range\"}\n"
unfolding fraction_text error_text digits
the_first_vertex_that_faults = refl

-- SumAccum<INT> @@n, @@m; S = {person.*}; T = SELECT t FROM S:s -(knows:e)-> person:t POST-ACCUM IF t.age == 3 THEN @@n += 1, @@m
-- += @@n ELSE @@m += 10 END; PRINT @@n, @@m;
an_if_is_one_statement : says persons (Accums (OverElem plain.Sum (OfBase Ints)) ((false, codes "@@n", None) ∷ (false, codes "@@m", None) ∷ []) ∷ []) (stmts (Assign (codes "S") None (Sets (Seeds (AllOf (codes "person") ∷ [])) []) ∷
    Assign (codes "T") None (Selects (record (selecting (codes "t") (codes "S") (Some (codes "s")) (hop (These (codes "knows" ∷ [])) (Some (codes "e")) (These (codes "person" ∷ [])) (Some (codes "t")))) { post = (acts ((Choose (when (Cmp (Post (Name (codes "t")) (parts_of ((Field (codes "age")) ∷ []))) cmp.Equal (Number 3)) (acts ((AtGlobal (codes "@@n") (Adds (Plain (Number 1)))) ∷ (AtGlobal (codes "@@m") (Adds (Plain (Global (codes "@@n"))))) ∷ [])) (otherwise (acts ((AtGlobal (codes "@@m") (Adds (Plain (Number 10)))) ∷ []))))) ∷ [])) })) ∷
    Print (Whole (item (Global (codes "@@n")) (codes "@@n")) ∷ Whole (item (Global (codes "@@m")) (codes "@@m")) ∷ []) ∷
    [])) ≡ codes "{\"error\":false,\"message\":\"\",\"results\":[{\"@@n\":1,\"@@m\":10}]}\n"
unfolding fraction_text error_text digits
an_if_is_one_statement = refl
