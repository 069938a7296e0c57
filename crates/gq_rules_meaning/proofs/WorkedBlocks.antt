-- WorkedBlocks: WHERE and ACCUM, each as a whole query with the line that it prints.
use Rattle.std.proofs.Common.{◌≡◌, true, false, [], ◌∷◌, pos, negsuc, Some, None, refl}
use Rattle.std.specs.Prelude.{codes}
use Rattle.std.specs.Fmt.{digits}
use Rattle.gq_rules_typing.specs.AddSign.TheVariants as add
use Rattle.gq_rules_typing.specs.MulSign.TheVariants as times
use Rattle.gq_rules_typing.specs.CmpSign.TheVariants as cmp
use Rattle.gq_rules_typing.specs.Plain.TheVariants as plain
use Rattle.gq_rules_typing.specs.Tree.{Number, Text, Global, Name, Post, Mul, Sum, Cmp, Field, Method, Attached}
use Rattle.gq_rules_typing.specs.View.{trees_of, parts_of, factors_of, terms_of}
use Rattle.gq_rules_typing.specs.Selecting.{Plain, Adds, AtAlias, AtGlobal, Choose, otherwise, when, Every, These, Nowhere}
use Rattle.gq_rules_typing.specs.Statements.{Ints, Strings, OfBase, OverElem, AllOf, Seeds, Selects, Sets, Whole, Selection, Assign, Print, Accums}
use Rattle.gq_rules_typing.proofs.Written.{acts, stmts, item, hop, selecting}
use Rattle.gq_json.specs.Average.{fraction_text}
use Rattle.gq_json.specs.Json.{error_text}
use Rattle.gq_rules_meaning.proofs.Examples.{says, persons, persons_by, near, met}

-- SumAccum<INT> @n = 1; S = {person.*}; T = SELECT t FROM S:s -(knows:e)-> person:t ACCUM t.@n += s.@n + 1; PRINT S[S.@n AS n];
accum_reads_from_before : says persons (Accums (OverElem plain.Sum (OfBase Ints)) ((true, codes "@n", (Some (Number 1))) ∷ []) ∷ []) (stmts (Assign (codes "S") None (Sets (Seeds (AllOf (codes "person") ∷ [])) []) ∷
    Assign (codes "T") None (Selects (record (selecting (codes "t") (codes "S") (Some (codes "s")) (hop (These (codes "knows" ∷ [])) (Some (codes "e")) (These (codes "person" ∷ [])) (Some (codes "t")))) { accum = (acts ((AtAlias (codes "t") (codes "@n") (Adds (Plain (Sum (Post (Name (codes "s")) (parts_of ((Attached (codes "@n")) ∷ []))) (terms_of ((add.Plus, (Number 1)) ∷ [])))))) ∷ [])) })) ∷
    Print (Selection (codes "S") ((item (Post (Name (codes "S")) (parts_of ((Attached (codes "@n")) ∷ []))) (codes "n")) ∷ []) (codes "S") ∷ []) ∷
    [])) ≡ codes "{\"error\":false,\"message\":\"\",\"results\":[{\"S\":[{\"v_id\":\"a\",\"v_type\":\"person\",\"attributes\":{\"n\":1}},{\"v_id\":\"b\",\"v_type\":\"person\",\"attributes\":{\"n\":3}},{\"v_id\":\"c\",\"v_type\":\"person\",\"attributes\":{\"n\":5}}]}]}\n"
unfolding fraction_text error_text digits
accum_reads_from_before = refl

-- SumAccum<INT> @@s; S = {person.*}; T = SELECT t FROM S:s -(knows:e)-> person:t ACCUM @@s += e.w; PRINT @@s;
only_the_final_sum_is_judged : says (persons_by (pos 9223372036854775807) (pos 1) (negsuc 0)) (Accums (OverElem plain.Sum (OfBase Ints)) ((false, codes "@@s", None) ∷ []) ∷ []) (stmts (Assign (codes "S") None (Sets (Seeds (AllOf (codes "person") ∷ [])) []) ∷
    Assign (codes "T") None (Selects (record (selecting (codes "t") (codes "S") (Some (codes "s")) (hop (These (codes "knows" ∷ [])) (Some (codes "e")) (These (codes "person" ∷ [])) (Some (codes "t")))) { accum = (acts ((AtGlobal (codes "@@s") (Adds (Plain (Post (Name (codes "e")) (parts_of ((Field (codes "w")) ∷ [])))))) ∷ [])) })) ∷
    Print (Whole (item (Global (codes "@@s")) (codes "@@s")) ∷ []) ∷
    [])) ≡ codes "{\"error\":false,\"message\":\"\",\"results\":[{\"@@s\":9223372036854775807}]}\n"
unfolding fraction_text error_text digits
only_the_final_sum_is_judged = refl

-- SumAccum<INT> @@s; S = {person.*}; T = SELECT t FROM S:s -(knows:e)-> person:t ACCUM @@s += e.w; PRINT @@s;
a_sum_out_of_range : says (persons_by (pos 9223372036854775807) (pos 1) (pos 0)) (Accums (OverElem plain.Sum (OfBase Ints)) ((false, codes "@@s", None) ∷ []) ∷ []) (stmts (Assign (codes "S") None (Sets (Seeds (AllOf (codes "person") ∷ [])) []) ∷
    Assign (codes "T") None (Selects (record (selecting (codes "t") (codes "S") (Some (codes "s")) (hop (These (codes "knows" ∷ [])) (Some (codes "e")) (These (codes "person" ∷ [])) (Some (codes "t")))) { accum = (acts ((AtGlobal (codes "@@s") (Adds (Plain (Post (Name (codes "e")) (parts_of ((Field (codes "w")) ∷ [])))))) ∷ [])) })) ∷
    Print (Whole (item (Global (codes "@@s")) (codes "@@s")) ∷ []) ∷
    [])) ≡ codes "{\"error\":true,\"message\":\"line 8: sum out of range in @@s\"}\n"
unfolding fraction_text error_text digits
a_sum_out_of_range = refl

-- SumAccum<INT> @a, @@b; S = {person.*}; T = SELECT t FROM S:s -(knows:e)-> person:t ACCUM @@b += e.w, t.@a += e.w; PRINT 1;
the_first_sum_out_of_range : says (persons_by (pos 0) (pos 9223372036854775807) (pos 1)) (Accums (OverElem plain.Sum (OfBase Ints)) ((true, codes "@a", None) ∷ (false, codes "@@b", None) ∷ []) ∷ []) (stmts (Assign (codes "S") None (Sets (Seeds (AllOf (codes "person") ∷ [])) []) ∷
    Assign (codes "T") None (Selects (record (selecting (codes "t") (codes "S") (Some (codes "s")) (hop (These (codes "knows" ∷ [])) (Some (codes "e")) (These (codes "person" ∷ [])) (Some (codes "t")))) { accum = (acts ((AtGlobal (codes "@@b") (Adds (Plain (Post (Name (codes "e")) (parts_of ((Field (codes "w")) ∷ [])))))) ∷ (AtAlias (codes "t") (codes "@a") (Adds (Plain (Post (Name (codes "e")) (parts_of ((Field (codes "w")) ∷ [])))))) ∷ [])) })) ∷
    Print (Whole (item (Number 1) (codes "1")) ∷ []) ∷
    [])) ≡ codes "{\"error\":true,\"message\":\"line 8: sum out of range in @a\"}\n"
unfolding fraction_text error_text digits
the_first_sum_out_of_range = refl

-- SumAccum<INT> @@s; S = {person.*}; T = SELECT t FROM S:s -(knows:e)-> person:t ACCUM @@s += e.w + 1, @@s += 1 / (e.w - 30);
-- PRINT @@s;
the_first_candidate_that_faults : says (persons_by (pos 9223372036854775807) (pos 20) (pos 30)) (Accums (OverElem plain.Sum (OfBase Ints)) ((false, codes "@@s", None) ∷ []) ∷ []) (stmts (Assign (codes "S") None (Sets (Seeds (AllOf (codes "person") ∷ [])) []) ∷
    Assign (codes "T") None (Selects (record (selecting (codes "t") (codes "S") (Some (codes "s")) (hop (These (codes "knows" ∷ [])) (Some (codes "e")) (These (codes "person" ∷ [])) (Some (codes "t")))) { accum = (acts ((AtGlobal (codes "@@s") (Adds (Plain (Sum (Post (Name (codes "e")) (parts_of ((Field (codes "w")) ∷ []))) (terms_of ((add.Plus, (Number 1)) ∷ [])))))) ∷ (AtGlobal (codes "@@s") (Adds (Plain (Mul (Number 1) (factors_of ((times.Over, (Sum (Post (Name (codes "e")) (parts_of ((Field (codes "w")) ∷ []))) (terms_of ((add.Minus, (Number 30)) ∷ [])))) ∷ [])))))) ∷ [])) })) ∷
    Print (Whole (item (Global (codes "@@s")) (codes "@@s")) ∷ []) ∷
    [])) ≡ codes "{\"error\":true,\"message\":\"line 8: number out of range\"}\n"
unfolding fraction_text error_text digits
the_first_candidate_that_faults = refl

-- SumAccum<INT> @@s; S = {person.*}; T = SELECT t FROM S:s -(knows:e)-> person:t ACCUM @@s += e.w, @@s += 1 / (e.w - 30); PRINT
-- @@s;
a_fault_goes_before_a_sum : says (persons_by (pos 9223372036854775807) (pos 20) (pos 30)) (Accums (OverElem plain.Sum (OfBase Ints)) ((false, codes "@@s", None) ∷ []) ∷ []) (stmts (Assign (codes "S") None (Sets (Seeds (AllOf (codes "person") ∷ [])) []) ∷
    Assign (codes "T") None (Selects (record (selecting (codes "t") (codes "S") (Some (codes "s")) (hop (These (codes "knows" ∷ [])) (Some (codes "e")) (These (codes "person" ∷ [])) (Some (codes "t")))) { accum = (acts ((AtGlobal (codes "@@s") (Adds (Plain (Post (Name (codes "e")) (parts_of ((Field (codes "w")) ∷ [])))))) ∷ (AtGlobal (codes "@@s") (Adds (Plain (Mul (Number 1) (factors_of ((times.Over, (Sum (Post (Name (codes "e")) (parts_of ((Field (codes "w")) ∷ []))) (terms_of ((add.Minus, (Number 30)) ∷ [])))) ∷ [])))))) ∷ [])) })) ∷
    Print (Whole (item (Global (codes "@@s")) (codes "@@s")) ∷ []) ∷
    [])) ≡ codes "{\"error\":true,\"message\":\"line 8: division by zero\"}\n"
unfolding fraction_text error_text digits
a_fault_goes_before_a_sum = refl

-- SumAccum<INT> @@s; S = {person.*}; T = SELECT t FROM S:s -(knows:e)-> person:t WHERE e.w > 15 ACCUM @@s += 1000 / (e.w - 10);
-- PRINT @@s, T.size() AS n;
a_candidate_that_is_no_match_gives_nothing : says persons (Accums (OverElem plain.Sum (OfBase Ints)) ((false, codes "@@s", None) ∷ []) ∷ []) (stmts (Assign (codes "S") None (Sets (Seeds (AllOf (codes "person") ∷ [])) []) ∷
    Assign (codes "T") None (Selects (record (selecting (codes "t") (codes "S") (Some (codes "s")) (hop (These (codes "knows" ∷ [])) (Some (codes "e")) (These (codes "person" ∷ [])) (Some (codes "t")))) { filter = (Some (Cmp (Post (Name (codes "e")) (parts_of ((Field (codes "w")) ∷ []))) cmp.Greater (Number 15))); accum = (acts ((AtGlobal (codes "@@s") (Adds (Plain (Mul (Number 1000) (factors_of ((times.Over, (Sum (Post (Name (codes "e")) (parts_of ((Field (codes "w")) ∷ []))) (terms_of ((add.Minus, (Number 10)) ∷ [])))) ∷ [])))))) ∷ [])) })) ∷
    Print (Whole (item (Global (codes "@@s")) (codes "@@s")) ∷ Whole (item (Post (Name (codes "T")) (parts_of ((Method (codes "size") (trees_of [])) ∷ []))) (codes "n")) ∷ []) ∷
    [])) ≡ codes "{\"error\":false,\"message\":\"\",\"results\":[{\"@@s\":150,\"n\":1}]}\n"
unfolding fraction_text error_text digits
a_candidate_that_is_no_match_gives_nothing = refl

-- SumAccum<INT> @@m, @@w; S = {person.*}; T = SELECT t FROM S:s -(near:e)-> person:t ACCUM @@m += 1, @@w += e.w; PRINT @@m, @@w;
undirected_rows_from_both_ends : says near (Accums (OverElem plain.Sum (OfBase Ints)) ((false, codes "@@m", None) ∷ (false, codes "@@w", None) ∷ []) ∷ []) (stmts (Assign (codes "S") None (Sets (Seeds (AllOf (codes "person") ∷ [])) []) ∷
    Assign (codes "T") None (Selects (record (selecting (codes "t") (codes "S") (Some (codes "s")) (hop (These (codes "near" ∷ [])) (Some (codes "e")) (These (codes "person" ∷ [])) (Some (codes "t")))) { accum = (acts ((AtGlobal (codes "@@m") (Adds (Plain (Number 1)))) ∷ (AtGlobal (codes "@@w") (Adds (Plain (Post (Name (codes "e")) (parts_of ((Field (codes "w")) ∷ [])))))) ∷ [])) })) ∷
    Print (Whole (item (Global (codes "@@m")) (codes "@@m")) ∷ Whole (item (Global (codes "@@w")) (codes "@@w")) ∷ []) ∷
    [])) ≡ codes "{\"error\":false,\"message\":\"\",\"results\":[{\"@@m\":3,\"@@w\":11}]}\n"
unfolding fraction_text error_text digits
undirected_rows_from_both_ends = refl

-- SumAccum<INT> @@m, @@w; S = {person.*}; T = SELECT t FROM S:s -(met:e)-> person:t ACCUM @@m += 1, @@w += e.w; PRINT @@m, @@w;
rows_that_differ_by_discriminator : says met (Accums (OverElem plain.Sum (OfBase Ints)) ((false, codes "@@m", None) ∷ (false, codes "@@w", None) ∷ []) ∷ []) (stmts (Assign (codes "S") None (Sets (Seeds (AllOf (codes "person") ∷ [])) []) ∷
    Assign (codes "T") None (Selects (record (selecting (codes "t") (codes "S") (Some (codes "s")) (hop (These (codes "met" ∷ [])) (Some (codes "e")) (These (codes "person" ∷ [])) (Some (codes "t")))) { accum = (acts ((AtGlobal (codes "@@m") (Adds (Plain (Number 1)))) ∷ (AtGlobal (codes "@@w") (Adds (Plain (Post (Name (codes "e")) (parts_of ((Field (codes "w")) ∷ [])))))) ∷ [])) })) ∷
    Print (Whole (item (Global (codes "@@m")) (codes "@@m")) ∷ Whole (item (Global (codes "@@w")) (codes "@@w")) ∷ []) ∷
    [])) ≡ codes "{\"error\":false,\"message\":\"\",\"results\":[{\"@@m\":4,\"@@w\":100}]}\n"
unfolding fraction_text error_text digits
rows_that_differ_by_discriminator = refl

-- SumAccum<INT> @@d; S = {person.*}; T = SELECT t FROM S:s -(met:e)-> person:t WHERE e.day > 1 ACCUM @@d += e.day; PRINT @@d;
a_discriminator_reads_as_an_attribute : says met (Accums (OverElem plain.Sum (OfBase Ints)) ((false, codes "@@d", None) ∷ []) ∷ []) (stmts (Assign (codes "S") None (Sets (Seeds (AllOf (codes "person") ∷ [])) []) ∷
    Assign (codes "T") None (Selects (record (selecting (codes "t") (codes "S") (Some (codes "s")) (hop (These (codes "met" ∷ [])) (Some (codes "e")) (These (codes "person" ∷ [])) (Some (codes "t")))) { filter = (Some (Cmp (Post (Name (codes "e")) (parts_of ((Field (codes "day")) ∷ []))) cmp.Greater (Number 1))); accum = (acts ((AtGlobal (codes "@@d") (Adds (Plain (Post (Name (codes "e")) (parts_of ((Field (codes "day")) ∷ [])))))) ∷ [])) })) ∷
    Print (Whole (item (Global (codes "@@d")) (codes "@@d")) ∷ []) ∷
    [])) ≡ codes "{\"error\":false,\"message\":\"\",\"results\":[{\"@@d\":4}]}\n"
unfolding fraction_text error_text digits
a_discriminator_reads_as_an_attribute = refl

-- SumAccum<INT> @o, @k; S = {person.*}; T = SELECT s FROM S:s ACCUM s.@o += s.outdegree(), s.@k += s.outdegree("knows"); U =
-- SELECT t FROM S:s -(known_by:e)-> :t WHERE s.age == 3; PRINT U.size() AS n, S[S.@o AS o, S.@k AS k];
degrees_and_reverse_types : says persons (Accums (OverElem plain.Sum (OfBase Ints)) ((true, codes "@o", None) ∷ (true, codes "@k", None) ∷ []) ∷ []) (stmts (Assign (codes "S") None (Sets (Seeds (AllOf (codes "person") ∷ [])) []) ∷
    Assign (codes "T") None (Selects (record (selecting (codes "s") (codes "S") (Some (codes "s")) Nowhere) { accum = (acts ((AtAlias (codes "s") (codes "@o") (Adds (Plain (Post (Name (codes "s")) (parts_of ((Method (codes "outdegree") (trees_of [])) ∷ [])))))) ∷ (AtAlias (codes "s") (codes "@k") (Adds (Plain (Post (Name (codes "s")) (parts_of ((Method (codes "outdegree") (trees_of ((Text (codes "knows")) ∷ []))) ∷ [])))))) ∷ [])) })) ∷
    Assign (codes "U") None (Selects (record (selecting (codes "t") (codes "S") (Some (codes "s")) (hop (These (codes "known_by" ∷ [])) (Some (codes "e")) Every (Some (codes "t")))) { filter = (Some (Cmp (Post (Name (codes "s")) (parts_of ((Field (codes "age")) ∷ []))) cmp.Equal (Number 3))) })) ∷
    Print (Whole (item (Post (Name (codes "U")) (parts_of ((Method (codes "size") (trees_of [])) ∷ []))) (codes "n")) ∷ Selection (codes "S") ((item (Post (Name (codes "S")) (parts_of ((Attached (codes "@o")) ∷ []))) (codes "o")) ∷ (item (Post (Name (codes "S")) (parts_of ((Attached (codes "@k")) ∷ []))) (codes "k")) ∷ []) (codes "S") ∷ []) ∷
    [])) ≡ codes "{\"error\":false,\"message\":\"\",\"results\":[{\"n\":2,\"S\":[{\"v_id\":\"a\",\"v_type\":\"person\",\"attributes\":{\"o\":2,\"k\":2}},{\"v_id\":\"b\",\"v_type\":\"person\",\"attributes\":{\"o\":2,\"k\":1}},{\"v_id\":\"c\",\"v_type\":\"person\",\"attributes\":{\"o\":2,\"k\":0}}]}]}\n"
unfolding fraction_text error_text digits
degrees_and_reverse_types = refl

-- SetAccum<STRING> @@t; S = {person.*}; T = SELECT t FROM S:s -(:e)-> :t WHERE s.age == 2 ACCUM @@t += e.type + s.type; PRINT
-- @@t;
the_type_that_was_walked : says persons (Accums (OverElem plain.Set (OfBase Strings)) ((false, codes "@@t", None) ∷ []) ∷ []) (stmts (Assign (codes "S") None (Sets (Seeds (AllOf (codes "person") ∷ [])) []) ∷
    Assign (codes "T") None (Selects (record (selecting (codes "t") (codes "S") (Some (codes "s")) (hop Every (Some (codes "e")) Every (Some (codes "t")))) { filter = (Some (Cmp (Post (Name (codes "s")) (parts_of ((Field (codes "age")) ∷ []))) cmp.Equal (Number 2))); accum = (acts ((AtGlobal (codes "@@t") (Adds (Plain (Sum (Post (Name (codes "e")) (parts_of ((Field (codes "type")) ∷ []))) (terms_of ((add.Plus, (Post (Name (codes "s")) (parts_of ((Field (codes "type")) ∷ [])))) ∷ [])))))) ∷ [])) })) ∷
    Print (Whole (item (Global (codes "@@t")) (codes "@@t")) ∷ []) ∷
    [])) ≡ codes "{\"error\":false,\"message\":\"\",\"results\":[{\"@@t\":[\"known_byperson\",\"knowsperson\"]}]}\n"
unfolding fraction_text error_text digits
the_type_that_was_walked = refl

-- SumAccum<INT> @@a, @@b, @@c; S = {person.*}; T = SELECT t FROM S:s -(knows:e)-> person:t ACCUM IF e.w < 15 THEN @@a += 1 ELSE
-- IF e.w < 25 THEN @@b += 1 ELSE @@c += 1, @@c += 1 END; PRINT @@a, @@b, @@c;
an_if_in_accum : says persons (Accums (OverElem plain.Sum (OfBase Ints)) ((false, codes "@@a", None) ∷ (false, codes "@@b", None) ∷ (false, codes "@@c", None) ∷ []) ∷ []) (stmts (Assign (codes "S") None (Sets (Seeds (AllOf (codes "person") ∷ [])) []) ∷
    Assign (codes "T") None (Selects (record (selecting (codes "t") (codes "S") (Some (codes "s")) (hop (These (codes "knows" ∷ [])) (Some (codes "e")) (These (codes "person" ∷ [])) (Some (codes "t")))) { accum = (acts ((Choose (when (Cmp (Post (Name (codes "e")) (parts_of ((Field (codes "w")) ∷ []))) cmp.Less (Number 15)) (acts ((AtGlobal (codes "@@a") (Adds (Plain (Number 1)))) ∷ [])) (when (Cmp (Post (Name (codes "e")) (parts_of ((Field (codes "w")) ∷ []))) cmp.Less (Number 25)) (acts ((AtGlobal (codes "@@b") (Adds (Plain (Number 1)))) ∷ [])) (otherwise (acts ((AtGlobal (codes "@@c") (Adds (Plain (Number 1)))) ∷ (AtGlobal (codes "@@c") (Adds (Plain (Number 1)))) ∷ [])))))) ∷ [])) })) ∷
    Print (Whole (item (Global (codes "@@a")) (codes "@@a")) ∷ Whole (item (Global (codes "@@b")) (codes "@@b")) ∷ Whole (item (Global (codes "@@c")) (codes "@@c")) ∷ []) ∷
    [])) ≡ codes "{\"error\":false,\"message\":\"\",\"results\":[{\"@@a\":1,\"@@b\":1,\"@@c\":2}]}\n"
unfolding fraction_text error_text digits
an_if_in_accum = refl
