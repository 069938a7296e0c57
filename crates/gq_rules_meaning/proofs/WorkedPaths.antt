-- WorkedPaths: paths of SYNTAX v2, each as a whole query with the line that it prints.
use Rattle.std.proofs.Common.{◌≡◌, true, false, [], ◌∷◌, Some, None, refl}
use Rattle.std.specs.Prelude.{codes}
use Rattle.std.specs.Fmt.{digits}
use Rattle.gq_rules_typing.specs.CmpSign.TheVariants as cmp
use Rattle.gq_rules_typing.specs.Way.TheVariants as way
use Rattle.gq_rules_typing.specs.Plain.TheVariants as plain
use Rattle.gq_rules_typing.specs.Tree.{Number, Global, Name, Post, Cmp, And, Field, Attached}
use Rattle.gq_rules_typing.specs.View.{trees_of, parts_of}
use Rattle.gq_rules_typing.specs.Selecting.{Plain, Adds, AtAlias, AtGlobal, These, Path}
use Rattle.gq_rules_typing.specs.Statements.{Ints, OfBase, OverElem, AllOf, Seeds, Selects, Sets, Whole, Selection, Assign, Print, Accums}
use Rattle.gq_rules_typing.proofs.Written.{acts, stmts, item, selecting}
use Rattle.gq_json.specs.Average.{fraction_text}
use Rattle.gq_json.specs.Json.{error_text}
use Rattle.gq_rules_meaning.proofs.Examples.{says_by_paths, persons, near}

-- SumAccum<INT> @n, @@p; S = {person.*}; T = SELECT t FROM S:s -(knows>)- person -(knows>:f)- person:t ACCUM t.@n += f.w, @@p +=
-- 1; PRINT T[T.@n AS n], @@p;
two_steps_forward : says_by_paths persons (Accums (OverElem plain.Sum (OfBase Ints)) ((true, codes "@n", None) ∷ (false, codes "@@p", None) ∷ []) ∷ []) (stmts (Assign (codes "S") None (Sets (Seeds (AllOf (codes "person") ∷ [])) []) ∷
    Assign (codes "T") None (Selects (record (selecting (codes "t") (codes "S") (Some (codes "s")) (Path (record { ways = ((way.Forward, codes "knows") ∷ []); edge_alias = None; targets = (These (codes "person" ∷ [])); target_alias = None } ∷ record { ways = ((way.Forward, codes "knows") ∷ []); edge_alias = (Some (codes "f")); targets = (These (codes "person" ∷ [])); target_alias = (Some (codes "t")) } ∷ []))) { accum = (acts ((AtAlias (codes "t") (codes "@n") (Adds (Plain (Post (Name (codes "f")) (parts_of ((Field (codes "w")) ∷ [])))))) ∷ (AtGlobal (codes "@@p") (Adds (Plain (Number 1)))) ∷ [])) })) ∷
    Print (Selection (codes "T") ((item (Post (Name (codes "T")) (parts_of ((Attached (codes "@n")) ∷ []))) (codes "n")) ∷ []) (codes "T") ∷ Whole (item (Global (codes "@@p")) (codes "@@p")) ∷ []) ∷
    [])) ≡ codes "{\"error\":false,\"message\":\"\",\"results\":[{\"T\":[{\"v_id\":\"c\",\"v_type\":\"person\",\"attributes\":{\"n\":30}}],\"@@p\":1}]}\n"
unfolding fraction_text error_text digits
two_steps_forward = refl

-- SumAccum<INT> @n, @@p; S = {person.*}; T = SELECT t FROM S:s -(knows>)- person -(<knows:f)- person:t ACCUM t.@n += f.w, @@p +=
-- 1; PRINT T[T.@n AS n], @@p;
there_and_back : says_by_paths persons (Accums (OverElem plain.Sum (OfBase Ints)) ((true, codes "@n", None) ∷ (false, codes "@@p", None) ∷ []) ∷ []) (stmts (Assign (codes "S") None (Sets (Seeds (AllOf (codes "person") ∷ [])) []) ∷
    Assign (codes "T") None (Selects (record (selecting (codes "t") (codes "S") (Some (codes "s")) (Path (record { ways = ((way.Forward, codes "knows") ∷ []); edge_alias = None; targets = (These (codes "person" ∷ [])); target_alias = None } ∷ record { ways = ((way.Backward, codes "knows") ∷ []); edge_alias = (Some (codes "f")); targets = (These (codes "person" ∷ [])); target_alias = (Some (codes "t")) } ∷ []))) { accum = (acts ((AtAlias (codes "t") (codes "@n") (Adds (Plain (Post (Name (codes "f")) (parts_of ((Field (codes "w")) ∷ [])))))) ∷ (AtGlobal (codes "@@p") (Adds (Plain (Number 1)))) ∷ [])) })) ∷
    Print (Selection (codes "T") ((item (Post (Name (codes "T")) (parts_of ((Attached (codes "@n")) ∷ []))) (codes "n")) ∷ []) (codes "T") ∷ Whole (item (Global (codes "@@p")) (codes "@@p")) ∷ []) ∷
    [])) ≡ codes "{\"error\":false,\"message\":\"\",\"results\":[{\"T\":[{\"v_id\":\"a\",\"v_type\":\"person\",\"attributes\":{\"n\":50}},{\"v_id\":\"b\",\"v_type\":\"person\",\"attributes\":{\"n\":60}}],\"@@p\":5}]}\n"
unfolding fraction_text error_text digits
there_and_back = refl

-- SumAccum<INT> @n, @@p; S = {person.*}; T = SELECT t FROM S:s -(knows>)- person -(known_by>:f)- person:t ACCUM t.@n += f.w, @@p
-- += 1; PRINT T[T.@n AS n], @@p;
a_reverse_type_has_its_own_way : says_by_paths persons (Accums (OverElem plain.Sum (OfBase Ints)) ((true, codes "@n", None) ∷ (false, codes "@@p", None) ∷ []) ∷ []) (stmts (Assign (codes "S") None (Sets (Seeds (AllOf (codes "person") ∷ [])) []) ∷
    Assign (codes "T") None (Selects (record (selecting (codes "t") (codes "S") (Some (codes "s")) (Path (record { ways = ((way.Forward, codes "knows") ∷ []); edge_alias = None; targets = (These (codes "person" ∷ [])); target_alias = None } ∷ record { ways = ((way.Forward, codes "known_by") ∷ []); edge_alias = (Some (codes "f")); targets = (These (codes "person" ∷ [])); target_alias = (Some (codes "t")) } ∷ []))) { accum = (acts ((AtAlias (codes "t") (codes "@n") (Adds (Plain (Post (Name (codes "f")) (parts_of ((Field (codes "w")) ∷ [])))))) ∷ (AtGlobal (codes "@@p") (Adds (Plain (Number 1)))) ∷ [])) })) ∷
    Print (Selection (codes "T") ((item (Post (Name (codes "T")) (parts_of ((Attached (codes "@n")) ∷ []))) (codes "n")) ∷ []) (codes "T") ∷ Whole (item (Global (codes "@@p")) (codes "@@p")) ∷ []) ∷
    [])) ≡ codes "{\"error\":false,\"message\":\"\",\"results\":[{\"T\":[{\"v_id\":\"a\",\"v_type\":\"person\",\"attributes\":{\"n\":50}},{\"v_id\":\"b\",\"v_type\":\"person\",\"attributes\":{\"n\":60}}],\"@@p\":5}]}\n"
unfolding fraction_text error_text digits
a_reverse_type_has_its_own_way = refl

-- SumAccum<INT> @n, @@p; S = {person.*}; T = SELECT t FROM S:s -(knows>)- person -(<knows|<knows:f)- person:t ACCUM t.@n += f.w,
-- @@p += 1; PRINT T[T.@n AS n], @@p;
a_way_that_is_repeated_counts_once : says_by_paths persons (Accums (OverElem plain.Sum (OfBase Ints)) ((true, codes "@n", None) ∷ (false, codes "@@p", None) ∷ []) ∷ []) (stmts (Assign (codes "S") None (Sets (Seeds (AllOf (codes "person") ∷ [])) []) ∷
    Assign (codes "T") None (Selects (record (selecting (codes "t") (codes "S") (Some (codes "s")) (Path (record { ways = ((way.Forward, codes "knows") ∷ []); edge_alias = None; targets = (These (codes "person" ∷ [])); target_alias = None } ∷ record { ways = ((way.Backward, codes "knows") ∷ (way.Backward, codes "knows") ∷ []); edge_alias = (Some (codes "f")); targets = (These (codes "person" ∷ [])); target_alias = (Some (codes "t")) } ∷ []))) { accum = (acts ((AtAlias (codes "t") (codes "@n") (Adds (Plain (Post (Name (codes "f")) (parts_of ((Field (codes "w")) ∷ [])))))) ∷ (AtGlobal (codes "@@p") (Adds (Plain (Number 1)))) ∷ [])) })) ∷
    Print (Selection (codes "T") ((item (Post (Name (codes "T")) (parts_of ((Attached (codes "@n")) ∷ []))) (codes "n")) ∷ []) (codes "T") ∷ Whole (item (Global (codes "@@p")) (codes "@@p")) ∷ []) ∷
    [])) ≡ codes "{\"error\":false,\"message\":\"\",\"results\":[{\"T\":[{\"v_id\":\"a\",\"v_type\":\"person\",\"attributes\":{\"n\":50}},{\"v_id\":\"b\",\"v_type\":\"person\",\"attributes\":{\"n\":60}}],\"@@p\":5}]}\n"
unfolding fraction_text error_text digits
a_way_that_is_repeated_counts_once = refl

-- SumAccum<INT> @@p; S = {person.*}; T = SELECT t FROM S:s -(near:e)- person:t ACCUM @@p += 1; PRINT @@p;
an_undirected_self_loop_is_one_way : says_by_paths near (Accums (OverElem plain.Sum (OfBase Ints)) ((false, codes "@@p", None) ∷ []) ∷ []) (stmts (Assign (codes "S") None (Sets (Seeds (AllOf (codes "person") ∷ [])) []) ∷
    Assign (codes "T") None (Selects (record (selecting (codes "t") (codes "S") (Some (codes "s")) (Path (record { ways = ((way.Both, codes "near") ∷ []); edge_alias = (Some (codes "e")); targets = (These (codes "person" ∷ [])); target_alias = (Some (codes "t")) } ∷ []))) { accum = (acts ((AtGlobal (codes "@@p") (Adds (Plain (Number 1)))) ∷ [])) })) ∷
    Print (Whole (item (Global (codes "@@p")) (codes "@@p")) ∷ []) ∷
    [])) ≡ codes "{\"error\":false,\"message\":\"\",\"results\":[{\"@@p\":3}]}\n"
unfolding fraction_text error_text digits
an_undirected_self_loop_is_one_way = refl

-- SumAccum<INT> @@p; S = {person.*}; T = SELECT t FROM S:s -(knows>)- person -(<knows)- person -(knows>:f)- person:t WHERE s.age
-- == 1 AND t.age == 3 ACCUM @@p += f.w; PRINT @@p;
three_steps : says_by_paths persons (Accums (OverElem plain.Sum (OfBase Ints)) ((false, codes "@@p", None) ∷ []) ∷ []) (stmts (Assign (codes "S") None (Sets (Seeds (AllOf (codes "person") ∷ [])) []) ∷
    Assign (codes "T") None (Selects (record (selecting (codes "t") (codes "S") (Some (codes "s")) (Path (record { ways = ((way.Forward, codes "knows") ∷ []); edge_alias = None; targets = (These (codes "person" ∷ [])); target_alias = None } ∷ record { ways = ((way.Backward, codes "knows") ∷ []); edge_alias = None; targets = (These (codes "person" ∷ [])); target_alias = None } ∷ record { ways = ((way.Forward, codes "knows") ∷ []); edge_alias = (Some (codes "f")); targets = (These (codes "person" ∷ [])); target_alias = (Some (codes "t")) } ∷ []))) { filter = (Some (And (Cmp (Post (Name (codes "s")) (parts_of ((Field (codes "age")) ∷ []))) cmp.Equal (Number 1)) (trees_of ((Cmp (Post (Name (codes "t")) (parts_of ((Field (codes "age")) ∷ []))) cmp.Equal (Number 3)) ∷ [])))); accum = (acts ((AtGlobal (codes "@@p") (Adds (Plain (Post (Name (codes "f")) (parts_of ((Field (codes "w")) ∷ [])))))) ∷ [])) })) ∷
    Print (Whole (item (Global (codes "@@p")) (codes "@@p")) ∷ []) ∷
    [])) ≡ codes "{\"error\":false,\"message\":\"\",\"results\":[{\"@@p\":70}]}\n"
unfolding fraction_text error_text digits
three_steps = refl
