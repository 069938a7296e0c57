-- WorkedTails: HAVING, ORDER BY, LIMIT and set expressions, each as a whole query with the line that it prints.
use Rattle.std.proofs.Common.{◌≡◌, true, false, [], ◌∷◌, Some, None, refl}
use Rattle.std.specs.Prelude.{codes}
use Rattle.std.specs.Fmt.{digits}
use Rattle.gq_rules_typing.specs.AddSign.TheVariants as add
use Rattle.gq_rules_typing.specs.MulSign.TheVariants as times
use Rattle.gq_rules_typing.specs.CmpSign.TheVariants as cmp
use Rattle.gq_rules_typing.specs.SetOp.TheVariants as op
use Rattle.gq_rules_typing.specs.Plain.TheVariants as plain
use Rattle.gq_rules_typing.specs.Tree.{Number, Truth, Global, Name, Post, Neg, Mul, Sum, Cmp, Field, Method, Attached}
use Rattle.gq_rules_typing.specs.View.{trees_of, parts_of, factors_of, terms_of}
use Rattle.gq_rules_typing.specs.Selecting.{Plain, Adds, AtAlias, AtGlobal, These, Nowhere}
use Rattle.gq_rules_typing.specs.Statements.{Ints, VertexOf, OfBase, OverElem, AllOf, ContentOf, SetNamed, Seeds, AnyType, Selects, Sets, Expression, Whole, Selection, Assign, Print, Accums}
use Rattle.gq_rules_typing.proofs.Written.{acts, stmts, item, hop, selecting}
use Rattle.gq_json.specs.Average.{fraction_text}
use Rattle.gq_json.specs.Json.{error_text}
use Rattle.gq_rules_meaning.proofs.Examples.{says, persons, persons_and_cities}

-- SumAccum<INT> @n; S = {person.*}; T = SELECT t FROM S:s -(knows:e)-> person:t ACCUM t.@n += 1 HAVING t.@n > 1 ORDER BY t.age
-- DESC LIMIT 5; PRINT T[T.@n];
having_order_and_limit : says persons (Accums (OverElem plain.Sum (OfBase Ints)) ((true, codes "@n", None) ∷ []) ∷ []) (stmts (Assign (codes "S") None (Sets (Seeds (AllOf (codes "person") ∷ [])) []) ∷
    Assign (codes "T") None (Selects (record (selecting (codes "t") (codes "S") (Some (codes "s")) (hop (These (codes "knows" ∷ [])) (Some (codes "e")) (These (codes "person" ∷ [])) (Some (codes "t")))) { accum = (acts ((AtAlias (codes "t") (codes "@n") (Adds (Plain (Number 1)))) ∷ [])); having = (Some (Cmp (Post (Name (codes "t")) (parts_of ((Attached (codes "@n")) ∷ []))) cmp.Greater (Number 1))); order = (((Post (Name (codes "t")) (parts_of ((Field (codes "age")) ∷ []))), true) ∷ []); limit = (Some (Number 5)) })) ∷
    Print (Selection (codes "T") ((item (Post (Name (codes "T")) (parts_of ((Attached (codes "@n")) ∷ []))) (codes "T.@n")) ∷ []) (codes "T") ∷ []) ∷
    [])) ≡ codes "{\"error\":false,\"message\":\"\",\"results\":[{\"T\":[{\"v_id\":\"c\",\"v_type\":\"person\",\"attributes\":{\"T.@n\":2}}]}]}\n"
unfolding fraction_text error_text digits
having_order_and_limit = refl

-- S = {person.*}; T = SELECT s FROM S:s ORDER BY s.age DESC LIMIT 2; PRINT T[T.age AS a];
descending : says persons [] (stmts (Assign (codes "S") None (Sets (Seeds (AllOf (codes "person") ∷ [])) []) ∷
    Assign (codes "T") None (Selects (record (selecting (codes "s") (codes "S") (Some (codes "s")) Nowhere) { order = (((Post (Name (codes "s")) (parts_of ((Field (codes "age")) ∷ []))), true) ∷ []); limit = (Some (Number 2)) })) ∷
    Print (Selection (codes "T") ((item (Post (Name (codes "T")) (parts_of ((Field (codes "age")) ∷ []))) (codes "a")) ∷ []) (codes "T") ∷ []) ∷
    [])) ≡ codes "{\"error\":false,\"message\":\"\",\"results\":[{\"T\":[{\"v_id\":\"c\",\"v_type\":\"person\",\"attributes\":{\"a\":3}},{\"v_id\":\"b\",\"v_type\":\"person\",\"attributes\":{\"a\":2}}]}]}\n"
unfolding fraction_text error_text digits
descending = refl

-- S = {person.*}; T = SELECT s FROM S:s ORDER BY s.age % 2, s.type; PRINT T[T.age AS a];
ties_by_number : says persons [] (stmts (Assign (codes "S") None (Sets (Seeds (AllOf (codes "person") ∷ [])) []) ∷
    Assign (codes "T") None (Selects (record (selecting (codes "s") (codes "S") (Some (codes "s")) Nowhere) { order = (((Mul (Post (Name (codes "s")) (parts_of ((Field (codes "age")) ∷ []))) (factors_of ((times.Modulo, (Number 2)) ∷ []))), false) ∷ ((Post (Name (codes "s")) (parts_of ((Field (codes "type")) ∷ []))), false) ∷ []) })) ∷
    Print (Selection (codes "T") ((item (Post (Name (codes "T")) (parts_of ((Field (codes "age")) ∷ []))) (codes "a")) ∷ []) (codes "T") ∷ []) ∷
    [])) ≡ codes "{\"error\":false,\"message\":\"\",\"results\":[{\"T\":[{\"v_id\":\"b\",\"v_type\":\"person\",\"attributes\":{\"a\":2}},{\"v_id\":\"a\",\"v_type\":\"person\",\"attributes\":{\"a\":1}},{\"v_id\":\"c\",\"v_type\":\"person\",\"attributes\":{\"a\":3}}]}]}\n"
unfolding fraction_text error_text digits
ties_by_number = refl

-- S = {person.*}; T = SELECT s FROM S:s LIMIT -1; PRINT T.size() AS n;
a_negative_limit : says persons [] (stmts (Assign (codes "S") None (Sets (Seeds (AllOf (codes "person") ∷ [])) []) ∷
    Assign (codes "T") None (Selects (record (selecting (codes "s") (codes "S") (Some (codes "s")) Nowhere) { limit = (Some (Neg 1 (Number 1))) })) ∷
    Print (Whole (item (Post (Name (codes "T")) (parts_of ((Method (codes "size") (trees_of [])) ∷ []))) (codes "n")) ∷ []) ∷
    [])) ≡ codes "{\"error\":false,\"message\":\"\",\"results\":[{\"n\":0}]}\n"
unfolding fraction_text error_text digits
a_negative_limit = refl

-- S = {person.*}; T = SELECT s FROM S:s WHERE FALSE LIMIT 1 / 0; PRINT 1;
a_limit_is_evaluated_at_last : says persons [] (stmts (Assign (codes "S") None (Sets (Seeds (AllOf (codes "person") ∷ [])) []) ∷
    Assign (codes "T") None (Selects (record (selecting (codes "s") (codes "S") (Some (codes "s")) Nowhere) { filter = (Some (Truth false)); limit = (Some (Mul (Number 1) (factors_of ((times.Over, (Number 0)) ∷ [])))) })) ∷
    Print (Whole (item (Number 1) (codes "1")) ∷ []) ∷
    [])) ≡ codes "{\"error\":true,\"message\":\"line 8: division by zero\"}\n"
unfolding fraction_text error_text digits
a_limit_is_evaluated_at_last = refl

-- S = {person.*}; T = SELECT s FROM S:s HAVING 1 / (s.age - 3) < 9 ORDER BY s.age + 9223372036854775806; PRINT 1;
having_before_keys : says persons [] (stmts (Assign (codes "S") None (Sets (Seeds (AllOf (codes "person") ∷ [])) []) ∷
    Assign (codes "T") None (Selects (record (selecting (codes "s") (codes "S") (Some (codes "s")) Nowhere) { having = (Some (Cmp (Mul (Number 1) (factors_of ((times.Over, (Sum (Post (Name (codes "s")) (parts_of ((Field (codes "age")) ∷ []))) (terms_of ((add.Minus, (Number 3)) ∷ [])))) ∷ []))) cmp.Less (Number 9))); order = (((Sum (Post (Name (codes "s")) (parts_of ((Field (codes "age")) ∷ []))) (terms_of ((add.Plus, (Number 9223372036854775806)) ∷ []))), false) ∷ []) })) ∷
    Print (Whole (item (Number 1) (codes "1")) ∷ []) ∷
    [])) ≡ codes "{\"error\":true,\"message\":\"line 8: division by zero\"}\n"
unfolding fraction_text error_text digits
having_before_keys = refl

-- S = {person.*}; T = SELECT s FROM S:s ORDER BY s.age DESC; U = T; W = U UNION {}; PRINT U[U.age AS a], W[W.age AS a];
a_copied_set_keeps_its_order : says persons [] (stmts (Assign (codes "S") None (Sets (Seeds (AllOf (codes "person") ∷ [])) []) ∷
    Assign (codes "T") None (Selects (record (selecting (codes "s") (codes "S") (Some (codes "s")) Nowhere) { order = (((Post (Name (codes "s")) (parts_of ((Field (codes "age")) ∷ []))), true) ∷ []) })) ∷
    Assign (codes "U") None (Expression (Name (codes "T"))) ∷
    Assign (codes "W") None (Sets (SetNamed (codes "U")) ((op.Union, (Seeds [])) ∷ [])) ∷
    Print (Selection (codes "U") ((item (Post (Name (codes "U")) (parts_of ((Field (codes "age")) ∷ []))) (codes "a")) ∷ []) (codes "U") ∷ Selection (codes "W") ((item (Post (Name (codes "W")) (parts_of ((Field (codes "age")) ∷ []))) (codes "a")) ∷ []) (codes "W") ∷ []) ∷
    [])) ≡ codes "{\"error\":false,\"message\":\"\",\"results\":[{\"U\":[{\"v_id\":\"c\",\"v_type\":\"person\",\"attributes\":{\"a\":3}},{\"v_id\":\"b\",\"v_type\":\"person\",\"attributes\":{\"a\":2}},{\"v_id\":\"a\",\"v_type\":\"person\",\"attributes\":{\"a\":1}}],\"W\":[{\"v_id\":\"a\",\"v_type\":\"person\",\"attributes\":{\"a\":1}},{\"v_id\":\"b\",\"v_type\":\"person\",\"attributes\":{\"a\":2}},{\"v_id\":\"c\",\"v_type\":\"person\",\"attributes\":{\"a\":3}}]}]}\n"
unfolding fraction_text error_text digits
a_copied_set_keeps_its_order = refl

-- S = {person.*}; Z = SELECT s FROM S:s ORDER BY s.age DESC; T = SELECT s FROM Z:s LIMIT 1; PRINT T[T.age AS a];
a_limit_takes_the_first_by_number : says persons [] (stmts (Assign (codes "S") None (Sets (Seeds (AllOf (codes "person") ∷ [])) []) ∷
    Assign (codes "Z") None (Selects (record (selecting (codes "s") (codes "S") (Some (codes "s")) Nowhere) { order = (((Post (Name (codes "s")) (parts_of ((Field (codes "age")) ∷ []))), true) ∷ []) })) ∷
    Assign (codes "T") None (Selects (record (selecting (codes "s") (codes "Z") (Some (codes "s")) Nowhere) { limit = (Some (Number 1)) })) ∷
    Print (Selection (codes "T") ((item (Post (Name (codes "T")) (parts_of ((Field (codes "age")) ∷ []))) (codes "a")) ∷ []) (codes "T") ∷ []) ∷
    [])) ≡ codes "{\"error\":false,\"message\":\"\",\"results\":[{\"T\":[{\"v_id\":\"a\",\"v_type\":\"person\",\"attributes\":{\"a\":1}}]}]}\n"
unfolding fraction_text error_text digits
a_limit_takes_the_first_by_number = refl

-- A = {person.*}; B = SELECT s FROM A:s WHERE s.age > 1; C = A MINUS B; D = C UNION B INTERSECT B; PRINT C[C.age], D.size() AS n;
operators_from_left_to_right : says persons [] (stmts (Assign (codes "A") None (Sets (Seeds (AllOf (codes "person") ∷ [])) []) ∷
    Assign (codes "B") None (Selects (record (selecting (codes "s") (codes "A") (Some (codes "s")) Nowhere) { filter = (Some (Cmp (Post (Name (codes "s")) (parts_of ((Field (codes "age")) ∷ []))) cmp.Greater (Number 1))) })) ∷
    Assign (codes "C") None (Sets (SetNamed (codes "A")) ((op.Minus, (SetNamed (codes "B"))) ∷ [])) ∷
    Assign (codes "D") None (Sets (SetNamed (codes "C")) ((op.Union, (SetNamed (codes "B"))) ∷ (op.Intersect, (SetNamed (codes "B"))) ∷ [])) ∷
    Print (Selection (codes "C") ((item (Post (Name (codes "C")) (parts_of ((Field (codes "age")) ∷ []))) (codes "C.age")) ∷ []) (codes "C") ∷ Whole (item (Post (Name (codes "D")) (parts_of ((Method (codes "size") (trees_of [])) ∷ []))) (codes "n")) ∷ []) ∷
    [])) ≡ codes "{\"error\":false,\"message\":\"\",\"results\":[{\"C\":[{\"v_id\":\"a\",\"v_type\":\"person\",\"attributes\":{\"C.age\":1}}],\"n\":2}]}\n"
unfolding fraction_text error_text digits
operators_from_left_to_right = refl

-- S (ANY) = {person.*}; S = {city.*}; PRINT S.size() AS n;
a_set_of_any_type : says persons_and_cities [] (stmts (Assign (codes "S") (Some AnyType) (Sets (Seeds (AllOf (codes "person") ∷ [])) []) ∷
    Assign (codes "S") None (Sets (Seeds (AllOf (codes "city") ∷ [])) []) ∷
    Print (Whole (item (Post (Name (codes "S")) (parts_of ((Method (codes "size") (trees_of [])) ∷ []))) (codes "n")) ∷ []) ∷
    [])) ≡ codes "{\"error\":false,\"message\":\"\",\"results\":[{\"n\":0}]}\n"
unfolding fraction_text error_text digits
a_set_of_any_type = refl

-- SetAccum<VERTEX<person>> @@v; S = {person.*}; T = SELECT t FROM S:s -(knows:e)-> person:t ACCUM @@v += t; U = {@@v}; PRINT
-- U.size() AS n, @@v;
seeds_from_a_content : says persons (Accums (OverElem plain.Set (OfBase (VertexOf (codes "person")))) ((false, codes "@@v", None) ∷ []) ∷ []) (stmts (Assign (codes "S") None (Sets (Seeds (AllOf (codes "person") ∷ [])) []) ∷
    Assign (codes "T") None (Selects (record (selecting (codes "t") (codes "S") (Some (codes "s")) (hop (These (codes "knows" ∷ [])) (Some (codes "e")) (These (codes "person" ∷ [])) (Some (codes "t")))) { accum = (acts ((AtGlobal (codes "@@v") (Adds (Plain (Name (codes "t"))))) ∷ [])) })) ∷
    Assign (codes "U") None (Sets (Seeds (ContentOf (codes "@@v") ∷ [])) []) ∷
    Print (Whole (item (Post (Name (codes "U")) (parts_of ((Method (codes "size") (trees_of [])) ∷ []))) (codes "n")) ∷ Whole (item (Global (codes "@@v")) (codes "@@v")) ∷ []) ∷
    [])) ≡ codes "{\"error\":false,\"message\":\"\",\"results\":[{\"n\":2,\"@@v\":[\"b\",\"c\"]}]}\n"
unfolding fraction_text error_text digits
seeds_from_a_content = refl

-- SumAccum<INT> @n = 4; S = {person.*}; T = SELECT s FROM S:s WHERE s.age > 2; PRINT T;
a_whole_set : says persons (Accums (OverElem plain.Sum (OfBase Ints)) ((true, codes "@n", (Some (Number 4))) ∷ []) ∷ []) (stmts (Assign (codes "S") None (Sets (Seeds (AllOf (codes "person") ∷ [])) []) ∷
    Assign (codes "T") None (Selects (record (selecting (codes "s") (codes "S") (Some (codes "s")) Nowhere) { filter = (Some (Cmp (Post (Name (codes "s")) (parts_of ((Field (codes "age")) ∷ []))) cmp.Greater (Number 2))) })) ∷
    Print (Whole (item (Name (codes "T")) (codes "T")) ∷ []) ∷
    [])) ≡ codes "{\"error\":false,\"message\":\"\",\"results\":[{\"T\":[{\"v_id\":\"c\",\"v_type\":\"person\",\"attributes\":{\"age\":3,\"@n\":4}}]}]}\n"
unfolding fraction_text error_text digits
a_whole_set = refl
