-- WorkedControl: locals, conditions and loops, each as a whole query with the line that it prints.
use Rattle.std.proofs.Common.{◌≡◌, true, false, [], ◌∷◌, Some, None, refl}
use Rattle.std.specs.Prelude.{codes}
use Rattle.std.specs.Fmt.{digits}
use Rattle.gq_rules_typing.specs.AddSign.TheVariants as add
use Rattle.gq_rules_typing.specs.MulSign.TheVariants as times
use Rattle.gq_rules_typing.specs.CmpSign.TheVariants as cmp
use Rattle.gq_rules_typing.specs.Plain.TheVariants as plain
use Rattle.gq_rules_typing.specs.Tree.{Number, Text, Truth, Global, Name, Neg, Mul, Sum, Cmp}
use Rattle.gq_rules_typing.specs.View.{factors_of, terms_of}
use Rattle.gq_rules_typing.specs.Selecting.{Plain, Adds}
use Rattle.gq_rules_typing.specs.Statements.{Ints, OfBase, OverElem, Expression, Whole, Elements, Range, Local, Assign, ChangeGlobal, If, While, Foreach, Print, else_, if_, Accums}
use Rattle.gq_rules_typing.proofs.Written.{stmts, item}
use Rattle.gq_json.specs.Average.{fraction_text}
use Rattle.gq_json.specs.Json.{error_text}
use Rattle.gq_rules_meaning.proofs.Examples.{says, says_in, persons}

-- SumAccum<INT> @@s; FOREACH i IN RANGE[1, 3] DO @@s += i; END; FOREACH j IN RANGE[3, 1] DO @@s += 100; END; PRINT @@s;
ranges : says persons (Accums (OverElem plain.Sum (OfBase Ints)) ((false, codes "@@s", None) ∷ []) ∷ []) (stmts (Foreach (codes "i") (Range (Number 1) (Number 3)) (stmts (ChangeGlobal (codes "@@s") (Adds (Plain (Name (codes "i")))) ∷ [])) ∷
    Foreach (codes "j") (Range (Number 3) (Number 1)) (stmts (ChangeGlobal (codes "@@s") (Adds (Plain (Number 100))) ∷ [])) ∷
    Print (Whole (item (Global (codes "@@s")) (codes "@@s")) ∷ []) ∷
    [])) ≡ codes "{\"error\":false,\"message\":\"\",\"results\":[{\"@@s\":6}]}\n"
unfolding fraction_text error_text digits
ranges = refl

-- WHILE TRUE DO PRINT 1; END;
all_turns_taken : says_in persons 3 [] (stmts (While (Truth true) None (stmts (Print (Whole (item (Number 1) (codes "1")) ∷ []) ∷ [])) ∷
    [])) ≡ codes "{\"error\":true,\"message\":\"line 8: loop bound 3 reached\"}\n"
unfolding fraction_text error_text digits
all_turns_taken = refl

-- WHILE TRUE LIMIT 3 DO PRINT 1; END;
a_limit_before_the_turns : says_in persons 3 [] (stmts (While (Truth true) (Some (Number 3)) (stmts (Print (Whole (item (Number 1) (codes "1")) ∷ []) ∷ [])) ∷
    [])) ≡ codes "{\"error\":false,\"message\":\"\",\"results\":[{\"1\":1},{\"1\":1},{\"1\":1}]}\n"
unfolding fraction_text error_text digits
a_limit_before_the_turns = refl

-- WHILE 1 / 0 == 1 LIMIT -5 DO PRINT 1; END; PRINT 2;
a_limit_of_none : says persons [] (stmts (While (Cmp (Mul (Number 1) (factors_of ((times.Over, (Number 0)) ∷ []))) cmp.Equal (Number 1)) (Some (Neg 1 (Number 5))) (stmts (Print (Whole (item (Number 1) (codes "1")) ∷ []) ∷ [])) ∷
    Print (Whole (item (Number 2) (codes "2")) ∷ []) ∷
    [])) ≡ codes "{\"error\":false,\"message\":\"\",\"results\":[{\"2\":2}]}\n"
unfolding fraction_text error_text digits
a_limit_of_none = refl

-- WHILE FALSE DO PRINT 1; END; FOREACH i IN RANGE[1, 2] DO PRINT i; END;
a_condition_takes_no_turn : says_in persons 2 [] (stmts (While (Truth false) None (stmts (Print (Whole (item (Number 1) (codes "1")) ∷ []) ∷ [])) ∷
    Foreach (codes "i") (Range (Number 1) (Number 2)) (stmts (Print (Whole (item (Name (codes "i")) (codes "i")) ∷ []) ∷ [])) ∷
    [])) ≡ codes "{\"error\":false,\"message\":\"\",\"results\":[{\"i\":1},{\"i\":2}]}\n"
unfolding fraction_text error_text digits
a_condition_takes_no_turn = refl

-- FOREACH i IN RANGE[1, 2] DO FOREACH j IN RANGE[1, 2] DO PRINT i * 10 + j AS n; END; END;
turns_are_of_the_whole_run : says_in persons 5 [] (stmts (Foreach (codes "i") (Range (Number 1) (Number 2)) (stmts (Foreach (codes "j") (Range (Number 1) (Number 2)) (stmts (Print (Whole (item (Sum (Mul (Name (codes "i")) (factors_of ((times.Times, (Number 10)) ∷ []))) (terms_of ((add.Plus, (Name (codes "j"))) ∷ []))) (codes "n")) ∷ []) ∷ [])) ∷ [])) ∷
    [])) ≡ codes "{\"error\":true,\"message\":\"line 8: loop bound 5 reached\"}\n"
unfolding fraction_text error_text digits
turns_are_of_the_whole_run = refl

-- FOREACH i IN RANGE[1, 2] DO INT n; n = n + i; PRINT n; END;
a_local_begins_anew : says persons [] (stmts (Foreach (codes "i") (Range (Number 1) (Number 2)) (stmts (Local Ints ((codes "n", None) ∷ []) ∷ Assign (codes "n") None (Expression (Sum (Name (codes "n")) (terms_of ((add.Plus, (Name (codes "i"))) ∷ [])))) ∷ Print (Whole (item (Name (codes "n")) (codes "n")) ∷ []) ∷ [])) ∷
    [])) ≡ codes "{\"error\":false,\"message\":\"\",\"results\":[{\"n\":1},{\"n\":2}]}\n"
unfolding fraction_text error_text digits
a_local_begins_anew = refl

-- FOREACH i IN RANGE[18446744073709551615, 1 / 0] DO PRINT i; END;
both_ends_are_evaluated_and_then_converted : says persons [] (stmts (Foreach (codes "i") (Range (Number 18446744073709551615) (Mul (Number 1) (factors_of ((times.Over, (Number 0)) ∷ [])))) (stmts (Print (Whole (item (Name (codes "i")) (codes "i")) ∷ []) ∷ [])) ∷
    [])) ≡ codes "{\"error\":true,\"message\":\"line 8: division by zero\"}\n"
unfolding fraction_text error_text digits
both_ends_are_evaluated_and_then_converted = refl

-- FOREACH i IN RANGE[18446744073709551614, 18446744073709551615] DO PRINT i; END;
an_unsigned_range : says persons [] (stmts (Foreach (codes "i") (Range (Number 18446744073709551614) (Number 18446744073709551615)) (stmts (Print (Whole (item (Name (codes "i")) (codes "i")) ∷ []) ∷ [])) ∷
    [])) ≡ codes "{\"error\":false,\"message\":\"\",\"results\":[{\"i\":18446744073709551614},{\"i\":18446744073709551615}]}\n"
unfolding fraction_text error_text digits
an_unsigned_range = refl

-- ListAccum<INT> @@l; @@l += 1; @@l += 2; FOREACH i IN @@l DO @@l += i; END; PRINT @@l;
over_a_collection_at_the_start : says persons (Accums (OverElem plain.List (OfBase Ints)) ((false, codes "@@l", None) ∷ []) ∷ []) (stmts (ChangeGlobal (codes "@@l") (Adds (Plain (Number 1))) ∷
    ChangeGlobal (codes "@@l") (Adds (Plain (Number 2))) ∷
    Foreach (codes "i") (Elements (Global (codes "@@l"))) (stmts (ChangeGlobal (codes "@@l") (Adds (Plain (Name (codes "i")))) ∷ [])) ∷
    Print (Whole (item (Global (codes "@@l")) (codes "@@l")) ∷ []) ∷
    [])) ≡ codes "{\"error\":false,\"message\":\"\",\"results\":[{\"@@l\":[1,2,1,2]}]}\n"
unfolding fraction_text error_text digits
over_a_collection_at_the_start = refl

-- FOREACH i IN RANGE[1, 3] DO IF i == 1 THEN PRINT "a"; ELSE IF i == 2 THEN PRINT "b"; ELSE PRINT "c"; END; END;
branches : says persons [] (stmts (Foreach (codes "i") (Range (Number 1) (Number 3)) (stmts (If (if_ (Cmp (Name (codes "i")) cmp.Equal (Number 1)) (stmts (Print (Whole (item (Text (codes "a")) (codes "\"a\"")) ∷ []) ∷ [])) (if_ (Cmp (Name (codes "i")) cmp.Equal (Number 2)) (stmts (Print (Whole (item (Text (codes "b")) (codes "\"b\"")) ∷ []) ∷ [])) (else_ (stmts (Print (Whole (item (Text (codes "c")) (codes "\"c\"")) ∷ []) ∷ []))))) ∷ [])) ∷
    [])) ≡ codes "{\"error\":false,\"message\":\"\",\"results\":[{\"\\\"a\\\"\":\"a\"},{\"\\\"b\\\"\":\"b\"},{\"\\\"c\\\"\":\"c\"}]}\n"
unfolding fraction_text error_text digits
branches = refl

-- PRINT 1; PRINT 1 / 0 AS x;
a_fault_hides_what_was_printed : says persons [] (stmts (Print (Whole (item (Number 1) (codes "1")) ∷ []) ∷
    Print (Whole (item (Mul (Number 1) (factors_of ((times.Over, (Number 0)) ∷ []))) (codes "x")) ∷ []) ∷
    [])) ≡ codes "{\"error\":true,\"message\":\"line 8: division by zero\"}\n"
unfolding fraction_text error_text digits
a_fault_hides_what_was_printed = refl
