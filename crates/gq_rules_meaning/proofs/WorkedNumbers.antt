-- WorkedNumbers: numbers, texts and truths, each as a whole query with the line that it prints.
use Rattle.std.proofs.Common.{◌≡◌, true, false, [], ◌∷◌, Some, refl}
use Rattle.std.specs.Prelude.{codes}
use Rattle.std.specs.Fmt.{digits}
use Rattle.gq_rules_typing.specs.AddSign.TheVariants as add
use Rattle.gq_rules_typing.specs.MulSign.TheVariants as times
use Rattle.gq_rules_typing.specs.CmpSign.TheVariants as cmp
use Rattle.gq_rules_typing.specs.Tree.{Number, Text, Truth, Name, Call, Neg, Mul, Sum, Cmp, Not, And, Or}
use Rattle.gq_rules_typing.specs.View.{trees_of, factors_of, terms_of}
use Rattle.gq_rules_typing.specs.Statements.{Ints, UInts, Whole, Local, Print, TupleType}
use Rattle.gq_rules_typing.proofs.Written.{stmts, item}
use Rattle.gq_json.specs.Average.{fraction_text}
use Rattle.gq_json.specs.Json.{error_text}
use Rattle.gq_rules_meaning.proofs.Examples.{says, persons}

-- PRINT 7 AS n;
a_number : says persons [] (stmts (Print (Whole (item (Number 7) (codes "n")) ∷ []) ∷
    [])) ≡ codes "{\"error\":false,\"message\":\"\",\"results\":[{\"n\":7}]}\n"
unfolding fraction_text error_text digits
a_number = refl

-- PRINT 18446744073709551615 AS u, -9223372036854775808 AS i;
the_widest_numbers : says persons [] (stmts (Print (Whole (item (Number 18446744073709551615) (codes "u")) ∷ Whole (item (Neg 1 (Number 9223372036854775808)) (codes "i")) ∷ []) ∷
    [])) ≡ codes "{\"error\":false,\"message\":\"\",\"results\":[{\"u\":18446744073709551615,\"i\":-9223372036854775808}]}\n"
unfolding fraction_text error_text digits
the_widest_numbers = refl

-- PRINT 9223372036854775807 + 1 AS x;
past_the_widest : says persons [] (stmts (Print (Whole (item (Sum (Number 9223372036854775807) (terms_of ((add.Plus, (Number 1)) ∷ []))) (codes "x")) ∷ []) ∷
    [])) ≡ codes "{\"error\":true,\"message\":\"line 8: number out of range\"}\n"
unfolding fraction_text error_text digits
past_the_widest = refl

-- PRINT 1 / 0 AS x;
by_zero : says persons [] (stmts (Print (Whole (item (Mul (Number 1) (factors_of ((times.Over, (Number 0)) ∷ []))) (codes "x")) ∷ []) ∷
    [])) ≡ codes "{\"error\":true,\"message\":\"line 8: division by zero\"}\n"
unfolding fraction_text error_text digits
by_zero = refl

-- PRINT FALSE AND 1 / 0 == 1 AS x, -7 / 2 AS y, -7 % 2 AS z;
left_decides_and_division_cuts : says persons [] (stmts (Print (Whole (item (And (Truth false) (trees_of ((Cmp (Mul (Number 1) (factors_of ((times.Over, (Number 0)) ∷ []))) cmp.Equal (Number 1)) ∷ []))) (codes "x")) ∷ Whole (item (Mul (Neg 1 (Number 7)) (factors_of ((times.Over, (Number 2)) ∷ []))) (codes "y")) ∷ Whole (item (Mul (Neg 1 (Number 7)) (factors_of ((times.Modulo, (Number 2)) ∷ []))) (codes "z")) ∷ []) ∷
    [])) ≡ codes "{\"error\":false,\"message\":\"\",\"results\":[{\"x\":false,\"y\":-3,\"z\":-1}]}\n"
unfolding fraction_text error_text digits
left_decides_and_division_cuts = refl

-- PRINT TRUE OR 1 / 0 == 1 AS x;
or_leaves_out_its_right_side : says persons [] (stmts (Print (Whole (item (Or (Truth true) (trees_of ((Cmp (Mul (Number 1) (factors_of ((times.Over, (Number 0)) ∷ []))) cmp.Equal (Number 1)) ∷ []))) (codes "x")) ∷ []) ∷
    [])) ≡ codes "{\"error\":false,\"message\":\"\",\"results\":[{\"x\":true}]}\n"
unfolding fraction_text error_text digits
or_leaves_out_its_right_side = refl

-- PRINT TRUE AND 1 / 0 == 1 AS x;
a_chain_goes_on_where_the_left_does_not_decide : says persons [] (stmts (Print (Whole (item (And (Truth true) (trees_of ((Cmp (Mul (Number 1) (factors_of ((times.Over, (Number 0)) ∷ []))) cmp.Equal (Number 1)) ∷ []))) (codes "x")) ∷ []) ∷
    [])) ≡ codes "{\"error\":true,\"message\":\"line 8: division by zero\"}\n"
unfolding fraction_text error_text digits
a_chain_goes_on_where_the_left_does_not_decide = refl

-- PRINT -18446744073709551615 AS x;
minus_gives_an_int : says persons [] (stmts (Print (Whole (item (Neg 1 (Number 18446744073709551615)) (codes "x")) ∷ []) ∷
    [])) ≡ codes "{\"error\":true,\"message\":\"line 8: number out of range\"}\n"
unfolding fraction_text error_text digits
minus_gives_an_int = refl

-- UINT u = 18446744073709551615; PRINT u - 1 AS x;
two_unsigned_numbers_stay_unsigned : says persons [] (stmts (Local UInts ((codes "u", (Some (Number 18446744073709551615))) ∷ []) ∷
    Print (Whole (item (Sum (Name (codes "u")) (terms_of ((add.Minus, (Number 1)) ∷ []))) (codes "x")) ∷ []) ∷
    [])) ≡ codes "{\"error\":true,\"message\":\"line 8: number out of range\"}\n"
unfolding fraction_text error_text digits
two_unsigned_numbers_stay_unsigned = refl

-- UINT u = 18446744073709551615; UINT v = 1; PRINT u - v AS x, v - u AS y;
two_unsigned_numbers : says persons [] (stmts (Local UInts ((codes "u", (Some (Number 18446744073709551615))) ∷ []) ∷
    Local UInts ((codes "v", (Some (Number 1))) ∷ []) ∷
    Print (Whole (item (Sum (Name (codes "u")) (terms_of ((add.Minus, (Name (codes "v"))) ∷ []))) (codes "x")) ∷ Whole (item (Sum (Name (codes "v")) (terms_of ((add.Minus, (Name (codes "u"))) ∷ []))) (codes "y")) ∷ []) ∷
    [])) ≡ codes "{\"error\":true,\"message\":\"line 8: number out of range\"}\n"
unfolding fraction_text error_text digits
two_unsigned_numbers = refl

-- PRINT 10 - 3 - 2 AS x, 100 / 7 * 7 AS y, 7 % 4 * 2 AS z;
a_chain_from_the_left : says persons [] (stmts (Print (Whole (item (Sum (Number 10) (terms_of ((add.Minus, (Number 3)) ∷ (add.Minus, (Number 2)) ∷ []))) (codes "x")) ∷ Whole (item (Mul (Number 100) (factors_of ((times.Over, (Number 7)) ∷ (times.Times, (Number 7)) ∷ []))) (codes "y")) ∷ Whole (item (Mul (Number 7) (factors_of ((times.Modulo, (Number 4)) ∷ (times.Times, (Number 2)) ∷ []))) (codes "z")) ∷ []) ∷
    [])) ≡ codes "{\"error\":false,\"message\":\"\",\"results\":[{\"x\":5,\"y\":98,\"z\":6}]}\n"
unfolding fraction_text error_text digits
a_chain_from_the_left = refl

-- PRINT "a" + "b" + to_string(-5) + to_string(TRUE) AS t, "ab" < "b" AS x, abs(-3) AS y;
texts : says persons [] (stmts (Print (Whole (item (Sum (Text (codes "a")) (terms_of ((add.Plus, (Text (codes "b"))) ∷ (add.Plus, (Call (codes "to_string") (trees_of ((Neg 1 (Number 5)) ∷ [])))) ∷ (add.Plus, (Call (codes "to_string") (trees_of ((Truth true) ∷ [])))) ∷ []))) (codes "t")) ∷ Whole (item (Cmp (Text (codes "ab")) cmp.Less (Text (codes "b"))) (codes "x")) ∷ Whole (item (Call (codes "abs") (trees_of ((Neg 1 (Number 3)) ∷ []))) (codes "y")) ∷ []) ∷
    [])) ≡ codes "{\"error\":false,\"message\":\"\",\"results\":[{\"t\":\"ab-5true\",\"x\":true,\"y\":3}]}\n"
unfolding fraction_text error_text digits
texts = refl

-- UINT u = 5; PRINT u == 5 AS a, -1 < u AS b, u <> 6 AS c, NOT u >= 5 AS d;
comparisons_by_value : says persons [] (stmts (Local UInts ((codes "u", (Some (Number 5))) ∷ []) ∷
    Print (Whole (item (Cmp (Name (codes "u")) cmp.Equal (Number 5)) (codes "a")) ∷ Whole (item (Cmp (Neg 1 (Number 1)) cmp.Less (Name (codes "u"))) (codes "b")) ∷ Whole (item (Cmp (Name (codes "u")) cmp.NotEqual (Number 6)) (codes "c")) ∷ Whole (item (Not 1 (Cmp (Name (codes "u")) cmp.GreaterOrEqual (Number 5))) (codes "d")) ∷ []) ∷
    [])) ≡ codes "{\"error\":false,\"message\":\"\",\"results\":[{\"a\":true,\"b\":true,\"c\":true,\"d\":false}]}\n"
unfolding fraction_text error_text digits
comparisons_by_value = refl

-- TYPEDEF TUPLE<INT a, INT b> P; PRINT P(18446744073709551615, 1 / 0) AS p;
arguments_are_converted_one_by_one : says persons (TupleType ((Ints, codes "a") ∷ (Ints, codes "b") ∷ []) (codes "P") ∷ []) (stmts (Print (Whole (item (Call (codes "P") (trees_of ((Number 18446744073709551615) ∷ (Mul (Number 1) (factors_of ((times.Over, (Number 0)) ∷ []))) ∷ []))) (codes "p")) ∷ []) ∷
    [])) ≡ codes "{\"error\":true,\"message\":\"line 8: number out of range\"}\n"
unfolding fraction_text error_text digits
arguments_are_converted_one_by_one = refl

-- PRINT 1 / 0 AS x, 9223372036854775807 + 1 AS y;
printing_ends_at_the_fault : says persons [] (stmts (Print (Whole (item (Mul (Number 1) (factors_of ((times.Over, (Number 0)) ∷ []))) (codes "x")) ∷ Whole (item (Sum (Number 9223372036854775807) (terms_of ((add.Plus, (Number 1)) ∷ []))) (codes "y")) ∷ []) ∷
    [])) ≡ codes "{\"error\":true,\"message\":\"line 8: division by zero\"}\n"
unfolding fraction_text error_text digits
printing_ends_at_the_fault = refl
