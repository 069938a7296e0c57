-- WorkedTimes: DATETIME, each as a whole query with the line that it prints.
use Rattle.std.proofs.Common.{◌≡◌, [], ◌∷◌, Some, None, refl}
use Rattle.std.specs.Prelude.{codes}
use Rattle.std.specs.Fmt.{digits}
use Rattle.gq_rules_typing.specs.CmpSign.TheVariants as cmp
use Rattle.gq_rules_typing.specs.Tree.{Number, Text, Name, Call, Post, Cmp, Field, Method}
use Rattle.gq_rules_typing.specs.View.{trees_of, parts_of}
use Rattle.gq_rules_typing.specs.Selecting.{Nowhere}
use Rattle.gq_rules_typing.specs.Statements.{AllOf, Seeds, Selects, Sets, Whole, Assign, Print}
use Rattle.gq_rules_typing.proofs.Written.{stmts, item, selecting}
use Rattle.gq_json.specs.Average.{fraction_text}
use Rattle.gq_json.specs.Json.{error_text}
use Rattle.gq_rules_meaning.proofs.Examples.{says, persons, events}

-- PRINT datetime_diff(to_datetime("2016-03-01"), to_datetime("2016-02-28")) AS d, year(epoch_to_datetime(0)) AS y,
-- datetime_add(to_datetime("2016-01-31"), 1, "MONTH") AS m;
functions_of_times : says persons [] (stmts (Print (Whole (item (Call (codes "datetime_diff") (trees_of ((Call (codes "to_datetime") (trees_of ((Text (codes "2016-03-01")) ∷ []))) ∷ (Call (codes "to_datetime") (trees_of ((Text (codes "2016-02-28")) ∷ []))) ∷ []))) (codes "d")) ∷ Whole (item (Call (codes "year") (trees_of ((Call (codes "epoch_to_datetime") (trees_of ((Number 0) ∷ []))) ∷ []))) (codes "y")) ∷ Whole (item (Call (codes "datetime_add") (trees_of ((Call (codes "to_datetime") (trees_of ((Text (codes "2016-01-31")) ∷ []))) ∷ (Number 1) ∷ (Text (codes "MONTH")) ∷ []))) (codes "m")) ∷ []) ∷
    [])) ≡ codes "{\"error\":false,\"message\":\"\",\"results\":[{\"d\":172800,\"y\":1970,\"m\":\"2016-02-29 00:00:00\"}]}\n"
unfolding fraction_text error_text digits
functions_of_times = refl

-- PRINT to_datetime("2100-02-29") AS x;
a_day_that_is_not_there : says persons [] (stmts (Print (Whole (item (Call (codes "to_datetime") (trees_of ((Text (codes "2100-02-29")) ∷ []))) (codes "x")) ∷ []) ∷
    [])) ≡ codes "{\"error\":true,\"message\":\"line 8: number out of range\"}\n"
unfolding fraction_text error_text digits
a_day_that_is_not_there = refl

-- PRINT month(to_datetime("2016/01/03 04:05:06")) AS m, day(to_datetime("2016/01/03 04:05:06")) AS d,
-- hour(to_datetime("2016/01/03 04:05:06")) AS h, minute(to_datetime("2016/01/03 04:05:06")) AS i, second(to_datetime("2016/01/03
-- 04:05:06")) AS s, datetime_to_epoch(to_datetime("1970-01-02")) AS e;
parts_of_a_time : says persons [] (stmts (Print (Whole (item (Call (codes "month") (trees_of ((Call (codes "to_datetime") (trees_of ((Text (codes "2016/01/03 04:05:06")) ∷ []))) ∷ []))) (codes "m")) ∷ Whole (item (Call (codes "day") (trees_of ((Call (codes "to_datetime") (trees_of ((Text (codes "2016/01/03 04:05:06")) ∷ []))) ∷ []))) (codes "d")) ∷ Whole (item (Call (codes "hour") (trees_of ((Call (codes "to_datetime") (trees_of ((Text (codes "2016/01/03 04:05:06")) ∷ []))) ∷ []))) (codes "h")) ∷ Whole (item (Call (codes "minute") (trees_of ((Call (codes "to_datetime") (trees_of ((Text (codes "2016/01/03 04:05:06")) ∷ []))) ∷ []))) (codes "i")) ∷ Whole (item (Call (codes "second") (trees_of ((Call (codes "to_datetime") (trees_of ((Text (codes "2016/01/03 04:05:06")) ∷ []))) ∷ []))) (codes "s")) ∷ Whole (item (Call (codes "datetime_to_epoch") (trees_of ((Call (codes "to_datetime") (trees_of ((Text (codes "1970-01-02")) ∷ []))) ∷ []))) (codes "e")) ∷ []) ∷
    [])) ≡ codes "{\"error\":false,\"message\":\"\",\"results\":[{\"m\":1,\"d\":3,\"h\":4,\"i\":5,\"s\":6,\"e\":86400}]}\n"
unfolding fraction_text error_text digits
parts_of_a_time = refl

-- PRINT datetime_add(to_datetime("9999-12-31"), 1, "DAY") AS x;
beyond_the_last_year : says persons [] (stmts (Print (Whole (item (Call (codes "datetime_add") (trees_of ((Call (codes "to_datetime") (trees_of ((Text (codes "9999-12-31")) ∷ []))) ∷ (Number 1) ∷ (Text (codes "DAY")) ∷ []))) (codes "x")) ∷ []) ∷
    [])) ≡ codes "{\"error\":true,\"message\":\"line 8: number out of range\"}\n"
unfolding fraction_text error_text digits
beyond_the_last_year = refl

-- E = {event.*}; T = SELECT v FROM E:v WHERE v.at > to_datetime("2016-01-01"); PRINT E, T.size() AS n;
times_as_attributes : says events [] (stmts (Assign (codes "E") None (Sets (Seeds (AllOf (codes "event") ∷ [])) []) ∷
    Assign (codes "T") None (Selects (record (selecting (codes "v") (codes "E") (Some (codes "v")) Nowhere) { filter = (Some (Cmp (Post (Name (codes "v")) (parts_of ((Field (codes "at")) ∷ []))) cmp.Greater (Call (codes "to_datetime") (trees_of ((Text (codes "2016-01-01")) ∷ []))))) })) ∷
    Print (Whole (item (Name (codes "E")) (codes "E")) ∷ Whole (item (Post (Name (codes "T")) (parts_of ((Method (codes "size") (trees_of [])) ∷ []))) (codes "n")) ∷ []) ∷
    [])) ≡ codes "{\"error\":false,\"message\":\"\",\"results\":[{\"E\":[{\"v_id\":\"x\",\"v_type\":\"event\",\"attributes\":{\"at\":\"2015-12-30 00:00:00\"}},{\"v_id\":\"y\",\"v_type\":\"event\",\"attributes\":{\"at\":\"2016-01-03 04:05:06\"}}],\"n\":1}]}\n"
unfolding fraction_text error_text digits
times_as_attributes = refl
