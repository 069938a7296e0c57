-- WorkedFriends: seven friends: neighbours of neighbours, and distances by a loop, each as a whole query with the line that it prints.
use Rattle.std.proofs.Common.{◌≡◌, true, false, [], ◌∷◌, Some, None, refl}
use Rattle.std.specs.Prelude.{codes}
use Rattle.std.specs.Fmt.{digits}
use Rattle.gq_rules_typing.specs.AddSign.TheVariants as add
use Rattle.gq_rules_typing.specs.CmpSign.TheVariants as cmp
use Rattle.gq_rules_typing.specs.Plain.TheVariants as plain
use Rattle.gq_rules_typing.specs.Bits.TheVariants as bits
use Rattle.gq_rules_typing.specs.Tree.{Number, Truth, Global, Name, Post, Sum, Cmp, Not, Field, Method, Attached}
use Rattle.gq_rules_typing.specs.View.{trees_of, parts_of, terms_of}
use Rattle.gq_value.specs.Val.{Vertex}
use Rattle.gq_rules_typing.specs.Selecting.{Plain, Adds, AtAlias, AtGlobal, Every, These, Nowhere}
use Rattle.gq_rules_typing.specs.Statements.{Bytes, Query, Ints, VertexOf, OfBase, OverElem, OverBits, Averaged, AllOf, OneVertex, Seeds, Selects, Sets, Expression, Whole, Selection, Local, Assign, While, Print, Accums}
use Rattle.gq_rules_typing.proofs.Written.{acts, stmts, item, hop, selecting}
use Rattle.gq_json.specs.Average.{fraction_text}
use Rattle.gq_json.specs.Json.{error_text}
use Rattle.gq_rules_meaning.proofs.Examples.{answers, friends}

-- { OrAccum @visited = false; AvgAccum @@avgAge; Start = {p}; FirstNeighbors = SELECT tgt FROM Start:s -(friendship:e)->
-- person:tgt ACCUM tgt.@visited += true, s.@visited += true; SecondNeighbors = SELECT tgt FROM FirstNeighbors -(:e)-> :tgt WHERE
-- tgt.@visited == false POST_ACCUM @@avgAge += tgt.age; PRINT SecondNeighbors; PRINT @@avgAge; }
abbrev friends_query_hello2 : Query Bytes
friends_query_hello2 = (record {
  parameters = (record { base = (VertexOf (codes "person")); name = (codes "p"); default = None } ∷ []);
  with_paths = false;
  definitions = (Accums (OverBits bits.Or None) ((true, codes "@visited", (Some (Truth false))) ∷ []) ∷ Accums Averaged ((false, codes "@@avgAge", None) ∷ []) ∷ []);
  statements = (stmts (Assign (codes "Start") None (Sets (Seeds (OneVertex (codes "p") ∷ [])) []) ∷
      Assign (codes "FirstNeighbors") None (Selects (record (selecting (codes "tgt") (codes "Start") (Some (codes "s")) (hop (These (codes "friendship" ∷ [])) (Some (codes "e")) (These (codes "person" ∷ [])) (Some (codes "tgt")))) { accum = (acts ((AtAlias (codes "tgt") (codes "@visited") (Adds (Plain (Truth true)))) ∷ (AtAlias (codes "s") (codes "@visited") (Adds (Plain (Truth true)))) ∷ [])) })) ∷
      Assign (codes "SecondNeighbors") None (Selects (record (selecting (codes "tgt") (codes "FirstNeighbors") None (hop Every (Some (codes "e")) Every (Some (codes "tgt")))) { filter = (Some (Cmp (Post (Name (codes "tgt")) (parts_of ((Attached (codes "@visited")) ∷ []))) cmp.Equal (Truth false))); post = (acts ((AtGlobal (codes "@@avgAge") (Adds (Plain (Post (Name (codes "tgt")) (parts_of ((Field (codes "age")) ∷ [])))))) ∷ [])) })) ∷
      Print (Whole (item (Name (codes "SecondNeighbors")) (codes "SecondNeighbors")) ∷ []) ∷
      Print (Whole (item (Global (codes "@@avgAge")) (codes "@@avgAge")) ∷ []) ∷
      []));
})

neighbours_of_neighbours : answers 25 friends friends_query_hello2 (Vertex 0 ∷ []) 1000000 ≡ codes "{\"error\":false,\"message\":\"\",\"results\":[{\"SecondNeighbors\":[{\"v_id\":\"Kevin\",\"v_type\":\"person\",\"attributes\":{\"name\":\"Kevin\",\"age\":28,\"@visited\":false}},{\"v_id\":\"Amily\",\"v_type\":\"person\",\"attributes\":{\"name\":\"Amily\",\"age\":22,\"@visited\":false}},{\"v_id\":\"Nancy\",\"v_type\":\"person\",\"attributes\":{\"name\":\"Nancy\",\"age\":20,\"@visited\":false}}]},{\"@@avgAge\":23.333333}]}\n"
unfolding fraction_text error_text digits
neighbours_of_neighbours = refl

-- { OrAccum @seen; MinAccum<INT> @dist; INT d = 0; S = {p}; S = SELECT s FROM S:s ACCUM s.@seen += TRUE, s.@dist += 0; WHILE
-- S.size() > 0 LIMIT 10 DO d = d + 1; S = SELECT t FROM S:s -(friendship:e)-> person:t WHERE NOT t.@seen ACCUM t.@seen += TRUE,
-- t.@dist += d; END; R = {person.*}; R = SELECT s FROM R:s WHERE s.@seen; PRINT R[R.@dist AS d]; }
abbrev friends_query_hops : Query Bytes
friends_query_hops = (record {
  parameters = (record { base = (VertexOf (codes "person")); name = (codes "p"); default = None } ∷ []);
  with_paths = false;
  definitions = (Accums (OverBits bits.Or None) ((true, codes "@seen", None) ∷ []) ∷ Accums (OverElem plain.Min (OfBase Ints)) ((true, codes "@dist", None) ∷ []) ∷ []);
  statements = (stmts (Local Ints ((codes "d", (Some (Number 0))) ∷ []) ∷
      Assign (codes "S") None (Sets (Seeds (OneVertex (codes "p") ∷ [])) []) ∷
      Assign (codes "S") None (Selects (record (selecting (codes "s") (codes "S") (Some (codes "s")) Nowhere) { accum = (acts ((AtAlias (codes "s") (codes "@seen") (Adds (Plain (Truth true)))) ∷ (AtAlias (codes "s") (codes "@dist") (Adds (Plain (Number 0)))) ∷ [])) })) ∷
      While (Cmp (Post (Name (codes "S")) (parts_of ((Method (codes "size") (trees_of [])) ∷ []))) cmp.Greater (Number 0)) (Some (Number 10)) (stmts (Assign (codes "d") None (Expression (Sum (Name (codes "d")) (terms_of ((add.Plus, (Number 1)) ∷ [])))) ∷ Assign (codes "S") None (Selects (record (selecting (codes "t") (codes "S") (Some (codes "s")) (hop (These (codes "friendship" ∷ [])) (Some (codes "e")) (These (codes "person" ∷ [])) (Some (codes "t")))) { filter = (Some (Not 1 (Post (Name (codes "t")) (parts_of ((Attached (codes "@seen")) ∷ []))))); accum = (acts ((AtAlias (codes "t") (codes "@seen") (Adds (Plain (Truth true)))) ∷ (AtAlias (codes "t") (codes "@dist") (Adds (Plain (Name (codes "d"))))) ∷ [])) })) ∷ [])) ∷
      Assign (codes "R") None (Sets (Seeds (AllOf (codes "person") ∷ [])) []) ∷
      Assign (codes "R") None (Selects (record (selecting (codes "s") (codes "R") (Some (codes "s")) Nowhere) { filter = (Some (Post (Name (codes "s")) (parts_of ((Attached (codes "@seen")) ∷ [])))) })) ∷
      Print (Selection (codes "R") ((item (Post (Name (codes "R")) (parts_of ((Attached (codes "@dist")) ∷ []))) (codes "d")) ∷ []) (codes "R") ∷ []) ∷
      []));
})

distances_take_four_turns : answers 28 friends friends_query_hops (Vertex 0 ∷ []) 4 ≡ codes "{\"error\":false,\"message\":\"\",\"results\":[{\"R\":[{\"v_id\":\"Tom\",\"v_type\":\"person\",\"attributes\":{\"d\":0}},{\"v_id\":\"Dan\",\"v_type\":\"person\",\"attributes\":{\"d\":1}},{\"v_id\":\"Jenny\",\"v_type\":\"person\",\"attributes\":{\"d\":1}},{\"v_id\":\"Kevin\",\"v_type\":\"person\",\"attributes\":{\"d\":2}},{\"v_id\":\"Amily\",\"v_type\":\"person\",\"attributes\":{\"d\":2}},{\"v_id\":\"Nancy\",\"v_type\":\"person\",\"attributes\":{\"d\":2}},{\"v_id\":\"Jack\",\"v_type\":\"person\",\"attributes\":{\"d\":3}}]}]}\n"
unfolding fraction_text error_text digits
distances_take_four_turns = refl

three_turns_are_not_enough : answers 28 friends friends_query_hops (Vertex 0 ∷ []) 3 ≡ codes "{\"error\":true,\"message\":\"line 28: loop bound 3 reached\"}\n"
unfolding fraction_text error_text digits
three_turns_are_not_enough = refl
