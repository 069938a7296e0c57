-- TypedQueries: for parameters, graphs and openings, which rule fails first, and which are accepted.
use Rattle.std.proofs.Common.{◌≡◌, true, false, [], ◌∷◌, Some, None, refl}
use Rattle.std.specs.Prelude.{codes}
use Rattle.gq_tree.specs.declared.expr.AddSign.TheVariants as add
use Rattle.gq_tree.specs.declared.kind.Plain.TheVariants as plain
use Rattle.gq_tree.specs.Tree.{Number, Global, Name, Call, Post, Neg, Sum, Field, Attached}
use Rattle.gq_tree.specs.View.{trees_of, parts_of, terms_of}
use Rattle.gq_rules_typing.specs.Selecting.{Every, These}
use Rattle.gq_rules_typing.specs.Statements.{Ints, UInts, AnyVertex, VertexOf, OfBase, OverElem, MapTo, Grouped, no_part_tree, part_tree_and, AllOf, Seeds, AnyType, TypeOf, Selects, Sets, Expression, Whole, Assign, Print, TupleType, Accums, Signed, Quoted}
use Rattle.gq_rules_typing.specs.Judging.{Mismatch, NotAllowedHere, TooMany, UnknownName, NoAttribute, WiderSet, BadKind, NameTwice}
use Rattle.gq_rules_typing.proofs.Written.{stmts, item, hop, selecting}
use Rattle.gq_rules_typing.proofs.Judged.{fault_over, all_sorts, few_sorts, none_sorts}

-- (INT n = "x") { PRINT n; }
a_default_of_another_type : fault_over all_sorts (record {
  parameters = (record { base = Ints; name = (codes "n"); default = (Some (Quoted (codes "x"))) } ∷ []);
  with_paths = false;
  definitions = [];
  statements = (stmts (Print (Whole (item (Name (codes "n")) (codes "n")) ∷ []) ∷
      []));
}) ≡ Some (Mismatch)
a_default_of_another_type = refl

-- (UINT n = -1) { PRINT n; }
a_negative_default_of_an_unsigned_one : fault_over all_sorts (record {
  parameters = (record { base = UInts; name = (codes "n"); default = (Some (Signed true 1)) } ∷ []);
  with_paths = false;
  definitions = [];
  statements = (stmts (Print (Whole (item (Name (codes "n")) (codes "n")) ∷ []) ∷
      []));
}) ≡ Some (Mismatch)
a_negative_default_of_an_unsigned_one = refl

-- (INT n = 9223372036854775808) { PRINT n; }
a_default_that_is_too_big : fault_over all_sorts (record {
  parameters = (record { base = Ints; name = (codes "n"); default = (Some (Signed false 9223372036854775808)) } ∷ []);
  with_paths = false;
  definitions = [];
  statements = (stmts (Print (Whole (item (Name (codes "n")) (codes "n")) ∷ []) ∷
      []));
}) ≡ Some (Mismatch)
a_default_that_is_too_big = refl

-- (INT n = -9223372036854775808, UINT m = -0) { PRINT n; }
the_least_default : fault_over all_sorts (record {
  parameters = (record { base = Ints; name = (codes "n"); default = (Some (Signed true 9223372036854775808)) } ∷ record { base = UInts; name = (codes "m"); default = (Some (Signed true 0)) } ∷ []);
  with_paths = false;
  definitions = [];
  statements = (stmts (Print (Whole (item (Name (codes "n")) (codes "n")) ∷ []) ∷
      []));
}) ≡ None
the_least_default = refl

-- (VERTEX p = "a") { PRINT p; }
a_vertex_of_any_type_has_no_default : fault_over all_sorts (record {
  parameters = (record { base = AnyVertex; name = (codes "p"); default = (Some (Quoted (codes "a"))) } ∷ []);
  with_paths = false;
  definitions = [];
  statements = (stmts (Print (Whole (item (Name (codes "p")) (codes "p")) ∷ []) ∷
      []));
}) ≡ Some (Mismatch)
a_vertex_of_any_type_has_no_default = refl

-- (VERTEX<person> p = 5) { PRINT p; }
a_number_as_the_id_of_a_vertex : fault_over all_sorts (record {
  parameters = (record { base = (VertexOf (codes "person")); name = (codes "p"); default = (Some (Signed false 5)) } ∷ []);
  with_paths = false;
  definitions = [];
  statements = (stmts (Print (Whole (item (Name (codes "p")) (codes "p")) ∷ []) ∷
      []));
}) ≡ None
a_number_as_the_id_of_a_vertex = refl

-- (VERTEX<ghost> p) { PRINT p; }
a_parameter_of_an_unknown_type : fault_over all_sorts (record {
  parameters = (record { base = (VertexOf (codes "ghost")); name = (codes "p"); default = None } ∷ []);
  with_paths = false;
  definitions = [];
  statements = (stmts (Print (Whole (item (Name (codes "p")) (codes "p")) ∷ []) ∷
      []));
}) ≡ Some (UnknownName (codes "ghost"))
a_parameter_of_an_unknown_type = refl

-- (INT n, INT n) { PRINT n; }
a_parameter_twice : fault_over all_sorts (record {
  parameters = (record { base = Ints; name = (codes "n"); default = None } ∷ record { base = Ints; name = (codes "n"); default = None } ∷ []);
  with_paths = false;
  definitions = [];
  statements = (stmts (Print (Whole (item (Name (codes "n")) (codes "n")) ∷ []) ∷
      []));
}) ≡ Some (NameTwice (codes "n"))
a_parameter_twice = refl

-- (INT n, INT n = "x") { PRINT n; }
a_parameter_twice_before_its_default : fault_over all_sorts (record {
  parameters = (record { base = Ints; name = (codes "n"); default = None } ∷ record { base = Ints; name = (codes "n"); default = (Some (Quoted (codes "x"))) } ∷ []);
  with_paths = false;
  definitions = [];
  statements = (stmts (Print (Whole (item (Name (codes "n")) (codes "n")) ∷ []) ∷
      []));
}) ≡ Some (NameTwice (codes "n"))
a_parameter_twice_before_its_default = refl

-- (VERTEX<person> p) { PRINT p.age; }
an_attribute_of_a_vertex : fault_over all_sorts (record {
  parameters = (record { base = (VertexOf (codes "person")); name = (codes "p"); default = None } ∷ []);
  with_paths = false;
  definitions = [];
  statements = (stmts (Print (Whole (item (Post (Name (codes "p")) (parts_of ((Field (codes "age")) ∷ []))) (codes "p.age")) ∷ []) ∷
      []));
}) ≡ None
an_attribute_of_a_vertex = refl

-- (VERTEX p) { PRINT p.age; }
an_attribute_of_any_vertex : fault_over all_sorts (record {
  parameters = (record { base = AnyVertex; name = (codes "p"); default = None } ∷ []);
  with_paths = false;
  definitions = [];
  statements = (stmts (Print (Whole (item (Post (Name (codes "p")) (parts_of ((Field (codes "age")) ∷ []))) (codes "p.age")) ∷ []) ∷
      []));
}) ≡ Some (NoAttribute (codes "age"))
an_attribute_of_any_vertex = refl

-- (VERTEX p) { PRINT p.age; }
an_attribute_of_any_vertex_of_the_graph : fault_over few_sorts (record {
  parameters = (record { base = AnyVertex; name = (codes "p"); default = None } ∷ []);
  with_paths = false;
  definitions = [];
  statements = (stmts (Print (Whole (item (Post (Name (codes "p")) (parts_of ((Field (codes "age")) ∷ []))) (codes "p.age")) ∷ []) ∷
      []));
}) ≡ None
an_attribute_of_any_vertex_of_the_graph = refl

-- (VERTEX<person> p) { SumAccum<INT> @n; PRINT p.@n; }
an_accumulator_of_a_parameter : fault_over all_sorts (record {
  parameters = (record { base = (VertexOf (codes "person")); name = (codes "p"); default = None } ∷ []);
  with_paths = false;
  definitions = (Accums (OverElem plain.Sum (OfBase Ints)) ((true, codes "@n", None) ∷ []) ∷ []);
  statements = (stmts (Print (Whole (item (Post (Name (codes "p")) (parts_of ((Attached (codes "@n")) ∷ []))) (codes "p.@n")) ∷ []) ∷
      []));
}) ≡ Some (NotAllowedHere)
an_accumulator_of_a_parameter = refl

-- (INT n, VERTEX<person> p) { SumAccum<INT> @@a = n + p.age; PRINT @@a; }
an_opening_by_a_parameter : fault_over all_sorts (record {
  parameters = (record { base = Ints; name = (codes "n"); default = None } ∷ record { base = (VertexOf (codes "person")); name = (codes "p"); default = None } ∷ []);
  with_paths = false;
  definitions = (Accums (OverElem plain.Sum (OfBase Ints)) ((false, codes "@@a", (Some (Sum (Name (codes "n")) (terms_of ((add.Plus, (Post (Name (codes "p")) (parts_of ((Field (codes "age")) ∷ [])))) ∷ []))))) ∷ []) ∷ []);
  statements = (stmts (Print (Whole (item (Global (codes "@@a")) (codes "@@a")) ∷ []) ∷
      []));
}) ≡ None
an_opening_by_a_parameter = refl

-- (INT n) { n = n + 1; }
a_parameter_is_assigned_to : fault_over all_sorts (record {
  parameters = (record { base = Ints; name = (codes "n"); default = None } ∷ []);
  with_paths = false;
  definitions = [];
  statements = (stmts (Assign (codes "n") None (Expression (Sum (Name (codes "n")) (terms_of ((add.Plus, (Number 1)) ∷ [])))) ∷
      []));
}) ≡ None
a_parameter_is_assigned_to = refl

-- () { S = {city.*}; }
a_type_of_another_graph : fault_over few_sorts (record {
  parameters = [];
  with_paths = false;
  definitions = [];
  statements = (stmts (Assign (codes "S") None (Sets (Seeds (AllOf (codes "city") ∷ [])) []) ∷
      []));
}) ≡ Some (UnknownName (codes "city"))
a_type_of_another_graph = refl

-- () { S = {person.*}; T = SELECT t FROM S:s -(lives)-> :t; }
an_edge_type_of_another_graph : fault_over few_sorts (record {
  parameters = [];
  with_paths = false;
  definitions = [];
  statements = (stmts (Assign (codes "S") None (Sets (Seeds (AllOf (codes "person") ∷ [])) []) ∷
      Assign (codes "T") None (Selects (selecting (codes "t") (codes "S") (Some (codes "s")) (hop (These (codes "lives" ∷ [])) None Every (Some (codes "t"))))) ∷
      []));
}) ≡ Some (UnknownName (codes "lives"))
an_edge_type_of_another_graph = refl

-- () { S = {person.*}; }
no_graph_has_no_types : fault_over none_sorts (record {
  parameters = [];
  with_paths = false;
  definitions = [];
  statements = (stmts (Assign (codes "S") None (Sets (Seeds (AllOf (codes "person") ∷ [])) []) ∷
      []));
}) ≡ Some (UnknownName (codes "person"))
no_graph_has_no_types = refl

-- (VERTEX p) { PRINT p.age; }
no_graph_has_no_attributes : fault_over none_sorts (record {
  parameters = (record { base = AnyVertex; name = (codes "p"); default = None } ∷ []);
  with_paths = false;
  definitions = [];
  statements = (stmts (Print (Whole (item (Post (Name (codes "p")) (parts_of ((Field (codes "age")) ∷ []))) (codes "p.age")) ∷ []) ∷
      []));
}) ≡ Some (NoAttribute (codes "age"))
no_graph_has_no_attributes = refl

-- () { SumAccum<INT> @@a = abs(-5); TYPEDEF TUPLE<INT x> abs; PRINT @@a; }
an_opening_before_a_tuple_type : fault_over all_sorts (record {
  parameters = [];
  with_paths = false;
  definitions = (Accums (OverElem plain.Sum (OfBase Ints)) ((false, codes "@@a", (Some (Call (codes "abs") (trees_of ((Neg 1 (Number 5)) ∷ []))))) ∷ []) ∷ TupleType ((Ints, codes "x") ∷ []) (codes "abs") ∷ []);
  statements = (stmts (Print (Whole (item (Global (codes "@@a")) (codes "@@a")) ∷ []) ∷
      []));
}) ≡ None
an_opening_before_a_tuple_type = refl

-- () { TYPEDEF TUPLE<INT x> abs; SumAccum<INT> @@a = abs(-5); PRINT @@a; }
an_opening_behind_a_tuple_type : fault_over all_sorts (record {
  parameters = [];
  with_paths = false;
  definitions = (TupleType ((Ints, codes "x") ∷ []) (codes "abs") ∷ Accums (OverElem plain.Sum (OfBase Ints)) ((false, codes "@@a", (Some (Call (codes "abs") (trees_of ((Neg 1 (Number 5)) ∷ []))))) ∷ []) ∷ []);
  statements = (stmts (Print (Whole (item (Global (codes "@@a")) (codes "@@a")) ∷ []) ∷
      []));
}) ≡ Some (Mismatch)
an_opening_behind_a_tuple_type = refl

-- () { SetAccum<INT> @@a = q; }
an_opening_of_a_collection_before_its_value : fault_over all_sorts (record { parameters = []; with_paths = false; definitions = (Accums (OverElem plain.Set (OfBase Ints)) ((false, codes "@@a", (Some (Name (codes "q")))) ∷ []) ∷ []); statements = (stmts []) }) ≡ Some (BadKind (codes "@@a"))
an_opening_of_a_collection_before_its_value = refl

-- () { GroupByAccum<INT k, SumAccum<INT> n0, SumAccum<INT> n1, SumAccum<INT> n2, SumAccum<INT> n3, SumAccum<INT> n4,
-- SumAccum<INT> n5, SumAccum<INT> n6, SumAccum<INT> n7, SumAccum<INT> n8> @@g; }
nine_parts : fault_over all_sorts (record { parameters = []; with_paths = false; definitions = (Accums (Grouped ((Ints, codes "k") ∷ []) (part_tree_and (OverElem plain.Sum (OfBase Ints)) (codes "n0") (part_tree_and (OverElem plain.Sum (OfBase Ints)) (codes "n1") (part_tree_and (OverElem plain.Sum (OfBase Ints)) (codes "n2") (part_tree_and (OverElem plain.Sum (OfBase Ints)) (codes "n3") (part_tree_and (OverElem plain.Sum (OfBase Ints)) (codes "n4") (part_tree_and (OverElem plain.Sum (OfBase Ints)) (codes "n5") (part_tree_and (OverElem plain.Sum (OfBase Ints)) (codes "n6") (part_tree_and (OverElem plain.Sum (OfBase Ints)) (codes "n7") (part_tree_and (OverElem plain.Sum (OfBase Ints)) (codes "n8") no_part_tree)))))))))) ((false, codes "@@g", None) ∷ []) ∷ []); statements = (stmts []) }) ≡ Some (TooMany)
nine_parts = refl

-- () { MapAccum<INT, MapAccum<INT, MapAccum<INT, MapAccum<INT, MapAccum<INT, MapAccum<INT, MapAccum<INT, SumAccum<INT>>>>>>>>
-- @@m; }
eight_levels : fault_over all_sorts (record { parameters = []; with_paths = false; definitions = (Accums (MapTo (OfBase Ints) (MapTo (OfBase Ints) (MapTo (OfBase Ints) (MapTo (OfBase Ints) (MapTo (OfBase Ints) (MapTo (OfBase Ints) (MapTo (OfBase Ints) (OverElem plain.Sum (OfBase Ints))))))))) ((false, codes "@@m", None) ∷ []) ∷ []); statements = (stmts []) }) ≡ None
eight_levels = refl

-- () { MapAccum<INT, MapAccum<INT, MapAccum<INT, MapAccum<INT, MapAccum<INT, MapAccum<INT, MapAccum<INT, MapAccum<INT,
-- SumAccum<INT>>>>>>>>> @@m; }
nine_levels : fault_over all_sorts (record { parameters = []; with_paths = false; definitions = (Accums (MapTo (OfBase Ints) (MapTo (OfBase Ints) (MapTo (OfBase Ints) (MapTo (OfBase Ints) (MapTo (OfBase Ints) (MapTo (OfBase Ints) (MapTo (OfBase Ints) (MapTo (OfBase Ints) (OverElem plain.Sum (OfBase Ints)))))))))) ((false, codes "@@m", None) ∷ []) ∷ []); statements = (stmts []) }) ≡ Some (TooMany)
nine_levels = refl

-- () { S (person) = {}; }
an_empty_set_of_one_type_has_all : fault_over all_sorts (record {
  parameters = [];
  with_paths = false;
  definitions = [];
  statements = (stmts (Assign (codes "S") (Some (TypeOf (codes "person"))) (Sets (Seeds []) []) ∷
      []));
}) ≡ Some (WiderSet (codes "S"))
an_empty_set_of_one_type_has_all = refl

-- () { TYPEDEF TUPLE<INT a> P; P (ANY) = {}; }
a_set_called_like_a_tuple_type : fault_over all_sorts (record {
  parameters = [];
  with_paths = false;
  definitions = (TupleType ((Ints, codes "a") ∷ []) (codes "P") ∷ []);
  statements = (stmts (Assign (codes "P") (Some AnyType) (Sets (Seeds []) []) ∷
      []));
}) ≡ Some (NameTwice (codes "P"))
a_set_called_like_a_tuple_type = refl
