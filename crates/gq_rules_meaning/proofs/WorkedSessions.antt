-- WorkedSessions: queries that are created, installed and run, over a graph with one person, Tom.
use Rattle.std.proofs.Common.{◌≡◌, true, false, List, [], ◌∷◌, pos, Some, None, refl}
use Rattle.std.specs.Prelude.{codes}
use Rattle.std.specs.Fmt.{digits}
use Rattle.gq_rules_typing.specs.AddSign.TheVariants as add
use Rattle.gq_rules_typing.specs.Tree.{Number, Text, Name, Post, Sum, Field, Method}
use Rattle.gq_rules_typing.specs.View.{trees_of, parts_of, terms_of}
use Rattle.gq_rules_typing.specs.Selecting.{Nowhere}
use Rattle.gq_rules_typing.specs.Statements.{Bytes, Query, Ints, VertexOf, AllOf, OneVertex, Seeds, Selects, Sets, Whole, Selection, Assign, Print}
use Rattle.gq_rules_typing.proofs.Written.{stmts, item, selecting}
use Rattle.gq_json.specs.Average.{fraction_text}
use Rattle.gq_json.specs.Json.{error_text}
use Rattle.std.specs.Prelude.{ℕ, Bool, Option}
use Rattle.gq_rules_typing.specs.Mode.{Mode}
use Rattle.gq_rules_typing.specs.Mode.TheVariants as mode
use Rattle.gq_graph.specs.declared.types.IdKind.TheVariants as id
use Rattle.gq_rules_typing.specs.Statements.{Signed, Quoted}
use Rattle.gq_rules_meaning.specs.Arguments.{Argument, OfLiteral, Member, NumberMember, TextMember}
use Rattle.gq_rules_meaning.specs.Sessions.{Session, Effect, created, installed, interpreted, ran, script_lines}
use Rattle.gq_rules_meaning.proofs.Clock.{clock}

-- a type without attributes, and one vertex
abbrev tom : Session
tom = record {
  schema = record {
    vertex_types = record { name = codes "person"; id = record { name = codes "id"; kind = id.Text; shown = false }; attributes = [] } ∷ [];
    edge_types = [];
    graphs = record { name = codes "g"; vertices = 0 ∷ []; edges = [] } ∷ [];
  };
  vertices = record { kind = 0; id = codes "Tom"; attributes = [] } ∷ [];
  edges = [];
  queries = [];
  in_use = Some 0;
}

-- types that show their ids, a text and a number
abbrev shown : Session
shown = record tom {
  schema = record {
    vertex_types = record { name = codes "person"; id = record { name = codes "name"; kind = id.Text; shown = true }; attributes = [] } ∷ record { name = codes "year"; id = record { name = codes "n"; kind = id.Int; shown = true }; attributes = [] } ∷ [];
    edge_types = [];
    graphs = record { name = codes "g"; vertices = 0 ∷ 1 ∷ []; edges = [] } ∷ [];
  };
  vertices = record { kind = 0; id = codes "Tom"; attributes = [] } ∷ record { kind = 1; id = codes "10"; attributes = [] } ∷ record { kind = 1; id = codes "-7"; attributes = [] } ∷ [];
}

-- a statement on a query
data Act : Type 0 where
  Create : Bool → Bytes → Option Bytes → List Mode → Query Bytes → Act
  Install : Option (List Bytes) → Act
  Run : Bytes → Option (List Argument) → Act
  Interpret : Option Bytes → List Mode → Query Bytes → Act

-- with a file that has a member q
abbrev step : List (Bytes × Member) → Session → Act → Effect
step members s (Create replace name graph modes q) = created s replace name graph modes q
step members s (Install names) = installed s names
step members s (Run name arguments) = ran s clock 1000 name arguments members
step members s (Interpret graph modes q) = interpreted s clock 1000 graph modes q

-- the lines of a script, a statement a line
abbrev lines : List (Bytes × Member) → List (ℕ × Act) → List Bytes × Bool
lines members script = script_lines (step members) tom script

-- CREATE QUERY q(VERTEX<person> p, INT n = 5) { S = {p}; PRINT S.size() AS size, n, p; }
abbrev q : Query Bytes
q = (record {
  parameters = (record { base = (VertexOf (codes "person")); name = (codes "p"); default = None } ∷ record { base = Ints; name = (codes "n"); default = (Some (Signed false 5)) } ∷ []);
  with_paths = false;
  definitions = [];
  statements = (stmts (Assign (codes "S") None (Sets (Seeds (OneVertex (codes "p") ∷ [])) []) ∷
      Print (Whole (item (Post (Name (codes "S")) (parts_of ((Method (codes "size") (trees_of [])) ∷ []))) (codes "size")) ∷ Whole (item (Name (codes "n")) (codes "n")) ∷ Whole (item (Name (codes "p")) (codes "p")) ∷ []) ∷
      []));
})

abbrev create : Act
create = Create false (codes "q") None [] q

abbrev install : Act
install = Install (Some (codes "q" ∷ []))

-- RUN QUERY q("Tom")
a_run_with_its_default : lines [] ((1, create) ∷ (2, install) ∷ (3, Run (codes "q") (Some (OfLiteral (Quoted (codes "Tom")) ∷ []))) ∷ []) ≡ ((codes "{\"error\":false,\"message\":\"\",\"results\":[{\"size\":1,\"n\":5,\"p\":\"Tom\"}]}\n" ∷ []), true)
unfolding fraction_text error_text digits
a_run_with_its_default = refl

-- RUN QUERY q("Tom", -7), and another statement after it
a_run_with_both : lines [] ((1, create) ∷ (2, install) ∷ (3, Run (codes "q") (Some (OfLiteral (Quoted (codes "Tom")) ∷ OfLiteral (Signed true 7) ∷ []))) ∷ (
  4,
  Interpret None [] (record {
    parameters = [];
    with_paths = false;
    definitions = [];
    statements = (stmts (Print (Whole (item (Number 7) (codes "n")) ∷ []) ∷
        []));
  }),
) ∷ []) ≡ ((codes "{\"error\":false,\"message\":\"\",\"results\":[{\"size\":1,\"n\":-7,\"p\":\"Tom\"}]}\n" ∷ codes "{\"error\":false,\"message\":\"\",\"results\":[{\"n\":7}]}\n" ∷ []), true)
unfolding fraction_text error_text digits
a_run_with_both = refl

-- RUN QUERY q("Zed")
a_vertex_that_is_not_there : lines [] ((1, create) ∷ (2, install) ∷ (3, Run (codes "q") (Some (OfLiteral (Quoted (codes "Zed")) ∷ []))) ∷ []) ≡ ((codes "{\"error\":true,\"message\":\"line 3: bad argument p\"}\n" ∷ []), false)
unfolding fraction_text error_text digits
a_vertex_that_is_not_there = refl

-- RUN QUERY q("Tom", 1, 2)
an_argument_too_many : lines [] ((1, create) ∷ (2, install) ∷ (3, Run (codes "q") (Some (OfLiteral (Quoted (codes "Tom")) ∷ OfLiteral (Signed false 1) ∷ OfLiteral (Signed false 2) ∷ []))) ∷ []) ≡ ((codes "{\"error\":true,\"message\":\"line 3: wrong number of arguments\"}\n" ∷ []), false)
unfolding fraction_text error_text digits
an_argument_too_many = refl

-- RUN QUERY q()
an_argument_too_few : lines [] ((1, create) ∷ (2, install) ∷ (3, Run (codes "q") (Some [])) ∷ []) ≡ ((codes "{\"error\":true,\"message\":\"line 3: wrong number of arguments\"}\n" ∷ []), false)
unfolding fraction_text error_text digits
an_argument_too_few = refl

-- RUN QUERY q("Tom", 9223372036854775808)
a_number_that_does_not_fit : lines [] ((1, create) ∷ (2, install) ∷ (3, Run (codes "q") (Some (OfLiteral (Quoted (codes "Tom")) ∷ OfLiteral (Signed false 9223372036854775808) ∷ []))) ∷ []) ≡ ((codes "{\"error\":true,\"message\":\"line 3: bad argument n\"}\n" ∷ []), false)
unfolding fraction_text error_text digits
a_number_that_does_not_fit = refl

-- RUN QUERY q, the file has {"p": "Tom", "n": 3}
members_of_the_file : lines ((codes "p", TextMember (codes "Tom")) ∷ (codes "n", NumberMember (pos 3)) ∷ []) ((1, create) ∷ (2, install) ∷ (3, Run (codes "q") None) ∷ []) ≡ ((codes "{\"error\":false,\"message\":\"\",\"results\":[{\"size\":1,\"n\":3,\"p\":\"Tom\"}]}\n" ∷ []), true)
unfolding fraction_text error_text digits
members_of_the_file = refl

-- RUN QUERY q, the file has {"n": 3}
a_member_that_is_missing : lines ((codes "n", NumberMember (pos 3)) ∷ []) ((1, create) ∷ (2, install) ∷ (3, Run (codes "q") None) ∷ []) ≡ ((codes "{\"error\":true,\"message\":\"line 3: bad argument p\"}\n" ∷ []), false)
unfolding fraction_text error_text digits
a_member_that_is_missing = refl

-- RUN QUERY q("Tom") before INSTALL
a_query_that_is_not_installed : lines [] ((1, create) ∷ (2, Run (codes "q") (Some (OfLiteral (Quoted (codes "Tom")) ∷ []))) ∷ []) ≡ ((codes "{\"error\":true,\"message\":\"line 2: not installed q\"}\n" ∷ []), false)
unfolding fraction_text error_text digits
a_query_that_is_not_installed = refl

-- INSTALL QUERY q, r
a_query_that_is_unknown : lines [] ((1, create) ∷ (2, Install (Some (codes "q" ∷ codes "r" ∷ []))) ∷ []) ≡ ((codes "{\"error\":true,\"message\":\"line 2: unknown name r\"}\n" ∷ []), false)
unfolding fraction_text error_text digits
a_query_that_is_unknown = refl

-- CREATE QUERY q twice
a_name_that_is_taken : lines [] ((1, create) ∷ (2, create) ∷ []) ≡ ((codes "{\"error\":true,\"message\":\"line 2: name taken q\"}\n" ∷ []), false)
unfolding fraction_text error_text digits
a_name_that_is_taken = refl

-- CREATE OR REPLACE QUERY q
a_replaced_query_is_not_installed : lines [] ((1, create) ∷ (2, install) ∷ (3, Create true (codes "q") None [] q) ∷ (4, Run (codes "q") (Some (OfLiteral (Quoted (codes "Tom")) ∷ []))) ∷ []) ≡ ((codes "{\"error\":true,\"message\":\"line 4: not installed q\"}\n" ∷ []), false)
unfolding fraction_text error_text digits
a_replaced_query_is_not_installed = refl

-- CREATE QUERY q .. FOR GRAPH h
an_unknown_graph : lines [] ((1, Create false (codes "q") (Some (codes "h")) [] q) ∷ []) ≡ ((codes "{\"error\":true,\"message\":\"line 1: unknown name h\"}\n" ∷ []), false)
unfolding fraction_text error_text digits
an_unknown_graph = refl

-- CREATE QUERY q .. SYNTAX v3, with q taken
an_option_before_the_name : lines [] ((1, create) ∷ (2, Create false (codes "q") None (mode.Syntax (codes "v3") ∷ []) q) ∷ []) ≡ ((codes "{\"error\":true,\"message\":\"line 2: bad option\"}\n" ∷ []), false)
unfolding fraction_text error_text digits
an_option_before_the_name = refl

-- INTERPRET QUERY () SYNTAX v1 SYNTAX V1
an_option_twice : lines [] ((
  1,
  Interpret None (mode.Syntax (codes "v1") ∷ mode.Syntax (codes "V1") ∷ []) (record {
    parameters = [];
    with_paths = false;
    definitions = [];
    statements = (stmts (Print (Whole (item (Number 7) (codes "n")) ∷ []) ∷
        []));
  }),
) ∷ []) ≡ ((codes "{\"error\":true,\"message\":\"line 1: bad option\"}\n" ∷ []), false)
unfolding fraction_text error_text digits
an_option_twice = refl

-- the line of an earlier statement is kept
a_query_that_is_not_typed : lines [] ((
  1,
  Interpret None (mode.Api (codes "v2") ∷ []) (record {
    parameters = [];
    with_paths = false;
    definitions = [];
    statements = (stmts (Print (Whole (item (Number 7) (codes "n")) ∷ []) ∷
        []));
  }),
) ∷ (
  2,
  Create false (codes "r") None [] (record {
    parameters = [];
    with_paths = false;
    definitions = [];
    statements = (stmts (Print (Whole (item (Name (codes "q")) (codes "x")) ∷ []) ∷
        []));
  }),
) ∷ []) ≡ ((codes "{\"error\":false,\"message\":\"\",\"results\":[{\"n\":7}]}\n" ∷ codes "{\"error\":true,\"message\":\"line 2: unknown name q\"}\n" ∷ []), false)
unfolding fraction_text error_text digits
a_query_that_is_not_typed = refl

-- S = {person.*}; PRINT S, S[S.name + "!" AS x] AS T;
a_shown_text : script_lines (step []) shown ((
  1,
  Interpret None [] (record {
    parameters = [];
    with_paths = false;
    definitions = [];
    statements = (stmts (Assign (codes "S") None (Sets (Seeds (AllOf (codes "person") ∷ [])) []) ∷
        Print (Whole (item (Name (codes "S")) (codes "S")) ∷ Selection (codes "S") ((item (Sum (Post (Name (codes "S")) (parts_of ((Field (codes "name")) ∷ []))) (terms_of ((add.Plus, (Text (codes "!"))) ∷ []))) (codes "x")) ∷ []) (codes "T") ∷ []) ∷
        []));
  }),
) ∷ []) ≡ ((codes "{\"error\":false,\"message\":\"\",\"results\":[{\"S\":[{\"v_id\":\"Tom\",\"v_type\":\"person\",\"attributes\":{\"name\":\"Tom\"}}],\"T\":[{\"v_id\":\"Tom\",\"v_type\":\"person\",\"attributes\":{\"x\":\"Tom!\"}}]}]}\n" ∷ []), true)
unfolding fraction_text error_text digits
a_shown_text = refl

-- S = {year.*}; T = SELECT s FROM S:s ORDER BY s.n; PRINT T, S[S.n + 1 AS x];
a_shown_number : script_lines (step []) shown ((
  1,
  Interpret None [] (record {
    parameters = [];
    with_paths = false;
    definitions = [];
    statements = (stmts (Assign (codes "S") None (Sets (Seeds (AllOf (codes "year") ∷ [])) []) ∷
        Assign (codes "T") None (Selects (record (selecting (codes "s") (codes "S") (Some (codes "s")) Nowhere) { order = (((Post (Name (codes "s")) (parts_of ((Field (codes "n")) ∷ []))), false) ∷ []) })) ∷
        Print (Whole (item (Name (codes "T")) (codes "T")) ∷ Selection (codes "S") ((item (Sum (Post (Name (codes "S")) (parts_of ((Field (codes "n")) ∷ []))) (terms_of ((add.Plus, (Number 1)) ∷ []))) (codes "x")) ∷ []) (codes "S") ∷ []) ∷
        []));
  }),
) ∷ []) ≡ ((codes "{\"error\":false,\"message\":\"\",\"results\":[{\"T\":[{\"v_id\":\"-7\",\"v_type\":\"year\",\"attributes\":{\"n\":-7}},{\"v_id\":\"10\",\"v_type\":\"year\",\"attributes\":{\"n\":10}}],\"S\":[{\"v_id\":\"10\",\"v_type\":\"year\",\"attributes\":{\"x\":11}},{\"v_id\":\"-7\",\"v_type\":\"year\",\"attributes\":{\"x\":-6}}]}]}\n" ∷ []), true)
unfolding fraction_text error_text digits
a_shown_number = refl
