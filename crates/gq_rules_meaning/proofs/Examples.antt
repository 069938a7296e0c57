-- Examples: the graphs of the worked queries, and the output of a query over one.
use Rattle.std.proofs.Common.{ℕ, Bool, true, false, List, [], ◌∷◌, ℤ, pos, Option, Some, None}
use Rattle.std.specs.Prelude.{codes}
use Rattle.gq_value.specs.Val.{Val, Int, Text}
use Rattle.gq_value.specs.Accums.{INT, STRING, DATETIME}
use Rattle.gq_rules_typing.specs.Statements.{Bytes, KindTree, Definition, Stmts, Query}
use Rattle.gq_rules_typing.specs.Sorts.{VertexSort, EdgeSort}
use Rattle.gq_rules_meaning.specs.Graphs.{Graph}
use Rattle.gq_rules_meaning.specs.Messages.{answer_of_query, line_of_answer}
use Rattle.gq_rules_meaning.proofs.Clock.{clock}
use Rattle.gq_rules_meaning.proofs.Small.{graph_with}

-- ---- persons a, b and c, who are 1, 2 and 3 years old: a knows b and c, b knows c

abbrev person : VertexSort
person = record { name = codes "person"; fields = (codes "age", INT) ∷ [] }

-- edges between persons that have a weight
abbrev between_persons : Bytes → Bool → Option ℕ → EdgeSort
between_persons name directed forward = record { name = name; directed = directed; from = 0; to = 0; forward = forward; fields = (codes "w", INT) ∷ [] }

abbrev knows_types : List EdgeSort
knows_types = between_persons (codes "knows") true None ∷ between_persons (codes "known_by") true (Some 0) ∷ []

abbrev aged : Bytes → ℕ → ℕ × Bytes × List Val
aged id age = (0, id, Int (pos age) ∷ [])

abbrev three : List (ℕ × Bytes × List Val)
three = aged (codes "a") 1 ∷ aged (codes "b") 2 ∷ aged (codes "c") 3 ∷ []

abbrev weighed : ℕ → ℕ → ℤ → ℕ × ℕ × ℕ × List Val
weighed a b w = (0, a, b, Int w ∷ [])

-- by these weights
abbrev pub persons_by : ℤ → ℤ → ℤ → Graph
persons_by u v w = graph_with (record { vertices = person ∷ []; edges = knows_types; own_vertices = 0 ∷ []; own_edges = 0 ∷ 1 ∷ [] }) three (weighed 0 1 u ∷ weighed 0 2 v ∷ weighed 1 2 w ∷ [])

abbrev pub persons : Graph
persons = persons_by (pos 10) (pos 20) (pos 30)

-- and a type city without vertices
abbrev pub persons_and_cities : Graph
persons_and_cities = graph_with (record { vertices = person ∷ record { name = codes "city"; fields = [] } ∷ []; edges = knows_types; own_vertices = 0 ∷ 1 ∷ []; own_edges = 0 ∷ 1 ∷ [] }) three []

-- the same persons, near one another: c to itself by 1, c and b by 5
abbrev pub near : Graph
near = graph_with (record { vertices = person ∷ []; edges = between_persons (codes "near") false None ∷ []; own_vertices = 0 ∷ []; own_edges = 0 ∷ [] }) three (weighed 2 2 (pos 1) ∷ weighed 2 1 (pos 5) ∷ [])

-- a and b met on day 1 by 20 and on day 2 by 30
abbrev pub met : Graph
met = graph_with (record { vertices = person ∷ []; edges = record (between_persons (codes "met") false None) { fields = (codes "day", INT) ∷ (codes "w", INT) ∷ [] } ∷ []; own_vertices = 0 ∷ []; own_edges = 0 ∷ [] })
    three ((0, 0, 1, Int (pos 1) ∷ Int (pos 20) ∷ []) ∷ (0, 0, 1, Int (pos 2) ∷ Int (pos 30) ∷ []) ∷ [])

-- nobody
abbrev pub nobody : Graph
nobody = graph_with (record { vertices = person ∷ []; edges = knows_types; own_vertices = 0 ∷ []; own_edges = 0 ∷ 1 ∷ [] }) [] []

-- a knows a, and nobody else
abbrev pub looped : Graph
looped = graph_with (record { vertices = person ∷ []; edges = knows_types; own_vertices = 0 ∷ []; own_edges = 0 ∷ 1 ∷ [] }) three (weighed 0 0 (pos 10) ∷ [])

-- ---- two events, on 2015-12-30 and on 2016-01-03 at 04:05:06

abbrev pub events : Graph
events = graph_with (record { vertices = record { name = codes "event"; fields = (codes "at", DATETIME) ∷ [] } ∷ []; edges = []; own_vertices = 0 ∷ []; own_edges = [] })
    ((0, codes "x", Int (pos 1451433600) ∷ []) ∷ (0, codes "y", Int (pos 1451793906) ∷ []) ∷ []) []

-- ---- seven friends

abbrev friend : Bytes → ℕ → ℕ × Bytes × List Val
friend name age = (0, name, Text name ∷ Int (pos age) ∷ [])

abbrev friendship : ℕ → ℕ → Bytes → ℕ × ℕ × ℕ × List Val
friendship a b day = (0, a, b, Text day ∷ [])

abbrev pub friends : Graph
friends = graph_with (record {
  vertices = record { name = codes "person"; fields = (codes "name", STRING) ∷ (codes "age", INT) ∷ [] } ∷ [];
  edges = record { name = codes "friendship"; directed = false; from = 0; to = 0; forward = None; fields = (codes "connect_day", STRING) ∷ [] } ∷ [];
  own_vertices = 0 ∷ [];
  own_edges = 0 ∷ [];
})
    (friend (codes "Tom") 40 ∷ friend (codes "Dan") 34 ∷ friend (codes "Jenny") 25 ∷ friend (codes "Kevin") 28 ∷ friend (codes "Amily") 22 ∷ friend (codes "Nancy") 20 ∷ friend (codes "Jack") 26 ∷ [])
    (friendship 0 1 (codes "2017-06-03") ∷ friendship 0 2 (codes "2015-01-01") ∷ friendship 1 2 (codes "2016-08-03") ∷ friendship 2 4 (codes "2015-06-08") ∷ friendship 1 5 (codes "2016-01-03") ∷ friendship 5 6 (codes "2017-03-02") ∷ friendship 1 3 (codes "2015-12-30") ∷ [])

-- ---- the output of a query, at a line of the script

abbrev pub answers : ℕ → Graph → Query Bytes → List Val → ℕ → Bytes
answers line g q arguments turns = line_of_answer line (answer_of_query g clock q arguments turns)

abbrev interpreted : Bool → List (Definition Bytes (KindTree Bytes)) → Stmts Bytes → Query Bytes
interpreted with_paths definitions statements = record { parameters = []; with_paths = with_paths; definitions = definitions; statements = statements }

-- with a bound on loop iterations
abbrev pub says_in : Graph → ℕ → List (Definition Bytes (KindTree Bytes)) → Stmts Bytes → Bytes
says_in g turns definitions statements = answers 8 g (interpreted false definitions statements) [] turns

abbrev pub says : Graph → List (Definition Bytes (KindTree Bytes)) → Stmts Bytes → Bytes
says g definitions statements = says_in g 1000000 definitions statements

-- in SYNTAX v2
abbrev pub says_by_paths : Graph → List (Definition Bytes (KindTree Bytes)) → Stmts Bytes → Bytes
says_by_paths g definitions statements = answers 8 g (interpreted true definitions statements) [] 1000000
