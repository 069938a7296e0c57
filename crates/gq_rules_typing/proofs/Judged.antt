-- Judged: the fault of a query, if it has one, over a few types: persons who know one another, cities, events.
use Rattle.std.proofs.Common.{ℕ, zero, suc, Bool, true, false, List, [], ◌∷◌, ◌++◌, Option, Some, None, Ok, Err}
use Rattle.std.specs.Prelude.{codes}
use Rattle.gq_tree.specs.Tree.{Tree}
use Rattle.gq_tree.specs.Accums.{INT, STRING, DATETIME}
use Rattle.gq_rules_typing.specs.Statements.{Bytes, KindTree, Definition, Stmts, Query}
use Rattle.gq_rules_typing.specs.Sorts.{Sorts, EdgeSort}
use Rattle.gq_rules_typing.specs.Judging.{TypingFault, Judged}
use Rattle.gq_rules_typing.specs.QueryTypes.{typing_query}

-- 0 person, 1 city, 2 event
abbrev knows : Bytes → Option ℕ → EdgeSort
knows name forward = record { name = name; directed = true; from = 0; to = 0; forward = forward; fields = (codes "w", INT) ∷ [] }

-- all of them are the graph's
abbrev pub all_sorts : Sorts
all_sorts = record {
  vertices = record { name = codes "person"; fields = (codes "age", INT) ∷ (codes "name", STRING) ∷ [] } ∷ record { name = codes "city"; fields = (codes "size", INT) ∷ (codes "name", INT) ∷ [] } ∷ record { name = codes "event"; fields = (codes "at", DATETIME) ∷ [] } ∷ [];
  edges = knows (codes "knows") None ∷ knows (codes "known_by") (Some 0) ∷ record { name = codes "lives"; directed = true; from = 0; to = 1; forward = None; fields = [] } ∷ record { name = codes "near"; directed = false; from = 0; to = 1; forward = None; fields = [] } ∷ [];
  own_vertices = 0 ∷ 1 ∷ 2 ∷ [];
  own_edges = 0 ∷ 1 ∷ 2 ∷ 3 ∷ [];
}

-- a graph with only persons and whom they know, and no graph
abbrev pub few_sorts : Sorts
few_sorts = record all_sorts { own_vertices = 0 ∷ []; own_edges = 0 ∷ 1 ∷ [] }

abbrev pub none_sorts : Sorts
none_sorts = record all_sorts { own_vertices = []; own_edges = [] }

abbrev pub fault_in : {A : Type 0} → Judged A → Option TypingFault
fault_in (Ok a) = None
fault_in (Err e) = Some e

-- the flag is true for SYNTAX v2
abbrev pub refused : Bool → List (Definition Bytes (KindTree Bytes)) → Stmts Bytes → Option TypingFault
refused with_paths definitions statements = fault_in (typing_query all_sorts (record { parameters = []; with_paths = with_paths; definitions = definitions; statements = statements }))

-- the fault of a whole query, over these types
abbrev pub fault_over : Sorts → Query Bytes → Option TypingFault
fault_over sorts q = fault_in (typing_query sorts q)

-- n copies of one thing, before others
abbrev pub repeated : {A : Type 0} → ℕ → A → List A → List A
repeated zero a rest = rest
repeated (suc n) a rest = a ∷ repeated n a rest

-- n global accumulators
abbrev pub so_many : ℕ → List (Bool × Bytes × Option (Tree Bytes))
so_many zero = []
so_many (suc n) = (false, codes "@@a" ++ (n ∷ []), None) ∷ so_many n
