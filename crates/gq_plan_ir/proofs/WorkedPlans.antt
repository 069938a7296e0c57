-- WorkedPlans: queries with their plans: the plan is typed, and it prints what the query prints.
use Rattle.std.proofs.Common.{◌≡◌, ℕ, true, false, List, [], ◌∷◌, pos, Some, None, refl}
use Rattle.std.specs.Prelude.{codes, is_ok}
use Rattle.gq_rules_meaning.specs.AddSign.TheVariants as add
use Rattle.gq_rules_meaning.specs.Plain.TheVariants as plain
use Rattle.gq_rules_meaning.specs.Tree.{Number, Name, Post, Sum, Field, Attached}
use Rattle.gq_rules_meaning.specs.View.{parts_of, terms_of}
use Rattle.gq_value.specs.declared.kind.Number.TheVariants as number
use Rattle.gq_graph.specs.declared.types.EdgeType.{EdgeType}
use Rattle.gq_graph.specs.declared.rows.EdgeRow.{EdgeRow}
use Rattle.gq_value.specs.Val.{Int}
use Rattle.gq_value.specs.Accums.{INT, SumAccum}
use Rattle.gq_rules_meaning.specs.Selecting.{Plain, Adds, AtAlias, no_act, act_and, These, OneHop, Select}
use Rattle.gq_rules_meaning.specs.TypingStatements.{Bytes, Ints, OfBase, OverElem, AllOf, Seeds, Selects, Sets, Whole, Selection, no_stmt, stmt_and, Assign, Print, Accums, QueryOver}
use Rattle.gq_rules_meaning.specs.Sorts.{Sorts}
use Rattle.gq_rules_meaning.specs.QueryTypes.{typing_over}
use Rattle.gq_rules_meaning.specs.Calendars.{Calendar}
use Rattle.gq_rules_meaning.specs.Graphs.{Graph}
use Rattle.gq_rules_meaning.specs.Queries.{run_query, run_plan}
use Rattle.gq_plan_ir.specs.declared.expr.FieldPlaces.{FieldPlaces}
use Rattle.gq_plan_ir.specs.Reference.{Reference, Place, Slot, VertexType, EdgeType as edge_numbered, FieldAt}
use Rattle.gq_plan_ir.specs.References.{by_reference}
use Rattle.gq_plan_ir.specs.Belonging.{kind_judged, world_of}

-- ---- a knows b and c, b knows c

abbrev sorts : Sorts
sorts = record {
  vertices = record { name = codes "person"; fields = (codes "age", INT) ∷ [] } ∷ [];
  edges = record { name = codes "knows"; directed = true; from = 0; to = 0; forward = None; fields = (codes "w", INT) ∷ [] } ∷ [];
  own_vertices = 0 ∷ [];
  own_edges = 0 ∷ [];
}

abbrev knows : EdgeType
knows = record { name = codes "knows"; directed = true; from = 0; to = 0; forward = None; reverse = None; discriminators = 0; attributes = [] }

abbrev edge_row : ℕ → ℕ → EdgeRow
edge_row a b = record { kind = 0; from = a; to = b; attributes = [] }

abbrev persons : Graph
persons = record {
  sorts = sorts;
  sight = record { kinds = 0 ∷ 0 ∷ 0 ∷ []; types = knows ∷ []; edges = edge_row 0 1 ∷ edge_row 0 2 ∷ edge_row 1 2 ∷ [] };
  ids = codes "a" ∷ codes "b" ∷ codes "c" ∷ [];
  vertex_values = (Int (pos 1) ∷ []) ∷ (Int (pos 2) ∷ []) ∷ (Int (pos 3) ∷ []) ∷ [];
  edge_values = (Int (pos 10) ∷ []) ∷ (Int (pos 20) ∷ []) ∷ (Int (pos 30) ∷ []) ∷ [];
}

-- ---- SumAccum<INT> @n = 1; S = {person.*}; T = SELECT t FROM S:s -(knows:e)-> person:t ACCUM t.@n += s.@n + e.w; PRINT S[S.@n AS n], S AS all;

-- what its names denote
record Uses (N : Type 0) : Type 0 where
  S : N
  T : N
  s : N
  e : N
  t : N
  n : N
  w : N
  person : N
  knows : N

module _ {N K : Type 0} (u : Uses N) (sum : K) where
  abbrev select : Select N
  select = record {
    selected = u.t;
    source = u.S;
    alias = Some u.s;
    walk = OneHop (record { edges = These (u.knows ∷ []); edge_alias = Some u.e; targets = These (u.person ∷ []); target_alias = Some u.t });
    filter = None;
    accum = act_and (AtAlias u.t u.n (Adds (Plain (Sum (Post (Name u.s) (parts_of (Attached u.n ∷ []))) (terms_of ((add.Plus, Post (Name u.e) (parts_of (Field u.w ∷ []))) ∷ [])))))) no_act;
    post = no_act;
    having = None;
    order = [];
    limit = None;
  }

  abbrev snapshot : QueryOver N K
  snapshot = record {
    parameters = [];
    with_paths = false;
    definitions = Accums sum ((true, u.n, Some (Number 1)) ∷ []) ∷ [];
    statements = stmt_and (Assign u.S None (Sets (Seeds (AllOf u.person ∷ [])) []))
        (stmt_and (Assign u.T None (Selects select))
        (stmt_and (Print (Selection u.S (record { tree = Post (Name u.S) (parts_of (Attached u.n ∷ [])); key = codes "n" } ∷ []) (codes "S") ∷ Whole (record { tree = Name u.S; key = codes "all" }) ∷ [])) no_stmt));
  }

abbrev names : Uses Bytes
names = record { S = codes "S"; T = codes "T"; s = codes "s"; e = codes "e"; t = codes "t"; n = codes "@n"; w = codes "w"; person = codes "person"; knows = codes "knows" }

abbrev slots : List Bytes
slots = codes "@n" ∷ []

abbrev weight : FieldPlaces
weight = record { name = codes "w"; vertices = []; edges = Some 0 ∷ []; tuples = [] }

abbrev references : Uses Reference
references = record { S = Place 0; T = Place 1; s = Place 2; e = Place 3; t = Place 4; n = Slot 0; w = FieldAt weight; person = VertexType 0; knows = edge_numbered 0 }

the_plan_is_typed : is_ok (typing_over kind_judged (record { words = by_reference sorts slots; sorts = sorts; tuples = [] }) (snapshot references (SumAccum number.Int))) ≡ true
the_plan_is_typed = refl

the_plan_prints_what_the_query_prints : (clock : Calendar) → run_plan (world_of slots [] persons clock) (snapshot references (SumAccum number.Int)) [] 9 ≡ run_query persons clock (snapshot names (OverElem plain.Sum (OfBase Ints))) [] 9
the_plan_prints_what_the_query_prints clock = refl
