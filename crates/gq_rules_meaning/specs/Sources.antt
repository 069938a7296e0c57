-- Sources: the vertices and types from which a SELECT begins, its candidates, and what their names denote.
use Rattle.std.specs.Prelude.{ℕ, Bool, true, false, List, [], ◌∷◌, map, length, Option, Some, None, nat_le}
use Rattle.gq_graph.specs.declared.rows.Candidate.{Candidate}
use Rattle.gq_graph.specs.declared.rows.Pattern.{Pattern}
use Rattle.gq_graph.specs.Candidates.{candidates}
use Rattle.gq_rules_typing.specs.Selecting.{Hop, Walk, Nowhere, OneHop, Path, Select}
use Rattle.gq_rules_typing.specs.Words.{Setting}
use Rattle.gq_rules_typing.specs.Patterns.{edge_types, hop_step, path_step, edge_alias, target_alias, end_types, is_alias}
use Rattle.gq_rules_meaning.specs.Graphs.{vertices_of}
use Rattle.gq_rules_meaning.specs.Expressions.{World, setting}
use Rattle.gq_rules_meaning.specs.States.{Thing, SetOf, EdgeRow, a_vertex, thing_named}
use Rattle.gq_rules_meaning.specs.Paths.{bindings}

-- the aliases with their types, and the vertices to begin from
pub record From (N : Type 0) : Type 0 where
  pub source : Option N
  pub source_types : List ℕ
  pub start : List ℕ
  pub edge : Option N
  pub target : Option N
  pub target_types : List ℕ

-- a visible set variable with its types, else a vertex type with its vertices
abbrev pub source_of : {N : Type 0} → World N → List (N × Thing) → N → List ℕ × List ℕ
source_of world names n = of_thing (thing_named world names n)
  where
    of_type : Option ℕ → List ℕ × List ℕ
    of_type None = ([], [])
    of_type (Some t) = (t ∷ [], vertices_of world.graph (t ∷ []))

    of_thing : Option Thing → List ℕ × List ℕ
    of_thing (Some (SetOf types vs)) = (types, vs)
    of_thing _ = of_type (world.words.vertex_type n)

abbrev pub from : {N : Type 0} → World N → List (N × Thing) → Select N → From N
from world names q = record {
  source = q.alias;
  source_types = (source_of world names q.source).0;
  start = (source_of world names q.source).1;
  edge = edge_alias q.walk;
  target = target_alias q.walk;
  target_types = end_types (setting world) q.walk;
}

-- ---- candidates

abbrev pub hop_pattern : {N : Type 0} → Setting N → Hop N → Pattern
hop_pattern setting h = record { edges = edge_types setting h.edges; targets = (hop_step setting h).targets }

-- the candidates of a block, from these vertices
abbrev pub candidates_of : {N : Type 0} → World N → List ℕ → Walk N → List Candidate
candidates_of world start Nowhere = candidates world.graph.sight start None
candidates_of world start (OneHop h) = candidates world.graph.sight start (Some (hop_pattern (setting world) h))
candidates_of world start (Path steps) = bindings world.graph.sight start (map (path_step (setting world)) steps)

-- a path has at most 4,194,304 bindings
abbrev pub within_bound : {N : Type 0} → Walk N → List Candidate → Bool
within_bound (Path steps) cs = nat_le (length cs) 4194304
within_bound walk cs = true

-- ---- the names of a candidate

abbrev pub named_as : {N : Type 0} → Option N → Option Thing → List (N × Thing) → List (N × Thing)
named_as (Some x) (Some thing) names = (x, thing) ∷ names
named_as _ _ names = names

abbrev pub edge_thing : Option ℕ → Option ℕ → Option Thing
edge_thing (Some r) (Some t) = Some (EdgeRow r t)
edge_thing _ _ = None

abbrev pub target_thing : List ℕ → Option ℕ → Option Thing
target_thing types None = None
target_thing types (Some v) = Some (a_vertex types v)

-- the source, the edge and the target come into view
abbrev pub with_candidate : {N : Type 0} → From N → Candidate → List (N × Thing) → List (N × Thing)
with_candidate f c names =
    named_as f.target (target_thing f.target_types c.target)
    (named_as f.edge (edge_thing c.edge c.kind)
    (named_as f.source (Some (a_vertex f.source_types c.source)) names))

-- ---- the selected vertex: at the target if the flag is true, else at the source

abbrev pub selects_target : {N : Type 0} → World N → Select N → Bool
selects_target world q = is_alias world.words.same (target_alias q.walk) q.selected

abbrev pub alias_at : {N : Type 0} → From N → Bool → Option N
alias_at f true = f.target
alias_at f false = f.source

abbrev pub types_at : {N : Type 0} → From N → Bool → List ℕ
types_at f true = f.target_types
types_at f false = f.source_types

-- a vertex under the alias of its end
abbrev pub with_vertex : {N : Type 0} → From N → Bool → ℕ → List (N × Thing) → List (N × Thing)
with_vertex f end v names = named_as (alias_at f end) (Some (a_vertex (types_at f end) v)) names
