-- CandidateExamples: the definition of candidates, computed on two vertices and three edges.
use Rattle.std.proofs.Common.{◌≡◌, ℕ, Bool, true, false, List, [], ◌∷◌, Option, Some, None, refl}
use Rattle.gq_graph.specs.declared.types.EdgeType.{EdgeType}
use Rattle.gq_graph.specs.declared.rows.EdgeRow.{EdgeRow}
use Rattle.gq_graph.specs.declared.rows.Pattern.{Pattern}
use Rattle.gq_graph.specs.declared.rows.Candidate.{Candidate}
use Rattle.gq_graph.specs.Candidates.{Sight, candidates}

type : Bool → Option ℕ → Option ℕ → EdgeType
type directed forward reverse = record { name = []; directed = directed; from = 0; to = 0; forward = forward; reverse = reverse; discriminators = 0; attributes = [] }

edge : ℕ → ℕ → ℕ → EdgeRow
edge kind from to = record { kind = kind; from = from; to = to; attributes = [] }

-- type 0 is directed, type 1 its reverse type, and type 2 undirected; there are an edge from 0 to 1 and two self loops
sight : Sight
sight = record {
  kinds = 0 ∷ 0 ∷ [];
  types = type true None (Some 1) ∷ type true (Some 0) None ∷ type false None None ∷ [];
  edges = edge 0 0 1 ∷ edge 2 1 1 ∷ edge 0 0 0 ∷ [];
}

along : List ℕ → Option Pattern
along edges = Some (record { edges = edges; targets = 0 ∷ [] })

found : ℕ → ℕ → ℕ → ℕ → Candidate
found source edge kind target = record { source = source; edge = Some edge; kind = Some kind; target = Some target }

-- by source, whatever the order of the set, then by type, a type that is listed twice once, then by edge
in_order : candidates sight (1 ∷ 0 ∷ []) (along (1 ∷ 0 ∷ 1 ∷ [])) ≡ found 0 0 0 1 ∷ found 0 2 0 0 ∷ found 0 2 1 0 ∷ found 1 0 1 0 ∷ []
unfolding sight type edge along found
in_order = refl

-- an undirected self loop matches once
a_self_loop : candidates sight (0 ∷ 1 ∷ []) (along (2 ∷ [])) ≡ found 1 1 2 1 ∷ []
unfolding sight type edge along found
a_self_loop = refl

-- a directed edge isn't walked against its direction, and a block without a pattern has one candidate a vertex
against : candidates sight (1 ∷ []) (along (0 ∷ [])) ≡ []
unfolding sight type edge along found
against = refl

alone : candidates sight (1 ∷ []) None ≡ record { source = 1; edge = None; kind = None; target = None } ∷ []
unfolding sight type edge
alone = refl
