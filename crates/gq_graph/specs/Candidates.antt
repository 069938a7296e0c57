-- Candidates: the candidates of a block: from which vertices it walks, along which edges, to where, and in what order.
-- Here every edge is looked at under every type from every vertex. The code has lists of walks and prefix sums.
use Rattle.std.specs.Prelude.{ℕ, suc, ◌==◌, Bool, false, if◌then◌else◌, List, [], ◌∷◌, filter, map, length, Option, Some, None}
use Rattle.std.specs.Option.{is_some, unwrap_or}
use Rattle.std.specs.List.{flat_map, list_any, slice_get}
use Rattle.gq_graph.specs.declared.types.EdgeType.{EdgeType}
use Rattle.gq_graph.specs.declared.rows.EdgeRow.{EdgeRow}
use Rattle.gq_graph.specs.declared.rows.Pattern.{Pattern}
use Rattle.gq_graph.specs.declared.rows.Candidate.{Candidate}

-- what a block sees: the type of each vertex, the edge types, and the edges
pub record Sight : Type 0 where
  pub kinds : List ℕ
  pub types : List EdgeType
  pub edges : List EdgeRow

-- items with their numbers, counted from n
abbrev pub numbered : {A : Type 0} → ℕ → List A → List (ℕ × A)
numbered n [] = []
numbered n (x ∷ xs) = (n, x) ∷ numbered (suc n) xs

-- whether a number is listed
abbrev pub among : List ℕ → ℕ → Bool
among ns n = list_any (λ m. m == n) ns

-- where an edge leads from a vertex: from FROM to TO, under a reverse type from TO to FROM, under an undirected type from
-- either end. An edge with both ends at the vertex leads there once
abbrev pub led_to : EdgeType → EdgeRow → ℕ → Option ℕ
led_to type edge v =
    if is_some type.forward then backward
    else (if edge.from == v then Some edge.to
    else (if type.directed then None else backward))
  where
    backward : Option ℕ
    backward = if edge.to == v then Some edge.from else None

-- the far end of an edge, if it can be walked from the vertex under the type with this number: a reverse type has the edges
-- of its forward type
abbrev pub far_end : ℕ × EdgeType → EdgeRow → ℕ → Option ℕ
far_end type edge v = if edge.kind == unwrap_or type.1.forward type.0 then led_to type.1 edge v else None

-- whether a vertex has one of these types
abbrev pub is_target : List ℕ → List ℕ → ℕ → Bool
is_target kinds targets v = of_kind (slice_get kinds v)
  where
    of_kind : Option ℕ → Bool
    of_kind None = false
    of_kind (Some kind) = among targets kind

-- the candidate of a vertex, a type and an edge, if the edge leads to a target
abbrev pub candidate_of : Sight → Pattern → ℕ → ℕ × EdgeType → ℕ × EdgeRow → List Candidate
candidate_of sight pattern v type edge = reached (far_end type edge.1 v)
  where
    reached : Option ℕ → List Candidate
    reached None = []
    reached (Some w) = if is_target sight.kinds pattern.targets w then record { source = v; edge = Some edge.0; kind = Some type.0; target = Some w } ∷ [] else []

-- the candidates of a vertex: by number of type, a type that is listed twice once, and then by number of edge
abbrev pub candidates_from : Sight → Pattern → ℕ → List Candidate
candidates_from sight pattern v =
    flat_map (λ type. flat_map (candidate_of sight pattern v type) (numbered 0 sight.edges))
    (filter (λ type. among pattern.edges type.0) (numbered 0 sight.types))

-- the vertices of a set, by number
abbrev pub by_number : Sight → List ℕ → List ℕ
by_number sight set = filter (among set) (map (λ v. v.0) (numbered 0 sight.kinds))

-- a block without a pattern has one candidate a vertex
abbrev pub alone : ℕ → Candidate
alone v = record { source = v; edge = None; kind = None; target = None }

-- the candidates of a block
abbrev pub candidates : Sight → List ℕ → Option Pattern → List Candidate
candidates sight set None = map alone (by_number sight set)
candidates sight set (Some pattern) = flat_map (candidates_from sight pattern) (by_number sight set)

-- how many edges can be walked from a vertex under a type
abbrev pub degree : Sight → ℕ × EdgeType → ℕ → ℕ
degree sight type v = length (filter (λ edge. is_some (far_end type edge v)) sight.edges)
