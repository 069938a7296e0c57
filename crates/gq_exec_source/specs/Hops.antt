-- Hops: the walks of a step as lists by their start vertex, and the continuations of a walk, hop by hop.
-- Only walks that lead on are listed: to a vertex of a target type, from which the next hop continues. Those that are
-- left out lead to no binding.
use Rattle.std.specs.Prelude.{◌≡◌, ℕ, ◌==◌, ◌<◌, nat_lt, Bool, true, ◌&&◌, not, List, [], ◌∷◌, filter, length, map, slice_index_or}
use Rattle.std.specs.List.{flat_map}
use Rattle.gq_graph.specs.Candidates.{Sight, is_target}
use Rattle.gq_index.specs.declared.walks.Traversal.{Traversal}
use Rattle.gq_index.specs.Segments.{of_walk}
use Rattle.gq_index.specs.Sights.{vertex_kinds}
use Rattle.gq_rules_typing.specs.Patterns.{PathStep}
use Rattle.gq_rules_meaning.specs.Paths.{steps_from}
use Rattle.gq_exec_source.specs.declared.hop.Beyond.{Beyond}

-- the walks of a hop from a vertex
abbrev pub walks_at : List (List Traversal) → ℕ → List Traversal
walks_at hop v = slice_index_or hop v []

-- whether a path continues from a vertex: it ends there, or the next hop has walks from it
abbrev pub goes_on : List (List (List Traversal)) → ℕ → Bool
goes_on [] v = true
goes_on (hop ∷ hops) v = not (length (walks_at hop v) == 0)

-- whether a walk is listed
abbrev pub is_kept : List ℕ → List ℕ → List (List (List Traversal)) → Traversal → Bool
is_kept kinds targets hops walk = nat_lt walk.source (length kinds) && (is_target kinds targets walk.target && goes_on hops walk.target)

abbrev pub kept : Beyond → List Traversal → List Traversal
kept beyond walks = filter (is_kept (vertex_kinds beyond.vertices.now) beyond.targets.now beyond.hops.now) walks

-- the walks that start from a vertex
abbrev pub taken_from : ℕ → List Traversal → List Traversal
taken_from v walks = filter (λ (walk : Traversal). walk.source == v) walks

-- a hop has these walks, by the vertex that they start from
abbrev pub IsHop : ℕ → List (List Traversal) → List Traversal → Type 0
IsHop n hop walks = (v : ℕ) → v < n → walks_at hop v ≡ taken_from v walks

-- a walk, continued along the next one; the source stays
abbrev pub on_along : Traversal → Traversal → Traversal
on_along walk next = record { source = walk.source; kind = next.kind; row = next.row; target = next.target }

-- the continuations of a walk, hop by hop
abbrev pub walks_on : List (List (List Traversal)) → Traversal → List Traversal
walks_on [] walk = walk ∷ []
walks_on (hop ∷ hops) walk = flat_map (λ next. walks_on hops (on_along walk next)) (walks_at hop walk.target)

-- the hops of steps: from each vertex they give the same bindings as the steps
abbrev pub AreHops : Sight → List PathStep → List (List (List Traversal)) → Type 0
AreHops sight steps hops = (walk : Traversal) → walk.target < length sight.kinds → map of_walk (walks_on hops walk) ≡ steps_from sight steps (of_walk walk)

-- a walk without any step yet
abbrev pub start_at : ℕ → Traversal
start_at v = record { source = v; kind = 0; row = 0; target = v }

-- all bindings from these vertices, as walks
abbrev pub walks_from : List (List (List Traversal)) → List ℕ → List Traversal
walks_from hops sources = flat_map (λ v. walks_on hops (start_at v)) sources
