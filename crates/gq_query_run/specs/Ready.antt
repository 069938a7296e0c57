-- Ready: queries of a session that are prepared for their runs, by their places.
use Rattle.std.specs.Prelude.{◌≡◌, ◌≢◌, ℕ, List, Option, Some, slice_get}
use Rattle.std.specs.Option.{option_flatten}
use Rattle.gq_graph.specs.Catalog.{Schema}
use Rattle.gq_rules_typing.specs.Statements.{Bytes, Query}
use Rattle.gq_rules_typing.specs.StatementViews.{view_query}
use Rattle.gq_query_run.specs.Kept.{Kept}

-- what is prepared of the query at a place
abbrev pub ready_at : {P : Type 0} → List (Option P) → ℕ → Option P
ready_at plans place = option_flatten (slice_get plans place)

-- when something is prepared of a query, for the graph with this number
abbrev pub IsOf : Type 0 → Type 1
IsOf P = P → Schema → Option ℕ → Query Bytes → Type 0

-- if something is prepared at a place, it is of this query
abbrev pub IsReadyFor : {P : Type 0} → IsOf P → Schema → List (Option P) → ℕ → Kept → Type 0
IsReadyFor {P = P} is_of schema plans place query = (p : P) → ready_at plans place ≡ Some p → is_of p schema query.graph (view_query query.tree)

-- what is prepared is of the queries at these places
abbrev pub AreReady : {P : Type 0} → IsOf P → Schema → List Kept → List (Option P) → Type 0
AreReady is_of schema queries plans = (place : ℕ) (query : Kept) → slice_get queries place ≡ Some query → IsReadyFor is_of schema plans place query

-- other places have what they had
abbrev pub OthersStay : {P : Type 0} → List (Option P) → List (Option P) → ℕ → Type 0
OthersStay old new place = (k : ℕ) → k ≢ place → ready_at new k ≡ ready_at old k
