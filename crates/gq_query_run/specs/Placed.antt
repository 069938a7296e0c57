-- Placed: the names of the queries of a session, and the place of each name in a tree.
use Rattle.std.specs.Prelude.{ℕ, List, map, String}
use Rattle.std.specs.BTreeMap.{BTreeMap}
use Rattle.gq_schema.specs.Kept.{HavePlaces}
use Rattle.gq_query_run.specs.Kept.{Kept}

abbrev pub names_of : List Kept → List (List ℕ)
names_of queries = map (λ (query : Kept). query.name) queries

-- the tree maps the name of each query to its place, so that no two have one name
abbrev pub ArePlaced : {Y : Type 0} → List Kept → BTreeMap (String Y) ℕ → Type 0
ArePlaced queries places = HavePlaces (names_of queries) places
