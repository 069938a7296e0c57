-- Placed: the names of the jobs of a session, and the place of each name in a tree.
use Rattle.std.specs.Prelude.{ℕ, List, map, String}
use Rattle.std.specs.BTreeMap.{BTreeMap}
use Rattle.gq_schema.specs.Kept.{HavePlaces}
use Rattle.gq_ddl.specs.declared.named.NamedJob.{NamedJob}

abbrev pub names_of : List NamedJob → List (List ℕ)
names_of jobs = map (λ (entry : NamedJob). entry.name) jobs

-- the tree maps the name of each job to its place, so that no two have one name
abbrev pub ArePlaced : {Y : Type 0} → List NamedJob → BTreeMap (String Y) ℕ → Type 0
ArePlaced jobs places = HavePlaces (names_of jobs) places
