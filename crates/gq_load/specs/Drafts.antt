-- Drafts: the values of one row as read before any row of its record is put. No clause of another crate cites this.
use Rattle.std.specs.Prelude.{◌≡◌, length, slice_get, ℕ, List, [], ◌∷◌, ◌++◌, if◌then◌else◌, Bool, Option, Some, None}
use Rattle.gq_graph.specs.Catalog.{Schema}
use Rattle.gq_load_check.specs.declared.job.Target.{Target}
use Rattle.gq_load_check.specs.declared.job.Target.TheVariants as target
use Rattle.gq_load_check.specs.Targets.{edge_type_at, attributes_of}
use Rattle.gq_index.specs.Steps.{Step, Vertex}
use Rattle.gq_index.specs.Ends.{edge_steps}
use Rattle.gq_index.specs.Namings.{naming_in}
use Rattle.gq_load.specs.declared.route.Route.{Route}
use Rattle.gq_load.specs.declared.draft.Draft.{Draft}
use Rattle.gq_load.specs.Rows.{vertex_row}

-- the steps of a draft
abbrev pub drafted_as : Schema → Target → Route → Draft → List Step
drafted_as schema (target.Vertex n) route draft = Vertex (vertex_row n draft.from draft.row) ∷ []
drafted_as schema (target.Edge n) route draft =
    edge_steps (naming_in (edge_type_at schema) n)
    (vertex_row (edge_type_at schema n).from draft.from route.from)
    (vertex_row (edge_type_at schema n).to draft.to route.to) draft.row

abbrev pub drafted : Schema → Route → Draft → List Step
drafted schema route draft = drafted_as schema route.target route draft

-- the steps of the drafts of all routes
abbrev pub all_drafted : Schema → List Route → List Draft → List Step
all_drafted schema [] drafts = []
all_drafted schema (route ∷ routes) [] = []
all_drafted schema (route ∷ routes) (draft ∷ drafts) = drafted schema route draft ++ all_drafted schema routes drafts

-- the steps that were read, or None if a value couldn't be read
abbrev pub if_read : Bool → List Step → Option (List Step)
if_read ok steps = if ok then Some steps else None

-- a draft has a value for each attribute
abbrev pub IsSized : Schema → Route → Draft → Type 0
IsSized schema route draft = length draft.row ≡ length (attributes_of schema route.target)

-- the same for all drafts
abbrev pub AreSized : Schema → List Route → List Draft → Type 0
AreSized schema routes drafts =
    (k : ℕ) (route : Route) (draft : Draft) → slice_get routes k ≡ Some route → slice_get drafts k ≡ Some draft
    → IsSized schema route draft
