-- Indexed: steps with their index entries, and the vertices that lead nowhere along them.
use Rattle.std.specs.Prelude.{◌≡◌, ℕ, ◌<◌, Bool, true, false, ◌&&◌, not, List, [], ◌∷◌, filter, map, length, Option, Some, None, IfSome}
use Rattle.gq_graph.specs.Candidates.{Sight, is_target}
use Rattle.gq_index.specs.declared.walks.Traversal.{Traversal}
use Rattle.gq_index.specs.declared.walks.Neighbor.{Neighbor}
use Rattle.gq_index.specs.Segments.{of_walk}
use Rattle.gq_rules_typing.specs.Patterns as patterns
use Rattle.gq_rules_meaning.specs.Paths.{steps_from}
use Rattle.gq_exec_source.specs.declared.indexed.IndexedStep.{IndexedStep}
use Rattle.gq_exec_source.specs.declared.indexed.Leading.{Leading}
use Rattle.gq_exec_source.specs.Entries.{AreFound}
use Rattle.gq_exec_source.specs.Marks.{is_marked}
use Rattle.gq_exec_source.specs.Ways.{step_of, step_walks}

-- a step as the definitions have it
abbrev pub plain : IndexedStep → patterns.PathStep
plain step = step_of step.step.now

-- whether a vertex isn't among those from which a path may continue, if these are known
abbrev pub is_left_out : Option Leading → ℕ → Bool
is_left_out (Some leading) v = not (is_marked leading.from v)
is_left_out None v = false

-- whether it is known that no path continues from a vertex
abbrev pub is_dead : List IndexedStep → ℕ → Bool
is_dead [] v = false
is_dead (step ∷ steps) v = is_left_out step.leading v

-- whether a vertex is a target of a step from which a path may continue along the steps after it
abbrev pub leads_on : List ℕ → List ℕ → List IndexedStep → ℕ → Bool
leads_on kinds targets rest v = not (is_dead rest v) && is_target kinds targets v

-- the marks are those of the targets from which a path may continue
abbrev pub AreTargets : List ℕ → List ℕ → List IndexedStep → List ℕ → Type 0
AreTargets kinds targets rest words = (v : ℕ) → is_marked words v ≡ leads_on kinds targets rest v

-- the same, if they are known
abbrev pub AreKnown : List ℕ → List ℕ → List IndexedStep → Option Leading → Type 0
AreKnown kinds targets rest leading = IfSome leading (λ known. AreTargets kinds targets rest known.to)

-- continues a walk along those ways of a type that lead on
abbrev pub went_on : List ℕ → List ℕ → List IndexedStep → ℕ → Traversal → List Neighbor → List Traversal
went_on kinds targets rest kind walk ways =
    map (λ way. record { source = walk.source; kind = kind; row = way.row; target = way.target }) (filter (λ (way : Neighbor). leads_on kinds targets rest way.target) ways)

-- a walk to a vertex that is left out has no continuation
abbrev pub AreDead : Sight → Option Leading → List patterns.PathStep → Type 0
AreDead sight leading steps = (walk : Traversal) → walk.target < length sight.kinds → is_left_out leading walk.target ≡ true → steps_from sight steps (of_walk walk) ≡ []

-- a step before others
pub record IsReady (sight : Sight) (step : IndexedStep) (steps : List IndexedStep) : Type 0 where
  pub found : AreFound sight.types step.entries.items (step_walks (plain step) sight.types)
  pub dead : AreDead sight step.leading (map plain (step ∷ steps))
  pub known : AreKnown sight.kinds (plain step).targets steps step.leading

abbrev pub AreReady : Sight → List IndexedStep → Type 0
AreReady sight [] = Unit {0}
AreReady sight (step ∷ steps) = IsReady sight step steps × AreReady sight steps
