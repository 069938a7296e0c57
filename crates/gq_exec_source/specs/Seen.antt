-- Seen: which types a plan sees of a catalog, and the pattern after FROM.
use Rattle.std.specs.Prelude.{ℕ, List, [], Option, Some}
use Rattle.std.specs.Option.{option_map, option_to_list}
use Rattle.gq_tree.specs.declared.select.Way.{Way}
use Rattle.gq_graph.specs.Catalog.{Schema}
use Rattle.gq_rules_typing.specs.Sorts.{Sorts, sorts_of}
use Rattle.gq_rules_typing.specs.Words.{Setting, if_own}
use Rattle.gq_rules_meaning.specs.States as states
use Rattle.gq_rules_meaning.specs.States.{SetOf}
use Rattle.gq_plan_ir.specs.declared.block.SelectSource.{SelectSource}
use Rattle.gq_plan_ir.specs.declared.block.SelectSource.TheVariants as source
use Rattle.gq_plan_ir.specs.declared.plan.Plan.{Plan}
use Rattle.gq_plan_ir.specs.Reference.{Reference}
use Rattle.gq_plan_ir.specs.References.{by_reference}
use Rattle.gq_frame.specs.declared.frame.Thing.{Thing}
use Rattle.gq_frame.specs.Names.{thing_in}

abbrev pub sorts_for : Schema → Plan → Sorts
sorts_for schema p = sorts_of schema (Some (record { name = []; vertices = p.vertices; edges = p.edges }))

-- names of accumulators and tuple types have no part in patterns
abbrev pub setting_for : Schema → Plan → Setting Reference
setting_for schema p = record { words = by_reference (sorts_for schema p) []; sorts = sorts_for schema p; tuples = [] }

-- a type, if it is among those of the graph
abbrev pub own_of : List ℕ → ℕ → Option ℕ
own_of own t = if_own own (Some t)

-- a way of a type, if that is among those of the graph
abbrev pub own_way_of : List ℕ → Way × ℕ → Option (Way × ℕ)
own_way_of own w = option_map (λ t. (w.0, t)) (own_of own w.1)

abbrev pub set_types : Option states.Thing → List ℕ
set_types (Some (SetOf types vs)) = types
set_types o = []

-- the types of the set at a place, or the type of the graph
abbrev pub types_from : Plan → List (Option Thing) → SelectSource → List ℕ
types_from p things (source.Set place) = set_types (thing_in things place)
types_from p things (source.Type t) = option_to_list (own_of p.vertices t)
