-- Assigning: the effect of an assignment, step by step.
use Rattle.std.specs.Prelude.{◌≡◌, ℕ, false, Option, Some, None, Result, OnOk}
use Rattle.gq_tree.specs.Tree.{Tree, Name}
use Rattle.gq_value.specs.declared.kind.BaseType.{BaseType}
use Rattle.gq_value.specs.AccumViews.{base_of}
use Rattle.gq_rules_typing.specs.Statements.{SetTypes}
use Rattle.gq_rules_meaning.specs.Calendars.{Calendar}
use Rattle.gq_rules_meaning.specs.Sets as sets
use Rattle.gq_rules_meaning.specs.Sets.{set_assigned}
use Rattle.gq_rules_meaning.specs.States.{Thing, SetOf, State}
use Rattle.gq_rules_meaning.specs.Statements.{is_set}
use Rattle.gq_base.specs.declared.memory.OutOfMemory.{OutOfMemory}
use Rattle.gq_plan_ir.specs.Reference.{Reference, Place}
use Rattle.gq_frame.specs.Slots.{slots_are}
use Rattle.gq_frame.specs.declared.live.Live.{Live}
use Rattle.gq_frame.specs.Lives.{Lives}
use Rattle.gq_exec_vars.specs.declared.typed.TypedSet.{TypedSet}
use Rattle.gq_flow.specs.declared.selects.Selected.{Selected}
use Rattle.gq_exec_control.specs.Contexts.{Basis, world_on}
use Rattle.gq_exec_control.specs.Places.{IsVariable, is_variable}

abbrev pub IsNoName : Tree Reference → Type 0
IsNoName (Name x) = ⊥
IsNoName t = Unit {0}

-- the set that is in view, or None if there is none
abbrev pub IsCopied : Option Thing → Option TypedSet → Type 0
IsCopied o None = is_set o ≡ false
IsCopied o (Some set) = o ≡ Some (SetOf set.types set.vertices)

-- the type of the variable that is in view, or None if there is none
abbrev pub IsBase : Option Thing → Option BaseType → Type 0
IsBase o None = is_variable o ≡ false
IsBase o (Some b) = IsVariable (base_of b) o

-- a set is assigned to a set variable
abbrev pub Fixed : Calendar → Basis → ℕ → Option (SetTypes Reference) → sets.TypedSet → Live → Live → Result (Unit {0}) OutOfMemory → Type 0
Fixed clock b place types set old new result = OnOk result ((s : State Reference) → Lives old s → Lives new (set_assigned (world_on clock b) (Place place) types set s))

-- the same, with the accumulators of a SELECT
abbrev pub Kept : Calendar → Basis → ℕ → Option (SetTypes Reference) → Selected → Live → Live → Result (Unit {0}) OutOfMemory → Type 0
Kept clock b place types r old new result =
    OnOk result ((s : State Reference) → Lives old s → Lives new (set_assigned (world_on clock b) (Place place) types (r.types, r.vertices) (record s { slots = slots_are r.accums })))
