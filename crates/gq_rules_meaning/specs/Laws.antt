-- Laws: the laws of all typed expressions, blocks, statements and queries.
use Rattle.std.specs.Prelude.{◌≡◌, ℕ, true, Ok, Bool, false, List, Some, slice_get}
use Rattle.gq_rules_typing.specs.Tree.{Tree}
use Rattle.gq_value.specs.Accums.{Accum, Given}
use Rattle.gq_graph.specs.Candidates.{is_target}
use Rattle.gq_rules_typing.specs.Holds.{Holds}
use Rattle.gq_rules_typing.specs.After.{after}
use Rattle.gq_rules_typing.specs.Selecting.{Input, Acts}
use Rattle.gq_rules_typing.specs.Judging.{Typed}
use Rattle.gq_rules_typing.specs.Kinds.{read_type}
use Rattle.gq_rules_typing.specs.ExpressionTypes.{Names, typing}
use Rattle.gq_rules_typing.specs.ActTypes.{typing_input, typing_acts}
use Rattle.gq_rules_typing.specs.Scopes.{Place, InSelection, Scope, names_at}
use Rattle.gq_rules_meaning.specs.Expressions.{World, setting, Look, meaning}
use Rattle.gq_rules_meaning.specs.States.{Thing, Slot, field_of, sight}
use Rattle.gq_rules_meaning.specs.Blocks.{Contribution, input_of, contributions}
use Rattle.gq_rules_meaning.specs.StateFits.{NamesFit, InputFits, AllOf}
use Rattle.gq_rules_meaning.specs.Fitting.{Safe, Suits, HoldsValues, WorldFits}

-- an expression sees values of the types of the names that it may use
pub record LookFits {N : Type 0} (names : Names N) (look : Look N) : Type 0 where
  pub world : WorldFits look.world
  pub setting : names.setting ≡ setting look.world
  pub field : look.field ≡ field_of look.world
  pub named : (x : N) (ty : Typed) → names.named x ≡ Ok ty → Safe (Suits look.world ty) (look.named x)
  pub global : (a : N) (k : Accum) → names.global a ≡ Ok k → Safe (Suits look.world (read_type k)) (look.global a)
  pub attached : (a : N) (k : Accum) (v : ℕ) → names.attached a ≡ Ok k → is_target look.world.graph.sight.kinds look.world.graph.sorts.own_vertices v ≡ true → Safe (Suits look.world (read_type k)) (look.attached a v)
  pub before : (a : N) (k : Accum) (v : ℕ) → names.before a ≡ Ok k → is_target look.world.graph.sight.kinds look.world.graph.sorts.own_vertices v ≡ true → Safe (Suits look.world (read_type k)) (look.before a v)

-- a typed expression is never stuck, and its value has its type; N is the representation of a name
abbrev pub ExpressionLaw : Type 0 → Type 0
ExpressionLaw N = (names : Names N) (look : Look N) → LookFits names look → (t : Tree N) (ty : Typed) → typing names t ≡ Ok ty → Safe (Suits look.world ty) (meaning look t)

-- a place outside `S[..]`
abbrev pub is_plain : {N : Type 0} → Place N → Bool
is_plain (InSelection set) = false
is_plain place = true

-- in a state that fits its scope, the names that may be used at a place have values of their types
abbrev pub LookLaw : Type 0 → Type 0
LookLaw N = (world : World N) (s : Scope N) (place : Place N) (names : List (N × Thing)) (slots before : List (Slot N))
    → is_plain place ≡ true → NamesFit world s names slots → NamesFit world s names before → LookFits (names_at s place) (sight world names slots before)

-- a typed input is never stuck, and is one that its kind takes
abbrev pub InputLaw : Type 0 → Type 0
InputLaw N = (names : Names N) (look : Look N) → LookFits names look → (k : Accum) (x : Input N) (q : Bool) → typing_input names (Some k) x ≡ Ok q → Safe (InputFits look.world k) (input_of look k x)

-- contents keep to values of their types, for all inputs of their kind
abbrev pub ContentLaw : Type 0 → Type 0
ContentLaw N = (world : World N) (k : Accum) (c : Holds k) (xs : List Given) → HoldsValues world k c → AllOf (InputFits world k) xs → HoldsValues world k (after k c xs)

-- an input is one that its accumulator takes
abbrev pub Contributes : {N : Type 0} → World N → List (Slot N) → Contribution → Type 0
Contributes {N = N} world slots x = (slot : Slot N) → slice_get slots x.slot ≡ Some slot → InputFits world slot.kind x.input

-- the contributions of a typed ACCUM are never stuck, if names and accumulators fit its scope
abbrev pub ContributionLaw : Type 0 → Type 0
ContributionLaw N = (world : World N) (s : Scope N) (names : List (N × Thing)) (slots : List (Slot N)) → NamesFit world s names slots
    → (acts : Acts N) (n m : ℕ) → typing_acts s false n acts ≡ Ok m → Safe (AllOf (Contributes world slots)) (contributions (sight world names slots slots) slots acts)
