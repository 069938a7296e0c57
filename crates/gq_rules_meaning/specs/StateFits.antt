-- StateFits: when a state fits a scope: names denote things of their types, accumulators have contents of their kinds
-- that fit, one or one for each vertex of the store.
use Rattle.std.specs.Prelude.{◌≡◌, ℕ, Bool, true, false, not, ◌&&◌, List, [], ◌∷◌, length, Option, Some, None, slice_get}
use Rattle.std.specs.List.{list_all}
use Rattle.gq_value.specs.Val.{Val, Vertex}
use Rattle.gq_value.specs.Accums.{Base, Accum, MapAccum, GroupByAccum, Parts, no_part, part_and, Given, One, Keyed, Givens, no_given, given_and}
use Rattle.gq_graph.specs.Candidates.{among}
use Rattle.gq_rules_typing.specs.Holds.{Holds}
use Rattle.gq_rules_typing.specs.Fits.{fits, IsProper}
use Rattle.gq_rules_typing.specs.Sorts.{bases_of}
use Rattle.gq_rules_typing.specs.Types.{vertex_base}
use Rattle.gq_rules_typing.specs.Kinds.{input_type}
use Rattle.gq_rules_typing.specs.Scopes.{Entry, Variable, SetVariable, Alias, EdgeAlias, Accumulator, TupleName, Scope, entry}
use Rattle.gq_rules_meaning.specs.Graphs.{vertex_count}
use Rattle.gq_rules_meaning.specs.Expressions.{World, setting}
use Rattle.gq_rules_meaning.specs.States.{Thing, SetOf, EdgeRow, Member, Slot, State, thing_named, slot_named}
use Rattle.gq_rules_meaning.specs.States as states
use Rattle.gq_rules_meaning.specs.Fitting.{is_vertex_of, is_value, is_row_of, row_is, HoldsValues, WorldFits}

-- each once
abbrev pub no_repeats : List ℕ → Bool
no_repeats [] = true
no_repeats (v ∷ vs) = not (among vs v) && no_repeats vs

-- what a name denotes fits its entry; a member of `S[..]` is in its set
abbrev pub ThingFits : {N : Type 0} → World N → Entry → Option Thing → Type 0
ThingFits world (Variable b) (Some (states.Variable c v)) = (c ≡ b) × (is_value world b v ≡ true)
ThingFits world (SetVariable types) (Some (SetOf ts vs)) = (ts ≡ types) × (list_all (is_vertex_of world.graph types) vs ≡ true) × (no_repeats vs ≡ true)
ThingFits world (Alias types) (Some (states.Variable c (Vertex v))) = (c ≡ vertex_base types) × (is_vertex_of world.graph types v ≡ true)
ThingFits world (EdgeAlias types) (Some (EdgeRow r t)) = is_row_of world.graph types r t ≡ true
ThingFits world (Accumulator k attached) thing = Unit {0}
ThingFits world TupleName thing = Unit {0}
ThingFits world e thing = ⊥

-- a content of its kind, which fits
pub record ContentFits {N : Type 0} (world : World N) (k : Accum) (c : Holds k) : Type 0 where
  pub values : HoldsValues world k c
  pub fit : fits k c ≡ true
  pub proper : IsProper k c

-- how many contents an accumulator has
abbrev pub places_of : {N : Type 0} → World N → Bool → ℕ
places_of world true = vertex_count world.graph
places_of world false = 1

-- an accumulator of a kind, attached or global, with its contents
pub record SlotFits {N : Type 0} (world : World N) (k : Accum) (attached : Bool) (slot : Slot N) : Type 0 where
  pub kind : slot.kind ≡ k
  pub attaches : slot.attached ≡ attached
  pub count : length slot.contents ≡ places_of world attached
  pub contents : (v : ℕ) (c : Holds slot.kind) → slice_get slot.contents v ≡ Some c → ContentFits world slot.kind c

-- a declared accumulator exists
pub record AccumFits {N : Type 0} (world : World N) (slots : List (Slot N)) (a : N) (k : Accum) (attached : Bool) : Type 0 where
  pub slot : Slot N
  pub found : slot_named world slots a ≡ Some slot
  pub fit : SlotFits world k attached slot

-- names and accumulators fit a scope
pub record NamesFit {N : Type 0} (world : World N) (s : Scope N) (names : List (N × Thing)) (slots : List (Slot N)) : Type 0 where
  pub store : WorldFits world
  pub setting : s.setting ≡ setting world
  pub named : (x : N) (e : Entry) → entry s x ≡ Some e → ThingFits world e (thing_named world names x)
  pub accum : (a : N) (k : Accum) (attached : Bool) → entry s a ≡ Some (Accumulator k attached) → AccumFits world slots a k attached

abbrev pub StateFits : {N : Type 0} → World N → Scope N → State N → Type 0
StateFits world s state = NamesFit world s state.names state.slots

-- ---- inputs

abbrev pub ValueFits : {N : Type 0} → World N → Option Base → Val → Type 0
ValueFits world None v = ⊥
ValueFits world (Some b) v = is_value world b v ≡ true

abbrev mutual
  -- an input of the types that its kind takes
  pub InputFits : {N : Type 0} → World N → Accum → Given → Type 0
  InputFits world (MapAccum b k) (Keyed row (given_and x no_given)) = (row_is world (b ∷ []) row ≡ true) × InputFits world k x
  InputFits world (GroupByAccum keys ps) (Keyed row xs) = (row_is world (bases_of keys) row ≡ true) × InputsFit world ps xs
  InputFits world k (One v) = ValueFits world (input_type k) v
  InputFits world k x = ⊥

  pub InputsFit : {N : Type 0} → World N → Parts → Givens → Type 0
  InputsFit world no_part no_given = Unit {0}
  InputsFit world (part_and name k ps) (given_and x xs) = InputFits world k x × InputsFit world ps xs
  InputsFit world _ _ = ⊥

-- all of a list
abbrev pub AllOf : {A : Type 0} → (A → Type 0) → List A → Type 0
AllOf P [] = Unit {0}
AllOf P (x ∷ xs) = P x × AllOf P xs
