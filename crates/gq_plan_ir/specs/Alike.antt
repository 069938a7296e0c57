-- Alike: when a run with references is in the state of the run with names: names and accumulators hold the same.
use Rattle.std.specs.Prelude.{◌≡◌, ℕ, true, false, List, [], ◌∷◌, map, Some, slice_get}
use Rattle.gq_value.specs.Accums.{Parts}
use Rattle.gq_rules_typing.specs.Sorts.{Fields, VertexSort, EdgeSort, names_of}
use Rattle.gq_rules_typing.specs.Words.{OfVertexType, OfEdgeType, OfTupleType, OfParts, function_named, names_of_parts}
use Rattle.gq_rules_typing.specs.FieldTypes.{tuple_fields}
use Rattle.gq_rules_meaning.specs.Answers.{Answer, Gives, Faults, Stuck}
use Rattle.gq_rules_meaning.specs.Calendars.{Calendar}
use Rattle.gq_rules_meaning.specs.Graphs.{Graph}
use Rattle.gq_rules_meaning.specs.Expressions.{World, setting}
use Rattle.gq_rules_meaning.specs.States.{Thing, Slot, State}
use Rattle.gq_rules_meaning.specs.Statements.{is_set}
use Rattle.gq_rules_meaning.specs.Runs.{Running}
use Rattle.gq_rules_meaning.specs.StateFits.{AllOf}
use Rattle.gq_plan_ir.specs.Naming.{Visible, View, Fixed}

-- the same fault, or related results on both sides
abbrev pub AnswersAlike : {F A B : Type 0} → (A → B → Type 0) → Answer F A → Answer F B → Type 0
AnswersAlike R (Gives a) (Gives b) = R a b
AnswersAlike R (Faults e) (Faults f) = e ≡ f
AnswersAlike R Stuck Stuck = Unit {0}
AnswersAlike R o p = ⊥

-- a run over a graph: what names denote, and the tuple types on both sides
pub record Sides (M N : Type 0) : Type 0 where
  pub fixed : Fixed M N
  pub graph : Graph
  pub calendar : Calendar
  pub named_tuples : List (M × Fields)
  pub tuples : List (N × Fields)

-- by names, and by references
abbrev pub old_world : {M N : Type 0} → Sides M N → World M
old_world s = record { words = s.fixed.names; tuples = s.named_tuples; graph = s.graph; calendar = s.calendar }

abbrev pub new_world : {M N : Type 0} → Sides M N → World N
new_world s = record { words = s.fixed.references; tuples = s.tuples; graph = s.graph; calendar = s.calendar }

module _ {M N : Type 0} (s : Sides M N) where
  -- names that are the same are equal; each name denotes the field, method, function or type that it names; and
  -- neither nothing nor a vertex type is looked up as a variable
  pub record WordsAlike : Type 0 where
    pub same : (x y : M) → s.fixed.names.same x y ≡ true → x ≡ y
    pub nothing : (r : N) → s.fixed.references.same r s.fixed.nothing ≡ false
    pub no_variable : (r : N) (t : M) → s.fixed.references.same r (s.fixed.vertex_type t) ≡ false
    pub is_type : (f : M) → s.fixed.references.is_type (s.fixed.field f) ≡ s.fixed.names.is_type f
    pub of_vertex : (t : ℕ) (sort : VertexSort) → slice_get s.graph.sorts.vertices t ≡ Some sort → (f : M)
        → s.fixed.references.field (OfVertexType t) (names_of sort.fields) (s.fixed.field f) ≡ s.fixed.names.field (OfVertexType t) (names_of sort.fields) f
    pub of_edge : (t : ℕ) (sort : EdgeSort) → slice_get s.graph.sorts.edges t ≡ Some sort → (f : M)
        → s.fixed.references.field (OfEdgeType t) (names_of sort.fields) (s.fixed.field f) ≡ s.fixed.names.field (OfEdgeType t) (names_of sort.fields) f
    pub of_tuple : (n : ℕ) (f : M)
        → s.fixed.references.field (OfTupleType n) (names_of (tuple_fields (setting (old_world s)) n)) (s.fixed.field f) ≡ s.fixed.names.field (OfTupleType n) (names_of (tuple_fields (setting (old_world s)) n)) f
    pub of_parts : (ps : Parts) (f : M) → s.fixed.references.field OfParts (names_of_parts ps) (s.fixed.field f) ≡ s.fixed.names.field OfParts (names_of_parts ps) f
    pub method : (m : M) → s.fixed.references.method (s.fixed.method m) ≡ s.fixed.names.method m
    pub function : (f : M) → function_named (setting (new_world s)) (s.fixed.function f) ≡ function_named (setting (old_world s)) f
    pub vertex_type : (t : M) → s.fixed.references.vertex_type (s.fixed.vertex_type t) ≡ s.fixed.names.vertex_type t
    pub edge_type : (t : M) → s.fixed.references.edge_type (s.fixed.edge_type t) ≡ s.fixed.names.edge_type t
    pub tuples : (n : ℕ) → tuple_fields (setting (new_world s)) n ≡ tuple_fields (setting (old_world s)) n

  -- ---- names

  -- a visible name and its reference hold the same
  pub record NameAlike (v : Visible M N) (a : M × Thing) (b : N × Thing) : Type 0 where
    pub name : a.0 ≡ v.name
    pub reference : b.0 ≡ v.reference
    pub thing : b.1 ≡ a.1
    pub set : is_set (Some a.1) ≡ v.is_set

  -- all visible names, in order
  abbrev pub NamesAlike : View M N → List (M × Thing) → List (N × Thing) → Type 0
  NamesAlike [] [] [] = Unit {0}
  NamesAlike (v ∷ view) (a ∷ as') (b ∷ bs) = NameAlike v a b × NamesAlike view as' bs
  NamesAlike view as' bs = ⊥

  -- ---- accumulators

  abbrev pub new_slot : Slot M → Slot N
  new_slot slot = record { name = s.fixed.accum slot.name; attached = slot.attached; kind = slot.kind; contents = slot.contents }

  abbrev pub new_slots : List (Slot M) → List (Slot N)
  new_slots slots = map new_slot slots

  -- an accumulator's reference is looked up and printed as its name is
  pub record AccumIs (slot : Slot M) : Type 0 where
    pub same : (a : M) → s.fixed.references.same (s.fixed.accum slot.name) (s.fixed.accum a) ≡ s.fixed.names.same slot.name a
    pub said : s.fixed.references.said (s.fixed.accum slot.name) ≡ s.fixed.names.said slot.name

  pub record SlotsAlike (old : List (Slot M)) (new : List (Slot N)) : Type 0 where
    pub is : new ≡ new_slots old
    pub accums : AllOf AccumIs old

  -- ---- states and runs

  pub record StatesAlike (view : View M N) (old : State M) (new : State N) : Type 0 where
    pub names : NamesAlike view old.names new.names
    pub slots : SlotsAlike old.slots new.slots

  pub record RunsAlike (view : View M N) (old : Running M) (new : Running N) : Type 0 where
    pub state : StatesAlike view old.state new.state
    pub turns : new.turns ≡ old.turns
    pub printed : new.printed ≡ old.printed
