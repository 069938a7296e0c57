-- States: the contents of names and accumulators while a query runs, and what an expression sees of them.
-- The code has a frame of slots.
use Rattle.std.specs.Prelude.{ℕ, zero, suc, ◌-◌, Bool, if◌then◌else◌, List, [], ◌∷◌, length, drop, Option, Some, None, is_some, position, slice_get}
use Rattle.gq_value.specs.Val.{Val, Vertex, Tuple, list_of}
use Rattle.gq_value.specs.Accums.{Base, TUPLE, Accum, Parts, no_part, part_and}
use Rattle.gq_rules_typing.specs.Holds.{Holds, HoldsEach}
use Rattle.gq_rules_typing.specs.Sorts.{names_of, bases_of}
use Rattle.gq_rules_typing.specs.Words.{OfVertexType, OfEdgeType, OfTupleType, OfParts, under, names_of_parts}
use Rattle.gq_rules_typing.specs.Types.{vertex_base}
use Rattle.gq_rules_typing.specs.FieldTypes.{tuple_fields}
use Rattle.gq_rules_meaning.specs.Answers.{Gives, Stuck, ◌>>=◌, found}
use Rattle.gq_rules_meaning.specs.Meanings.{Meant, Is, IsRow, IsEdge, IsSet, IsMember, Outcome, said, read}
use Rattle.gq_rules_meaning.specs.Expressions.{World, setting, Look}

-- a variable, a vertex alias too; a set with its types; an edge row with the type under which it was walked; within `S[..]` the
-- set with its types, and each vertex of it in turn
pub data Thing : Type 0 where
  Variable : Base → Val → Thing
  SetOf : List ℕ → List ℕ → Thing
  EdgeRow : ℕ → ℕ → Thing
  Member : List ℕ → List ℕ → ℕ → Thing

-- an accumulator with its contents: one, or one for each vertex
pub record Slot (N : Type 0) : Type 0 where
  pub name : N
  pub attached : Bool
  pub kind : Accum
  pub contents : List (Holds kind)

-- the names, of which the last one comes first, and the accumulators in order of declaration
pub record State (N : Type 0) : Type 0 where
  pub names : List (N × Thing)
  pub slots : List (Slot N)

-- ---- names

abbrev pub a_vertex : List ℕ → ℕ → Thing
a_vertex types v = Variable (vertex_base types) (Vertex v)

abbrev pub meant : Thing → Meant
meant (Variable b v) = Is b v
meant (SetOf types vs) = IsSet vs
meant (EdgeRow r t) = IsEdge r t
meant (Member types vs v) = IsMember vs (vertex_base types) v

abbrev pub thing_named : {N : Type 0} → World N → List (N × Thing) → N → Option Thing
thing_named world names x = under world.words.same x names

abbrev pub with_new : {N : Type 0} → N → Thing → State N → State N
with_new x thing s = record s { names = (x, thing) ∷ s.names }

abbrev pub changed : {N A : Type 0} → (N → N → Bool) → N → A → List (N × A) → List (N × A)
changed same x a [] = []
changed same x a (e ∷ es) = if same e.0 x then (x, a) ∷ es else e ∷ changed same x a es

-- a name that is there already keeps its place
abbrev pub with_name : {N : Type 0} → World N → N → Thing → State N → State N
with_name world x thing s = if is_some (thing_named world s.names x) then (record s { names = changed world.words.same x thing s.names }) else with_new x thing s

-- the names of a body end with it
abbrev pub without_new : {N : Type 0} → State N → State N → State N
without_new before s = record s { names = drop (length s.names - length before.names) s.names }

-- ---- accumulators

-- the number of an accumulator
abbrev pub slot_number : {N : Type 0} → World N → List (Slot N) → N → Option ℕ
slot_number world slots a = position (λ (s : Slot _). world.words.same s.name a) slots

abbrev pub slot_named : {N : Type 0} → World N → List (Slot N) → N → Option (Slot N)
slot_named {N = N} world slots a = at (slot_number world slots a)
  where
    at : Option ℕ → Option (Slot N)
    at None = None
    at (Some n) = slice_get slots n

-- the value that a global or a vertex's accumulator reads as; a global one has its content at place 0
abbrev pub read_slot : {N : Type 0} → World N → List (Slot N) → N → ℕ → Outcome
read_slot world slots a v = found (slot_named world slots a) >>= λ s. found (slice_get s.contents v) >>= λ c. Gives (read s.kind c)

-- ---- fields

abbrev pub value_at : List Base → List Val → Option ℕ → Outcome
value_at bs vs n = found n >>= λ i. found (slice_get bs i) >>= λ b. found (slice_get vs i) >>= λ v. Gives (Is b v)

-- the part of a group's row
abbrev pub part_at : (ps : Parts) → HoldsEach ps → ℕ → Outcome
part_at no_part cs n = Stuck
part_at (part_and name k ps) cs zero = Gives (read k cs.0)
part_at (part_and name k ps) cs (suc n) = part_at ps cs.1 n

-- `v.f`, or the name of v's type
abbrev pub vertex_field : {N : Type 0} → World N → N → ℕ → Outcome
vertex_field world f v =
    found (slice_get world.graph.sight.kinds v) >>= λ t. found (slice_get world.graph.sorts.vertices t) >>= λ sort.
    if world.words.is_type f then said sort.name
    else (found (slice_get world.graph.vertex_values v) >>= λ vs. value_at (bases_of sort.fields) vs (world.words.field (OfVertexType t) (names_of sort.fields) f))

-- `e.f`, or the name of the type under which the row was walked
abbrev pub edge_field : {N : Type 0} → World N → N → ℕ → ℕ → Outcome
edge_field world f r t =
    found (slice_get world.graph.sorts.edges t) >>= λ sort.
    if world.words.is_type f then said sort.name
    else (found (slice_get world.graph.edge_values r) >>= λ vs. value_at (bases_of sort.fields) vs (world.words.field (OfEdgeType t) (names_of sort.fields) f))

abbrev pub field_of : {N : Type 0} → World N → Meant → N → Outcome
field_of world (Is b (Vertex v)) f = vertex_field world f v
field_of world (Is (TUPLE n bs) (Tuple row)) f = value_at (bases_of (tuple_fields (setting world) n)) (list_of row) (world.words.field (OfTupleType n) (names_of (tuple_fields (setting world) n)) f)
field_of world (IsMember set b v) f = vertex_field world f v
field_of world (IsEdge r t) f = edge_field world f r t
field_of world (IsRow ps cs) f = found (world.words.field OfParts (names_of_parts ps) f) >>= part_at ps cs
field_of world m f = Stuck

-- ---- what an expression sees: names and accumulators as they are now, and accumulators before the block

abbrev pub sight : {N : Type 0} → World N → List (N × Thing) → List (Slot N) → List (Slot N) → Look N
sight world names slots before = record {
  named = λ x. found (thing_named world names x) >>= λ thing. Gives (meant thing);
  global = λ a. read_slot world slots a 0;
  attached = λ a v. read_slot world slots a v;
  before = λ a v. read_slot world before a v;
  field = field_of world;
  world = world;
}

abbrev pub seen : {N : Type 0} → World N → State N → Look N
seen world s = sight world s.names s.slots s.slots
