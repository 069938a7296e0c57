-- Kept: the tuple types among names, in the order in which they were added, and what the code keeps of them.
use Rattle.std.specs.Prelude.{ℕ, suc, ◌<◌, ◌≡◌, Bool, List, [], ◌∷◌, length, filter_map, slice_index_or, Option, Some, None}
use Rattle.std.specs.Option.{is_some, option_map}
use Rattle.gq_value.specs.declared.kind.BaseType.{BaseType}
use Rattle.gq_rules_typing.specs.Statements.{Bytes}
use Rattle.gq_scope.specs.declared.entry.Entry.{Entry}
use Rattle.gq_scope.specs.declared.entry.Entry.TheVariants as entry

-- ---- tuple types among the names

-- the fields of a tuple type
abbrev pub tuple_in : Entry → Option (List (Bytes × BaseType))
tuple_in (entry.TupleType fields) = Some fields
tuple_in (entry.Variable b) = None
tuple_in (entry.SetVariable types) = None
tuple_in (entry.Alias types) = None
tuple_in (entry.EdgeAlias types) = None
tuple_in (entry.Accumulator k attached) = None

abbrev pub is_tuple : Entry → Bool
is_tuple e = is_some (tuple_in e)

-- a tuple type with its name
abbrev pub named_tuple : Bytes × Entry → Option (Bytes × List (Bytes × BaseType))
named_tuple e = option_map (λ fields. (e.0, fields)) (tuple_in e.1)

-- the tuple types; the number of each is its place in this list
abbrev pub tuple_types : List (Bytes × Entry) → List (Bytes × List (Bytes × BaseType))
tuple_types names = filter_map named_tuple names

-- ---- what the code keeps

-- the default entry, for places without one
abbrev pub nothing : Bytes × Entry
nothing = ([], entry.TupleType [])

abbrev pub name_at : List (Bytes × Entry) → ℕ → Bytes × Entry
name_at names n = slice_index_or names n nothing

-- a place prepended to others, if a tuple type is stored there
abbrev pub noted : {A : Type 0} → Option A → ℕ → List ℕ → List ℕ
noted None n ns = ns
noted (Some a) n ns = n ∷ ns

-- the places of tuple types, counted from n for the first name
abbrev pub tuple_places : ℕ → List (Bytes × Entry) → List ℕ
tuple_places n [] = []
tuple_places n (e ∷ es) = noted (tuple_in e.1) n (tuple_places (suc n) es)

-- the code keeps these places, and their number is within the limit
pub record IsNumbered (names : List (Bytes × Entry)) (tuples : List ℕ) : Type 0 where
  pub numbered : tuples ≡ tuple_places 0 names
  pub few : length names < 4294967296
