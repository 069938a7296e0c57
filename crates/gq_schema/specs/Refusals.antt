-- Refusals: why a declaration is refused: the first rule that fails. The code tests the rules in this order and
-- builds the fault of the one that fails.
use Rattle.std.specs.Prelude.{ℕ, ◌+◌, ◌≡◌, ◌≢◌, Bool, true, false, not, ◌||◌, ◌&&◌, nat_lt, if◌then◌else◌, List, [], ◌∷◌, ◌++◌, length, map, Option, Some, None, Result, Ok, Err, bytes_eq, find, is_some}
use Rattle.std.specs.Option.{option_map, option_or, option_map_or}
use Rattle.gq_graph.specs.declared.types.IdShape.{IdShape}
use Rattle.gq_graph.specs.declared.types.Attribute.{Attribute}
use Rattle.gq_graph.specs.Defaults.{has_good_default}
use Rattle.gq_graph.specs.Catalog.{Schema, stands, vertex_type_of, edge_type_of, graph_of, type_count, most_types}
use Rattle.gq_schema.specs.declared.fault.SchemaFault.{SchemaFault}
use Rattle.gq_schema.specs.declared.fault.SchemaFault.TheVariants as fault
use Rattle.gq_schema.specs.Members.{misfit}

-- a call returns the expected fault, or OutOfMemory; it returns Ok only if no fault is expected
abbrev pub Judges : {A : Type 0} → Option SchemaFault → Result A SchemaFault → Type 0
Judges due (Ok a) = due ≡ None
Judges due (Err f) = f ≢ fault.OutOfMemory → due ≡ Some f

-- whether a vertex or edge type has the name
abbrev pub is_type : Schema → List ℕ → Bool
is_type schema name = is_some (vertex_type_of schema name) || is_some (edge_type_of schema name)

-- the fault if a type of that name exists
abbrev pub taken : Schema → List ℕ → Option SchemaFault
taken schema name = if is_type schema name then Some (fault.NameTaken name) else None

-- the fault if a type of the reverse type's name exists, or if that name is the forward type's own
abbrev pub reverse_taken : Schema → List ℕ → Option (List ℕ) → Option SchemaFault
reverse_taken schema name None = None
reverse_taken schema name (Some reverse) =
    if bytes_eq reverse name || is_type schema reverse then Some (fault.NameTaken reverse) else None

-- the fault if no vertex type has the name
abbrev pub no_end : Schema → List ℕ → Option SchemaFault
no_end schema name = if is_some (vertex_type_of schema name) then None else Some (fault.NoSuchType name)

-- the first name that occurs earlier, in this list or among the earlier names
abbrev pub twice_after : List (List ℕ) → List (List ℕ) → Option (List ℕ)
twice_after before [] = None
twice_after before (name ∷ names) = if stands before name then Some name else twice_after (before ++ name ∷ []) names

abbrev pub attribute_names : List Attribute → List (List ℕ)
attribute_names attributes = map (λ (a : Attribute). a.name) attributes

-- the id's name, if the id is an attribute too
abbrev pub shown_id : IdShape → List (List ℕ)
shown_id id = if id.shown then id.name ∷ [] else []

-- the fault if two attributes have one name
abbrev pub twice : List (List ℕ) → Option SchemaFault
twice names = option_map fault.AttributeTwice (twice_after [] names)

-- the fault if an attribute's default isn't a value of its type
abbrev pub bad_default : List Attribute → Option SchemaFault
bad_default attributes = option_map (λ (a : Attribute). fault.BadDefault a.name) (find (λ a. not (has_good_default a)) attributes)

-- the fault if that many new types would exceed the limit
abbrev pub too_many : Schema → ℕ → Option SchemaFault
too_many schema more = if nat_lt most_types (type_count schema + more) then Some fault.TooMany else None

-- the rules on attributes: first their names, with a shown id's among them, then their defaults
abbrev pub attribute_refusal : List (List ℕ) → List Attribute → Option SchemaFault
attribute_refusal names attributes = option_or (twice names) (bad_default attributes)

-- why a vertex type is refused
abbrev pub vertex_refusal : Schema → List ℕ → IdShape → List Attribute → Option SchemaFault
vertex_refusal schema name id attributes =
    option_or (taken schema name)
    (option_or (attribute_refusal (shown_id id ++ attribute_names attributes) attributes) (too_many schema 1))

-- why an edge type is refused, with its reverse type
abbrev pub edge_refusal : Schema → List ℕ → List ℕ → List ℕ → Option (List ℕ) → List Attribute → Option SchemaFault
edge_refusal schema name from to reverse attributes =
    option_or (taken schema name)
    (option_or (reverse_taken schema name reverse)
    (option_or (no_end schema from)
    (option_or (no_end schema to)
    (option_or (attribute_refusal (attribute_names attributes) attributes) (too_many schema (if is_some reverse then 2 else 1))))))

-- the fault if a graph of that name exists
abbrev pub graph_taken : Schema → List ℕ → Option SchemaFault
graph_taken schema name = if is_some (graph_of schema name) then Some (fault.GraphExists name) else None

-- the fault if a member isn't a type, or lacks an end
abbrev pub member_refusal : Schema → Option (List (List ℕ)) → Option SchemaFault
member_refusal schema None = None
member_refusal schema (Some members) = option_map fault.NoSuchType (misfit schema members)

-- why a graph is refused
abbrev pub graph_refusal : Schema → List ℕ → Option (List (List ℕ)) → Option SchemaFault
graph_refusal schema name members = option_or (graph_taken schema name) (member_refusal schema members)
