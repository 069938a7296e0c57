-- Rows: what a record puts into the store, as upserts. None means that a value can't be read.
use Rattle.std.specs.Prelude.{ℕ, ◌-◌, ℤ, Bool, false, nat_lt, nat_le, if◌then◌else◌, List, [], ◌∷◌, ◌++◌, length, Option, Some, None, option_and_then}
use Rattle.std.specs.Option.{option_map}
use Rattle.std.specs.List.{list_any}
use Rattle.csv.specs.Records.{field_at}
use Rattle.gq_graph.specs.Catalog.{Schema}
use Rattle.gq_graph.specs.declared.types.Attribute.{Attribute}
use Rattle.gq_graph.specs.declared.types.IdKind.{IdKind}
use Rattle.gq_graph.specs.declared.rows.VertexRow.{VertexRow}
use Rattle.gq_value.specs.declared.value.Value.{Value}
use Rattle.gq_load_check.specs.declared.job.Target.{Target}
use Rattle.gq_load_check.specs.declared.job.Target.TheVariants as target
use Rattle.gq_load_check.specs.Targets.{vertex_type_at, edge_type_at}
use Rattle.gq_load_csv.specs.Fields.{default_of, field_value, key_value, id_in}
use Rattle.gq_index.specs.Steps.{Step, Vertex}
use Rattle.gq_index.specs.Ends.{edge_steps}
use Rattle.gq_index.specs.Namings.{naming_in}
use Rattle.gq_load.specs.declared.route.Route.{Route}
use Rattle.gq_load.specs.Columns.{Fields}

-- whether a record with `count` fields lacks this one
abbrev pub lacks : ℕ → Option ℕ → Bool
lacks count None = false
lacks count (Some n) = nat_le count n

-- whether it lacks one of these
abbrev pub lacks_any : ℕ → List (Option ℕ) → Bool
lacks_any count sources = list_any (lacks count) sources

-- a record is short if it lacks a field of any value of any destination
abbrev pub is_short : List Route → Fields → Bool
is_short routes fields = list_any (λ (route : Route). lacks_any (length fields) route.fields) routes

-- the value of an attribute, a discriminator or not: from its field, or the default
abbrev pub value_of : (List ℕ → Option ℤ) → Bool → Attribute → Option ℕ → Fields → Option Value
value_of read key attribute None fields = Some (default_of attribute)
value_of read key attribute (Some n) fields =
    option_and_then (λ field. if key then key_value read attribute field else field_value read attribute field) (field_at fields n)

-- a value prepended to others
abbrev pub and_values : Value → Option (List Value) → Option (List Value)
and_values v others = option_map (λ vs. v ∷ vs) others

-- the values of attributes in order, of which the first `keys` are discriminators
abbrev pub values_of : (List ℕ → Option ℤ) → ℕ → List Attribute → List (Option ℕ) → Fields → Option (List Value)
values_of read keys [] sources fields = Some []
values_of read keys (attribute ∷ others) [] fields = None
values_of read keys (attribute ∷ others) (source ∷ sources) fields =
    option_and_then (λ v. and_values v (values_of read (keys - 1) others sources fields)) (value_of read (nat_lt 0 keys) attribute source fields)

-- an id
abbrev pub id_of : IdKind → Option ℕ → Fields → Option (List ℕ)
id_of kind None fields = None
id_of kind (Some n) fields = option_and_then (id_in kind) (field_at fields n)

-- the row of a vertex
abbrev pub vertex_row : (kind : ℕ) → (id : List ℕ) → List Value → VertexRow
vertex_row kind id attributes = record { kind = kind; id = id; attributes = attributes }

-- a vertex
abbrev pub vertex_steps : ℕ → Option (List ℕ) → Option (List Value) → Option (List Step)
vertex_steps kind (Some id) (Some values) = Some (Vertex (vertex_row kind id values) ∷ [])
vertex_steps kind _ _ = None

-- an edge, with those of its ends that don't exist
abbrev pub joined_steps : Schema → ℕ → Route → Option (List ℕ) → Option (List ℕ) → Option (List Value) → Option (List Step)
joined_steps schema kind route (Some from) (Some to) (Some values) =
    Some (edge_steps (naming_in (edge_type_at schema) kind)
    (vertex_row (edge_type_at schema kind).from from route.from)
    (vertex_row (edge_type_at schema kind).to to route.to) values)
joined_steps schema kind route _ _ _ = None

-- the upserts of a record along a route
abbrev pub steps_by : (List ℕ → Option ℤ) → Schema → Route → Target → List (Option ℕ) → Fields → Option (List Step)
steps_by read schema route (target.Vertex n) (id ∷ sources) fields =
    vertex_steps n (id_of (vertex_type_at schema n).id.kind id fields) (values_of read 0 (vertex_type_at schema n).attributes sources fields)
steps_by read schema route (target.Edge n) (from ∷ to ∷ sources) fields =
    joined_steps schema n route
    (id_of (vertex_type_at schema (edge_type_at schema n).from).id.kind from fields)
    (id_of (vertex_type_at schema (edge_type_at schema n).to).id.kind to fields)
    (values_of read (edge_type_at schema n).discriminators (edge_type_at schema n).attributes sources fields)
steps_by read schema route _ _ fields = None

abbrev pub steps_along : (List ℕ → Option ℤ) → Schema → Route → Fields → Option (List Step)
steps_along read schema route fields = steps_by read schema route route.target route.fields fields

-- upserts prepended to others
abbrev pub and_steps : List Step → Option (List Step) → Option (List Step)
and_steps steps others = option_map (λ more. steps ++ more) others

-- the upserts of a record, destination by destination
abbrev pub steps_of : (List ℕ → Option ℤ) → Schema → List Route → Fields → Option (List Step)
steps_of read schema [] fields = Some []
steps_of read schema (route ∷ routes) fields =
    option_and_then (λ steps. and_steps steps (steps_of read schema routes fields)) (steps_along read schema route fields)
