-- Inserts: the row that an INSERT describes, with values of its type, and why an INSERT is refused.
-- Times are read by a function that returns what gq_time specifies for each text.
use Rattle.std.specs.Prelude.{ℕ, ◌≡◌, ◌≢◌, ◌==◌, ◌||◌, Bool, true, false, if◌then◌else◌, List, [], ◌∷◌, length, map, take, drop, ℤ, Option, Some, None, Result, Ok, Err, is_some}
use Rattle.std.specs.Fmt.{decimal, signed_decimal}
use Rattle.std.specs.List.{list_any}
use Rattle.std.specs.Option.{option_or, option_map, option_and_then}
use Rattle.gq_tree.specs.Signed.{signed}
use Rattle.gq_tree.specs.declared.schema.Literal.{Literal}
use Rattle.gq_tree.specs.declared.schema.Literal.TheVariants as literal
use Rattle.gq_tree.specs.declared.schema.InsertTree.{InsertTree}
use Rattle.gq_graph.specs.declared.types.Attribute.{Attribute}
use Rattle.gq_graph.specs.declared.types.IdKind.{IdKind}
use Rattle.gq_graph.specs.declared.types.IdKind.TheVariants as id
use Rattle.gq_value.specs.declared.kind.Number.TheVariants as number
use Rattle.gq_value.specs.declared.value.Value.{Value}
use Rattle.gq_value.specs.declared.value.Value.TheVariants as value
use Rattle.gq_value.specs.Arithmetic.{is_within}
use Rattle.gq_graph.specs.Catalog.{Schema, vertex_type_of, edge_type_of}
use Rattle.gq_graph.specs.Defaults.{Sort, INT, UINT, BOOL, STRING, DATETIME, sort_of}
use Rattle.gq_load_csv.specs.Fields.{default_of}
use Rattle.gq_load_check.specs.declared.job.Target.{Target}
use Rattle.gq_load_check.specs.declared.job.Target.TheVariants as targets
use Rattle.gq_load_check.specs.declared.insert.Endpoint.{Endpoint}
use Rattle.gq_load_check.specs.declared.insert.Insert.{Insert}
use Rattle.gq_load_check.specs.declared.insert.Insert.TheVariants as insert
use Rattle.gq_load_check.specs.declared.insert.InsertFault.{InsertFault}
use Rattle.gq_load_check.specs.declared.insert.InsertFault.TheVariants as fault
use Rattle.gq_load_check.specs.Targets.{vertex_type_at, edge_type_at, id_count, key_count, value_count}

-- ---- values

abbrev pub if_fits : {A : Type 0} → Bool → A → Option A
if_fits true a = Some a
if_fits false a = None

-- the text of an id: a text, or the shortest decimal text of a number that fits
abbrev pub number_id : IdKind → Bool → ℕ → Option (List ℕ)
number_id id.Int minus n = if_fits (is_within number.Int (signed minus n)) (signed_decimal (signed minus n))
number_id id.UInt minus n = if_fits (is_within number.UInt (signed minus n)) (decimal n)
number_id id.Text minus n = None

abbrev pub text_id : IdKind → List ℕ → Option (List ℕ)
text_id id.Text text = Some text
text_id kind text = None

abbrev pub id_text : IdKind → Literal → Option (List ℕ)
id_text kind (literal.Number minus n) = number_id kind minus n
id_text kind (literal.Text text) = text_id kind text
id_text kind (literal.Truth b) = None

-- a number as a value of an attribute's type, if it fits
abbrev pub number_value : Sort → Bool → ℕ → Option Value
number_value INT minus n = if_fits (is_within number.Int (signed minus n)) (value.Int (signed minus n))
number_value UINT minus n = if_fits (is_within number.UInt (signed minus n)) (value.UInt n)
number_value sort minus n = None

abbrev pub truth_value : Sort → Bool → Option Value
truth_value BOOL b = Some (value.Bool b)
truth_value sort b = None

-- a text as a value of an attribute's type; as a time, if it reads as one
abbrev pub text_value : (List ℕ → Option ℤ) → Sort → List ℕ → Option Value
text_value read STRING text = Some (value.Text text)
text_value read DATETIME text = option_map value.Int (read text)
text_value read sort text = None

abbrev pub literal_value : (List ℕ → Option ℤ) → Sort → Literal → Option Value
literal_value read sort (literal.Number minus n) = number_value sort minus n
literal_value read sort (literal.Text text) = text_value read sort text
literal_value read sort (literal.Truth b) = truth_value sort b

-- `_` is the attribute's default
abbrev pub attribute_value : (List ℕ → Option ℤ) → Attribute → Option Literal → Option Value
attribute_value read attribute None = Some (default_of attribute)
attribute_value read attribute (Some l) = literal_value read (sort_of attribute.kind) l

abbrev pub value_and : Option Value → Option (List Value) → Option (List Value)
value_and (Some v) (Some row) = Some (v ∷ row)
value_and _ _ = None

-- a value for each attribute
abbrev pub row_of : (List ℕ → Option ℤ) → List Attribute → List (Option Literal) → Option (List Value)
row_of read [] [] = Some []
row_of read (a ∷ attributes) (l ∷ values) = value_and (attribute_value read a l) (row_of read attributes values)
row_of read _ _ = None

-- the row of a vertex that is created for an edge
abbrev pub default_row : List Attribute → List Value
default_row attributes = map default_of attributes

-- ---- rows

abbrev pub given_id : IdKind → Option Literal → Option (List ℕ)
given_id kind None = None
given_id kind (Some l) = id_text kind l

abbrev pub end_with : Schema → ℕ → Option (List ℕ) → Option Endpoint
end_with schema n None = None
end_with schema n (Some text) = Some (record { kind = n; id = text; missing = default_row (vertex_type_at schema n).attributes })

-- the end of an edge, with its vertex type
abbrev pub end_of : Schema → ℕ → Option Literal → Option Endpoint
end_of schema n l = end_with schema n (given_id (vertex_type_at schema n).id.kind l)

abbrev pub vertex_with : ℕ → Option (List ℕ) → Option (List Value) → Option Insert
vertex_with n (Some text) (Some row) = Some (insert.Vertex n text row)
vertex_with n _ _ = None

-- both ends of an edge
abbrev pub both : Option Endpoint → Option Endpoint → Option (Endpoint × Endpoint)
both (Some from) (Some to) = Some (from, to)
both _ _ = None

abbrev pub edge_with : Schema → ℕ → Option (Endpoint × Endpoint) → Option (List Value) → Option Insert
edge_with schema n (Some ends) (Some row) =
    Some (insert.Edge n (edge_type_at schema n).directed (edge_type_at schema n).discriminators ends.0 ends.1 row)
edge_with schema n _ _ = None

-- the row of a type with these values, if each has its type
abbrev pub insert_of : (List ℕ → Option ℤ) → Schema → Target → List (Option Literal) → Option Insert
insert_of read schema (targets.Vertex n) (a ∷ values) =
    vertex_with n (given_id (vertex_type_at schema n).id.kind a) (row_of read (vertex_type_at schema n).attributes values)
insert_of read schema (targets.Edge n) (a ∷ b ∷ values) =
    edge_with schema n (both (end_of schema (edge_type_at schema n).from a) (end_of schema (edge_type_at schema n).to b))
    (row_of read (edge_type_at schema n).attributes values)
insert_of read schema t values = None

-- ---- the type that an INSERT names

abbrev pub vertex_target : Option ℕ → Option Target
vertex_target None = None
vertex_target (Some n) = Some (targets.Vertex n)

-- the target of an edge type that isn't a reverse type
abbrev pub edge_target : Schema → Option ℕ → Option Target
edge_target schema None = None
edge_target schema (Some n) = if is_some (edge_type_at schema n).forward then None else Some (targets.Edge n)

-- a vertex or edge type of the catalog, in any graph or none
abbrev pub target_named : Schema → List ℕ → Option Target
target_named schema name = option_or (vertex_target (vertex_type_of schema name)) (edge_target schema (edge_type_of schema name))

-- the row that an INSERT describes
abbrev pub insert_named : (List ℕ → Option ℤ) → Schema → InsertTree → Option Insert
insert_named read schema tree = option_and_then (λ t. insert_of read schema t tree.values) (target_named schema tree.name)

-- ---- refusals

-- a call returns the fault that is due, or OutOfMemory; it returns Ok only if none is due
abbrev pub Judges : {A : Type 0} → Option InsertFault → Result A InsertFault → Type 0
Judges due (Ok a) = due ≡ None
Judges due (Err f) = f ≢ fault.OutOfMemory → due ≡ Some f

-- the fault is the one that is due, unless it is OutOfMemory for its name
abbrev pub Tells : InsertFault → InsertFault → Type 0
Tells due found = found ≢ fault.OutOfMemory → found ≡ due

abbrev pub wrong_count : Schema → Target → InsertTree → Option InsertFault
wrong_count schema t tree = if length tree.values == value_count schema t then None else Some (fault.WrongCount tree.name)

-- `_` or an empty text, which can't be an id
abbrev pub is_no_id : Option Literal → Bool
is_no_id None = true
is_no_id (Some (literal.Text [])) = true
is_no_id (Some l) = false

abbrev pub is_default : Option Literal → Bool
is_default None = true
is_default (Some l) = false

abbrev pub not_allowed : Schema → Target → List (Option Literal) → Option InsertFault
not_allowed schema t values =
    if list_any is_no_id (take (id_count t) values) || list_any is_default (take (key_count schema t) (drop (id_count t) values))
    then Some fault.NotAllowed else None

-- Mismatch if there is no row, because a value doesn't have its type
abbrev pub mismatch : Option Insert → Option InsertFault
mismatch None = Some fault.Mismatch
mismatch (Some i) = None

abbrev pub values_refusal : (List ℕ → Option ℤ) → Schema → InsertTree → Option Target → Option InsertFault
values_refusal read schema tree None = Some (fault.NoSuchType tree.name)
values_refusal read schema tree (Some t) =
    option_or (wrong_count schema t tree)
    (option_or (not_allowed schema t tree.values) (mismatch (insert_of read schema t tree.values)))

-- why an INSERT is refused
abbrev pub insert_refusal : (List ℕ → Option ℤ) → Schema → InsertTree → Option InsertFault
insert_refusal read schema tree = values_refusal read schema tree (target_named schema tree.name)
