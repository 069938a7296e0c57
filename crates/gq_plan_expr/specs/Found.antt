-- Found: what the names of a query resolve to anywhere in it, given the types that it sees, its tuple types and the
-- slots of its accumulators so far.
use Rattle.std.specs.Prelude.{ℕ, suc, if◌then◌else◌, List, [], ◌∷◌, map, Option, Some, None, bytes_eq, codes}
use Rattle.gq_value.specs.declared.kind.BaseType.{BaseType}
use Rattle.gq_value.specs.AccumViews.{base_of}
use Rattle.gq_scope.specs.Named.{Named, place_at}
use Rattle.gq_rules_typing.specs.Statements.{Bytes}
use Rattle.gq_rules_typing.specs.Sorts.{Fields, Sorts, VertexSort, EdgeSort, names_of}
use Rattle.gq_rules_typing.specs.Words as words
use Rattle.gq_rules_typing.specs.Words.{place_of, by_name, under, functions}
use Rattle.gq_rules_typing.specs.declared.words.Builtin.TheVariants as builtin
use Rattle.gq_rules_typing.specs.Unit.TheVariants as unit
use Rattle.gq_plan_ir.specs.declared.expr.Field.{Field}
use Rattle.gq_plan_ir.specs.declared.expr.Field.TheVariants as field
use Rattle.gq_plan_ir.specs.declared.expr.FieldPlaces.{FieldPlaces}
use Rattle.gq_plan_ir.specs.declared.expr.Function.{Function}
use Rattle.gq_plan_ir.specs.declared.expr.Function.TheVariants as function
use Rattle.gq_plan_ir.specs.Settled.{counted_types}
use Rattle.gq_plan_expr.specs.Globals.{Globals}

-- the tuple types of a query, each with its fields, by index
abbrev pub TupleTypes : Type 0
TupleTypes = List (Bytes × List (Bytes × BaseType))

abbrev pub plain_fields : List (Bytes × BaseType) → Fields
plain_fields fields = map (λ f. (f.0, base_of f.1)) fields

abbrev pub plain_tuples : TupleTypes → List (Bytes × Fields)
plain_tuples ts = map (λ t. (t.0, plain_fields t.1)) ts

-- ---- fields

-- the index of the field with this name in a type
abbrev pub in_vertex : Bytes → VertexSort → Option ℕ
in_vertex f s = place_of (names_of s.fields) f

abbrev pub in_edge : Bytes → EdgeSort → Option ℕ
in_edge f s = place_of (names_of s.fields) f

abbrev pub in_tuple : Bytes → Bytes × List (Bytes × BaseType) → Option ℕ
in_tuple f t = place_of (names_of (plain_fields t.1)) f

-- and in all types
abbrev pub places_of : Sorts → TupleTypes → Bytes → FieldPlaces
places_of sorts ts f = record {
  name = f;
  vertices = map (in_vertex f) sorts.vertices;
  edges = map (in_edge f) sorts.edges;
  tuples = map (in_tuple f) ts;
}

abbrev pub field_at : Sorts → TupleTypes → Bytes → Field
field_at sorts ts f = if bytes_eq (codes "type") f then field.Type else field.Named (places_of sorts ts f)

-- ---- functions

abbrev pub field_types : List (Bytes × BaseType) → List BaseType
field_types fields = map (λ f. f.1) fields

-- the first tuple type with a name; the first one of the list has the number n
abbrev pub tuple_from : Bytes → ℕ → TupleTypes → Option Function
tuple_from f n [] = None
tuple_from f n (t ∷ ts) = if bytes_eq t.0 f then Some (function.Tuple n (field_types t.1)) else tuple_from f (suc n) ts

abbrev pub part_of_time : words.PartOfTime → Function
part_of_time words.Year = function.Own (builtin.Part unit.Year)
part_of_time words.Month = function.Own (builtin.Part unit.Month)
part_of_time words.Day = function.Own (builtin.Part unit.Day)
part_of_time words.Hour = function.Own (builtin.Part unit.Hour)
part_of_time words.Minute = function.Own (builtin.Part unit.Minute)
part_of_time words.Second = function.Own (builtin.Part unit.Second)

-- a built-in function
abbrev pub own_function : words.Function → Option Function
own_function (words.Makes n fields) = None
own_function words.Abs = Some (function.Own builtin.Abs)
own_function words.ToString = Some (function.Own builtin.ToString)
own_function words.ToDatetime = Some (function.Own builtin.ToDatetime)
own_function words.EpochToDatetime = Some (function.Own builtin.EpochToDatetime)
own_function words.DatetimeToEpoch = Some (function.Own builtin.DatetimeToEpoch)
own_function words.DatetimeDiff = Some (function.Own builtin.DatetimeDiff)
own_function words.DatetimeAdd = Some (function.Own builtin.DatetimeAdd)
own_function (words.PartOf p) = Some (part_of_time p)

abbrev pub own_if : Option words.Function → Option Function
own_if None = None
own_if (Some g) = own_function g

abbrev pub language : Bytes → Option Function
language f = own_if (under bytes_eq f functions)

-- a tuple type takes precedence over a function of the same name
abbrev pub or_language : Option Function → Bytes → Option Function
or_language (Some g) f = Some g
or_language None f = language f

abbrev pub function_at : TupleTypes → Bytes → Option Function
function_at ts f = or_language (tuple_from f 0 ts) f

-- ---- all names

abbrev pub globals_of : Sorts → TupleTypes → Named → Globals
globals_of sorts ts slots = record {
  slot = place_at slots;
  field = field_at sorts ts;
  function = function_at ts;
  counted = counted_types sorts;
  vertex_type = (by_name sorts).vertex_type;
  edge_type = (by_name sorts).edge_type;
}
