-- Arguments: the values of a query's parameters, from the script's arguments, or from the members of the arguments file.
use Rattle.std.specs.Prelude.{ℕ, Bool, true, false, ◌||◌, if◌then◌else◌, nat_lt, List, [], ◌∷◌, map, ℤ, pos, unsigned_abs, Option, Some, None, bytes_eq, codes}
use Rattle.std.specs.Fmt.{decimal}
use Rattle.gq_value.specs.declared.kind.Number.TheVariants as number
use Rattle.gq_graph.specs.declared.rows.VertexRow.{VertexRow}
use Rattle.gq_value.specs.Val.{Val, Int, UInt, Truth, Text, Vertex}
use Rattle.gq_value.specs.Arithmetic.{is_within}
use Rattle.gq_graph.specs.Vertices.{vertex_number}
use Rattle.gq_rules_typing.specs.Statements.{Bytes, BaseTree, Ints, UInts, Bools, Strings, AnyVertex, VertexOf, Literal, Signed, Quoted, Truthful, Parameter}
use Rattle.gq_rules_typing.specs.Sorts.{Sorts}
use Rattle.gq_rules_typing.specs.Words.{by_name, under}
use Rattle.gq_rules_typing.specs.Signed.{signed}

-- an argument for a parameter: a literal, the id and type of a vertex, or, in the file, something else
pub data Argument : Type 0 where
  OfLiteral : Literal → Argument
  OfVertex : Bytes → Bytes → Argument
  Nothing : Argument

-- a member of the file: a number, a text, a truth, an object with the texts `id` and `type`, or anything else
pub data Member : Type 0 where
  NumberMember : ℤ → Member
  TextMember : Bytes → Member
  TruthMember : Bool → Member
  VertexMember : Bytes → Bytes → Member
  OtherMember : Member

-- ---- the value of one argument

abbrev pub is_negative : ℤ → Bool
is_negative (pos n) = false
is_negative x = true

-- a number in decimal, as an id
abbrev pub number_id : Bool → ℕ → Bytes
number_id minus n = if minus then (if nat_lt 0 n then 45 ∷ decimal n else codes "0") else decimal n

abbrev pub a_vertex : Option ℕ → Option Val
a_vertex None = None
a_vertex (Some v) = Some (Vertex v)

-- a vertex of a named type, if the query sees the type
abbrev pub vertex_in : Sorts → List VertexRow → Bytes → Bytes → Option Val
vertex_in sorts rows type id = of_type ((by_name sorts).vertex_type type)
  where
    of_type : Option ℕ → Option Val
    of_type None = None
    of_type (Some t) = a_vertex (vertex_number rows t id)

abbrev pub if_fits : Bool → Val → Option Val
if_fits true v = Some v
if_fits false v = None

-- a literal as a value of a type; a vertex's is its id
abbrev pub literal_value : Sorts → List VertexRow → BaseTree Bytes → Literal → Option Val
literal_value sorts rows Ints (Signed minus n) = if_fits (is_within number.Int (signed minus n)) (Int (signed minus n))
literal_value sorts rows UInts (Signed minus n) = if_fits (is_within number.UInt (signed minus n)) (UInt n)
literal_value sorts rows Bools (Truthful b) = Some (Truth b)
literal_value sorts rows Strings (Quoted s) = Some (Text s)
literal_value sorts rows (VertexOf type) (Quoted id) = vertex_in sorts rows type id
literal_value sorts rows (VertexOf type) (Signed minus n) = vertex_in sorts rows type (number_id minus n)
literal_value sorts rows base l = None

abbrev pub argument_value : Sorts → List VertexRow → BaseTree Bytes → Argument → Option Val
argument_value sorts rows base (OfLiteral l) = literal_value sorts rows base l
argument_value sorts rows AnyVertex (OfVertex id type) = vertex_in sorts rows type id
argument_value sorts rows base a = None

-- ---- the arguments of all parameters

abbrev pub default_or : Argument → Option Literal → Argument
default_or a None = a
default_or a (Some l) = OfLiteral l

-- in parentheses they are in order; the remaining parameters have their defaults
abbrev pub in_order : List (Parameter Bytes) → List Argument → List Argument
in_order [] arguments = []
in_order (p ∷ ps) [] = default_or Nothing p.default ∷ in_order ps []
in_order (p ∷ ps) (a ∷ arguments) = a ∷ in_order ps arguments

-- a remaining parameter needs a default
abbrev pub lacks_default : Option Literal → Bool
lacks_default None = true
lacks_default (Some l) = false

-- whether there are too many, or a parameter without default is left
abbrev pub wrong_number : List (Parameter Bytes) → List Argument → Bool
wrong_number [] [] = false
wrong_number [] (a ∷ arguments) = true
wrong_number (p ∷ ps) (a ∷ arguments) = wrong_number ps arguments
wrong_number (p ∷ ps) [] = lacks_default p.default || wrong_number ps []

-- a text may be a STRING or the id of a vertex, but a number may not be an id
abbrev pub of_member : BaseTree Bytes → Member → Argument
of_member (VertexOf type) (NumberMember x) = Nothing
of_member base (NumberMember x) = OfLiteral (Signed (is_negative x) (unsigned_abs x))
of_member base (TextMember s) = OfLiteral (Quoted s)
of_member base (TruthMember b) = OfLiteral (Truthful b)
of_member base (VertexMember id type) = OfVertex id type
of_member base OtherMember = Nothing

-- by their names, else by their defaults
abbrev pub by_members : List (Parameter Bytes) → List (Bytes × Member) → List Argument
by_members ps members = map argument_of ps
  where
    of_option : Parameter Bytes → Option Member → Argument
    of_option p None = default_or Nothing p.default
    of_option p (Some m) = of_member p.base m

    argument_of : Parameter Bytes → Argument
    argument_of p = of_option p (under bytes_eq p.name members)

-- the values of all, or the name of the first parameter whose argument isn't one
pub data Values : Type 0 where
  AllValues : List Val → Values
  BadArgument : Bytes → Values

abbrev pub value_and : Option Val → Bytes → Values → Values
value_and None name rest = BadArgument name
value_and (Some v) name (AllValues vs) = AllValues (v ∷ vs)
value_and (Some v) name (BadArgument x) = BadArgument x

abbrev pub values_of : Sorts → List VertexRow → List (Parameter Bytes) → List Argument → Values
values_of sorts rows (p ∷ ps) (a ∷ arguments) = value_and (argument_value sorts rows p.base a) p.name (values_of sorts rows ps arguments)
values_of sorts rows _ _ = AllValues []
