-- Attributes: the attributes and the id in the tree of a declaration.
use Rattle.std.specs.Prelude.{ℕ, Bool, true, false, nat_lt, if◌then◌else◌, pos, neg_ℤ, List, map, fold, Option, None, codes}
use Rattle.std.specs.Option.{option_map}
use Rattle.std.specs.Str.{str_eq_ignore_ascii_case}
use Rattle.gq_value.specs.declared.kind.BaseType.{BaseType}
use Rattle.gq_value.specs.declared.kind.BaseType.TheVariants as base
use Rattle.gq_value.specs.declared.value.Value.{Value}
use Rattle.gq_value.specs.declared.value.Value.TheVariants as value
use Rattle.gq_graph.specs.declared.types.Attribute.{Attribute}
use Rattle.gq_graph.specs.declared.types.IdShape.{IdShape}
use Rattle.gq_tree.specs.declared.schema.Literal.{Literal}
use Rattle.gq_tree.specs.declared.schema.Literal.TheVariants as literal
use Rattle.gq_tree.specs.declared.schema.AttributeKind.{AttributeKind}
use Rattle.gq_tree.specs.declared.schema.AttributeKind.TheVariants as kind
use Rattle.gq_tree.specs.declared.schema.AttributeTree.{AttributeTree}
use Rattle.gq_tree.specs.declared.schema.VertexOption.{VertexOption}
use Rattle.gq_tree.specs.declared.schema.VertexOption.TheVariants as option
use Rattle.gq_tree.specs.declared.schema.VertexTree.{VertexTree}

-- the type of an attribute
abbrev pub kind_of : AttributeKind → BaseType
kind_of kind.Int = base.Int
kind_of kind.UInt = base.UInt
kind_of kind.Bool = base.Bool
kind_of kind.Text = base.Text
kind_of kind.Time = base.Time

-- a value that suits no attribute: that of a number below the range of INT
abbrev pub no_default : Value
no_default = value.Vertex 0

-- the value of a number, with or without a minus sign: an INT if it fits, or else a UINT
abbrev pub number_value : Bool → ℕ → Value
number_value false n = if nat_lt n 9223372036854775808 then value.Int (pos n) else value.UInt n
number_value true n = if nat_lt 9223372036854775808 n then no_default else value.Int (neg_ℤ (pos n))

-- the value of a literal
abbrev pub literal_value : Literal → Value
literal_value (literal.Number minus n) = number_value minus n
literal_value (literal.Text said) = value.Text said
literal_value (literal.Truth b) = value.Bool b

-- an attribute
abbrev pub attribute_of : AttributeTree → Attribute
attribute_of tree = record { name = tree.name; kind = kind_of tree.kind; default = option_map literal_value tree.default }

-- a discriminator, which has no default
abbrev pub discriminator_of : List ℕ × AttributeKind → Attribute
discriminator_of pair = record { name = pair.0; kind = kind_of pair.1; default = None }

-- whether the id is an attribute too, after one more option
abbrev pub shown_by : Bool → VertexOption → Bool
shown_by shown (option.Stats text) = shown
shown_by shown (option.IdAsAttribute text) = str_eq_ignore_ascii_case text (codes "true")

-- whether options show the id as an attribute: the last of them that mentions it decides
abbrev pub is_shown : List VertexOption → Bool
is_shown options = fold shown_by false options

-- the id of a vertex type
abbrev pub id_of : VertexTree → IdShape
id_of tree = record { name = tree.id; kind = tree.id_kind; shown = is_shown tree.options }
