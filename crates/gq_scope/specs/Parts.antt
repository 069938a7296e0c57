-- Parts: what rules inspect of the form of a tree, and fields by name.
use Rattle.std.specs.Prelude.{List, [], ◌∷◌, ℕ, Bool, true, false, ◌&&◌, if◌then◌else◌, Option, Some, None}
use Rattle.std.specs.Str.{bytes_eq}
use Rattle.gq_rules_typing.specs.Sorts.{vertex_fields, edge_fields}
use Rattle.gq_rules_typing.specs.Words.{Setting, OfVertexType, OfEdgeType}
use Rattle.gq_rules_typing.specs.Types.{same_base}
use Rattle.gq_rules_typing.specs.FieldTypes.{field_base}
use Rattle.gq_value.specs.Accums.{Base, INT, UINT, BOOL, STRING, DATETIME, VERTEX, VERTEX_OF, TUPLE}
use Rattle.gq_tree.specs.Tree.{Tree, Number, Text, Truth, Global, Name, Call, Post, Neg, Mul, Sum, Cmp, Not, And, Or}

-- the value of a text literal
abbrev pub text_in : {N : Type 0} → Tree N → Option (List ℕ)
text_in (Text said) = Some said
text_in t = None

-- the name, if the tree is a name alone
abbrev pub name_in : {N : Type 0} → Tree N → Option N
name_in (Name x) = Some x
name_in t = None

-- a number for each form of type
abbrev pub form_of : Base → ℕ
form_of INT = 0
form_of UINT = 1
form_of BOOL = 2
form_of STRING = 3
form_of DATETIME = 4
form_of VERTEX = 5
form_of (VERTEX_OF t) = 6
form_of (TUPLE n ts) = 7

-- ---- fields by name

-- the value of the first entry with a name
abbrev pub first_named : {A : Type 0} → List (List ℕ × A) → List ℕ → Option A
first_named [] f = None
first_named (x ∷ xs) f = if bytes_eq f x.0 then Some x.1 else first_named xs f

-- a field of a vertex or edge type, by the type's number
abbrev pub type_field : Setting (List ℕ) → Bool → List ℕ → ℕ → Option Base
type_field setting true f t = field_base setting (OfEdgeType t) (edge_fields setting.sorts t) f
type_field setting false f t = field_base setting (OfVertexType t) (vertex_fields setting.sorts t) f

-- whether all are present and the same; b is the one before the first
abbrev pub chained : Base → List (Option Base) → Bool
chained b [] = true
chained b (None ∷ rest) = false
chained b (Some c ∷ rest) = same_base b c && chained c rest
