-- FieldTypes: the types of `x.f` and `x.type`.
use Rattle.std.specs.Prelude.{ℕ, Bool, true, if◌then◌else◌, List, [], ◌∷◌, map, Option, Some, None, Ok, Err, slice_get}
use Rattle.gq_tree.specs.Accums.{Base, STRING, VERTEX, VERTEX_OF, TUPLE, Parts}
use Rattle.gq_rules_typing.specs.Sorts.{Fields, names_of, bases_of, vertex_fields, edge_fields}
use Rattle.gq_rules_typing.specs.Words.{Owner, OfVertexType, OfEdgeType, OfTupleType, OfParts, Setting, names_of_parts}
use Rattle.gq_rules_typing.specs.Judging.{Typed, Of, GroupRow, AliasOf, EdgeOf, MemberOf, Mismatch, NoAttribute, Judged, ◌>>=◌, ◌>>◌, unless, or_fault}
use Rattle.gq_rules_typing.specs.Types.{same_base, stands_for_vertex}
use Rattle.gq_rules_typing.specs.Kinds.{read_type, kinds_in}

-- the fields of a tuple type's number
abbrev pub tuple_fields : {N : Type 0} → Setting N → ℕ → Fields
tuple_fields {N = N} setting n = of_type (slice_get setting.tuples n)
  where
    of_type : Option (N × Fields) → Fields
    of_type None = []
    of_type (Some t) = t.1

abbrev pub at_place : {A : Type 0} → List A → Option ℕ → Option A
at_place xs None = None
at_place xs (Some n) = slice_get xs n

-- the type of a field, if its owner has it
abbrev pub field_base : {N : Type 0} → Setting N → Owner → Fields → N → Option Base
field_base setting owner fields f = at_place (bases_of fields) (setting.words.field owner (names_of fields) f)

abbrev pub agreed : Option Base → Option Base → Option Base
agreed (Some b) (Some c) = if same_base b c then Some b else None
agreed _ _ = None

-- the type that all of these share; none for an empty list
abbrev pub one_base : List (Option Base) → Option Base
one_base [] = None
one_base (b ∷ []) = b
one_base (b ∷ c ∷ rest) = agreed b (one_base (c ∷ rest))

abbrev pub field_or_fault : {N : Type 0} → Setting N → N → Option Base → Judged Typed
field_or_fault setting f b = or_fault (NoAttribute (setting.words.said f)) b >>= λ c. Ok (Of c)

-- all of the vertex types have the attribute, with one type
abbrev pub of_vertices : {N : Type 0} → Setting N → List ℕ → N → Judged Typed
of_vertices setting types f = field_or_fault setting f (one_base (map (λ t. field_base setting (OfVertexType t) (vertex_fields setting.sorts t) f) types))

abbrev pub of_edges : {N : Type 0} → Setting N → List ℕ → N → Judged Typed
of_edges setting types f = field_or_fault setting f (one_base (map (λ t. field_base setting (OfEdgeType t) (edge_fields setting.sorts t) f) types))

-- a group row has its parts
abbrev pub of_parts : {N : Type 0} → Setting N → Parts → N → Judged Typed
of_parts setting ps f = or_fault (NoAttribute (setting.words.said f)) (at_place (kinds_in ps) (setting.words.field OfParts (names_of_parts ps) f)) >>= λ k. Ok (read_type k)

-- vertices, edges, tuples and group rows have fields; a VERTEX that isn't an alias may be of any type of the graph
abbrev pub field_type : {N : Type 0} → Setting N → Typed → N → Judged Typed
field_type setting (AliasOf types) f = of_vertices setting types f
field_type setting (MemberOf types) f = of_vertices setting types f
field_type setting (Of (VERTEX_OF t)) f = of_vertices setting (t ∷ []) f
field_type setting (Of VERTEX) f = of_vertices setting setting.sorts.own_vertices f
field_type setting (EdgeOf types) f = of_edges setting types f
field_type setting (Of (TUPLE n bs)) f = field_or_fault setting f (field_base setting (OfTupleType n) (tuple_fields setting n) f)
field_type setting (GroupRow ps) f = of_parts setting ps f
field_type setting t f = Err (NoAttribute (setting.words.said f))

abbrev pub has_type_name : Typed → Bool
has_type_name (EdgeOf types) = true
has_type_name t = stands_for_vertex t

-- `x.type` is the name of a vertex's or an edge's type, whatever attributes there are
abbrev pub behind_dot : {N : Type 0} → Setting N → Typed → N → Judged Typed
behind_dot setting t f = if setting.words.is_type f then unless Mismatch (has_type_name t) >> Ok (Of STRING) else field_type setting t f
