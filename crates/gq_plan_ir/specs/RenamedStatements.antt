-- RenamedStatements: the same parts of statements with other names, if no new name comes into view.
use Rattle.std.specs.Prelude.{map}
use Rattle.gq_rules_typing.specs.Statements.{BaseTree, Ints, UInts, Bools, Strings, AnyVertex, VertexOf, Seed, AllOf, AllVertices, OneVertex, ContentOf, SetTerm, SetNamed, Seeds, SetTypes, AnyType, TypeOf, Item, Printed, Whole, Selection, Over, Elements, Range}
use Rattle.gq_plan_ir.specs.Renamed.{Renaming, renamed}
use Rattle.gq_plan_ir.specs.Naming.{Naming}

abbrev pub renamed_base : {M N : Type 0} → (M → N) → BaseTree M → BaseTree N
renamed_base f Ints = Ints
renamed_base f UInts = UInts
renamed_base f Bools = Bools
renamed_base f Strings = Strings
renamed_base f AnyVertex = AnyVertex
renamed_base f (VertexOf t) = VertexOf (f t)

abbrev pub renamed_seed : {M N : Type 0} → Naming M N → Seed M → Seed N
renamed_seed n (AllOf t) = AllOf (n.vertex_type t)
renamed_seed n AllVertices = AllVertices
renamed_seed n (OneVertex x) = OneVertex (n.inside.name x)
renamed_seed n (ContentOf a) = ContentOf (n.inside.accum a)

abbrev pub renamed_term : {M N : Type 0} → Naming M N → SetTerm M → SetTerm N
renamed_term n (SetNamed x) = SetNamed (n.inside.name x)
renamed_term n (Seeds seeds) = Seeds (map (renamed_seed n) seeds)

abbrev pub renamed_set_types : {M N : Type 0} → (M → N) → SetTypes M → SetTypes N
renamed_set_types f AnyType = AnyType
renamed_set_types f (TypeOf t) = TypeOf (f t)

abbrev pub renamed_over : {M N : Type 0} → Renaming M N → Over M → Over N
renamed_over r (Elements t) = Elements (renamed r t)
renamed_over r (Range s t) = Range (renamed r s) (renamed r t)

-- keys stay
abbrev pub renamed_item : {M N : Type 0} → Renaming M N → Item M → Item N
renamed_item r i = record { tree = renamed r i.tree; key = i.key }

abbrev pub renamed_printed : {M N : Type 0} → Renaming M N → Printed M → Printed N
renamed_printed r (Whole i) = Whole (renamed_item r i)
renamed_printed r (Selection x items key) = Selection (r.name x) (map (renamed_item r) items) key
