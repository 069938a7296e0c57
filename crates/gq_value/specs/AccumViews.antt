-- AccumViews: the code's types, kinds and inputs as plain data.
use Rattle.std.specs.Prelude.{ℕ, Bool, List, [], ◌∷◌, map}
use Rattle.gq_value.specs.Val.{Val}
use Rattle.gq_value.specs.Views.{val}
use Rattle.gq_value.specs.declared.kind.BaseType.{BaseType, BaseType-F, fold-BaseType}
use Rattle.gq_value.specs.declared.kind.Kind.{Kind, Kind-F, fold-Kind}
use Rattle.gq_value.specs.declared.kind.GroupShape.{GroupShape-F}
use Rattle.gq_value.specs.declared.kind.Input.{Input, Input-F, fold-Input}
use Rattle.gq_value.specs.Accums.{Base, INT, UINT, BOOL, STRING, DATETIME, VERTEX, VERTEX_OF, TUPLE, Bases, no_base, base_and, Accum, SumAccum, MinAccum, MaxAccum, OrAccum, AndAccum, BitwiseOrAccum, BitwiseAndAccum, AvgAccum, SetAccum, BagAccum, ListAccum, MapAccum, GroupByAccum, HeapAccum, Parts, no_part, part_and, Given, One, Keyed, Givens, no_given, given_and}

abbrev pub bases : List Base → Bases
bases [] = no_base
bases (b ∷ bs) = base_and b (bases bs)

abbrev pub base_step : BaseType-F Base → Base
base_step BaseType-F.Int = INT
base_step BaseType-F.UInt = UINT
base_step BaseType-F.Bool = BOOL
base_step BaseType-F.Text = STRING
base_step BaseType-F.AnyVertex = VERTEX
base_step (BaseType-F.VertexOf t) = VERTEX_OF t
base_step (BaseType-F.Tuple n fields) = TUPLE n (bases fields)
base_step BaseType-F.Time = DATETIME

-- the type that a type of the code is
unfoldable pub base_of : BaseType → Base
base_of = fold-BaseType Base base_step

abbrev pub parts_of : List (List ℕ × Accum) → Parts
parts_of [] = no_part
parts_of (p ∷ ps) = part_and p.0 p.1 (parts_of ps)

abbrev pub group_step : GroupShape-F Accum Accum → Accum
group_step shape = GroupByAccum (map (λ k. (k.0, base_of k.1)) shape.keys) (parts_of shape.parts)

abbrev pub accum_step : Kind-F Accum Accum → Accum
accum_step (Kind-F.Sum n) = SumAccum n
accum_step (Kind-F.Min n) = MinAccum n
accum_step (Kind-F.Max n) = MaxAccum n
accum_step Kind-F.Or = OrAccum
accum_step Kind-F.And = AndAccum
accum_step Kind-F.BitOr = BitwiseOrAccum
accum_step Kind-F.BitAnd = BitwiseAndAccum
accum_step Kind-F.Avg = AvgAccum
accum_step (Kind-F.Set t) = SetAccum (base_of t)
accum_step (Kind-F.Bag t) = BagAccum (base_of t)
accum_step (Kind-F.List t) = ListAccum (base_of t)
accum_step (Kind-F.Map t k) = MapAccum (base_of t) k
accum_step (Kind-F.Group shape) = shape
accum_step (Kind-F.Heap shape) = HeapAccum (TUPLE shape.tuple (bases (map base_of shape.fields))) shape.capacity shape.order

unfoldable pub accum_of : Kind → Accum
accum_of = fold-Kind Accum Accum accum_step group_step

abbrev pub givens : List Given → Givens
givens [] = no_given
givens (x ∷ xs) = given_and x (givens xs)

abbrev pub given_step : Input-F Given → Given
given_step (Input-F.One v) = One (val v)
given_step (Input-F.Keyed row inputs) = Keyed (map val row) (givens inputs)

unfoldable pub given : Input → Given
given = fold-Input Given given_step
