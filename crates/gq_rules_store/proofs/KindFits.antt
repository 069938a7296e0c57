-- KindFits: a value of an attribute is a value of its type in every world.
use Rattle.std.proofs.Common.{◌≡◌, refl, sym, subst}
use Rattle.gq_value.specs.declared.kind.BaseType.{BaseType, BaseType-F, map-BaseType, out-BaseType, fold_out-BaseType}
use Rattle.gq_value.specs.Accums as bases
use Rattle.gq_value.specs.AccumViews.{base_of, base_step}
use Rattle.gq_graph.specs.Defaults.{Sort, INT, UINT, BOOL, STRING, DATETIME, OTHER, sort_of, sort_step}

-- the type that an attribute of a sort has
abbrev pub Has : Sort → bases.Base → Type 0
Has INT b = b ≡ bases.INT
Has UINT b = b ≡ bases.UINT
Has BOOL b = b ≡ bases.BOOL
Has STRING b = b ≡ bases.STRING
Has DATETIME b = b ≡ bases.DATETIME
Has OTHER b = Unit {0}

sort_out : (k : BaseType) → sort_of k ≡ sort_step (map-BaseType BaseType Sort sort_of (out-BaseType k))
unfolding sort_of
sort_out k = fold_out-BaseType Sort sort_step k

base_out : (k : BaseType) → base_of k ≡ base_step (map-BaseType BaseType bases.Base base_of (out-BaseType k))
unfolding base_of
base_out k = fold_out-BaseType bases.Base base_step k

layer_has : (l : BaseType-F BaseType) → Has (sort_step (map-BaseType BaseType Sort sort_of l)) (base_step (map-BaseType BaseType bases.Base base_of l))
layer_has BaseType-F.Int = refl
layer_has BaseType-F.UInt = refl
layer_has BaseType-F.Bool = refl
layer_has BaseType-F.Text = refl
layer_has BaseType-F.AnyVertex = tt
layer_has (BaseType-F.VertexOf n) = tt
layer_has (BaseType-F.Tuple n fields) = tt
layer_has BaseType-F.Time = refl

pub sort_base : (k : BaseType) → Has (sort_of k) (base_of k)
sort_base k =
    subst (λ s. Has s (base_of k)) (sym (sort_out k))
    (subst (Has (sort_step (map-BaseType BaseType Sort sort_of (out-BaseType k)))) (sym (base_out k)) (layer_has (out-BaseType k)))
