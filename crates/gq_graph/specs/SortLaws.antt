-- SortLaws: equations on the types of attributes, one for each variant, for proofs.
use Rattle.std.specs.Prelude.{ℕ, ◌≡◌, List}
use Rattle.std.proofs.Common.{ap, sym, ◌∙◌}
use Rattle.gq_value.specs.declared.kind.BaseType.{BaseType, BaseType-F, fold-roll-BaseType}
use Rattle.gq_value.specs.declared.kind.BaseType.TheVariants as base
use Rattle.gq_graph.specs.Defaults.{Sort, INT, UINT, BOOL, STRING, DATETIME, OTHER, sort_step, sort_of}

pub sort-Int : sort_of base.Int ≡ INT
unfolding sort_of
sort-Int = ap sort_of (sym base.rolls-Int) ∙ fold-roll-BaseType Sort sort_step BaseType-F.Int

pub sort-UInt : sort_of base.UInt ≡ UINT
unfolding sort_of
sort-UInt = ap sort_of (sym base.rolls-UInt) ∙ fold-roll-BaseType Sort sort_step BaseType-F.UInt

pub sort-Bool : sort_of base.Bool ≡ BOOL
unfolding sort_of
sort-Bool = ap sort_of (sym base.rolls-Bool) ∙ fold-roll-BaseType Sort sort_step BaseType-F.Bool

pub sort-Text : sort_of base.Text ≡ STRING
unfolding sort_of
sort-Text = ap sort_of (sym base.rolls-Text) ∙ fold-roll-BaseType Sort sort_step BaseType-F.Text

pub sort-AnyVertex : sort_of base.AnyVertex ≡ OTHER
unfolding sort_of
sort-AnyVertex = ap sort_of (sym base.rolls-AnyVertex) ∙ fold-roll-BaseType Sort sort_step BaseType-F.AnyVertex

pub sort-VertexOf : (n : ℕ) → sort_of (base.VertexOf n) ≡ OTHER
unfolding sort_of
sort-VertexOf n = ap sort_of (sym (base.rolls-VertexOf n)) ∙ fold-roll-BaseType Sort sort_step (BaseType-F.VertexOf n)

pub sort-Tuple : (n : ℕ) (fields : List BaseType) → sort_of (base.Tuple n fields) ≡ OTHER
unfolding sort_of
sort-Tuple n fields = ap sort_of (sym (base.rolls-Tuple n fields)) ∙ fold-roll-BaseType Sort sort_step (BaseType-F.Tuple n _)

pub sort-Time : sort_of base.Time ≡ DATETIME
unfolding sort_of
sort-Time = ap sort_of (sym base.rolls-Time) ∙ fold-roll-BaseType Sort sort_step BaseType-F.Time

pub ruleset sort_laws = (sort-Int, sort-UInt, sort-Bool, sort-Text, sort-AnyVertex, sort-VertexOf, sort-Tuple, sort-Time)
