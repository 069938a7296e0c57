-- ViewLaws: the plain data of a value of each variant, as equations for proofs.
use Rattle.std.proofs.Common.{◌≡◌, ℕ, ℤ, Bool, List, sym, ap, ◌∙◌}
use Rattle.gq_value.specs.declared.value.Value.{Value, Value-F, fold-roll-Value}
use Rattle.gq_value.specs.declared.value.Value.TheVariants as value
use Rattle.gq_value.specs.declared.value.Fraction as fraction
use Rattle.gq_value.specs.Val.{Val, Int, UInt, Truth, Text, Vertex, Tuple, Fraction}
use Rattle.gq_value.specs.Views.{val_step, val, vals}

pub val-Int : (n : ℤ) → val (value.Int n) ≡ Int n
unfolding val
val-Int n = ap val (sym (value.rolls-Int n)) ∙ fold-roll-Value Val val_step (Value-F.Int n)

pub val-UInt : (n : ℕ) → val (value.UInt n) ≡ UInt n
unfolding val
val-UInt n = ap val (sym (value.rolls-UInt n)) ∙ fold-roll-Value Val val_step (Value-F.UInt n)

pub val-Bool : (b : Bool) → val (value.Bool b) ≡ Truth b
unfolding val
val-Bool b = ap val (sym (value.rolls-Bool b)) ∙ fold-roll-Value Val val_step (Value-F.Bool b)

pub val-Text : (bs : List ℕ) → val (value.Text bs) ≡ Text bs
unfolding val
val-Text bs = ap val (sym (value.rolls-Text bs)) ∙ fold-roll-Value Val val_step (Value-F.Text bs)

pub val-Vertex : (n : ℕ) → val (value.Vertex n) ≡ Vertex n
unfolding val
val-Vertex n = ap val (sym (value.rolls-Vertex n)) ∙ fold-roll-Value Val val_step (Value-F.Vertex n)

pub val-Tuple : (row : List Value) → val (value.Tuple row) ≡ Tuple (vals row)
unfolding val
val-Tuple row = ap val (sym (value.rolls-Tuple row)) ∙ fold-roll-Value Val val_step (Value-F.Tuple row)

pub val-Fraction : (f : fraction.Fraction) → val (value.Fraction f) ≡ Fraction f.sum f.count
unfolding val
val-Fraction f = ap val (sym (value.rolls-Fraction f)) ∙ fold-roll-Value Val val_step (Value-F.Fraction f)

pub ruleset view_laws = (val-Int, val-UInt, val-Bool, val-Text, val-Vertex, val-Tuple, val-Fraction)
