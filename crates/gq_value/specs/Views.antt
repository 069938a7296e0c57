-- Views: the code's values as plain data.
use Rattle.std.specs.Prelude.{List, map}
use Rattle.gq_value.specs.declared.value.Value.{Value, Value-F, fold-Value}
use Rattle.gq_value.specs.Val.{Val, Vals, vals_of, Int, UInt, Truth, Text, Vertex, Tuple, Fraction}

-- the plain data of a value, given that of the values in it
abbrev pub val_step : Value-F Val → Val
val_step (Value-F.Int n) = Int n
val_step (Value-F.UInt n) = UInt n
val_step (Value-F.Bool b) = Truth b
val_step (Value-F.Text bytes) = Text bytes
val_step (Value-F.Vertex n) = Vertex n
val_step (Value-F.Tuple row) = Tuple (vals_of row)
val_step (Value-F.Fraction f) = Fraction f.sum f.count

-- the plain data of a value
unfoldable pub val : Value → Val
val = fold-Value Val val_step

-- the plain data of a row
abbrev pub vals : List Value → Vals
vals row = vals_of (map val row)
