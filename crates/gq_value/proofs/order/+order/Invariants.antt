use Rattle.std.proofs.Common.{◌≡◌, ◌≤◌, drop, length}
use Rattle.gq_value.specs.Views.{vals}
use Rattle.gq_value.specs.Order.{order_rows}
use Rattle.gq_value.proofs.order.+order.Given as goal

-- the rows compare as their remaining suffixes do
abbrev pub invariant-order_rows-loop-i : goal.invariant-order_rows-loop-i
invariant-order_rows-loop-i l = (l.i ≤ length l.b) × (order_rows l.strict (vals l.a) (vals l.b) ≡ order_rows l.strict (vals (drop l.i l.a)) (vals (drop l.i l.b)))
