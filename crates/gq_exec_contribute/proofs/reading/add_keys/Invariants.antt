use Rattle.std.proofs.Common.{take}
use Rattle.std.specs.Prelude.{ℤ}
use Rattle.gq_rules_calendar.specs.Gregorian.{gregorian}
use Rattle.gq_plan_ir.specs.declared.expr.Expr.{Expr}
use Rattle.gq_plan_ir.specs.ExprView.{view}
use Rattle.gq_exec_contribute.specs.Prepared.{AddsInts, IsNumber, sees_in}
use Rattle.gq_exec_contribute.proofs.reading.add_keys.Given as goal

-- the INTs so far are in the row
abbrev pub invariant-loop-key : goal.invariant-loop-key
invariant-loop-key l = AddsInts (λ (e : Expr) (x : ℤ). IsNumber (sees_in gregorian l.over l.leaves l.accums l.c) (view e) x) (take l.key-index l.keys) l.fn.row l.row
