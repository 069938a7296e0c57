use Rattle.std.proofs.Common.{rules}
use Rattle.std.specs.Prelude.{ℤ}
use Rattle.gq_rules_calendar.specs.Gregorian.{gregorian}
use Rattle.gq_plan_ir.specs.declared.expr.Expr.{Expr}
use Rattle.gq_plan_ir.specs.ExprView.{view}
use Rattle.gq_exec_contribute.specs.Prepared.{IsNumber, sees_in}
use Rattle.gq_exec_contribute.proofs.RowLemmas.{adds_none, adds_more}
use Rattle.gq_exec_contribute.proofs.reading.add_keys.Goals as goal

pub loop-key-init : goal.loop-key-init
loop-key-init c = adds_none (λ (e : Expr) (x : ℤ). IsNumber (sees_in gregorian c.args.over.now c.args.leaves.now c.args.accums.now c.args.c.now) (view e) x) c.args.keys.now c.args.row.now

pub loop-key-preserved : goal.loop-key-preserved
loop-key-preserved c = adds_more (λ (e : Expr) (x : ℤ). IsNumber (sees_in gregorian c.args.over.now c.args.leaves.now c.args.accums.now c.args.c.now) (view e) x) c.args.keys.now c.loop-key.key-index c.key-item.result c.key-item.result c.args.row.now c.loop-key.row c.add_key.new.row (search rules) (search rules) (c.add_key.ensures (search rules)) c.loop-key.invariant
