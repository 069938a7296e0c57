-- CrossingLemmas: threads may share blocks and plans. The checker makes what a cycle of types needs (`TheKnot`); the
-- rest is search, one type at a time. An enum or a struct that is a field of another has a lemma (`the_field`).
use denote.Param.Send.{IsSync, sendable}
use Rattle.std.proofs.Crossing.{crosses}
use Rattle.gq_base.proofs.list.List.TheSendSync as list_crosses
use Rattle.gq_base.proofs.boxed.Boxed.TheSendSync as boxed_crosses
use Rattle.gq_value.specs.contracts.kind.BaseType as base
use Rattle.gq_value.specs.contracts.kind.Kind as kind
use Rattle.gq_value.proofs.kind.BaseType.TheLaws.TheKnot as base_knot
use Rattle.gq_value.proofs.kind.Kind.TheLaws.TheKnot as kind_knot
use Rattle.gq_value.proofs.CrossingLemmas.{txt_sync, base_sync}
use Rattle.gq_plan_ir.specs.contracts.expr.Expr as expr
use Rattle.gq_plan_ir.specs.contracts.expr.Field as field
use Rattle.gq_plan_ir.specs.contracts.expr.Function as function
use Rattle.gq_plan_ir.specs.contracts.expr.Method as method
use Rattle.gq_plan_ir.specs.contracts.block.Feed as feed
use Rattle.gq_plan_ir.specs.contracts.block.Change as change
use Rattle.gq_plan_ir.specs.contracts.block.Act as act
use Rattle.gq_plan_ir.specs.contracts.block.Walk as walk
use Rattle.gq_plan_ir.specs.contracts.block.Block as block
use Rattle.gq_plan_ir.specs.contracts.step.SetTerm as term
use Rattle.gq_plan_ir.specs.contracts.step.Sets as sets
use Rattle.gq_plan_ir.specs.contracts.step.Right as right
use Rattle.gq_plan_ir.specs.contracts.step.Over as over
use Rattle.gq_plan_ir.specs.contracts.step.PrintItem as item
use Rattle.gq_plan_ir.specs.contracts.step.Step as step
use Rattle.gq_plan_ir.specs.contracts.plan.Accum as accum
use Rattle.gq_plan_ir.specs.contracts.plan.Definition as definition
use Rattle.gq_plan_ir.specs.contracts.plan.Plan as plan
use Rattle.gq_plan_ir.proofs.expr.Behind.TheLaws.TheKnot as expr_knot
use Rattle.gq_plan_ir.proofs.block.Feed.TheLaws.TheKnot as feed_knot
use Rattle.gq_plan_ir.proofs.block.Act.TheLaws.TheKnot as act_knot
use Rattle.gq_plan_ir.proofs.step.Step.TheLaws.TheKnot as step_knot

-- ---- types and kinds

base_field : IsSync (base.the_field).row
base_field = search (list_crosses.the_sync, crosses, base_knot.crosses, sendable) depth 30 fits 50000

kind_field : IsSync (kind.the_field).row
kind_field = search (base_field, base_sync, txt_sync, list_crosses.the_sync, boxed_crosses.the_sync, crosses, kind_knot.crosses, sendable) depth 30 fits 50000

-- ---- expressions

method_field : IsSync (method.the_field).row
method_field = search (sendable) depth 20

function_field : IsSync (function.the_field).row
function_field = search (base_sync, list_crosses.the_sync, crosses, sendable) depth 30 fits 5000

field_field : IsSync (field.the_field).row
field_field = search (txt_sync, list_crosses.the_sync, crosses, sendable) depth 30 fits 5000

pub expr_sync : IsSync expr.the_row
expr_sync = search (method_field, function_field, field_field, txt_sync, list_crosses.the_sync, boxed_crosses.the_sync, crosses, expr_knot.crosses, sendable) depth 30 fits 50000

expr_field : IsSync (expr.the_field).row
expr_field = search (method_field, function_field, field_field, txt_sync, list_crosses.the_sync, boxed_crosses.the_sync, crosses, expr_knot.crosses, sendable) depth 30 fits 50000

-- ---- blocks

feed_field : IsSync (feed.the_field).row
feed_field = search (expr_sync, expr_field, list_crosses.the_sync, crosses, feed_knot.crosses, sendable) depth 30 fits 50000

change_field : IsSync (change.the_field).row
change_field = search (feed_field, expr_field, sendable) depth 30 fits 50000

act_sync : IsSync act.the_row
act_sync = search (change_field, expr_sync, list_crosses.the_sync, crosses, act_knot.crosses, sendable) depth 30 fits 50000

walk_field : IsSync (walk.the_field).row
walk_field = search (list_crosses.the_sync, crosses, sendable) depth 30 fits 50000

pub block_sync : IsSync block.the_row
block_sync = search (act_sync, expr_sync, walk_field, list_crosses.the_sync, crosses, sendable) depth 30 fits 50000

block_field : IsSync (block.the_field).row
block_field = search (act_sync, expr_sync, walk_field, list_crosses.the_sync, crosses, sendable) depth 30 fits 50000

-- ---- plans

term_field : IsSync (term.the_field).row
term_field = search (list_crosses.the_sync, crosses, sendable) depth 30 fits 50000

term_sync : IsSync term.the_row
term_sync = search (list_crosses.the_sync, crosses, sendable) depth 30 fits 50000

sets_field : IsSync (sets.the_field).row
sets_field = search (term_field, term_sync, list_crosses.the_sync, crosses, sendable) depth 30 fits 50000

right_field : IsSync (right.the_field).row
right_field = search (block_field, sets_field, expr_field, sendable) depth 30 fits 50000

over_field : IsSync (over.the_field).row
over_field = search (expr_field, sendable) depth 30 fits 50000

item_sync : IsSync item.the_row
item_sync = search (expr_field, expr_sync, txt_sync, list_crosses.the_sync, crosses, sendable) depth 30 fits 50000

step_sync : IsSync step.the_row
step_sync = search (right_field, over_field, item_sync, change_field, expr_field, expr_sync, list_crosses.the_sync, crosses, step_knot.crosses, sendable) depth 30 fits 50000

accum_sync : IsSync accum.the_row
accum_sync = search (expr_sync, txt_sync, crosses, sendable) depth 30 fits 50000

definition_sync : IsSync definition.the_row
definition_sync = search (accum_sync, kind_field, txt_sync, list_crosses.the_sync, crosses, sendable) depth 30 fits 50000

pub plan_sync : IsSync plan.the_row
plan_sync = search (step_sync, definition_sync, list_crosses.the_sync, crosses, sendable) depth 30 fits 50000
