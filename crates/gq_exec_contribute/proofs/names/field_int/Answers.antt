use Rattle.std.proofs.Common.{◌≡◌, IfSome, subst}
use Rattle.gq_value.specs.Val.{Int}
use Rattle.gq_tree.specs.Tree as tree
use Rattle.gq_rules_calendar.specs.Gregorian.{gregorian}
use Rattle.gq_rules_meaning.specs.Answers.{Gives}
use Rattle.gq_plan_ir.specs.ExprView.{field_of}
use Rattle.gq_eval_context.specs.Viewed.{Over}
use Rattle.gq_exec_contribute.specs.Prepared.{part_value, sees_in}
use Rattle.gq_exec_contribute.proofs.NameLemmas.{vertex_read}
use Rattle.gq_exec_contribute.proofs.names.field_int.Goals as goal

pub returns-in-Some : goal.returns-in-Some
returns-in-Some c =
    subst (λ (o : Over). IfSome c.vertex_field_int.result (λ x. part_value (sees_in gregorian o c.args.leaves.now c.args.accums.now c.args.c.now) c.args.place (tree.Field (field_of c.args.field.now)) ≡ Gives (Int x))) c.over.view_is
    (vertex_read gregorian c.over.inside.graph c.over.inside.plan.now c.over.inside.tuples.now c.over.inside.frame.now c.args.leaves.now c.args.accums.now c.args.c.now c.args.place c.args.field.now c.in-Some.vertex c.vertex_field_int.result c.in-Some.ensures c.vertex_field_int.ensures)
