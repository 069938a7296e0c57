use Rattle.gq_plan_expr.proofs.TypedLaws.{typed_law}
use Rattle.gq_plan_expr.proofs.laws.what_is_typed_has_a_plan.Goals as goal

pub returns : goal.returns
returns c = typed_law
