use Rattle.std.proofs.Common.{◌≡◌, Some, drop}
use Rattle.gq_rules_meaning.specs.Tails.{passing}
use Rattle.gq_rules_calendar.specs.Gregorian.{gregorian}
use Rattle.gq_plan_ir.specs.ExprView.{view}
use Rattle.gq_after.specs.Sights.{vertex_look}
use Rattle.gq_after.proofs.EachSteps.{and_more}
use Rattle.gq_after.proofs.having.kept_by.Given as goal

-- the vertices kept so far, followed by the result for the rest
abbrev pub invariant-loop-vertex : goal.invariant-loop-vertex
invariant-loop-vertex l =
    passing (vertex_look gregorian l.over l.accums l.end) (Some (view l.expr)) l.vertices ≡ and_more l.kept (passing (vertex_look gregorian l.over l.accums l.end) (Some (view l.expr)) (drop l.vertex-index l.vertices))
