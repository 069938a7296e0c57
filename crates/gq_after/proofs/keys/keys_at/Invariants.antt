use Rattle.std.proofs.Common.{◌≡◌, drop, map}
use Rattle.gq_value.specs.Views.{val}
use Rattle.gq_rules_meaning.specs.Answers.{each}
use Rattle.gq_rules_meaning.specs.Expressions.{value_of}
use Rattle.gq_rules_calendar.specs.Gregorian.{gregorian}
use Rattle.gq_plan_ir.specs.ExprView.{view}
use Rattle.gq_after.specs.Sights.{vertex_look}
use Rattle.gq_after.proofs.EachSteps.{and_more}
use Rattle.gq_after.proofs.keys.keys_at.Given as goal

-- the keys so far, followed by those of the rest
abbrev pub invariant-loop-key : goal.invariant-loop-key
invariant-loop-key l =
    each (λ key. value_of (vertex_look gregorian l.over l.accums l.end l.vertex) (view key.0)) l.order
    ≡ and_more (map val l.row) (each (λ key. value_of (vertex_look gregorian l.over l.accums l.end l.vertex) (view key.0)) (drop l.key-index l.order))
