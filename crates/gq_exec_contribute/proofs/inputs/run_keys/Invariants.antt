use Rattle.std.proofs.Common.{◌≡◌, drop, map, Some}
use Rattle.gq_value.specs.Views.{val}
use Rattle.gq_plan_ir.specs.ExprView.{views}
use Rattle.gq_rules_meaning.specs.Expressions.{arguments}
use Rattle.gq_eval_builtins.specs.Wants.{wants_are}
use Rattle.gq_eval_builtins.proofs.RunLemmas.{after}
use Rattle.gq_exec_contribute.proofs.inputs.run_keys.Given as goal

-- the values of the keys so far, followed by the remaining keys
abbrev pub invariant-loop-place : goal.invariant-loop-place
invariant-loop-place g l =
    arguments (g.V.Sees.look l.sight) (map Some (wants_are l.wants)) (views l.keys) ≡ after (g.V.Sees.look l.sight) (map val l.row) (arguments (g.V.Sees.look l.sight) (map Some (drop l.place (wants_are l.wants))) (views (drop l.place l.keys)))
