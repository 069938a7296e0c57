use Rattle.std.proofs.Common.{◌≡◌, ℕ, ◌+◌, ◌-◌, ap, ◌∙◌, arith}
use Rattle.std.specs.List.{slice_get}
use Rattle.gq_exec_vars.proofs.NameLemmas.{bound_none, bound_more, nothing_lives}
use Rattle.gq_exec_vars.proofs.parameters.bound.Goals as goal

pub loop-turn-init : goal.loop-turn-init
loop-turn-init c = record {
  bound =
      bound_none c.args.plan.now c.args.arguments.now c.nothing-live.result (c.len-count.result - 0) (omega arith) (omega arith)
      (nothing_lives c.nothing-live.result _ c.nothing-live.ensures.undo c.nothing-live.ensures.things c.nothing-live.ensures.accums);
  accums = c.nothing-live.ensures.accums;
}

pub loop-turn-preserved : goal.loop-turn-preserved
loop-turn-preserved c =
    let at : c.len-count.result - (c.loop-turn.turn + 1) ≡ c.len-count.result - c.loop-turn.turn - 1 = omega arith in
    record {
      bound =
          bound_more c.args.plan.now c.args.arguments.now c.loop-turn.live c.bind.new.live (c.len-count.result - (c.loop-turn.turn + 1)) (c.len-count.result - c.loop-turn.turn) c.at.result.now c.at-in-loop-turn.result.now
          (ap (λ (n : ℕ). slice_get c.args.plan.now.parameters n) at ∙ c.at.ensures) (ap (λ (n : ℕ). slice_get c.args.arguments.now n) at ∙ c.at-in-loop-turn.ensures) (omega arith) c.in_ok-bind.ensures.binds c.loop-turn.invariant.bound;
      accums = c.bind.ensures.accums ∙ c.loop-turn.invariant.accums;
    }
