use Rattle.std.proofs.Common.{◌≡◌, drop}
use Rattle.gq_rules_meaning.specs.Expressions.{World}
use Rattle.gq_rules_meaning.specs.States.{State}
use Rattle.gq_rules_meaning.specs.Sets.{term_of}
use Rattle.gq_plan_ir.specs.Reference.{Reference}
use Rattle.gq_plan_ir.specs.PlanView.{view_term}
use Rattle.gq_exec_vars.specs.Lookups.{IsSeen}
use Rattle.gq_exec_vars.specs.Written.{set_is, others_of, chain_of}
use Rattle.gq_exec_vars.proofs.SetLemmas.{onward}
use Rattle.gq_exec_vars.proofs.expression.chain.Given as goal

abbrev pub invariant-loop-other : goal.invariant-loop-other
invariant-loop-other l =
    (world : World Reference) (s : State Reference) → IsSeen l.at world s
    → chain_of world s (term_of world s (view_term l.first)) (others_of l.others) ≡ onward world s (set_is l.set) (others_of (drop l.other-index l.others))
