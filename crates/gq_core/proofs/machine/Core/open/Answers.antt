use Rattle.std.proofs.Common.{◌≡◌, ◌++◌, ◌∷◌, [], replicate, sym, ◌∙◌, ap, ap₂, arith, subst}
use Rattle.gq_core.specs.declared.worker.Phase.TheVariants.{Idle}
use Rattle.gq_core.specs.Machine.{fresh, newcomer}
use Rattle.gq_core.specs.Accounts.{IsInOrder}
use Rattle.gq_core.proofs.OrderLemmas.{order_opening}
use Rattle.gq_core.proofs.machine.Core.open.Goals as goal

pub returns-clause-order : goal.returns-clause-order
returns-clause-order c =
    let many : c.loop-stripe._stripe ≡ c.args.job.now.stripes = omega arith in
    let stripes : c.loop-stripe.stripes.items ≡ replicate c.args.job.now.stripes fresh = c.loop-stripe.invariant ∙ ap (λ n. replicate n fresh) many in
    let workers : c.push-2.new.self.items ≡ newcomer Idle ∷ [] = c.in_ok-push-2.ensures.items ∙ ap₂ (λ vs v. vs ++ v ∷ []) c.new-workers.ensures.items c.new-2.ensures in
    subst (IsInOrder c.args.job.now) (ap₂ (λ ss ws. record { next = 0; stripes = ss; workers = ws }) (sym stripes) (sym workers)) (order_opening c.args.job.now)
