use Rattle.std.proofs.Common.{◌≡◌, ◌+◌, ◌<◌, if◌then◌else◌, length, set, sym, ◌∙◌, ap, arith, subst, lt-ltb, le-ltb}
use Rattle.gq_core.specs.declared.worker.Phase.TheVariants.{Idle, Holds, Laid}
use Rattle.gq_core.specs.Machine.{worker_at, stripe_at, behind, leave, Tells}
use Rattle.gq_core.proofs.StepLemmas.{serving_below, laid_within, made_within, whole, stripe_read, leave_told}
use Rattle.gq_core.proofs.machine.Core.leave.Goals as goal
use Rattle.gq_core.proofs.machine.Core.leave.Goals.{In-Laid, then-turn-stripes, else-turn-stripes}

-- the worker's phase
held : (c : In-Laid) → (worker_at c.args.self.now c.args.w).phase ≡ Laid c.in-Laid.turn
held c = sym c.phase.ensures ∙ c.in-Laid.is

-- its stripe exists
inside : (c : In-Laid) → c.in-Laid.turn.stripe < length c.self.inside.stripes.items
inside c = subst (λ m. c.in-Laid.turn.stripe < length m.stripes) (sym c.self.view_is) (laid_within c.args.job.now c.args.self.now c.requires c.args.w c.in-Laid.turn (held c))

-- and so does the worker
made : (c : In-Laid) → c.args.w < length c.self.inside.workers.items
made c = subst (λ m. c.args.w < length m.workers) (sym c.self.view_is) (made_within c.args.self.now c.args.w (Laid c.in-Laid.turn) (held c) (λ q. cc))

-- the same for the machine by its parts
held_inside : (c : In-Laid) → (worker_at (whole c.self.inside.next c.self.inside.stripes.items c.self.inside.workers.items c.args.w) c.args.w).phase ≡ Laid c.in-Laid.turn
held_inside c = subst (λ m. (worker_at m c.args.w).phase ≡ Laid c.in-Laid.turn) (sym c.self.view_is) (held c)

pub overflow_add-turn : goal.overflow_add-turn
overflow_add-turn c = let h = laid_within c.args.job.now c.args.self.now c.requires c.args.w c.in-Laid.turn (held (goal.at.overflow_add-turn c).In-Laid) in let w = c.requires.wide in omega arith

pub overflow_add-next : goal.overflow_add-next
overflow_add-next c = let h = laid_within c.args.job.now c.args.self.now c.requires c.args.w c.in-Laid.turn (held (goal.at.overflow_add-next c).In-Laid) in let w = c.requires.wide in omega arith

pub index_mut-requires : goal.index_mut-requires
index_mut-requires c = let h = made (goal.at.index_mut-requires c).In-Laid in let l = c.self.inside.workers.ok.0 in omega arith

pub prove-unreachable-requires : goal.prove-unreachable-requires
prove-unreachable-requires c =
    let d = (goal.at.prove-unreachable-requires c).In-Laid in
    let less = serving_below c.args.job.now c.args.self.now c.requires c.args.w c.in-Laid.turn (held d) in
    let read = stripe_read c.self.inside.next c.self.inside.stripes.items c.self.inside.workers.items c.args.w c.in-Laid.turn.stripe c.index_mut-stripe.result.now (inside d) c.index_mut-stripe.ensures.value in
    let same = ap (λ m. (stripe_at m c.in-Laid.turn.stripe).tickets) c.self.view_is in
    let also = ap (λ m. (stripe_at m c.in-Laid.turn.stripe).serving) c.self.view_is in
    let t = ap (λ s. s.tickets) read in let n = ap (λ s. s.serving) read in
    omega arith

pub returns-in_ok-put-in-Laid-clause-ok : goal.returns-in_ok-put-in-Laid-clause-ok
returns-in_ok-put-in-Laid-clause-ok c =
    let d = (goal.at.returns-in_ok-put-in-Laid-clause-ok c).In-Laid in let a = c.self.inside in let t = c.in-Laid.turn in let s = c.index_mut-stripe.result.now in
    let goes : c.if-turn-stripes.next ≡ behind c.args.job.now t = elim c.if-turn-stripes.branch [
      | then-turn-stripes w ↦ w.next-is ∙ sym (ap (λ b. if b then Holds t.chunk (t.stripe + 1) else Idle) (lt-ltb (t.stripe + 1) c.args.job.now.stripes w.if-turn-stripes.true))
      | else-turn-stripes w ↦ w.next-is ∙ sym (ap (λ b. if b then Holds t.chunk (t.stripe + 1) else Idle) (le-ltb (t.stripe + 1) c.args.job.now.stripes w.if-turn-stripes.false))
    ] in
    subst (λ m. Tells (leave c.args.job.now m c.args.w (worker_at m c.args.w).phase) _ m (record { next = a.next; stripes = set a.stripes.items t.stripe (record s { serving = s.serving + 1 }); workers = set a.workers.items c.args.w c.put.new.self })) c.self.view_is
    (leave_told a.next a.stripes.items a.workers.items c.args.w c.args.job.now t s c.index_mut.result.now c.put.new.self c.if-turn-stripes.next (held_inside d) (inside d) (made d)
    c.index_mut-stripe.ensures.value c.index_mut.ensures.value goes c.in_ok-put-in-Laid.ensures.ok)
