use Rattle.std.proofs.Common.{◌≡◌, ◌<◌, Some, length, set, sym, ◌∙◌, ap, arith, subst}
use Rattle.std.specs.Prelude.{is_some}
use Rattle.gq_core.specs.declared.worker.Phase.TheVariants.{Served, Lifted}
use Rattle.gq_core.specs.Machine.{worker_at, in_phase, lift, Tells}
use Rattle.gq_core.proofs.StepLemmas.{served_within, made_within, whole, stripe_twice, lift_told, lift_refused}
use Rattle.gq_core.proofs.machine.Core.lift.Goals as goal
use Rattle.gq_core.proofs.machine.Core.lift.Goals.{In-Served}

-- the worker's phase
held : (c : In-Served) → (worker_at c.args.self.now c.args.w).phase ≡ Served c.in-Served.turn
held c = sym c.phase.ensures ∙ c.in-Served.is

-- its stripe exists
inside : (c : In-Served) → c.in-Served.turn.stripe < length c.self.inside.stripes.items
inside c = subst (λ m. c.in-Served.turn.stripe < length m.stripes) (sym c.self.view_is) (served_within c.args.job.now c.args.self.now c.requires c.args.w c.in-Served.turn (held c))

-- and so does the worker
made : (c : In-Served) → c.args.w < length c.self.inside.workers.items
made c = subst (λ m. c.args.w < length m.workers) (sym c.self.view_is) (made_within c.args.self.now c.args.w (Served c.in-Served.turn) (held c) (λ q. cc))

-- the same for the machine by its parts
held_inside : (c : In-Served) → (worker_at (whole c.self.inside.next c.self.inside.stripes.items c.self.inside.workers.items c.args.w) c.args.w).phase ≡ Served c.in-Served.turn
held_inside c = subst (λ m. (worker_at m c.args.w).phase ≡ Served c.in-Served.turn) (sym c.self.view_is) (held c)

pub returns-then-is_some : goal.returns-then-is_some
returns-then-is_some c =
    let d = (goal.at.returns-then-is_some c).In-Served in let a = c.self.inside in
    subst (λ m. Tells (lift m c.args.w (worker_at m c.args.w).phase) _ m m) c.self.view_is
    (lift_refused a.next a.stripes.items a.workers.items c.args.w c.in-Served.turn c.index.result.now (held_inside d) (inside d) c.index.ensures (sym c.is_some.ensures ∙ c.if-is_some.true))

pub index_mut-requires : goal.index_mut-requires
index_mut-requires c = let h = inside (goal.at.index_mut-requires c).In-Served in let l = c.self.inside.stripes.ok.0 in omega arith

pub returns-else-is_some : goal.returns-else-is_some
returns-else-is_some c =
    let d = (goal.at.returns-else-is_some c).In-Served in let a = c.self.inside in let t = c.in-Served.turn in let s = c.index_mut.result.now in let v = c.index_mut-in-Served.result.now in
    let same = stripe_twice a.next a.stripes.items a.workers.items c.args.w t.stripe s c.index.result.now (inside d) c.index_mut.ensures.value c.index.ensures in
    subst (λ m. Tells (lift m c.args.w (worker_at m c.args.w).phase) _ m (record { next = a.next; stripes = set a.stripes.items t.stripe (record s { away = Some c.args.w }); workers = set a.workers.items c.args.w (in_phase (Lifted t) v) })) c.self.view_is
    (lift_told a.next a.stripes.items a.workers.items c.args.w t s v (held_inside d) (inside d) (made d) c.index_mut.ensures.value c.index_mut-in-Served.ensures.value
    (sym (ap (λ x. is_some x.away) same) ∙ (sym c.is_some.ensures ∙ c.if-is_some.false)))
