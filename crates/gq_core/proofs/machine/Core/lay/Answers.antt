use Rattle.std.proofs.Common.{◌≡◌, ◌<◌, length, set, sym, ◌∙◌, arith, subst}
use Rattle.gq_core.specs.declared.worker.Phase.TheVariants.{Lifted, Laid}
use Rattle.gq_core.specs.Machine.{worker_at, in_phase, lay, Tells}
use Rattle.gq_core.proofs.StepLemmas.{chunk_below, lifted_within, made_within, whole, lay_told}
use Rattle.gq_core.proofs.machine.Core.lay.Goals as goal
use Rattle.gq_core.proofs.machine.Core.lay.Goals.{In-Lifted}

-- the worker's phase
held : (c : In-Lifted) → (worker_at c.args.self.now c.args.w).phase ≡ Lifted c.in-Lifted.turn
held c = sym c.phase.ensures ∙ c.in-Lifted.is

-- its stripe exists
inside : (c : In-Lifted) → c.in-Lifted.turn.stripe < length c.self.inside.stripes.items
inside c = subst (λ m. c.in-Lifted.turn.stripe < length m.stripes) (sym c.self.view_is) (lifted_within c.args.job.now c.args.self.now c.requires c.args.w c.in-Lifted.turn (held c))

-- and so does the worker
made : (c : In-Lifted) → c.args.w < length c.self.inside.workers.items
made c = subst (λ m. c.args.w < length m.workers) (sym c.self.view_is) (made_within c.args.self.now c.args.w (Lifted c.in-Lifted.turn) (held c) (λ q. cc))

-- the same for the machine by its parts
held_inside : (c : In-Lifted) → (worker_at (whole c.self.inside.next c.self.inside.stripes.items c.self.inside.workers.items c.args.w) c.args.w).phase ≡ Lifted c.in-Lifted.turn
held_inside c = subst (λ m. (worker_at m c.args.w).phase ≡ Lifted c.in-Lifted.turn) (sym c.self.view_is) (held c)

pub lay-requires : goal.lay-requires
lay-requires c = chunk_below c.args.job.now c.args.self.now c.requires c.args.w c.in-Lifted.turn (held (goal.at.lay-requires c).In-Lifted)

pub index_mut-requires-in-Lifted : goal.index_mut-requires-in-Lifted
index_mut-requires-in-Lifted c = let h = made (goal.at.index_mut-requires-in-Lifted c).In-Lifted in let l = c.self.inside.workers.ok.0 in omega arith

pub returns-in_ok-lay-in-Lifted-clause-ok : goal.returns-in_ok-lay-in-Lifted-clause-ok
returns-in_ok-lay-in-Lifted-clause-ok c =
    let d = (goal.at.returns-in_ok-lay-in-Lifted-clause-ok c).In-Lifted in let a = c.self.inside in let t = c.in-Lifted.turn in let v = c.index_mut-in-Lifted.result.now in
    subst (λ m. Tells (lay c.args.job.now m c.args.w (worker_at m c.args.w).phase) _ m (record { next = a.next; stripes = set a.stripes.items t.stripe c.lay.new.self; workers = set a.workers.items c.args.w (in_phase (Laid t) v) })) c.self.view_is
    (lay_told a.next a.stripes.items a.workers.items c.args.w c.args.job.now t c.index_mut.result.now c.lay.new.self v (held_inside d) (inside d) (made d)
    c.index_mut.ensures.value c.index_mut-in-Lifted.ensures.value c.in_ok-lay-in-Lifted.ensures.ok)
