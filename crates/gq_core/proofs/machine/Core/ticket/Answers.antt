use Rattle.std.proofs.Common.{◌≡◌, ◌<◌, length, set, sym, ◌∙◌, ap, arith, subst}
use Rattle.gq_core.specs.declared.worker.Phase.TheVariants.{Holds, Waits}
use Rattle.gq_core.specs.Machine.{worker_at, stripe_at, in_phase, ticket, Tells}
use Rattle.gq_core.proofs.StepLemmas.{tickets_below, holds_within, made_within, stripe_read, ticket_told}
use Rattle.gq_core.proofs.machine.Core.ticket.Goals as goal
use Rattle.gq_core.proofs.machine.Core.ticket.Goals.{In-Holds}

-- the worker holds the chunk
held : (c : In-Holds) → (worker_at c.args.self.now c.args.w).phase ≡ Holds c.in-Holds.chunk c.in-Holds.stripe
held c = sym c.phase.ensures ∙ c.in-Holds.is

-- its stripe exists
inside : (c : In-Holds) → c.in-Holds.stripe < length c.self.inside.stripes.items
inside c = subst (λ m. c.in-Holds.stripe < length m.stripes) (sym c.self.view_is) (holds_within c.args.job.now c.args.self.now c.requires c.args.w c.in-Holds.chunk c.in-Holds.stripe (held c))

-- and so does the worker
made : (c : In-Holds) → c.args.w < length c.self.inside.workers.items
made c = subst (λ m. c.args.w < length m.workers) (sym c.self.view_is) (made_within c.args.self.now c.args.w (Holds c.in-Holds.chunk c.in-Holds.stripe) (held c) (λ q. cc))

pub prove-unreachable-requires : goal.prove-unreachable-requires
prove-unreachable-requires c =
    let d = (goal.at.prove-unreachable-requires c).In-Holds in
    let few = tickets_below c.args.job.now c.args.self.now c.requires c.args.w c.in-Holds.chunk c.in-Holds.stripe (held d) in
    let read = stripe_read c.self.inside.next c.self.inside.stripes.items c.self.inside.workers.items c.args.w c.in-Holds.stripe c.index.result.now (inside d) c.index.ensures in
    let same = ap (λ m. (stripe_at m c.in-Holds.stripe).tickets) c.self.view_is in
    let less = ap (λ s. s.tickets) read in
    omega arith

pub index_mut-requires-in-Holds : goal.index_mut-requires-in-Holds
index_mut-requires-in-Holds c = let h = made (goal.at.index_mut-requires-in-Holds c).In-Holds in let l = c.self.inside.workers.ok.0 in omega arith

pub returns-in-Holds : goal.returns-in-Holds
returns-in-Holds c =
    let d = (goal.at.returns-in-Holds c).In-Holds in let a = c.self.inside in
    let n = c.give_ticket-ticket.result in let s = c.give_ticket-ticket.new.self in let v = c.index_mut-in-Holds.result.now in
    subst (λ m. Tells (ticket m c.args.w (worker_at m c.args.w).phase) _ m (record {
      next = a.next;
      stripes = set a.stripes.items c.in-Holds.stripe s;
      workers = set a.workers.items c.args.w (in_phase (Waits (record { chunk = c.in-Holds.chunk; stripe = c.in-Holds.stripe; ticket = n })) v);
    })) c.self.view_is
    (ticket_told a.next a.stripes.items a.workers.items c.args.w c.in-Holds.chunk c.in-Holds.stripe n c.index_mut.result.now s v
    (subst (λ m. (worker_at m c.args.w).phase ≡ Holds c.in-Holds.chunk c.in-Holds.stripe) (sym c.self.view_is) (held d)) (inside d) (made d)
    c.index_mut.ensures.value c.index_mut-in-Holds.ensures.value c.give_ticket-ticket.ensures.ticket c.give_ticket-ticket.ensures.rises)
