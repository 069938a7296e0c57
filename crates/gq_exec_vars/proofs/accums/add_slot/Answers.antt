use Rattle.std.proofs.Common.{refl}
use Rattle.gq_value.specs.AccumViews.{accum_of}
use Rattle.gq_exec_vars.specs.Begun.{opens_with}
use Rattle.gq_exec_vars.proofs.ContentLemmas.{opened_sound}
use Rattle.gq_exec_vars.proofs.NumberLemmas.{one_more}
use Rattle.gq_exec_vars.proofs.SlotLemmas.{slot_pushed, ready_pushed}
use Rattle.gq_exec_vars.proofs.accums.add_slot.Goals as goal

pub returns-clause-adds : goal.returns-clause-adds
returns-clause-adds c = λ count ready.
    slot_pushed c.args.kind.now c.in_ok-kind.kind c.args.attached (opens_with (accum_of c.args.kind.now) c.args.first.now) count c.targets-count.result c.args.accums.now _ c.in_ok-kind.ensures c.targets-count.ensures
    refl c.in_ok-push.ensures.ok (rw c.seal.ensures c.in_ok-fill.ensures) ready

pub returns-clause-ready : goal.returns-clause-ready
returns-clause-ready c = λ count ready.
    ready_pushed c.args.kind.now c.in_ok-kind.kind c.args.attached (opens_with (accum_of c.args.kind.now) c.args.first.now) count c.targets-count.result c.args.accums.now _ c.in_ok-kind.ensures c.targets-count.ensures
    refl c.in_ok-push.ensures.ok (rw c.seal.ensures c.in_ok-fill.ensures) (λ d shows. opened_sound (accum_of c.args.kind.now) c.args.first.now d c.requires.suited shows) ready

pub returns-clause-count : goal.returns-clause-count
returns-clause-count c = one_more _ _ _ c.in_ok-push.ensures.ok
