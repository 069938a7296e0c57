use Rattle.std.proofs.Common.{◌∙◌, ◌++◌, ℕ, List, ap₂, sym, replicate}
use Rattle.gq_value.specs.declared.kind.Kind.{Kind}
use Rattle.gq_workers.proofs.WorkingLemmas.{kinds_next}
use Rattle.gq_workers.proofs.tables.layout_of.Goals as goal

pub loop-slot-preserved : goal.loop-slot-preserved
loop-slot-preserved c =
    c.in_ok-push_all.ensures.ok
    ∙ ap₂ (λ (old more : List Kind). old ++ more) c.loop-slot.invariant (ap₂ (λ (n : ℕ) (k : Kind). replicate n k) c.targets.ensures c.in_ok-duplicate.ensures)
    ∙ sym (kinds_next c.args.slots.now.vertices c.as_slice-slot-items.result.now c.loop-slot.slot-index c.slot-item.result c.loop-slot-test.true c.slot-item.is)
