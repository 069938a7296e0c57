use Rattle.std.proofs.Common.{get_or, ap, ◌∙◌}
use Rattle.gq_base.specs.Keys.{links_of}
use Rattle.gq_base.proofs.KeySlotLemmas.{free_slots}
use Rattle.gq_base.proofs.key_table.widen.Goals as goal

pub place_all-requires-clause-free : goal.place_all-requires-clause-free
place_all-requires-clause-free c =
    λ q. ap (λ l. get_or (links_of l) q 0) (c.deref_mut.ensures.value ∙ c.in_ok-wider.ensures.items_if_clones_equal (λ y same. same)) ∙ free_slots c.wider-count.result q
