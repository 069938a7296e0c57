use Rattle.std.proofs.Common.{sym, ◌∙◌}
use Rattle.std.specs.Map.Iter.{deref}
use Rattle.std.proofs.lemmas.Map.Iter.{rest_all}
use Rattle.gq_value.specs.Views.{val}
use Rattle.gq_value.specs.Order.{place}
use Rattle.gq_accum_laws.proofs.RowLaws.{place_linear}
use Rattle.gq_nest.proofs.SortSteps.{ascending_stays, copied_all}
use Rattle.gq_nest.proofs.rows.keys_in_order.Goals as goal

pub returns : goal.returns
returns c = copied_all val _ _ val _ (rest_all deref _ _ _ c.in-None.is c.next.ensures.steps) c.loop-key.invariant ∙ sym (ascending_stays place place_linear val _ c.into_iter-key-iterator.ensures.into_iter_gives.1)
