use Rattle.std.proofs.Common.{map, length, ap, ◌∙◌}
use Rattle.gq_value.specs.Views.{val}
use Rattle.gq_value.specs.Order.{place}
use Rattle.gq_accum_laws.specs.Gather.{sorted}
use Rattle.gq_accum_laws.proofs.RowLaws.{place_linear}
use Rattle.gq_nest.proofs.SortSteps.{sorted_is, refilled}
use Rattle.gq_nest.proofs.rows.sorted_row.Goals as goal

pub returns : goal.returns
returns c = refilled _ _ _ (c.sort_unstable.ensures.len ∙ ap length c.as_mut_slice.ensures.value)
    (sorted_is place place_linear val _ _ c.sort_unstable.ensures.permutation c.sort_unstable.ensures.sorted ∙ ap (λ l. sorted place (map val l)) (c.as_mut_slice.ensures.value ∙ c.in_ok-row.ensures))
