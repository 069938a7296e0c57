use Rattle.std.proofs.Common.{map, sym, ◌∙◌}
use Rattle.std.specs.Map.Iter.{deref_pair}
use Rattle.std.proofs.lemmas.Map.Iter.{rest_all}
use Rattle.gq_value.specs.Views.{val}
use Rattle.gq_nest.specs.Entries.{group_row}
use Rattle.gq_nest.proofs.SortSteps.{copied_all}
use Rattle.gq_nest.proofs.GroupLemmas.{groups_stay}
use Rattle.gq_nest.proofs.rows.group_rows.Goals as goal

pub returns : goal.returns
returns c = copied_all (map val) _ _ (λ e. group_row e.0) _ (rest_all deref_pair _ _ _ c.in-None.is c.next.ensures.steps) c.loop-row.invariant ∙ sym (groups_stay _ c.into_iter-row-iterator.ensures.into_iter_gives.1)
