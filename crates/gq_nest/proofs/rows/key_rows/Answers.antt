use Rattle.std.proofs.Common.{map, sym, ◌∙◌}
use Rattle.std.specs.Map.Iter.{deref_pair}
use Rattle.std.proofs.lemmas.Map.Iter.{rest_all}
use Rattle.gq_value.specs.Views.{val}
use Rattle.gq_nest.specs.Entries.{key_row}
use Rattle.gq_nest.proofs.SortSteps.{copied_all}
use Rattle.gq_nest.proofs.TellSteps.{rows_stay}
use Rattle.gq_nest.proofs.rows.key_rows.Goals as goal

pub returns : goal.returns
returns c = copied_all (map val) _ _ (λ e. key_row e.0) _ (rest_all deref_pair _ _ _ c.in-None.is c.next.ensures.steps) c.loop-key.invariant ∙ sym (rows_stay _ c.into_iter-key-iterator.ensures.into_iter_gives.1)
