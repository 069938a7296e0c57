use Rattle.std.proofs.Common.{Some, ap, sym, ◌∙◌}
use Rattle.gq_nest.proofs.Seeks.{within, within_end, finds, lacks}
use Rattle.gq_nest.proofs.form.value_at.Goals as goal

pub bounds-entries-at : goal.bounds-entries-at
bounds-entries-at g c = within _ _ _ c.in-Ok.ensures

pub offset_bounds-entries-at : goal.offset_bounds-entries-at
offset_bounds-entries-at g c = within_end _ _ _ c.in-Ok.ensures

pub returns-in-Ok : goal.returns-in-Ok
returns-in-Ok g c = ap (λ e. Some e.1) (sym c.index-entries-at.is) ∙ finds _ _ _ c.in-Ok.ensures _ c.index-entries-at.is

pub returns-in-Err : goal.returns-in-Err
returns-in-Err g c = lacks _ (g.met.Q.Comparable.below_greater c.args.key) _ _ c.requires c.in-Err.ensures
