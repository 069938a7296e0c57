use Rattle.std.proofs.Common.{map, ap, ◌∙◌}
use Rattle.gq_value.specs.Val.{Vertex}
use Rattle.gq_value.specs.Views.{val}
use Rattle.gq_value.specs.ViewLaws.{val-Vertex, val-UInt}
use Rattle.gq_edge.proofs.SortedLemmas.{built}
use Rattle.gq_edge.proofs.names.name_of.Goals as goal

pub returns-clause-row : goal.returns-clause-row
returns-clause-row c =
    built _ _ _ _ _ _ _ _ _ _ _ _ _ (ap (map val) c.in_ok-name.ensures.items) c.in_ok-add.ensures c.in_ok-add-2.ensures c.in_ok-add-3.ensures c.in_ok-add_all.ensures
    (val-Vertex _ ∙ ap Vertex c.ends-first.ensures.0) (val-Vertex _ ∙ ap Vertex c.ends-first.ensures.1) (val-UInt _) (ap (map val) c.discriminators-values.ensures)
