use Rattle.std.proofs.Common.{◌∙◌, ap, sym}
use Rattle.std.specs.Option.{option_map}
use Rattle.gq_rules_typing.specs.Sorts.{edge_sort}
use Rattle.gq_check_from.proofs.SortLemmas.{slice_get_map}
use Rattle.gq_check_from.proofs.ends.edge_at.Goals as goal

pub returns : goal.returns
returns c = ap (option_map edge_sort) (sym c.edge_by_number.ensures) ∙ sym (slice_get_map edge_sort c.args.catalog.now.edge_types c.args.t)
