use Rattle.std.proofs.Common.{◌∙◌}
use Rattle.gq_check_from.proofs.SortLemmas.{edge_here}
use Rattle.gq_check_from.proofs.walks.edge_of.Goals as goal

pub returns : goal.returns
returns c = c.edge_at.ensures ∙ edge_here c.args.scope.now c.catalog.result.now c.args.t c.catalog.ensures
