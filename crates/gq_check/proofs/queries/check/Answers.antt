use Rattle.gq_rules_typing.specs.StatementViews.{view_query}
use Rattle.gq_scope.specs.Held.{graph_in}
use Rattle.gq_check.proofs.SafeLemmas.{checked_safely}
use Rattle.gq_check.proofs.queries.check.Goals as goal

pub returns : goal.returns
returns c =
    checked_safely c.args.catalog.now (graph_in c.args.catalog.now c.args.graph) (view_query c.args.query.now) c.well_typed.result c.well_typed.ensures
