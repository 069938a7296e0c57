use Rattle.std.proofs.Common.{true, refl, ap, ◌∙◌}
use Rattle.gq_query_run.specs.Kept.{Kept}
use Rattle.gq_query_run.proofs.InstallLemmas.{changed_to, changed_all}
use Rattle.gq_query_run.proofs.queries.install_each.Goals as goal

pub loop-query-init : goal.loop-query-init
loop-query-init c = refl

pub loop-query-preserved : goal.loop-query-preserved
loop-query-preserved c =
    changed_to (λ (query : Kept). record query { installed = true }) c.loop-query.query-index c.args.queries.now c.loop-query.query-items c.query-item.result _
    c.loop-query-test.true c.loop-query.invariant
    (ap (λ (query : Kept). record query { installed = true }) c.query.view_is)

pub returns : goal.returns
returns c = c.loop-query.invariant ∙ changed_all (λ (query : Kept). record query { installed = true }) c.loop-query.query-index c.args.queries.now c.loop-query-test.false
