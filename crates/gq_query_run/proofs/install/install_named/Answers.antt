use Rattle.gq_query_run.specs.Queries.{with_installed}
use Rattle.gq_query_run.proofs.PlaceLemmas.{install_turn, install_end}
use Rattle.gq_query_run.proofs.install.install_named.Goals as goal

pub loop-name-preserved : goal.loop-name-preserved
loop-name-preserved c =
    install_turn c.args.names.now c.loop-name.name-index c.name-item.result c.as_str.result.now c.loop-name.queries c.install.new.self
    (with_installed c.args.names.now c.args.queries.now) c.loop-name-test.true c.name-item.is c.as_str.ensures c.install.ensures c.loop-name.invariant

pub returns : goal.returns
returns c =
    install_end c.args.names.now c.loop-name.name-index c.loop-name.queries (with_installed c.args.names.now c.args.queries.now) c.loop-name-test.false
    c.loop-name.invariant
