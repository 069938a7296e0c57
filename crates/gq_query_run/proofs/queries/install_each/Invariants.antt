use Rattle.std.proofs.Common.{◌≡◌, true}
use Rattle.gq_query_run.specs.Kept.{Kept}
use Rattle.gq_query_run.proofs.InstallLemmas.{changed}
use Rattle.gq_query_run.proofs.queries.install_each.Given as goal

-- the queries so far are installed
abbrev pub invariant-loop-query : goal.invariant-loop-query
invariant-loop-query l = l.query-items ≡ changed (λ (query : Kept). record query { installed = true }) l.query-index l.fn.queries
