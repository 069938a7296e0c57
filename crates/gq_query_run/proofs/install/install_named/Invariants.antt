use Rattle.std.proofs.Common.{◌≡◌, drop}
use Rattle.gq_query_run.specs.Queries.{with_installed}
use Rattle.gq_query_run.proofs.install.install_named.Given as goal

-- installing the rest of the names is what is left
abbrev pub invariant-loop-name : goal.invariant-loop-name
invariant-loop-name l = with_installed (drop l.name-index l.names) l.queries ≡ with_installed l.names l.fn.queries
