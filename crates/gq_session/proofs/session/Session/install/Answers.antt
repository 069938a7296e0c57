use Rattle.std.proofs.Common.{All}
use Rattle.gq_query_run.proofs.ReadyLemmas.{none_ready}
use Rattle.gq_query_run.specs.Queries.{QueryFits, query_installed}
use Rattle.gq_session.specs.Statements.{State}
use Rattle.gq_session.proofs.LeftLemmas.{installed_fit}
use Rattle.gq_session.proofs.SessionLemmas.{answers_keep, session_asks}
use Rattle.gq_session.proofs.session.Session.install.Goals as goal

pub invariant_of-self : goal.invariant_of-self
invariant_of-self g c =
    let i = c.self.inside in
    let fits = c.self.invariant.fits in
    let v : State = record { schema = i.catalog; in_use = i.in_use; jobs = i.jobs; queries = i.queries; store = i.store; file = i.file; turns = i.runner.now.turns } in
    let new = c.install_queries.new.queries in record {
      fits = session_asks v i.index fits new
          (answers_keep (All (QueryFits v.schema)) (query_installed v.queries c.args.which.now) v.queries new c.install_queries.result fits.safe.queries
          (λ queries is. installed_fit v fits.safe c.args.which.now queries is) c.install_queries.ensures);
      ready = none_ready g.M.RunsQueries.is_of i.catalog new c.clear.new.self.plans c.clear.ensures;
    }
