use Rattle.std.proofs.Common.{All}
use Rattle.gq_query_run.proofs.ReadyLemmas.{none_ready}
use Rattle.gq_query_run.specs.Queries.{QueryFits, query_created}
use Rattle.gq_session.specs.Statements.{State}
use Rattle.gq_session.proofs.LeftLemmas.{created_fit}
use Rattle.gq_session.proofs.SessionLemmas.{answers_keep, session_asks}
use Rattle.gq_session.proofs.session.Session.make_query.Goals as goal

pub invariant_of-self : goal.invariant_of-self
invariant_of-self g c =
    let i = c.self.inside in
    let fits = c.self.invariant.fits in
    let v : State = record { schema = i.catalog; in_use = i.in_use; jobs = i.jobs; queries = i.queries; store = i.store; file = i.file; turns = i.runner.now.turns } in
    let new = c.create_query.new.queries in record {
      fits = session_asks v i.index fits new
          (answers_keep (All (QueryFits v.schema)) (query_created v.schema v.in_use v.queries c.args.replace c.as_str-name.result.now c.args.tree.now) v.queries new c.create_query.result fits.safe.queries
          (λ queries is. created_fit v fits.safe c.args.replace c.as_str-name.result.now c.args.tree.now queries is) c.create_query.ensures);
      ready = none_ready g.M.RunsQueries.is_of i.catalog new c.clear.new.self.plans c.clear.ensures;
    }
