use Rattle.gq_ddl.specs.Declarations.{vertex_created}
use Rattle.gq_session.specs.Statements.{State}
use Rattle.gq_session.proofs.GrowthLemmas.{vertex_grown}
use Rattle.gq_session.proofs.SessionLemmas.{answers_grow, session_grows}
use Rattle.gq_query_run.proofs.ReadyLemmas.{none_ready}
use Rattle.gq_session.proofs.session.Session.make_vertex.Goals as goal

pub invariant_of-self : goal.invariant_of-self
invariant_of-self g c =
    let i = c.self.inside in
    let v : State = record { schema = i.catalog; in_use = i.in_use; jobs = i.jobs; queries = i.queries; store = i.store; file = i.file; turns = i.runner.now.turns } in
    let new = c.create_vertex.new.catalog in record {
      fits = session_grows v i.index c.self.invariant.fits new
          (answers_grow (vertex_created i.catalog c.args.tree.now) i.catalog new c.create_vertex.result
          (λ schema made. vertex_grown i.catalog schema c.args.tree.now made) c.create_vertex.ensures);
      ready = none_ready g.M.RunsQueries.is_of new i.queries c.clear.new.self.plans c.clear.ensures;
    }
