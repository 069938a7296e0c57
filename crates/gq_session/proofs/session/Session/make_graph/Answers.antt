use Rattle.gq_session.specs.Statements.{State}
use Rattle.gq_session.proofs.GrowthLemmas.{graph_grown, graph_there}
use Rattle.gq_session.proofs.SessionLemmas.{session_grows, session_uses}
use Rattle.gq_query_run.proofs.ReadyLemmas.{none_ready}
use Rattle.gq_session.proofs.session.Session.make_graph.Goals as goal

pub invariant_of-self : goal.invariant_of-self
invariant_of-self g c =
    let i = c.self.inside in
    let v : State = record { schema = i.catalog; in_use = i.in_use; jobs = i.jobs; queries = i.queries; store = i.store; file = i.file; turns = i.runner.now.turns } in
    let new = c.create_graph.new.catalog in record {
      fits = session_uses (record v { schema = new }) i.index (session_grows v i.index c.self.invariant.fits new (graph_grown i.catalog new c.args.tree.now c.in-Ok.ensures.created)) c.in-Ok.graph
          (graph_there i.catalog new c.args.tree.now c.in-Ok.graph c.in-Ok.ensures.created c.in-Ok.ensures.number);
      ready = none_ready g.M.RunsQueries.is_of new i.queries c.clear.new.self.plans c.clear.ensures;
    }
