use Rattle.std.proofs.Common.{sym, ◌∙◌}
use Rattle.gq_session.specs.Statements.{State}
use Rattle.gq_query_run.proofs.TypedLemmas.{graph_low}
use Rattle.gq_session.proofs.SessionLemmas.{session_uses}
use Rattle.gq_session.proofs.session.Session.use_graph.Goals as goal

pub invariant_of-self : goal.invariant_of-self
invariant_of-self g c =
    let i = c.self.inside in
    let v : State = record { schema = i.catalog; in_use = i.in_use; jobs = i.jobs; queries = i.queries; store = i.store; file = i.file; turns = i.runner.now.turns } in record {
      fits = session_uses v i.index c.self.invariant.fits c.in-Some.graph (graph_low i.catalog c.as_str.result.now c.in-Some.graph (sym c.graph.ensures ∙ c.in-Some.is));
      ready = c.self.invariant.ready;
    }
