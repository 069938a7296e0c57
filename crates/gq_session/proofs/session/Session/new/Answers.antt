use Rattle.gq_query_run.proofs.ReadyLemmas.{none_ready}
use Rattle.gq_session.proofs.SessionLemmas.{session_opens}
use Rattle.gq_session.proofs.session.Session.new.Goals as goal

pub invariant_of-result : goal.invariant_of-result
invariant_of-result g c = record {
  fits = session_opens c.new.result c.new-2.result c.new-3.result c.no_rows.result c.args.file c.args.runner.now.turns c.new-5.result
      c.new.ensures c.new-2.ensures c.new-3.ensures c.no_rows.ensures (c.new-5.ensures.kept c.new.result c.no_rows.result);
  ready = none_ready g.M.RunsQueries.is_of c.new.result c.new-3.result c.new-4.result.plans c.new-4.ensures;
}
