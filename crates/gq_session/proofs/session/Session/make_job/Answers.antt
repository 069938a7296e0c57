use Rattle.gq_session.specs.Statements.{State}
use Rattle.gq_session.proofs.SessionLemmas.{session_works}
use Rattle.gq_session.proofs.session.Session.make_job.Goals as goal

pub invariant_of-self : goal.invariant_of-self
invariant_of-self g c =
    let i = c.self.inside in
    let fits = c.self.invariant.fits in
    let v : State = record { schema = i.catalog; in_use = i.in_use; jobs = i.jobs; queries = i.queries; store = i.store; file = i.file; turns = i.runner.now.turns } in record {
      fits = session_works v i.index fits c.create_job.new.jobs (c.create_job.ensures.fit fits.safe.jobs);
      ready = c.self.invariant.ready;
    }
