use Rattle.std.proofs.Common.{refl}
use Rattle.gq_arguments.specs.Holds.{held}
use Rattle.gq_session.specs.Statements.{State}
use Rattle.gq_session.proofs.SessionLemmas.{is_line, session_indexed, session_indexes}
use Rattle.gq_session.proofs.QueryLemmas.{ran_says, run_on}
use Rattle.gq_session.proofs.session.Session.run_query.Goals as goal

pub returns-clause-prints : goal.returns-clause-prints
returns-clause-prints g c =
    let i = c.self.inside in
    let v : State = record { schema = i.catalog; in_use = i.in_use; jobs = i.jobs; queries = i.queries; store = i.store; file = i.file; turns = i.runner.now.turns } in
    ran_says c.args.self.now v c.self.view_is c.args.tree.now c.with_line.result i.queries (held c.given-file.result.now) c.run_query.result
    refl c.given-file.ensures
    (is_line c.run_query.result c.with_line.result c.with_line.ensures.done c.with_line.ensures.printed c.with_line.ensures.same)
    (c.run_query.ensures.says i.in_use)

pub run_query-requires-clause-indexed : goal.run_query-requires-clause-indexed
run_query-requires-clause-indexed g c κs within =
    let i = c.self.inside in
    let v : State = record { schema = i.catalog; in_use = i.in_use; jobs = i.jobs; queries = i.queries; store = i.store; file = i.file; turns = i.runner.now.turns } in
    session_indexed v i.index c.self.invariant.fits c.catch_up.new.self c.index.result.now c.in-Ok.ensures.index c.index.ensures

pub run_query-requires-clause-runs : goal.run_query-requires-clause-runs
run_query-requires-clause-runs g c κs within =
    let i = c.self.inside in
    let v : State = record { schema = i.catalog; in_use = i.in_use; jobs = i.jobs; queries = i.queries; store = i.store; file = i.file; turns = i.runner.now.turns } in
    run_on v c.self.invariant.fits.safe c.args.tree.now (held c.given-file.result.now) c.given-file.ensures

pub run_query-requires-clause-fits : goal.run_query-requires-clause-fits
run_query-requires-clause-fits g c κs within = c.self.invariant.fits.safe.queries

pub invariant_of-self : goal.invariant_of-self
invariant_of-self g c =
    let i = c.self.inside in
    let v : State = record { schema = i.catalog; in_use = i.in_use; jobs = i.jobs; queries = i.queries; store = i.store; file = i.file; turns = i.runner.now.turns } in record {
      fits = session_indexes v i.index c.self.invariant.fits c.catch_up.new.self c.catch_up.ensures.kept;
      ready = c.self.invariant.ready;
    }

pub invariant_of-self-2 : goal.invariant_of-self-2
invariant_of-self-2 g c =
    let i = c.self.inside in
    let v : State = record { schema = i.catalog; in_use = i.in_use; jobs = i.jobs; queries = i.queries; store = i.store; file = i.file; turns = i.runner.now.turns } in record {
      fits = session_indexes v i.index c.self.invariant.fits c.catch_up.new.self c.catch_up.ensures.kept;
      ready = c.run_query.ensures.ready;
    }
