use Rattle.gq_session.specs.Statements.{State}
use Rattle.gq_session.proofs.SessionLemmas.{is_line, session_indexed, session_indexes}
use Rattle.gq_session.proofs.QueryLemmas.{interpret_on, interpreted_says}
use Rattle.gq_session.proofs.session.Session.interpret.Goals as goal

pub returns-clause-prints : goal.returns-clause-prints
returns-clause-prints g c =
    let i = c.self.inside in
    let v : State = record { schema = i.catalog; in_use = i.in_use; jobs = i.jobs; queries = i.queries; store = i.store; file = i.file; turns = i.runner.now.turns } in
    interpreted_says c.args.self.now v c.self.view_is c.args.tree.now c.with_line.result c.interpret_query.result
    (is_line c.interpret_query.result c.with_line.result c.with_line.ensures.done c.with_line.ensures.printed c.with_line.ensures.same)
    (c.interpret_query.ensures i.queries)

pub interpret_query-requires-clause-indexed : goal.interpret_query-requires-clause-indexed
interpret_query-requires-clause-indexed g c κs within =
    let i = c.self.inside in
    let v : State = record { schema = i.catalog; in_use = i.in_use; jobs = i.jobs; queries = i.queries; store = i.store; file = i.file; turns = i.runner.now.turns } in
    session_indexed v i.index c.self.invariant.fits c.catch_up.new.self c.index.result.now c.in-Ok.ensures.index c.index.ensures

pub interpret_query-requires-clause-runs : goal.interpret_query-requires-clause-runs
interpret_query-requires-clause-runs g c κs within =
    let i = c.self.inside in
    let v : State = record { schema = i.catalog; in_use = i.in_use; jobs = i.jobs; queries = i.queries; store = i.store; file = i.file; turns = i.runner.now.turns } in
    interpret_on v c.self.invariant.fits.safe c.args.tree.now c.requires

pub invariant_of-self : goal.invariant_of-self
invariant_of-self g c =
    let i = c.self.inside in
    let v : State = record { schema = i.catalog; in_use = i.in_use; jobs = i.jobs; queries = i.queries; store = i.store; file = i.file; turns = i.runner.now.turns } in record {
      fits = session_indexes v i.index c.self.invariant.fits c.catch_up.new.self c.catch_up.ensures.kept;
      ready = c.self.invariant.ready;
    }
