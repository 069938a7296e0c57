use Rattle.std.proofs.Common.{◌≤◌, arith}
use Rattle.gq_diagnostics.specs.Messages.{message_of}
use Rattle.gq_diagnostics.specs.declared.refusal.StatementFault.TheVariants as fault
use Rattle.gq_io.specs.Known.{known_of}
use Rattle.gq_session.specs.Statements.{State}
use Rattle.gq_session.proofs.LeftLemmas.{rows_left}
use Rattle.gq_session.proofs.SessionLemmas.{session_gains, is_line, job_printed, job_refused, job_left, refused_back}
use Rattle.gq_session.proofs.session.Session.run_job.Goals as goal

pub returns-clause-done : goal.returns-clause-done
returns-clause-done g c = λ before now met.
    let i = c.self.inside in
    let v : State = record { schema = i.catalog; in_use = i.in_use; jobs = i.jobs; queries = i.queries; store = i.store; file = i.file; turns = i.runner.now.turns } in
    job_printed c.args.self.now v c.self.view_is c.args.tree.now (known_of (g.F.Files.held c.args.files.now) before now met) c.run_job.new.store c.run_job.result c.with_line.result
    (is_line c.run_job.result c.with_line.result c.with_line.ensures.done c.with_line.ensures.printed c.with_line.ensures.same)
    (c.run_job.ensures.done before now met)

pub returns-clause-refused : goal.returns-clause-refused
returns-clause-refused g c = λ refusal same before low.
    let i = c.self.inside in
    let v : State = record { schema = i.catalog; in_use = i.in_use; jobs = i.jobs; queries = i.queries; store = i.store; file = i.file; turns = i.runner.now.turns } in
    job_refused c.args.self.now v c.self.view_is c.args.tree.now
    (known_of (g.F.Files.held c.args.files.now) before (g.F.Files.absences c.run_job.new.files) (g.F.Files.length_met c.run_job.new.files)) (message_of refusal)
    (let is = is_line c.run_job.result c.with_line.result c.with_line.ensures.done c.with_line.ensures.printed c.with_line.ensures.same in
    c.run_job.ensures.refused refusal (refused_back c.run_job.result c.with_line.result (fault.Refused refusal) is same) before low)

pub returns-clause-left : goal.returns-clause-left
returns-clause-left g c = λ before low.
    let i = c.self.inside in
    let v : State = record { schema = i.catalog; in_use = i.in_use; jobs = i.jobs; queries = i.queries; store = i.store; file = i.file; turns = i.runner.now.turns } in
    let known = known_of (g.F.Files.held c.args.files.now) before (g.F.Files.absences c.run_job.new.files) (g.F.Files.length_met c.run_job.new.files) in
    job_left c.args.self.now v c.self.view_is c.args.tree.now known c.run_job.new.store c.run_job.result c.with_line.result
    (is_line c.run_job.result c.with_line.result c.with_line.ensures.done c.with_line.ensures.printed c.with_line.ensures.same)
    (c.run_job.ensures.left before low)

pub invariant_of-self : goal.invariant_of-self
invariant_of-self g c =
    let i = c.self.inside in
    let fits = c.self.invariant.fits in
    let v : State = record { schema = i.catalog; in_use = i.in_use; jobs = i.jobs; queries = i.queries; store = i.store; file = i.file; turns = i.runner.now.turns } in
    let now = g.F.Files.absences c.args.files.now in
    let low : now ≤ now = omega arith in
    let known = known_of (g.F.Files.held c.args.files.now) now (g.F.Files.absences c.run_job.new.files) (g.F.Files.length_met c.run_job.new.files) in
    let new = c.run_job.new.store in record {
      fits = session_gains v i.index fits new c.run_job.ensures.fits
          (rows_left i.catalog fits.safe.sound known i.jobs fits.safe.jobs i.store new c.args.tree.now fits.safe.rows c.run_job.result
          (c.run_job.ensures.done now (g.F.Files.absences c.run_job.new.files) (g.F.Files.length_met c.run_job.new.files)) (c.run_job.ensures.left now low))
          c.run_job.ensures.grown;
      ready = c.self.invariant.ready;
    }
