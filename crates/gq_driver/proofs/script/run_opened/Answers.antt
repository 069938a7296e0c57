use Rattle.std.proofs.Common.{subst}
use Rattle.gq_io.specs.Known.{known_of}
use Rattle.gq_session.specs.Runs.{Runs}
use Rattle.gq_driver.proofs.script.run_opened.Goals as goal

pub returns-clause-is_meant : goal.returns-clause-is_meant
returns-clause-is_meant g c = λ final before low.
    let meant = c.run_statements.ensures.is_meant final before low in
    let known = known_of (g.F.Files.held c.args.files.now) before (g.F.Files.absences c.run_statements.new.files) (g.F.Files.length_met c.run_statements.new.files) in
    (meant.0, subst (λ s. Runs c.args.bytes.now known s c.args.statements.now meant.0) c.new-session.ensures meant.1, meant.2)
