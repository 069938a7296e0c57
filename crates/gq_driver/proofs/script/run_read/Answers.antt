use Rattle.std.proofs.Common.{ap, sym, subst}
use Rattle.std.specs.Option.{option_copied}
use Rattle.gq_io.specs.Known.{Told, known_of}
use Rattle.gq_driver.specs.Scripts.{ArgumentsMean, StatementsMean}
use Rattle.gq_driver.proofs.script.run_read.Goals as goal

pub returns-in-Some-clause-keeps : goal.returns-in-Some-clause-keeps
returns-in-Some-clause-keeps g c = λ pairs is outcome mean.
    c.run_with_file.ensures.keeps pairs is outcome
    (subst (λ a. ArgumentsMean c.args.bytes.now (Told pairs) c.args.runner.now.turns a c.args.statements.now outcome) (ap option_copied c.in-Some.is) mean)

pub returns-in-Some-clause-is_meant : goal.returns-in-Some-clause-is_meant
returns-in-Some-clause-is_meant g c = λ final before low.
    let meant = c.run_with_file.ensures.is_meant final before low in
    let known = known_of (g.F.Files.held c.args.files.now) before (g.F.Files.absences c.run_with_file.new.files) (g.F.Files.length_met c.run_with_file.new.files) in
    (meant.0, subst (λ a. ArgumentsMean c.args.bytes.now known c.args.runner.now.turns a c.args.statements.now meant.0) (sym (ap option_copied c.in-Some.is)) meant.1, meant.2)

pub returns-in-None-clause-keeps : goal.returns-in-None-clause-keeps
returns-in-None-clause-keeps g c = λ pairs is outcome mean.
    c.run_opened.ensures.keeps pairs is outcome
    (subst (λ f. StatementsMean c.args.bytes.now (Told pairs) c.args.runner.now.turns f c.args.statements.now outcome) (sym c.none-file.ensures)
    (subst (λ a. ArgumentsMean c.args.bytes.now (Told pairs) c.args.runner.now.turns a c.args.statements.now outcome) (ap option_copied c.in-None.is) mean))

pub returns-in-None-clause-is_meant : goal.returns-in-None-clause-is_meant
returns-in-None-clause-is_meant g c = λ final before low.
    let meant = c.run_opened.ensures.is_meant final before low in
    let known = known_of (g.F.Files.held c.args.files.now) before (g.F.Files.absences c.run_opened.new.files) (g.F.Files.length_met c.run_opened.new.files) in (
      meant.0,
      subst (λ a. ArgumentsMean c.args.bytes.now known c.args.runner.now.turns a c.args.statements.now meant.0) (sym (ap option_copied c.in-None.is))
          (subst (λ f. StatementsMean c.args.bytes.now known c.args.runner.now.turns f c.args.statements.now meant.0) c.none-file.ensures meant.1),
      meant.2,
    )
