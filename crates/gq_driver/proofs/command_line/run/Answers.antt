use Rattle.std.proofs.Common.{◌≤◌, refl, sym, subst, arith}
use Rattle.gq_diagnostics.specs.Outcome.{usage}
use Rattle.gq_diagnostics.proofs.OutcomeLemmas.{wrote_none}
use Rattle.gq_io.specs.Known.{known_of}
use Rattle.gq_driver.specs.CommandLine.{CommandMeans}
use Rattle.gq_driver.proofs.command_line.run.Goals as goal

pub returns-in-Ok-clause-is_meant : goal.returns-in-Ok-clause-is_meant
returns-in-Ok-clause-is_meant g c = λ final.
    let before = g.F.Files.absences c.args.files.now in
    let low : before ≤ before = omega arith in
    let meant = c.run_command.ensures.is_meant final before low in
    let known = known_of (g.F.Files.held c.args.files.now) before (g.F.Files.absences c.run_command.new.files) (g.F.Files.length_met c.run_command.new.files) in
    (meant.0, subst (λ command. CommandMeans known command meant.0) (sym c.in-Ok.ensures.command) meant.1, meant.2)

pub returns-in-Err-Usage-clause-is_meant : goal.returns-in-Err-Usage-clause-is_meant
returns-in-Err-Usage-clause-is_meant g c = λ final.
    let none = (rw c.in-Err-Usage.field-0-is at c.in-Err-Usage.ensures).usage refl in
    let known = known_of (g.F.Files.held c.args.files.now) (g.F.Files.absences c.args.files.now) (g.F.Files.absences c.args.files.now) (g.F.Files.length_met c.args.files.now) in
    (usage, subst (λ command. CommandMeans known command usage) (sym none) refl, (refl, wrote_none (g.K.Sink.written c.args.out.now)))
