use Rattle.std.proofs.Common.{ap, sym, ◌∙◌, subst}
use Rattle.gq_command.specs.declared.command.Task.TheVariants.{Script}
use Rattle.gq_diagnostics.proofs.OutcomeLemmas.{keeps_more}
use Rattle.gq_io.specs.Known.{Told, known_of}
use Rattle.gq_driver.specs.CommandLine.{TaskMeans}
use Rattle.gq_driver.proofs.command_line.run_task.Goals as goal

pub returns-in-Script-clause-keeps : goal.returns-in-Script-clause-keeps
returns-in-Script-clause-keeps g c = λ pairs told outcome mean.
    let task = c.in-Script.is ∙ ap (λ p. Script p c.in-Script.arguments) (sym c.as_str.ensures) in
    c.run_file.ensures.keeps pairs told outcome (subst (λ t. TaskMeans (Told pairs) c.args.runner.now.turns t outcome) task mean)

pub returns-in-Script-clause-is_meant : goal.returns-in-Script-clause-is_meant
returns-in-Script-clause-is_meant g c = λ final before low.
    let task = c.in-Script.is ∙ ap (λ p. Script p c.in-Script.arguments) (sym c.as_str.ensures) in
    let meant = c.run_file.ensures.is_meant final before low in
    let known = known_of (g.F.Files.held c.args.files.now) before (g.F.Files.absences c.run_file.new.files) (g.F.Files.length_met c.run_file.new.files) in
    (meant.0, subst (λ t. TaskMeans known c.args.runner.now.turns t meant.0) (sym task) meant.1, meant.2)

pub returns-in-Sample-clause-keeps : goal.returns-in-Sample-clause-keeps
returns-in-Sample-clause-keeps g c = λ pairs told outcome mean.
    keeps_more _ _ _ _ _ _ _ _ (λ (no : ⊥). absurd no) (λ rose. rose)
    (c.run_sample.ensures.keeps outcome (subst (λ t. TaskMeans (Told pairs) c.args.runner.now.turns t outcome) c.in-Sample.is mean))
