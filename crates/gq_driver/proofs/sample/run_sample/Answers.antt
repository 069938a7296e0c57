use Rattle.std.proofs.Common.{◌≤◌, None, Some, ap, sym, ◌∙◌, subst, arith}
use Rattle.gq_io.specs.Counts.{Rose}
use Rattle.gq_diagnostics.proofs.OutcomeLemmas.{keeps_more}
use Rattle.gq_command.specs.Script.{script_text}
use Rattle.gq_io.specs.Known.{Told}
use Rattle.gq_driver.specs.Scripts.{ScriptMeans}
use Rattle.gq_driver.specs.CommandLine.{sample_files}
use Rattle.gq_driver.proofs.sample.run_sample.Goals as goal

pub returns-in-Ok-files_of-clause-keeps : goal.returns-in-Ok-files_of-clause-keeps
returns-in-Ok-files_of-clause-keeps g c = λ outcome mean.
    let text = c.deref.ensures.value ∙ c.in-Ok.ensures in
    keeps_more _ _ _ _ _ _ _ _ (λ (rose : Rose 0 0). absurd (omega (arith, rose))) (λ rose. rose)
    (c.run_script.ensures.keeps (sample_files c.args.people) (ap Some c.in-Ok-files_of.ensures) outcome
    (subst (λ b. ScriptMeans b (Told (sample_files c.args.people)) c.args.runner.now.turns None outcome) (sym text) mean))

pub returns-in-Ok-files_of-clause-is_meant : goal.returns-in-Ok-files_of-clause-is_meant
returns-in-Ok-files_of-clause-is_meant g c = λ final.
    let text = c.deref.ensures.value ∙ c.in-Ok.ensures in
    let low : 0 ≤ 0 = omega arith in
    let meant = c.run_script.ensures.is_meant final 0 low in (
      meant.0,
      subst (λ f. ScriptMeans script_text (Told f) c.args.runner.now.turns None meant.0) c.in-Ok-files_of.ensures (subst (λ b. ScriptMeans b (Told c.in-Ok-files_of.files) c.args.runner.now.turns None meant.0) text meant.1),
      meant.2,
    )
