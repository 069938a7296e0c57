use Rattle.std.proofs.Common.{refl, sym, codes, inl, inr, subst}
use Rattle.gq_diagnostics.specs.Outcome.{refused_with}
use Rattle.gq_diagnostics.proofs.OutcomeLemmas.{keeps_more}
use Rattle.gq_io.specs.Known.{Told, known_of}
use Rattle.gq_driver.specs.Scripts.{StatementsMean}
use Rattle.gq_driver.proofs.ScriptLemmas.{keeps_arguments, keeps_unreadable}
use Rattle.gq_driver.proofs.script.run_with_file.Goals as goal

pub returns-in-Ok-clause-keeps : goal.returns-in-Ok-clause-keeps
returns-in-Ok-clause-keeps g c = λ pairs is outcome mean.
    let object = c.in-Ok.ensures in
    keeps_arguments c.args.bytes.now (Told pairs) c.args.runner.now.turns _ _ _ _ _ c.args.file.now c.args.statements.now object.0 object.1
    (λ o m. c.run_opened.ensures.keeps pairs is o (subst (λ f. StatementsMean c.args.bytes.now (Told pairs) c.args.runner.now.turns f c.args.statements.now o) (sym c.read-file.ensures) m)) outcome mean

pub returns-in-Ok-clause-is_meant : goal.returns-in-Ok-clause-is_meant
returns-in-Ok-clause-is_meant g c = λ final before low.
    let meant = c.run_opened.ensures.is_meant final before low in
    let object = c.in-Ok.ensures in
    let known = known_of (g.F.Files.held c.args.files.now) before (g.F.Files.absences c.run_opened.new.files) (g.F.Files.length_met c.run_opened.new.files) in
    (meant.0, inl (object.0, object.1, subst (λ f. StatementsMean c.args.bytes.now known c.args.runner.now.turns f c.args.statements.now meant.0) c.read-file.ensures meant.1), meant.2)

pub returns-in-Err-Unreadable-clause-keeps : goal.returns-in-Err-Unreadable-clause-keeps
returns-in-Err-Unreadable-clause-keeps g c = λ pairs is outcome mean.
    let none = (rw c.in-Err-Unreadable.field-0-is at c.in-Err-Unreadable.ensures) refl in
    keeps_unreadable c.args.bytes.now (Told pairs) c.args.runner.now.turns _ _ _ _ _ c.args.file.now c.args.statements.now none
    (keeps_more _ _ _ _ _ _ _ _ (λ (no : ⊥). absurd no) (λ rose. rose) c.refuse.ensures.keeps) outcome mean

pub returns-in-Err-Unreadable-clause-is_meant : goal.returns-in-Err-Unreadable-clause-is_meant
returns-in-Err-Unreadable-clause-is_meant g c = λ final before low.
    let none = (rw c.in-Err-Unreadable.field-0-is at c.in-Err-Unreadable.ensures) refl in
    (refused_with (codes "arguments unreadable"), inr (none, refl), c.refuse.ensures.keeps.final final)
