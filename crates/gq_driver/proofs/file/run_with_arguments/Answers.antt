use Rattle.std.proofs.Common.{◌≤◌, Some, ap, ◌∙◌, subst, arith}
use Rattle.gq_diagnostics.specs.Outcome.{Ends}
use Rattle.gq_io.specs.Known.{Told, known_of}
use Rattle.gq_driver.specs.Scripts.{ScriptMeans}
use Rattle.gq_driver.proofs.CommandLemmas.{asks_never, asks_on, asks_whatever, keeps_on, rest_of}
use Rattle.gq_driver.proofs.file.run_with_arguments.Goals as goal

pub returns-in-Ok-clause-keeps : goal.returns-in-Ok-clause-keeps
returns-in-Ok-clause-keeps g c = λ pairs told outcome asks.
    keeps_on _ _ _ _ _ _ _ _ _ _ (ap g.K.Sink.written c.in-Ok.ensures.unwritten) (ap g.K.Sink.faults c.in-Ok.ensures.unwritten) c.in-Ok.ensures.faults_stay outcome
    (c.run_script.ensures.keeps pairs (c.in-Ok.ensures.held ∙ told) outcome
    (rest_of (g.F.Files.held c.args.files.now) c.args.arguments.now pairs told (λ file. ScriptMeans c.args.bytes.now (Told pairs) c.args.runner.now.turns (Some file)) outcome asks
    c.deref.result.now c.in-Ok.file.items c.deref.ensures.value c.in-Ok.ensures.bytes))

pub returns-in-Ok-clause-is_meant : goal.returns-in-Ok-clause-is_meant
returns-in-Ok-clause-is_meant g c = λ final before low.
    let lower : before ≤ g.F.Files.absences c.file_of.new.files = omega (arith, low, c.in-Ok.ensures.absences_stay) in
    let meant = c.run_script.ensures.is_meant final before lower in (
      meant.0,
      asks_on (g.F.Files.held c.args.files.now) (g.F.Files.held c.file_of.new.files) c.args.arguments.now c.deref.result.now c.in-Ok.file.items before _ _
          (λ known file. ScriptMeans c.args.bytes.now known c.args.runner.now.turns (Some file)) meant.0 c.in-Ok.ensures.held c.deref.ensures.value c.in-Ok.ensures.bytes meant.1,
      subst (λ w. Ends meant.0 c.run_script.result w (g.K.Sink.written c.run_script.new.out)) (ap g.K.Sink.written c.in-Ok.ensures.unwritten) meant.2,
    )

pub returns-in-Err-clause-keeps : goal.returns-in-Err-clause-keeps
returns-in-Err-clause-keeps g c = λ pairs told outcome asks.
    c.in-Err.ensures.keeps pairs told outcome (asks_whatever (Told pairs) c.args.arguments.now (λ file. ScriptMeans c.args.bytes.now (Told pairs) c.args.runner.now.turns (Some file)) outcome asks)

pub returns-in-Err-clause-is_meant : goal.returns-in-Err-clause-is_meant
returns-in-Err-clause-is_meant g c = λ final before low.
    let meant = c.in-Err.ensures.is_meant final before low in
    let known = known_of (g.F.Files.held c.args.files.now) before (g.F.Files.absences c.file_of.new.files) (g.F.Files.length_met c.file_of.new.files) in
    (meant.0, asks_never known c.args.arguments.now (λ file. ScriptMeans c.args.bytes.now known c.args.runner.now.turns (Some file)) meant.0 meant.1, meant.2)
