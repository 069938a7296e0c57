use Rattle.std.proofs.Common.{◌≡◌, ◌≤◌}
use Rattle.gq_session.proofs.RunLemmas.{HasCome}
use Rattle.gq_session.proofs.run.run_statements.Given as goal

abbrev pub invariant-loop-placed : goal.invariant-loop-placed
invariant-loop-placed g l =
    HasCome l.bytes (g.F.Files.held l.fn.files) l.fn.session l.statements l.placed-index l.session (g.K.Sink.written l.fn.out) (g.K.Sink.written l.out)
    × (g.F.Files.held l.files ≡ g.F.Files.held l.fn.files)
    × (g.F.Files.faults l.fn.files ≤ g.F.Files.faults l.files)
    × (g.F.Files.absences l.fn.files ≤ g.F.Files.absences l.files)
    × (g.K.Sink.faults l.fn.out ≤ g.K.Sink.faults l.out)
