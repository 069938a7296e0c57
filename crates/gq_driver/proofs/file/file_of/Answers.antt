use Rattle.std.proofs.Common.{◌≤◌, ◌++◌, refl, codes, arith}
use Rattle.gq_diagnostics.specs.Outcome.{refused_with}
use Rattle.gq_io.specs.Known.{Absent, TooLong}
use Rattle.gq_driver.proofs.CommandLemmas.{keeps_absent, keeps_too_long}
use Rattle.gq_driver.proofs.file.file_of.Goals as goal

pub returns-in-Err-Missing-clause-keeps : goal.returns-in-Err-Missing-clause-keeps
returns-in-Err-Missing-clause-keeps g c = λ pairs told outcome asks.
    let low : g.F.Files.absences c.args.files.now ≤ g.F.Files.absences c.args.files.now = omega arith in
    let answered = rw c.in-Err-Missing.field-0-is at (c.in-Err-Missing.ensures.answered (g.F.Files.absences c.args.files.now) low) in
    keeps_absent (g.F.Files.held c.args.files.now) c.args.name.now _ _ _ pairs told _ _ _ _ _ outcome asks answered c.refuse_file.ensures.keeps

pub returns-in-Err-Missing-clause-is_meant : goal.returns-in-Err-Missing-clause-is_meant
returns-in-Err-Missing-clause-is_meant g c = λ final before low.
    let answered = rw c.in-Err-Missing.field-0-is at (c.in-Err-Missing.ensures.answered before low) in
    (refused_with (codes "missing file " ++ c.args.name.now), (Absent, answered, refl), c.refuse_file.ensures.keeps.final final)

pub returns-in-Err-TooLarge-clause-keeps : goal.returns-in-Err-TooLarge-clause-keeps
returns-in-Err-TooLarge-clause-keeps g c = λ pairs told outcome asks.
    let low : g.F.Files.absences c.args.files.now ≤ g.F.Files.absences c.args.files.now = omega arith in
    let answered = rw c.in-Err-TooLarge.field-0-is at (c.in-Err-TooLarge.ensures.answered (g.F.Files.absences c.args.files.now) low) in
    keeps_too_long (g.F.Files.held c.args.files.now) c.args.name.now _ _ _ pairs told _ _ _ _ _ outcome asks answered c.refuse_file-in-Err-TooLarge.ensures.keeps

pub returns-in-Err-TooLarge-clause-is_meant : goal.returns-in-Err-TooLarge-clause-is_meant
returns-in-Err-TooLarge-clause-is_meant g c = λ final before low.
    let answered = rw c.in-Err-TooLarge.field-0-is at (c.in-Err-TooLarge.ensures.answered before low) in
    (refused_with (codes "file too large " ++ c.args.name.now), (TooLong, answered, refl), c.refuse_file-in-Err-TooLarge.ensures.keeps.final final)
