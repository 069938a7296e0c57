use Rattle.std.proofs.Common.{Some, sym, ◌∙◌, ap, subst}
use Rattle.gq_io.specs.Known.{Told, known_of}
use Rattle.gq_driver.specs.CommandLine.{BytesMean}
use Rattle.gq_driver.proofs.file.run_bytes.Goals as goal

pub returns-in-None-clause-keeps : goal.returns-in-None-clause-keeps
returns-in-None-clause-keeps g c = λ pairs told outcome mean.
    c.run_script.ensures.keeps pairs told outcome (subst (λ a. BytesMean (Told pairs) c.args.runner.now.turns a c.args.bytes.now outcome) c.in-None.is mean)

pub returns-in-None-clause-is_meant : goal.returns-in-None-clause-is_meant
returns-in-None-clause-is_meant g c = λ final before low.
    let meant = c.run_script.ensures.is_meant final before low in
    let known = known_of (g.F.Files.held c.args.files.now) before (g.F.Files.absences c.run_script.new.files) (g.F.Files.length_met c.run_script.new.files) in
    (meant.0, subst (λ a. BytesMean known c.args.runner.now.turns a c.args.bytes.now meant.0) (sym c.in-None.is) meant.1, meant.2)

pub returns-in-Some-clause-keeps : goal.returns-in-Some-clause-keeps
returns-in-Some-clause-keeps g c = λ pairs told outcome mean.
    let named = c.in-Some.is ∙ ap (λ n. Some n) (sym c.as_str.ensures) in
    c.run_with_arguments.ensures.keeps pairs told outcome (subst (λ a. BytesMean (Told pairs) c.args.runner.now.turns a c.args.bytes.now outcome) named mean)

pub returns-in-Some-clause-is_meant : goal.returns-in-Some-clause-is_meant
returns-in-Some-clause-is_meant g c = λ final before low.
    let meant = c.run_with_arguments.ensures.is_meant final before low in
    let named = c.in-Some.is ∙ ap (λ n. Some n) (sym c.as_str.ensures) in
    let known = known_of (g.F.Files.held c.args.files.now) before (g.F.Files.absences c.run_with_arguments.new.files) (g.F.Files.length_met c.run_with_arguments.new.files) in
    (meant.0, subst (λ a. BytesMean known c.args.runner.now.turns a c.args.bytes.now meant.0) (sym named) meant.1, meant.2)
