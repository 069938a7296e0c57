use Rattle.std.proofs.lemmas.Int.{to_z-of_z}
use Rattle.std.specs.Int.{w64}
use Rattle.std.specs.Int.RustNames.{FitsSigned}
use Rattle.std.proofs.Common.{rules, sym}
use Rattle.gq_eval_builtins.proofs.TimeLemmas.{unit_added}
use Rattle.gq_eval_builtins.proofs.times.later.Goals as goal

pub returns-in-Some : goal.returns-in-Some
returns-in-Some c =
    let f : FitsSigned w64 c.args.x = search rules in
    let x = to_z-of_z w64 c.args.x f in
    let g : FitsSigned w64 c.args.n = search rules in
    let n = to_z-of_z w64 c.args.n g in
    unit_added c.args.unit.now c.in-Some.unit c.args.n c.args.x c.add.result c.time.result (sym c.in-Some.ensures) c.requires (rw (x, n) at c.add.ensures.some) (rw (x, n) at c.add.ensures.none) c.time.ensures
