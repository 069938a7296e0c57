use Rattle.std.proofs.Common.{rules, w64, FitsSigned}
use Rattle.std.proofs.lemmas.Int.{to_z-of_z}
use Rattle.gq_parallel_tests.proofs.SetFits.{number_fits_set}
use Rattle.gq_parallel_tests.proofs.sets.one_number.Goals as goal

pub returns : goal.returns
returns c =
    let x : FitsSigned w64 c.args.x = search rules in
    number_fits_set _ _ _ _ _ x (to_z-of_z w64 c.args.x x) c.requires.layout c.requires.stripes c.in_ok-batches.ensures c.in_ok-add.ensures.ok
