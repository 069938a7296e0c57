use Rattle.std.proofs.Common.{rules, w64, FitsSigned}
use Rattle.std.proofs.lemmas.Int.{to_z-of_z}
use Rattle.gq_parallel_tests.proofs.SumFits.{on_ok, one_number_fits}
use Rattle.gq_parallel_tests.proofs.stripes.add.Goals as goal

pub returns-clause-fit : goal.returns-clause-fit
returns-clause-fit c =
    let x : FitsSigned w64 c.args.x = search rules in
    on_ok c.add.result c.add.ensures.ok (λ gains. (one_number_fits _ _ _ _ _ _ x (to_z-of_z w64 c.args.x x) c.requires.sum c.requires.fit c.requires.few gains).0)

pub returns-clause-few : goal.returns-clause-few
returns-clause-few c =
    let x : FitsSigned w64 c.args.x = search rules in
    on_ok c.add.result c.add.ensures.ok (λ gains. (one_number_fits _ _ _ _ _ _ x (to_z-of_z w64 c.args.x x) c.requires.sum c.requires.fit c.requires.few gains).1)
