use Rattle.std.proofs.Common.{rules, w64, FitsSigned}
use Rattle.std.proofs.lemmas.Int.{to_z-of_z}
use Rattle.gq_value.specs.Accums.{One}
use Rattle.gq_value.specs.Val.{Int}
use Rattle.gq_value.specs.ViewLaws.{val-Int}
use Rattle.gq_value.specs.declared.value.Value.TheVariants as value
use Rattle.gq_value.proofs.AccumLemmas.{given-One}
use Rattle.gq_nest.proofs.LevelLemmas.{opened-Scalar}
use Rattle.gq_nest.proofs.FeedSteps.{on_ok}
use Rattle.gq_frame.proofs.IntLemmas.{feeds_of, scalar_feeds}
use Rattle.gq_frame.proofs.ints.feed_content.Goals as goal

pub returns-in-Scalar : goal.returns-in-Scalar
returns-in-Scalar c =
    let f : FitsSigned w64 c.args.x = search rules in
    rw (c.in-Scalar.is, opened-Scalar c.in-Scalar.scalar) (scalar_feeds _ _ _ (rw (c.in-Scalar.scalar-is, to_z-of_z w64 c.args.x f) at c.add.ensures))

pub returns-in_default : goal.returns-in_default
returns-in_default c =
    let f : FitsSigned w64 c.args.x = search rules in
    on_ok c.feed.result c.feed.ensures.fed (λ takes. feeds_of c.args.content.now c.feed.new.self (One (Int c.args.x)) (rw (to_z-of_z w64 c.args.x f, given-One (value.Int c.args.x), val-Int c.args.x) at takes))
