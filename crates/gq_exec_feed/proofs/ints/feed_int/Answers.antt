use Rattle.std.proofs.Common.{rules, w64, FitsSigned}
use Rattle.std.proofs.lemmas.Int.{to_z-of_z}
use Rattle.gq_nest.proofs.FeedSteps.{on_ok}
use Rattle.gq_exec_feed.proofs.BatchLemmas.{target_takes}
use Rattle.gq_exec_feed.proofs.ints.feed_int.Goals as goal

pub returns : goal.returns
returns c =
    let f : FitsSigned w64 c.args.x = search rules in
    on_ok _ (rw (to_z-of_z w64 c.args.x f) at c.feed_int.ensures) (target_takes _ _ _ _ (search rules))
