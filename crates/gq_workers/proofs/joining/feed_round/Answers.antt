use Rattle.std.proofs.Common.{refl}
use Rattle.gq_workers.specs.declared.run.BlockProgress.{BlockProgress}
use Rattle.gq_workers.proofs.RoundLemmas.{feeds_round_ok}
use Rattle.gq_workers.proofs.joining.feed_round.Goals as goal

pub returns : goal.returns
returns c =
    let mid : BlockProgress = record { at = c.args.run.now.at; accums = c.args.run.now.accums; fed = c.args.run.now.fed; found = c.mark_parts.new.found; room = c.args.run.now.room } in
    feeds_round_ok c.args.round.now c.as_slice-parts.result.now c.args.run.now mid c.feed_parts.new.run c.feed_parts.result c.as_slice-parts.ensures.value c.in_ok-mark_parts.ensures refl refl refl c.feed_parts.ensures
