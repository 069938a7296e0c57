use Rattle.std.proofs.Common.{refl, rules}
use Rattle.gq_workers.proofs.RoundLemmas.{left_fed}
use Rattle.gq_workers.proofs.joining.feed_left.Goals as goal

pub returns : goal.returns
returns c = left_fed c.args.left.now c.args.run.now (record { at = c.args.left.now.end; accums = c.feed.new.accums; fed = c.in_ok-run.field-0; found = c.args.run.now.found; room = c.args.run.now.room }) c.args.left.now.inputs
    (search rules) c.in-None.is refl c.in_ok-run.ensures refl refl
