use Rattle.gq_workers.proofs.WorkingLemmas.{has_mark}
use Rattle.gq_workers.proofs.seats.feed_mark.Goals as goal

pub feed_or-requires-clause-op : goal.feed_or-requires-clause-op
feed_or-requires-clause-op c = has_mark c.args.words.now c.args.count c.args.first c.args.vertex c.requires.words c.requires.first c.requires.below
