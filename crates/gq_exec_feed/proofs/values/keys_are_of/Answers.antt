use Rattle.gq_exec_feed.proofs.SuitLemmas.{keys_uneven}
use Rattle.gq_exec_feed.proofs.values.keys_are_of.Goals as goal

pub returns-then-values-keys : goal.returns-then-values-keys
returns-then-values-keys c = keys_uneven c.args.keys.now c.args.values.now c.if-values-keys.true
