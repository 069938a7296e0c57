use Rattle.gq_exec_feed.proofs.PlaceLemmas.{if_needed}
use Rattle.gq_exec_feed.proofs.targets.place.Goals as goal

pub returns : goal.returns
returns c = if_needed _ c.found.result c.needed.result c.found.ensures c.needed.ensures.ok
