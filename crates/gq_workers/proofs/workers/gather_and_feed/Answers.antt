use denote.Param.Send.{IsSend, IsSync, sendable}
use Rattle.std.proofs.Crossing.{crosses, sync}
use Rattle.gq_workers.specs.contracts.workers.gather_and_feed as row
use Rattle.gq_workers.proofs.CrossingLemmas.{round_sync}
use Rattle.gq_workers.proofs.workers.gather_and_feed.Given as given
use Rattle.gq_workers.proofs.workers.gather_and_feed.Lts as env
use Rattle.gq_workers.proofs.workers.gather_and_feed.Goals as goal

-- a separate lemma, without the many facts of the context
closure_send : (g : given.Over) (κs : _) → IsSync (row.R-row g.row.R g.row.G) → IsSync (row.G-row g.row.R g.row.G) → IsSend (denote.Param.param 1 (env.arg-2-1 g.row.R g.row.G g.R.laws g.G.laws g.R.Threads-dict g.G.Gate-dict κs))
closure_send g κs runtime gate = search (round_sync, sync, crosses, sendable) depth 40 fits 50000

pub join_mut-requires-send-F : goal.join_mut-requires-send-F
join_mut-requires-send-F g c κs within = closure_send g κs c.type_bounds.sync-R c.type_bounds.sync-G
