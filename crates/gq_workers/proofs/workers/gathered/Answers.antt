use denote.Param.Send.{IsSync, sendable}
use Rattle.std.proofs.Crossing.{crosses, sync}
use Rattle.gq_workers.specs.contracts.workers.gathered as row
use Rattle.gq_workers.proofs.CrossingLemmas.{part_send, round_sync}
use Rattle.gq_workers.proofs.workers.gathered.Given as given
use Rattle.gq_workers.proofs.workers.gathered.Lts as env
use Rattle.gq_workers.proofs.workers.gathered.Goals as goal

pub map_indices-requires-send-X : goal.map_indices-requires-send-X
map_indices-requires-send-X g c = search (part_send, sendable) depth 20

-- a separate lemma, without the many facts of the context
closure_sync : (g : given.Over) (κs : _) → IsSync (row.G-row g.row.R g.row.G) → IsSync (denote.Param.param 3 (env.arg-6-3 g.row.R g.row.G g.R.laws g.G.laws g.R.Threads-dict g.G.Gate-dict κs))
closure_sync g κs gate = search (round_sync, sync, crosses, sendable) depth 40 fits 50000

pub map_indices-requires-sync-F : goal.map_indices-requires-sync-F
map_indices-requires-sync-F g c κs within = closure_sync g κs c.type_bounds.sync-G
