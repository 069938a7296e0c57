use denote.Param.Send.{IsSend, IsSync, sendable}
use denote.Ref.{NamedLft}
use Rattle.std.proofs.Crossing.{crosses, sync}
use Rattle.gq_io.specs.contracts.shape.Shape as shape
use Rattle.gq_plan_ir.proofs.CrossingLemmas.{block_sync}
use Rattle.gq_workers.proofs.CrossingLemmas.{ends_sync}
use Rattle.gq_parallel_tests.specs.contracts.blocks.Task as task
use Rattle.gq_parallel_tests.specs.contracts.blocks.by_two as row
use Rattle.gq_parallel_tests.proofs.BlockSend.{candidates_sync, context_sync, word_seat_send, words_sync}
use Rattle.gq_parallel_tests.proofs.SendLemmas.{book_sync, seat_send}
use Rattle.gq_parallel_tests.proofs.blocks.by_two.Given as given
use Rattle.gq_parallel_tests.proofs.blocks.by_two.Lts as env
use Rattle.gq_parallel_tests.proofs.blocks.by_two.Goals as goal

shape_field : IsSync (shape.the_field).row
shape_field = search (sendable) depth 30 fits 50000

-- the closures borrow the task
task_sync : (l : NamedLft) → IsSync (task.the_row l)
task_sync l = search (block_sync, ends_sync, candidates_sync, shape_field, crosses, sendable) depth 30 fits 50000

-- a separate lemma, without the many facts of the context
closure_send : (g : given.Over) (κs : _) → IsSync (row.R-row g.row.R) → IsSend (denote.Param.param 1 (env.arg-0-1 g.row.R g.R.laws g.R.Threads-dict g.R.Wait-dict κs))
closure_send g κs runtime = search (task_sync, context_sync, seat_send, word_seat_send, book_sync, words_sync, sync, crosses, sendable) depth 40 fits 50000

pub join_mut-requires-send-F : goal.join_mut-requires-send-F
join_mut-requires-send-F g c κs within = closure_send g κs c.type_bounds.sync-R
