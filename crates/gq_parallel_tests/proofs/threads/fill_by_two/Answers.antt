use denote.Param.Send.{sendable}
use Rattle.gq_parallel_tests.proofs.SendLemmas.{seat_send, book_sync, batches_sync}
use Rattle.gq_parallel_tests.proofs.threads.fill_by_two.Goals as goal

pub join-requires-send-F : goal.join-requires-send-F
join-requires-send-F g c = search (sendable, seat_send, book_sync, batches_sync) depth 20

pub join-requires-send-A : goal.join-requires-send-A
join-requires-send-A g c = search (sendable, seat_send) depth 20
