use denote.Param.Send.{IsSync, sendable}
use denote.Ref.{NamedLft}
use Rattle.gq_plan_ir.proofs.CrossingLemmas.{plan_sync}
use Rattle.gq_store.proofs.CrossingLemmas.{catalog_sync, news_send, reader_send}
use Rattle.gq_store_tests.specs.contracts.shared.Question as question
use Rattle.gq_store_tests.proofs.shared.ask_beside.Goals as goal

-- the closure borrows the question
question_sync : (l : NamedLft) → IsSync (question.the_row l)
question_sync l = search (catalog_sync, plan_sync, sendable) depth 30 fits 50000

pub join-requires-send-F : goal.join-requires-send-F
join-requires-send-F g c = search (question_sync, reader_send, news_send, sendable) depth 40 fits 50000
