-- BlockSend: what two threads that work on one block share may cross threads. A struct that is a field of another one has a
-- lemma for that (`the_field`).
use denote.Param.Send.{IsSend, IsSync, sendable}
use denote.Ref.{NamedLft}
use Rattle.std.proofs.Crossing.{crosses}
use Rattle.std.proofs.MapsCrossing as maps
use Rattle.gq_base.proofs.list.List.TheSendSync as list_crosses
use Rattle.gq_index.specs.contracts.store.Graph as graph
use Rattle.gq_index.specs.contracts.stretches.Stretch as stretch
use Rattle.gq_index.specs.contracts.stretches.Stretches as stretches
use Rattle.gq_index.specs.contracts.candidates.CandidateRows as candidate_rows
use Rattle.gq_index.specs.contracts.candidates.Candidates as candidates
use Rattle.gq_eval_context.specs.contracts.block_context.BlockContext as context
use Rattle.gq_plan_ir.proofs.CrossingLemmas.{plan_sync}
use Rattle.gq_words.specs.contracts.words.Words as words
use Rattle.gq_words.specs.contracts.seat.WordSeat as word_seat
use Rattle.atomic_table.proofs.shared.Seat.TheSendSync as place_crosses
use Rattle.atomic_table.proofs.shared.Shared.TheSendSync as shared_crosses
use Rattle.atomic_table.proofs.owned.Table.TheSendSync as table_crosses
use Rattle.gq_workers.proofs.CrossingLemmas.{edge_type_sync, frame_sync, index_sync, store_sync, tuple_sync, txt_sync, vertex_type_sync}

stretch_sync : (l : NamedLft) → IsSync (stretch.the_row l)
stretch_sync l = search (crosses, sendable) depth 30 fits 50000

stretches_field : (l : NamedLft) → IsSync (stretches.the_field l).row
stretches_field l = search (stretch_sync, list_crosses.the_sync, crosses, sendable) depth 30 fits 50000

rows_field : (l : NamedLft) → IsSync (candidate_rows.the_field l).row
rows_field l = search (stretches_field, list_crosses.the_sync, crosses, sendable) depth 30 fits 50000

pub candidates_sync : (l : NamedLft) → IsSync (candidates.the_row l)
candidates_sync l = search (rows_field, list_crosses.the_sync, crosses, sendable) depth 30 fits 50000

graph_field : (l : NamedLft) → IsSync (graph.the_field l).row
graph_field l = search (store_sync, index_sync, vertex_type_sync, edge_type_sync, txt_sync, list_crosses.the_sync, maps.crosses, crosses, sendable) depth 30 fits 50000

pub context_sync : (l : NamedLft) → IsSync (context.the_row l)
context_sync l = search (graph_field, plan_sync, tuple_sync, frame_sync, list_crosses.the_sync, crosses, sendable) depth 30 fits 50000

pub words_sync : IsSync words.the_row
words_sync = search (sendable, table_crosses.the_field_sync, shared_crosses.the_sync, crosses) depth 30 fits 50000

pub word_seat_send : IsSend word_seat.the_row
word_seat_send = search (sendable, place_crosses.the_send, crosses) depth 30 fits 50000
