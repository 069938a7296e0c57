-- CrossingLemmas: the data that workers share, and their output, may cross threads. An enum or a struct that is a field
-- of another one has a lemma for that (`the_field`).
use denote.Param.Send.{IsSend, IsSync, sendable}
use denote.Ref.{NamedLft}
use Rattle.std.proofs.Crossing.{crosses, sync}
use Rattle.std.proofs.MapsCrossing as maps
use Rattle.gq_base.proofs.list.List.TheSendSync as list_crosses
use Rattle.gq_base.proofs.boxed.Boxed.TheSendSync as boxed_crosses
use Rattle.gq_value.specs.contracts.value.Value as value
use Rattle.gq_value.specs.contracts.kind.BaseType as base
use Rattle.gq_value.specs.contracts.kind.Kind as kind
use Rattle.gq_value.proofs.value.Value.TheLaws.TheKnot as value_knot
use Rattle.gq_value.proofs.kind.BaseType.TheLaws.TheKnot as base_knot
use Rattle.gq_value.proofs.kind.Kind.TheLaws.TheKnot as kind_knot
pub use Rattle.gq_value.proofs.CrossingLemmas.{txt_sync}
use Rattle.gq_value.proofs.CrossingLemmas.{value_send, value_sync, base_sync, input_send}
use Rattle.gq_accum.proofs.scalar.Scalar.TheSendSync as scalar_crosses
use Rattle.gq_nest.proofs.map.SortedMap.TheSendSync as map_crosses
use Rattle.gq_nest.proofs.set.SortedSet.TheSendSync as set_crosses
use Rattle.gq_nest.specs.contracts.content.Content as content
use Rattle.gq_nest.proofs.content.Content.TheLaws.TheKnot as content_knot
use Rattle.gq_frame.specs.contracts.slots.Slots as slots
use Rattle.gq_frame.specs.contracts.page.Page as page
use Rattle.gq_frame.specs.contracts.single.Single as single
use Rattle.gq_frame.specs.contracts.pages.Pages as pages
use Rattle.gq_frame.specs.contracts.accums.Accums as accums
use Rattle.gq_core.specs.contracts.batches.Batches as batches
use Rattle.gq_eval_attributes.specs.contracts.tuple_type.TupleType as tuple_type
use Rattle.gq_frame.specs.contracts.frame.Thing as thing
use Rattle.gq_frame.specs.contracts.frame.Frame as frame
use Rattle.gq_exec_source.specs.contracts.ends.End as end
use Rattle.gq_exec_source.specs.contracts.ends.Ends as ends
use Rattle.gq_exec_contribute.specs.contracts.cells.Taken as taken
use Rattle.gq_exec_contribute.specs.contracts.cells.Cells as cells
use Rattle.gq_exec_contribute.specs.contracts.columns.Column as column
use Rattle.gq_exec_contribute.specs.contracts.filters.EndCell as end_cell
use Rattle.gq_exec_contribute.specs.contracts.filters.Filter as filter
use Rattle.gq_exec_contribute.specs.contracts.rows.Ints as ints
use Rattle.gq_exec_contribute.specs.contracts.waiting.PackedInput as packed
use Rattle.gq_exec_contribute.specs.contracts.waiting.WaitingInputs as waiting
use Rattle.gq_exec_contribute.specs.contracts.leaves.Leaves as leaves
use Rattle.gq_index.specs.contracts.store.Graph as graph
use Rattle.gq_index.specs.contracts.stretches.Stretch as stretch
use Rattle.gq_index.specs.contracts.stretches.Stretches as stretches
use Rattle.gq_index.specs.contracts.candidates.CandidateRows as candidate_rows
use Rattle.gq_index.specs.contracts.candidates.Candidates as candidates
use Rattle.gq_workers.specs.contracts.wanted.Wanted as wanted
use Rattle.gq_workers.specs.contracts.rounds.Work as work
use Rattle.gq_workers.specs.contracts.rounds.Round as round
use Rattle.gq_workers.specs.contracts.rounds.ChunkOutput as left
use Rattle.gq_workers.specs.contracts.rounds.WorkerOutput as part
pub use Rattle.gq_index.proofs.CrossingLemmas.{edge_type_sync, index_sync, store_sync, vertex_type_sync}
pub use Rattle.gq_plan_ir.proofs.CrossingLemmas.{block_sync, plan_sync}

-- ---- what workers leave

batches_send : IsSend batches.the_row
batches_send = search (sendable, input_send, crosses) depth 20

ints_send : IsSend ints.the_row
ints_send = search (sendable, crosses) depth 30 fits 50000

packed_send : IsSend packed.the_row
packed_send = search (sendable) depth 30 fits 50000

waiting_field : IsSend (waiting.the_field).row
waiting_field = search (sendable, ints_send, packed_send, list_crosses.the_send, crosses) depth 30 fits 50000

left_send : IsSend left.the_row
left_send = search (sendable, batches_send, waiting_field, list_crosses.the_send, crosses) depth 30 fits 50000

pub part_send : IsSend part.the_row
part_send = search (sendable, left_send, list_crosses.the_send, crosses) depth 30 fits 50000

-- ---- what they share

pub tuple_sync : IsSync tuple_type.the_row
tuple_sync = search (txt_sync, base_sync, list_crosses.the_sync, crosses, sendable) depth 30 fits 50000

base_field : IsSync (base.the_field).row
base_field = search (list_crosses.the_sync, crosses, base_knot.crosses, sendable) depth 30 fits 50000

kind_field : IsSync (kind.the_field).row
kind_field = search (base_field, base_sync, txt_sync, list_crosses.the_sync, boxed_crosses.the_sync, crosses, kind_knot.crosses, sendable) depth 30 fits 50000

content_sync : IsSync content.the_row
content_sync = search (value_sync, list_crosses.the_sync, boxed_crosses.the_sync, maps.crosses, crosses, content_knot.crosses, sendable) depth 30 fits 50000

-- copies of the accumulators share pages, so the last thread to drop one frees its contents
content_send : IsSend content.the_row
content_send = search (value_send, scalar_crosses.the_field_send, list_crosses.the_send, boxed_crosses.the_send, map_crosses.the_send, set_crosses.the_send, maps.crosses, crosses, content_knot.crosses, sendable) depth 30 fits 50000

content_field : IsSync (content.the_field).row
content_field = search (value_sync, list_crosses.the_sync, boxed_crosses.the_sync, maps.crosses, crosses, content_knot.crosses, sendable) depth 30 fits 50000

single_sync : IsSync single.the_row
single_sync = search (content_field, content_sync, content_send, crosses, sendable) depth 30 fits 50000

page_sync : IsSync page.the_row
page_sync = search (single_sync, content_sync, content_send, list_crosses.the_sync, list_crosses.the_send, crosses, sendable) depth 30 fits 50000

pages_field : IsSync (pages.the_field).row
pages_field = search (page_sync, list_crosses.the_sync, crosses, sendable) depth 30 fits 50000

slots_field : IsSync (slots.the_field).row
slots_field = search (kind_field, list_crosses.the_sync, crosses, sendable) depth 30 fits 50000

accums_field : IsSync (accums.the_field).row
accums_field = search (slots_field, pages_field, crosses, sendable) depth 30 fits 50000

value_field : IsSync (value.the_field).row
value_field = search (txt_sync, list_crosses.the_sync, crosses, value_knot.crosses, sendable) depth 30 fits 50000

thing_sync : IsSync thing.the_row
thing_sync = search (base_field, base_sync, value_field, value_sync, list_crosses.the_sync, crosses, sendable) depth 30 fits 50000

pub frame_sync : IsSync frame.the_row
frame_sync = search (thing_sync, accums_field, list_crosses.the_sync, crosses, sendable) depth 30 fits 50000

end_field : IsSync (end.the_field).row
end_field = search (list_crosses.the_sync, crosses, sendable) depth 30 fits 50000

pub ends_sync : IsSync ends.the_row
ends_sync = search (end_field, list_crosses.the_sync, crosses, sendable) depth 30 fits 50000

taken_field : IsSync (taken.the_field).row
taken_field = search (sendable) depth 30 fits 50000

pub cells_sync : IsSync cells.the_row
cells_sync = search (taken_field, sendable) depth 30 fits 50000

cells_field : IsSync (cells.the_field).row
cells_field = search (taken_field, sendable) depth 30 fits 50000

end_cell_field : IsSync (end_cell.the_field).row
end_cell_field = search (cells_field, sendable) depth 30 fits 50000

filter_field : IsSync (filter.the_field).row
filter_field = search (end_cell_field, sendable) depth 30 fits 50000

column_field : IsSync (column.the_field).row
column_field = search (list_crosses.the_sync, crosses, sendable) depth 30 fits 50000

leaves_field : (l : NamedLft) → IsSync (leaves.the_field l).row
leaves_field l = search (ends_sync, cells_sync, list_crosses.the_sync, crosses, sendable) depth 30 fits 50000

graph_field : (l : NamedLft) → IsSync (graph.the_field l).row
graph_field l = search (store_sync, index_sync, vertex_type_sync, edge_type_sync, txt_sync, list_crosses.the_sync, maps.crosses, crosses, sendable) depth 30 fits 50000

stretch_sync : (l : NamedLft) → IsSync (stretch.the_row l)
stretch_sync l = search (crosses, sendable) depth 30 fits 50000

stretches_field : (l : NamedLft) → IsSync (stretches.the_field l).row
stretches_field l = search (stretch_sync, list_crosses.the_sync, crosses, sendable) depth 30 fits 50000

rows_of_candidates : (l : NamedLft) → IsSync (candidate_rows.the_field l).row
rows_of_candidates l = search (stretches_field, list_crosses.the_sync, crosses, sendable) depth 30 fits 50000

candidates_field : (l : NamedLft) → IsSync (candidates.the_field l).row
candidates_field l = search (rows_of_candidates, list_crosses.the_sync, crosses, sendable) depth 30 fits 50000

wanted_field : IsSync (wanted.the_field).row
wanted_field = search (cells_sync, list_crosses.the_sync, crosses, sendable) depth 30 fits 50000

pub work_sync : (l : NamedLft) → IsSync (work.the_row l)
work_sync l = search (block_sync, leaves_field, filter_field, column_field, wanted_field, candidates_field, list_crosses.the_sync, crosses, sendable) depth 30 fits 50000

pub round_sync : (l : NamedLft) → IsSync (round.the_row l)
round_sync l = search (graph_field, plan_sync, tuple_sync, frame_sync, work_sync, sync, crosses, sendable) depth 30 fits 50000
