-- SendLemmas: a seat may move to another thread, and threads may share a book and batches. The check generates what the
-- recursive types of contents need (`TheKnot`); the rest is search, type by type.
use denote.Param.Send.{IsSend, IsSync, sendable}
use Rattle.std.proofs.Crossing.{crosses, send, sync}
use Rattle.std.proofs.MapsCrossing as maps
use Rattle.gq_value.proofs.CrossingLemmas.{value_send, input_sync}
use Rattle.gq_accum.proofs.scalar.Scalar.TheSendSync as scalar_crosses
use Rattle.gq_nest.specs.contracts.content.Content as content
use Rattle.gq_nest.proofs.content.Content.TheLaws.TheKnot as knot
use Rattle.gq_base.proofs.list.List.TheSendSync as list_crosses
use Rattle.gq_base.proofs.boxed.Boxed.TheSendSync as boxed_crosses
use Rattle.gq_nest.proofs.map.SortedMap.TheSendSync as map_crosses
use Rattle.gq_nest.proofs.set.SortedSet.TheSendSync as set_crosses
use Rattle.gq_core.specs.contracts.batches.Batches as batches
use Rattle.gq_stripe.specs.contracts.stripe.Stripe as stripe
use Rattle.gq_stripe.specs.contracts.book.Book as book
use Rattle.gq_stripe.proofs.view.Stage.TheSendSync as stage_crosses
use Rattle.atomic_table.proofs.shared.Seat.TheSendSync as place_crosses
use Rattle.atomic_table.proofs.shared.Shared.TheSendSync as shared_crosses
use Rattle.atomic_table.proofs.owned.Table.TheSendSync as table_crosses
use Rattle.gq_stripe.specs.contracts.seat.Seat as seat

content_send : IsSend content.the_row
content_send = search (value_send, scalar_crosses.the_field_send, list_crosses.the_send, boxed_crosses.the_send, map_crosses.the_send, set_crosses.the_send, maps.crosses, crosses, knot.crosses, sendable) depth 30

stripe_send : IsSend stripe.the_row
stripe_send = search (sendable, content_send, list_crosses.the_send) depth 20

pub seat_send : IsSend seat.the_row
seat_send = search (sendable, stripe_send, place_crosses.the_send, stage_crosses.the_field_send) depth 20

pub book_sync : IsSync book.the_row
book_sync = search (sendable, stripe_send, table_crosses.the_field_sync, shared_crosses.the_sync, send, sync, crosses) depth 30

pub batches_sync : IsSync batches.the_row
batches_sync = search (sendable, input_sync, crosses) depth 20
