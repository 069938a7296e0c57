-- CrossingLemmas: threads can send and share texts, values, kinds and inputs. The checker makes what a cycle of types
-- needs (`TheKnot`); the rest is search, a type at a time.
use denote.Param.Send.{IsSend, IsSync, sendable}
use Rattle.std.proofs.Crossing.{crosses}
use Rattle.std.proofs.MapsCrossing as maps
use Rattle.gq_base.proofs.list.List.TheSendSync as list_crosses
use Rattle.gq_value.specs.contracts.txt.Txt as txt
use Rattle.gq_value.specs.contracts.value.Value as value
use Rattle.gq_value.specs.contracts.kind.Input as input
use Rattle.gq_value.specs.contracts.kind.BaseType as base
use Rattle.gq_value.proofs.value.Value.TheLaws.TheKnot as value_knot
use Rattle.gq_value.proofs.kind.Input.TheLaws.TheKnot as input_knot
use Rattle.gq_value.proofs.kind.BaseType.TheLaws.TheKnot as base_knot

pub txt_send : IsSend txt.the_row
txt_send = search (sendable, maps.crosses, crosses) depth 20

pub txt_sync : IsSync txt.the_row
txt_sync = search (sendable, maps.crosses, crosses) depth 20

pub value_send : IsSend value.the_row
value_send = search (sendable, txt_send, list_crosses.the_send, maps.crosses, crosses, value_knot.crosses) depth 30

pub value_sync : IsSync value.the_row
value_sync = search (sendable, txt_sync, list_crosses.the_sync, maps.crosses, crosses, value_knot.crosses) depth 30

pub input_send : IsSend input.the_row
input_send = search (value_send, value_knot.crosses, list_crosses.the_send, crosses, input_knot.crosses, sendable) depth 30

pub input_sync : IsSync input.the_row
input_sync = search (value_sync, value_knot.crosses, list_crosses.the_sync, crosses, input_knot.crosses, sendable) depth 30

pub base_sync : IsSync base.the_row
base_sync = search (sendable, list_crosses.the_sync, crosses, base_knot.crosses) depth 30 fits 5000
