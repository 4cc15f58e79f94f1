-- A node may go to another thread. It is shown from the inside out, since a `search` for all of it
-- at once comes to its limit.
use denote.Param.Send.{IsSend, sendable}
use denote.Param.SendFields.{declared_send}
use Rattle.std.proofs.Crossing.{crosses}
use Rattle.ber_values.proofs.visible_string.Visible.TheSendSync as visible
use Rattle.ber_values.proofs.bit_string.BitString.TheSendSync as bits
use Rattle.item_list.proofs.list.ItemList.TheSendSync as items
use Rattle.mms_data.proofs.object_name.Name.TheSendSync as name
use Rattle.mms_data.proofs.data.DataList.TheLaws.TheKnot as knot
use Rattle.tase_points.proofs.value.PointValue.TheSendSync as value
use Rattle.bilateral.proofs.centre.Centre.TheSendSync as centre
use Rattle.tase_views.proofs.tag.DeviceTag.TheSendSync as tag
use Rattle.tase_views.specs.contracts.call.Call as call
use Rattle.tase_views.specs.contracts.event.Event as event
use Rattle.node_core.proofs.node.hub.Hub.TheSendSync as hub
use Rattle.node_core.proofs.node.log.Log.TheSendSync as log
use Rattle.tase_views.specs.contracts.reply.Report as report
use Rattle.transfer_sets.proofs.bank.SlotBank.TheSendSync as bank
use Rattle.transfer_sets.proofs.due_index.DueIndex.TheSendSync as due_index
use Rattle.data_sets.proofs.book.SetBook.TheSendSync as book
use Rattle.node_core.specs.contracts.slots.associations.Association as association
use Rattle.node_core.specs.contracts.slots.associations.Associations as associations
use Rattle.node_core.specs.contracts.node.peer.Peer as peer
use Rattle.node_core.specs.contracts.node.parts.Parts as parts
use Rattle.node_core.specs.contracts.node.Node as node
use Rattle.node_core.specs.contracts.node.Node.TheInside as inside
use Rattle.node_server.specs.contracts.turn.turn_node.TurnNode as turn

call_send : IsSend call.the_row
call_send = search (
  knot.crosses,
  name.the_send,
  items.the_send,
  visible.the_send,
  bits.the_send,
  sendable,
  crosses,
) depth 20

pub event_send : IsSend event.the_row
event_send = search (call_send, value.the_send, tag.the_send, sendable, crosses) depth 20

report_send : IsSend report.the_row
report_send = search (
  knot.crosses,
  name.the_send,
  items.the_send,
  visible.the_send,
  bits.the_send,
  sendable,
  crosses,
) depth 20

association_send : IsSend association.the_row
association_send = search (report_send, sendable, crosses) depth 20

associations_send : IsSend associations.the_row
associations_send = search (association_send, sendable, crosses) depth 20

peer_send : IsSend peer.the_row
peer_send = search (associations_send, book.the_send, bank.the_send, sendable, crosses) depth 20

parts_send : IsSend parts.the_row
parts_send = search (peer_send, due_index.the_send, sendable, crosses) depth 20

inside_send : IsSend inside.the_row
inside_send = declared_send
    inside.the_type (
      search (centre.the_send, centre.the_sync, sendable, crosses) depth 20,
      (log.the_send, (hub.the_send, (parts_send, tt))),
    )

node_send : IsSend node.the_row
node_send = search (inside_send, sendable)

pub turn_send : IsSend turn.the_row
turn_send = search (node_send, sendable, crosses) depth 20
