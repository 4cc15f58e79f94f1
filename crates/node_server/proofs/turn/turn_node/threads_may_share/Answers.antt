use denote.Param.Send.{sendable}
use Rattle.std.proofs.Crossing.{crosses}
use Rattle.share_turn.proofs.shared.Shared.TheSendSync as shared
use Rattle.share_turn.proofs.shared.Seat.TheSendSync as seat
use Rattle.node_server.proofs.OfTurn.Sent.{turn_send}
use Rattle.node_server.proofs.turn.turn_node.threads_may_share.Goals as goal

pub used_at_once-requires-sync-T : goal.used_at_once-requires-sync-T
used_at_once-requires-sync-T c κs =
    search (turn_send, shared.the_sync, sendable, crosses) depth 20

pub sent_over-requires-send-T : goal.sent_over-requires-send-T
sent_over-requires-send-T c κs = search (turn_send, seat.the_send, sendable, crosses) depth 20
