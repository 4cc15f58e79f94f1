use Rattle.std.proofs.Common.{◌≡◌, take, None}
use Rattle.share_turn.specs.Public.{at}
use Rattle.node_server.specs.Feeding.{FeedsOctets}
use Rattle.node_server.proofs.feeding.Feeder.feed_piece.Given as goal

abbrev pub invariant-loop-octet : goal.invariant-loop-octet
invariant-loop-octet g l = (l.seat ≡ at l.initial.seat l.seat.front)
    × FeedsOctets l.fn.self.shared.now.setup l.initial.seat l.seat.front l.initial.reader l.reader
    (take l.octet-index l.fn.piece) None
