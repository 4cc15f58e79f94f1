use Rattle.std.proofs.Common.{◌≡◌, ℕ, List, ◌<◌, length, None}
use Rattle.outside.proofs.Reading.{HasRead}
use Rattle.share_turn.specs.Public.{at}
use Rattle.node_server.specs.Feeding.{FeedsOctets}
use Rattle.node_server.proofs.feeding.Feeder.feed_pieces.Given as goal

abbrev pub invariant-loop : goal.invariant-loop
invariant-loop g l = (l.seat ≡ at l.initial.seat l.seat.front) × (0 < length l.room)
    × ((octets : List ℕ)
    × HasRead (g.S.Source.told l.initial.source) (g.S.Source.told l.source) octets
    × FeedsOctets l.fn.self.shared.now.setup l.initial.seat l.seat.front l.initial.reader l.reader
    octets None)
