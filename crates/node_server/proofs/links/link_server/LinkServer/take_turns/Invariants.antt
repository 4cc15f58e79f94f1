use Rattle.std.proofs.Common.{◌≡◌, ◌<◌, ◌≤◌, length}
use mathlib.Core.List.{IsPrefix}
use Rattle.outside.specs.Links.Links.{LinkTold}
use Rattle.share_turn.specs.Public.{at}
use Rattle.node_server.specs.NodeCalls.{NodeLog}
use Rattle.node_server.specs.Seats.Since.{EachSince}
use Rattle.node_server.specs.Links.Turns.{IsInTurn}
use Rattle.node_server.proofs.links.link_server.LinkServer.take_turns.Given as goal

abbrev pub invariant-loop : goal.invariant-loop
invariant-loop g l = (l.seat ≡ at l.initial.seat l.seat.front)
    × IsPrefix l.initial.seat.front l.seat.front × (0 < length l.room) × (length l.room ≤ 16384)
    × EachSince l.initial.seat.front l.seat.front (λ (log longer : NodeLog). (start : LinkTold)
    → IsInTurn l.fn.self.shared.now.setup l.initial.seat.number log start
    (g.L.Link.told l.initial.link) l.initial.conn
    → IsInTurn l.fn.self.shared.now.setup l.initial.seat.number longer start
    (g.L.Link.told l.link) l.conn)
