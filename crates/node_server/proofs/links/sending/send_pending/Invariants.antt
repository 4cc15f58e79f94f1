use Rattle.std.proofs.Common.{length}
use Rattle.outside.specs.Links.LinkAnswers.{LinkAnswers}
use Rattle.tase_conn.specs.Talking.{pending_of}
use Rattle.node_server.specs.Links.LinkUses.{HasHeard}
use Rattle.node_server.proofs.OfLinks.SentSoFar.{SendsSoFar}
use Rattle.node_server.proofs.links.sending.send_pending.Given as goal

abbrev pub invariant-loop-link : goal.invariant-loop-link
invariant-loop-link g l = (first : LinkAnswers)
    → HasHeard (g.L.Link.told l.initial.link) first
    → SendsSoFar (g.L.Link.told l.initial.link) (g.L.Link.told l.link) first l.initial.conn l.conn

abbrev pub decreases-loop-link : goal.decreases-loop-link
decreases-loop-link g l = length (pending_of l.conn)
