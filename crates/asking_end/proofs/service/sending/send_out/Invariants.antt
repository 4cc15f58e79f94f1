use Rattle.std.proofs.Common.{length}
use Rattle.outside.specs.Links.LinkAnswers.{LinkAnswers}
use Rattle.node_server.specs.Links.LinkUses.{HasHeard}
use Rattle.asking_end.specs.Service.Terminals.{IsUnwritten}
use Rattle.asking_end.proofs.OfService.SentOut.{SentSoFar}
use Rattle.asking_end.proofs.service.sending.send_out.Given as goal

abbrev pub invariant-sends : goal.invariant-sends
invariant-sends g l = ((first : LinkAnswers)
    → HasHeard (g.T.Terminal.told l.initial.terminal).link first
    → SentSoFar (g.T.Terminal.told l.initial.terminal).link (g.T.Terminal.told l.terminal).link
    first l.initial.out.items l.out.items)
    × IsUnwritten (g.T.Terminal.told l.initial.terminal) (g.T.Terminal.told l.terminal)

abbrev pub decreases-sends : goal.decreases-sends
decreases-sends g l = length l.out.items
