-- The calls of the first seat, which joins seats without events between them.
use Rattle.std.proofs.Common.{◌≡◌, ℕ, List, [], ◌∷◌, ◌++◌, refl, subst, ◌∙◌}
use Rattle.std.proofs.Common.{Result}
use Rattle.tase_views.specs.declared.event.EventKind.{EventKind}
use Rattle.tase_views.specs.declared.fault.StepFault.{StepFault}
use Rattle.tase_views.specs.declared.reply.Answer.{Answer}
use Rattle.share_turn.specs.Entries.{Keeps}
use Rattle.share_turn.specs.Public.{Came, added, at}
use Rattle.node_server.specs.declared.turn.turn_node.NodeSetup.{NodeSetup}
use Rattle.node_server.specs.Turn.Logged.{IsRightTurn}
use Rattle.node_server.specs.NodeCalls.{NodeCall, NodeLog, NodeSeat, CallsNode}
use Rattle.node_server.proofs.Calling.{calls-append}

-- a call of a seat, by its number and what it had seen alone
CameBy : NodeSetup → EventKind → Result Answer StepFault → NodeLog → ℕ → NodeLog → Type 0
CameBy setup event outcome front who seen = (before : NodeLog) × Keeps before (who, seen)
    × IsRightTurn setup before who event outcome
    × (front ≡ before ++ added outcome (who, event))

came-same : (setup : NodeSetup) (seat other : NodeSeat) (event : EventKind)
    (outcome : Result Answer StepFault) (front : NodeLog) → seat.number ≡ other.number
    → seat.front ≡ other.front → Came IsRightTurn setup seat event outcome front
    → Came IsRightTurn setup other event outcome front
unfolding CameBy
came-same setup seat other event outcome front number same came =
    subst (λ (n : ℕ). CameBy setup event outcome front n other.front) number
    (subst (λ (l : NodeLog). CameBy setup event outcome front seat.number l) same came)

-- another seat with this number and front made the same calls
pub calls-same : (setup : NodeSetup) (seat other : NodeSeat) (calls : List NodeCall)
    (front : NodeLog) → seat.number ≡ other.number → seat.front ≡ other.front
    → CallsNode setup seat calls front → CallsNode setup other calls front
calls-same setup seat other [] front number same made = made ∙ same
calls-same setup seat other (call ∷ calls) front number same made = (
  made.0,
  came-same setup seat other call.event call.outcome made.0 number same made.1,
  calls-same setup (at seat made.0) (at other made.0) calls front number refl made.2,
)

-- calls of the first seat, then calls of the seat that it has become
pub calls-then : (setup : NodeSetup) (first mid after : NodeSeat) (calls more : List NodeCall)
    (front : NodeLog) → mid.number ≡ first.number → mid.front ≡ first.front
    → after.number ≡ first.number → CallsNode setup mid calls after.front
    → CallsNode setup after more front → CallsNode setup first (calls ++ more) front
calls-then setup first mid after calls more front number same later made then =
    calls-append IsRightTurn setup first calls more after.front front
    (calls-same setup mid first calls after.front number same made)
    (calls-same setup after (at first after.front) more front later refl then)
