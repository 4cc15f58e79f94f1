use Rattle.node_core.proofs.OfNode.PartLists.{FirstDrafted, IsMade}
use Rattle.node_core.proofs.node.peer.Peer.draft.Given as goal

abbrev pub invariant-loop-place : goal.invariant-loop-place
invariant-loop-place l =
    FirstDrafted l.centre l.number l.plant (IsMade l.cause) l.place l.initial.self l.self
