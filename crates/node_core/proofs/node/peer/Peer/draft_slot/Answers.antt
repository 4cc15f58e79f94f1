use Rattle.std.proofs.Common.{refl}
use Rattle.node_core.proofs.OfNode.PartLists.{IsAlike-drafts}
use Rattle.node_core.proofs.node.peer.Peer.draft_slot.Goals as goal

pub returns-clause-alike : goal.returns-clause-alike
returns-clause-alike c = IsAlike-drafts _ _ refl c.draft_own.ensures.made
