use Rattle.std.proofs.Common.{◌+◌}
use Rattle.node_core.specs.Feeds.SlotFeeds.{due_count}
use Rattle.node_core.proofs.OfNode.PartLists.{FirstDrafted}
use Rattle.node_core.proofs.OfNode.TickDrafts.{AreTimeouts, IsDraftingTick}
use Rattle.node_core.proofs.node.peer.Peer.draft_tick.Given as goal

abbrev pub invariant-loop-place : goal.invariant-loop-place
invariant-loop-place l =
    FirstDrafted l.centre l.number l.plant (AreTimeouts l.advance.to) l.place l.initial.self l.self

abbrev pub invariant-loop-slot : goal.invariant-loop-slot
invariant-loop-slot l =
    IsDraftingTick l.centre l.number l.plant l.advance.from l.advance.to l.slot l.initial.self l.self
    l.looks (l.initial.looks + due_count l.advance.from l.advance.to l.initial.self.slots)
