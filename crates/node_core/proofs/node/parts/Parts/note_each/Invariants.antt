use Rattle.std.proofs.Common.{◌+◌, ◌*◌, ◌≤◌, length}
use Rattle.node_core.specs.Feeds.SlotFeeds.{planned_count}
use Rattle.node_core.specs.PartFeeds.{IsNoted}
use Rattle.node_core.specs.Feeds.Indexed.{over_peers, of_part}
use Rattle.node_core.proofs.OfNode.PartLists.{FirstBecome}
use Rattle.node_core.proofs.OfNode.PeerTotals.{FirstIndexed}
use Rattle.node_core.proofs.node.parts.Parts.note_each.Given as goal

abbrev pub invariant-loop-peer : goal.invariant-loop-peer
invariant-loop-peer l = record {
  noted : FirstBecome (λ peer. IsNoted l.now l.value l.cov) l.peer
      l.initial.self.peers.items l.self.peers.items;
  indexed : FirstIndexed l.centre l.now l.peer l.initial.self l.self;
  within : l.peer ≤ length l.initial.self.peers.items;
  looks : l.looks ≤ l.initial.looks + 2 * over_peers l.peer (of_part l.initial.self.peers.items
      (λ part. planned_count part.plan));
}
