use Rattle.std.proofs.Common.{◌≡◌, ◌+◌, ◌*◌, ◌≤◌, length}
use Rattle.node_core.specs.PartFeeds.{IsAlike, IsReady}
use Rattle.node_core.specs.Feeds.Indexed.{over_peers, of_part, watch_of_part}
use Rattle.node_core.proofs.OfNode.PartLists.{FirstBecome}
use Rattle.node_core.proofs.node.parts.Parts.prepare_all.Given as goal

abbrev pub invariant-loop-peer : goal.invariant-loop-peer
invariant-loop-peer l = record {
  alike : FirstBecome (λ peer. IsAlike) l.peer l.initial.self.peers.items l.self.peers.items;
  ready : FirstBecome (λ peer part after. IsReady l.centre peer l.point after) l.peer
      l.initial.self.peers.items l.self.peers.items;
  indexes : l.self.indexes.items ≡ l.initial.self.indexes.items;
  within : l.peer ≤ length l.initial.self.peers.items;
  looks : l.looks ≤ l.initial.looks + 2 * over_peers l.peer
      (λ peer. of_part l.initial.self.peers.items (watch_of_part l.centre peer l.point) peer);
}
