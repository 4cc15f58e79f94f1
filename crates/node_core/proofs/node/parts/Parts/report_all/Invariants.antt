use Rattle.std.proofs.Common.{◌+◌, ◌*◌, ◌≤◌, length}
use Rattle.node_core.specs.declared.feeds.cause.ReportCause.TheVariants.{Tick}
use Rattle.node_core.specs.Feeds.SlotFeeds.{due_count}
use Rattle.node_core.specs.PartFeeds.{IsReported}
use Rattle.node_core.specs.Feeds.Indexed.{over_peers, of_part}
use Rattle.node_core.proofs.OfNode.PartLists.{FirstBecome}
use Rattle.node_core.proofs.OfNode.PeerTotals.{FirstIndexed}
use Rattle.node_core.proofs.node.parts.Parts.report_all.Given as goal

abbrev pub invariant-loop-peer : goal.invariant-loop-peer
invariant-loop-peer l = record {
  reported : FirstBecome (λ peer. IsReported (Tick l.advance.from l.advance.to)) l.peer
      l.initial.self.peers.items l.self.peers.items;
  indexed : FirstIndexed l.centre l.advance.to l.peer l.initial.self l.self;
  within : l.peer ≤ length l.initial.self.peers.items;
  looks : l.looks ≤ l.initial.looks + 3 * over_peers l.peer (of_part l.initial.self.peers.items
      (λ part. due_count l.advance.from l.advance.to part.slots));
}
