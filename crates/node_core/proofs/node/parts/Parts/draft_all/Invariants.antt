use Rattle.std.proofs.Common.{◌≡◌, ◌+◌, ◌≤◌, length}
use Rattle.node_core.specs.declared.feeds.cause.ReportCause.TheVariants.{Tick}
use Rattle.node_core.specs.Feeds.SlotFeeds.{due_count}
use Rattle.node_core.specs.PartFeeds.{IsAlike, IsDrafted}
use Rattle.node_core.specs.Feeds.Indexed.{over_peers, of_part}
use Rattle.node_core.proofs.OfNode.PartLists.{FirstBecome}
use Rattle.node_core.proofs.node.parts.Parts.draft_all.Given as goal

abbrev pub invariant-loop-peer : goal.invariant-loop-peer
invariant-loop-peer l = record {
  alike : FirstBecome (λ peer. IsAlike) l.peer l.initial.self.peers.items l.self.peers.items;
  drafted : FirstBecome
      (λ peer part after. IsDrafted l.centre peer l.plant (Tick l.advance.from l.advance.to) after)
      l.peer l.initial.self.peers.items l.self.peers.items;
  indexes : l.self.indexes.items ≡ l.initial.self.indexes.items;
  within : l.peer ≤ length l.initial.self.peers.items;
  looks : l.looks ≤ l.initial.looks + over_peers l.peer (of_part l.initial.self.peers.items
      (λ part. due_count l.advance.from l.advance.to part.slots));
}
