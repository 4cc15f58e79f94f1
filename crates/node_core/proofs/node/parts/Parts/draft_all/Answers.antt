use Rattle.std.proofs.Common.{◌<◌, ◌+◌, ◌∙◌, List, length, sym, subst, arith}
use Rattle.node_core.specs.declared.feeds.index.PeerIndex.{PeerIndex}
use Rattle.node_core.specs.Feeds.SlotFeeds.{due_count}
use Rattle.node_core.specs.PartFeeds.{IsAlike}
use Rattle.node_core.specs.Feeds.Indexed.{AreIndexed}
use Rattle.node_core.proofs.OfNode.PartLists.{FirstBecome-step, FirstBecome-all, FirstBecome-each}
use Rattle.node_core.proofs.OfNode.PartLists.{IsAlike-refl, IsPeerShown-same}
use Rattle.node_core.proofs.OfNode.Indexing.{AreIndexed-alike}
use Rattle.node_core.proofs.OfNode.Steps.{part_there}
use Rattle.node_core.proofs.OfNode.PeerTotals.{sum_more, sum_within}
use Rattle.node_core.proofs.node.parts.Parts.draft_all.Goals as goal

pub draft_tick-requires-clause-shown : goal.draft_tick-requires-clause-shown
draft_tick-requires-clause-shown c =
    let f = c.loop-peer.invariant.alike in
    IsPeerShown-same _ _ _ f.many (f.left c.loop-peer.peer (omega arith)) _ _
    (c.requires.shown c.loop-peer.peer
    (omega (arith, c.requires.few, c.peers-peer-end.ensures.count, c.loop-peer-test.true)))

pub draft_tick-requires-clause-indexed : goal.draft_tick-requires-clause-indexed
draft_tick-requires-clause-indexed c =
    subst (λ (l : List PeerIndex). AreIndexed c.args.centre.now c.args.advance.from
    c.loop-peer.self.peers.items l) (sym c.loop-peer.invariant.indexes)
    (AreIndexed-alike _ _ _ _ _
    (FirstBecome-each (λ peer. IsAlike) _ _ _ (λ peer part. IsAlike-refl part)
    c.loop-peer.invariant.alike) c.requires.indexed)

pub returns-in_err-draft_tick-clause-alike : goal.returns-in_err-draft_tick-clause-alike
returns-in_err-draft_tick-clause-alike c =
    FirstBecome-each (λ peer. IsAlike) _ _ _ (λ peer part. IsAlike-refl part)
    (FirstBecome-step (λ peer. IsAlike) _ _ _ _ c.loop-peer.invariant.alike
    c.draft_tick.ensures.alike)

pub returns-in_err-draft_tick-clause-looks : goal.returns-in_err-draft_tick-clause-looks
returns-in_err-draft_tick-clause-looks c =
    let items = c.args.self.now.peers.items in
    let peer = c.loop-peer.peer in
    let below : peer < length items = omega (
      arith,
      c.requires.few,
      c.peers-peer-end.ensures.count,
      c.loop-peer-test.true,
    ) in
    let part = part_there items peer below in
    sum_within items (λ x. due_count c.args.advance.from c.args.advance.to x.slots) c.args.looks.now
    c.draft_tick.new.looks (peer + 1) (omega (arith, below))
    (sum_more items (λ x. due_count c.args.advance.from c.args.advance.to x.slots)
    c.args.looks.now c.loop-peer.looks c.draft_tick.new.looks peer part.0 part.1
    c.loop-peer.invariant.looks (c.draft_tick.ensures.looks part.0
    (c.loop-peer.invariant.alike.left peer (omega arith) ∙ part.1)))

pub loop-peer-preserved : goal.loop-peer-preserved
loop-peer-preserved c =
    let items = c.args.self.now.peers.items in
    let peer = c.loop-peer.peer in
    let below : peer < length items = omega (
      arith,
      c.requires.few,
      c.peers-peer-end.ensures.count,
      c.loop-peer-test.true,
    ) in
    let part = part_there items peer below in
    record {
      alike = FirstBecome-step (λ peer. IsAlike) _ _ _ _ c.loop-peer.invariant.alike
          c.draft_tick.ensures.alike;
      drafted = FirstBecome-step _ _ _ _ _ c.loop-peer.invariant.drafted
          c.in_ok-draft_tick.ensures.ok;
      indexes = c.draft_tick.ensures.indexes ∙ c.loop-peer.invariant.indexes;
      within = omega (arith, below);
      looks = sum_more items (λ x. due_count c.args.advance.from c.args.advance.to x.slots)
          c.args.looks.now c.loop-peer.looks c.draft_tick.new.looks peer part.0 part.1
          c.loop-peer.invariant.looks (c.draft_tick.ensures.looks part.0
          (c.loop-peer.invariant.alike.left peer (omega arith) ∙ part.1));
    }

pub returns-clause-alike : goal.returns-clause-alike
returns-clause-alike c =
    FirstBecome-each (λ peer. IsAlike) _ _ _ (λ peer part. IsAlike-refl part)
    c.loop-peer.invariant.alike

pub returns-clause-ok : goal.returns-clause-ok
returns-clause-ok c =
    FirstBecome-all _ _ _ _
    (omega (arith, c.requires.few, c.peers-peer-end.ensures.count, c.loop-peer-test.false))
    c.loop-peer.invariant.drafted

pub returns-clause-looks : goal.returns-clause-looks
returns-clause-looks c =
    sum_within c.args.self.now.peers.items
    (λ x. due_count c.args.advance.from c.args.advance.to x.slots) c.args.looks.now
    c.loop-peer.looks c.loop-peer.peer
    c.loop-peer.invariant.within
    c.loop-peer.invariant.looks
