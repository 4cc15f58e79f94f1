use Rattle.std.proofs.Common.{◌<◌, ◌≤◌, ◌+◌, ◌*◌, ◌∙◌, ℕ, List, length, sym, ap, arith, slice_get}
use Rattle.node_core.specs.declared.feeds.index.PeerIndex.{PeerIndex}
use Rattle.node_core.specs.PartFeeds.{IsAlike}
use Rattle.node_core.specs.Feeds.Indexed.{watch_of_part, of_part, over_peers}
use Rattle.node_core.proofs.OfNode.PartLists.{FirstBecome-step, FirstBecome-all, FirstBecome-each}
use Rattle.node_core.proofs.OfNode.PartLists.{IsAlike-refl, IsPeerThere-same}
use Rattle.node_core.proofs.OfNode.Steps.{part_there}
use Rattle.node_core.proofs.OfNode.PeerTotals.{over_peers-more, over_peers-less, of_part-at}
use Rattle.node_core.proofs.node.parts.Parts.prepare_all.Goals as goal
use Rattle.node_core.proofs.node.parts.Parts.prepare_all.Goals.{After-prepare}

pub prepare-requires-clause-there : goal.prepare-requires-clause-there
prepare-requires-clause-there c =
    let f = c.loop-peer.invariant.alike in
    IsPeerThere-same _ _ _ f.many (f.left c.loop-peer.peer (omega arith)) _
    (c.requires.there c.loop-peer.peer
    (omega (arith, c.requires.few, c.peers-peer-end.ensures.count, c.loop-peer-test.true)))

pub prepare-requires-clause-index : goal.prepare-requires-clause-index
prepare-requires-clause-index c =
    omega (
      arith,
      c.requires.few,
      c.peers-peer-end.ensures.count,
      c.loop-peer-test.true,
      c.requires.indexed.many,
      ap (λ (l : List PeerIndex). length l) c.loop-peer.invariant.indexes,
    )

pub prepare-requires-clause-indexed : goal.prepare-requires-clause-indexed
prepare-requires-clause-indexed c = λ part index here at.
    let peer = c.loop-peer.peer in
    let i = c.requires.indexed.each peer part index
    (sym (c.loop-peer.invariant.alike.left peer (omega arith)) ∙ here)
    (sym (ap (λ (l : List PeerIndex). slice_get l peer) c.loop-peer.invariant.indexes) ∙ at) in
    record { many = (i.roomy.watch 0).many; watch = i.watch }

-- what one peer more adds
more : (c : After-prepare) → c.prepare.new.looks ≤ c.args.looks.now
    + 2 * over_peers (c.loop-peer.peer + 1) (λ peer. of_part c.args.self.now.peers.items
    (watch_of_part c.args.centre.now peer c.args.point) peer)
more c =
    let items = c.args.self.now.peers.items in
    let peer = c.loop-peer.peer in
    let below : peer < length items = omega (
      arith,
      c.requires.few,
      c.peers-peer-end.ensures.count,
      c.loop-peer-test.true,
    ) in
    let part = part_there items peer below in
    let number : ℕ → ℕ = λ p. of_part items (watch_of_part c.args.centre.now p c.args.point) p in
    let looks = c.prepare.ensures.looks part.0
    (c.loop-peer.invariant.alike.left peer (omega arith) ∙ part.1) in
    omega (
      arith,
      looks,
      c.loop-peer.invariant.looks,
      over_peers-more peer number,
      of_part-at items (watch_of_part c.args.centre.now peer c.args.point) peer part.0 part.1,
    )

pub returns-in_err-prepare-clause-alike : goal.returns-in_err-prepare-clause-alike
returns-in_err-prepare-clause-alike c =
    FirstBecome-each (λ peer. IsAlike) _ _ _ (λ peer part. IsAlike-refl part)
    (FirstBecome-step (λ peer. IsAlike) _ _ _ _ c.loop-peer.invariant.alike
    c.prepare.ensures.alike)

pub returns-in_err-prepare-clause-looks : goal.returns-in_err-prepare-clause-looks
returns-in_err-prepare-clause-looks c =
    let items = c.args.self.now.peers.items in
    let number : ℕ → ℕ = λ p. of_part items (watch_of_part c.args.centre.now p c.args.point) p in
    let less = over_peers-less (c.loop-peer.peer + 1) (length items) number
    (omega (arith, c.requires.few, c.peers-peer-end.ensures.count, c.loop-peer-test.true)) in
    omega (arith, less, more (goal.at.returns-in_err-prepare-clause-looks c).After-prepare)

pub loop-peer-preserved : goal.loop-peer-preserved
loop-peer-preserved c = record {
  alike = FirstBecome-step (λ peer. IsAlike) _ _ _ _ c.loop-peer.invariant.alike
      c.prepare.ensures.alike;
  ready = FirstBecome-step _ _ _ _ _ c.loop-peer.invariant.ready c.in_ok-prepare.ensures.ok;
  indexes = c.prepare.ensures.indexes ∙ c.loop-peer.invariant.indexes;
  within = omega (
    arith,
    c.requires.few,
    c.peers-peer-end.ensures.count,
    c.loop-peer-test.true,
  );
  looks = more (goal.at.loop-peer-preserved c).After-prepare;
}

pub returns-clause-alike : goal.returns-clause-alike
returns-clause-alike c =
    FirstBecome-each (λ peer. IsAlike) _ _ _ (λ peer part. IsAlike-refl part)
    c.loop-peer.invariant.alike

pub returns-clause-ok : goal.returns-clause-ok
returns-clause-ok c =
    FirstBecome-all _ _ _ _
    (omega (arith, c.requires.few, c.peers-peer-end.ensures.count, c.loop-peer-test.false))
    c.loop-peer.invariant.ready

pub returns-clause-looks : goal.returns-clause-looks
returns-clause-looks c =
    let items = c.args.self.now.peers.items in
    let number : ℕ → ℕ = λ p. of_part items (watch_of_part c.args.centre.now p c.args.point) p in
    let less = over_peers-less c.loop-peer.peer (length items) number
    c.loop-peer.invariant.within in
    omega (arith, less, c.loop-peer.invariant.looks)
