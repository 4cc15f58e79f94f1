use Rattle.std.proofs.Common.{◌<◌, ◌∙◌, length, sym, arith}
use Rattle.node_core.specs.Feeds.SlotFeeds.{planned_count}
use Rattle.node_core.specs.Feeds.Indexed.{of_part}
use Rattle.node_core.proofs.OfNode.PartLists.{FirstBecome-step, FirstBecome-all, IsPeerBanked-same}
use Rattle.node_core.proofs.OfNode.Steps.{part_there}
use Rattle.node_core.proofs.OfNode.PeerTotals.{over_peers-less, sum_more_twice}
use Rattle.node_core.proofs.OfNode.PeerTotals.{FirstIndexed-step, FirstIndexed-all}
use Rattle.node_core.proofs.node.parts.Parts.note_each.Goals as goal

pub note-requires-clause-banked : goal.note-requires-clause-banked
note-requires-clause-banked c =
    let f = c.loop-peer.invariant.noted in
    IsPeerBanked-same _ _ _ f.many (f.left c.loop-peer.peer (omega arith))
    (c.requires.banked c.loop-peer.peer
    (omega (arith, c.requires.few, c.peers-peer-end.ensures.count, c.loop-peer-test.true)))

pub note-requires-clause-index : goal.note-requires-clause-index
note-requires-clause-index c =
    omega (
      arith,
      c.requires.few,
      c.peers-peer-end.ensures.count,
      c.loop-peer-test.true,
      c.loop-peer.invariant.indexed.many,
      c.requires.indexed.many,
    )

pub note-requires-clause-indexed : goal.note-requires-clause-indexed
note-requires-clause-indexed c = λ part index here at.
    let peer = c.loop-peer.peer in
    c.requires.indexed.each peer part index
    (sym (c.loop-peer.invariant.noted.left peer (omega arith)) ∙ here)
    (sym (c.loop-peer.invariant.indexed.left peer (omega arith)) ∙ at)

pub loop-peer-preserved : goal.loop-peer-preserved
loop-peer-preserved c =
    let items = c.args.self.now.peers.items in
    let peer = c.loop-peer.peer in
    let below : peer < length items = omega (
      arith,
      c.requires.few,
      c.peers-peer-end.ensures.count,
      c.loop-peer-test.true,
    ) in
    let part = part_there items peer below in
    record {
      noted = FirstBecome-step _ _ _ _ _ c.loop-peer.invariant.noted c.note.ensures.noted;
      indexed = FirstIndexed-step c.args.centre.now c.args.change.now peer c.args.self.now
          c.loop-peer.self c.note.new.self c.loop-peer.invariant.indexed
          (λ other apart. c.note.ensures.noted.others other apart)
          c.note.ensures.others c.note.ensures.many c.note.ensures.indexed;
      within = omega (arith, below);
      looks = sum_more_twice items (λ x. planned_count x.plan)
          c.args.looks.now c.loop-peer.looks c.note.new.looks peer part.0 part.1
          c.loop-peer.invariant.looks (c.note.ensures.looks part.0
          (c.loop-peer.invariant.noted.left peer (omega arith) ∙ part.1));
    }

pub returns-clause-noted : goal.returns-clause-noted
returns-clause-noted c =
    FirstBecome-all _ _ _ _
    (omega (arith, c.requires.few, c.peers-peer-end.ensures.count, c.loop-peer-test.false))
    c.loop-peer.invariant.noted

pub returns-clause-indexed : goal.returns-clause-indexed
returns-clause-indexed c =
    let many = c.loop-peer.invariant.noted.many in
    FirstIndexed-all c.args.centre.now c.args.change.now c.loop-peer.peer c.args.self.now
    c.loop-peer.self
    (omega (arith, many, c.requires.few, c.peers-peer-end.ensures.count, c.loop-peer-test.false))
    (c.requires.indexed.many ∙ sym many) c.loop-peer.invariant.indexed

pub returns-clause-looks : goal.returns-clause-looks
returns-clause-looks c =
    let items = c.args.self.now.peers.items in
    let less = over_peers-less c.loop-peer.peer (length items) (of_part items
    (λ x. planned_count x.plan)) c.loop-peer.invariant.within in
    omega (arith, less, c.loop-peer.invariant.looks)
