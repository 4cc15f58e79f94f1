use Rattle.std.proofs.Common.{◌<◌, ◌∙◌, length, sym, arith}
use Rattle.node_core.specs.Feeds.SlotFeeds.{due_count}
use Rattle.node_core.specs.Feeds.Indexed.{of_part}
use Rattle.node_core.proofs.OfNode.PartLists.{FirstBecome-step, FirstBecome-all, IsPeerBanked-same}
use Rattle.node_core.proofs.OfNode.Steps.{part_there}
use Rattle.node_core.proofs.OfNode.PeerTotals.{over_peers-less, sum_more_thrice}
use Rattle.node_core.proofs.OfNode.PeerTotals.{FirstIndexed-step, FirstIndexed-all}
use Rattle.node_core.proofs.node.parts.Parts.report_all.Goals as goal

pub report_tick-requires-clause-banked : goal.report_tick-requires-clause-banked
report_tick-requires-clause-banked c =
    let f = c.loop-peer.invariant.reported in
    IsPeerBanked-same _ _ _ f.many (f.left c.loop-peer.peer (omega arith))
    (c.requires.banked c.loop-peer.peer
    (omega (arith, c.requires.few, c.peers-peer-end.ensures.count, c.loop-peer-test.true)))

pub report_tick-requires-clause-index : goal.report_tick-requires-clause-index
report_tick-requires-clause-index c =
    omega (
      arith,
      c.requires.few,
      c.peers-peer-end.ensures.count,
      c.loop-peer-test.true,
      c.loop-peer.invariant.indexed.many,
      c.requires.indexed.many,
    )

pub report_tick-requires-clause-indexed : goal.report_tick-requires-clause-indexed
report_tick-requires-clause-indexed c = λ part index here at.
    let peer = c.loop-peer.peer in
    c.requires.indexed.each peer part index
    (sym (c.loop-peer.invariant.reported.left peer (omega arith)) ∙ here)
    (sym (c.loop-peer.invariant.indexed.left peer (omega arith)) ∙ at)

pub loop-peer-preserved : goal.loop-peer-preserved
loop-peer-preserved c =
    let items = c.args.self.now.peers.items in
    let peer = c.loop-peer.peer in
    let below : peer < length items = omega (
      arith,
      c.requires.few,
      c.peers-peer-end.ensures.count,
      c.loop-peer-test.true,
    ) in
    let part = part_there items peer below in
    record {
      reported = FirstBecome-step _ _ _ _ _ c.loop-peer.invariant.reported
          c.report_tick.ensures.reported;
      indexed = FirstIndexed-step c.args.centre.now c.args.advance.to peer c.args.self.now
          c.loop-peer.self c.report_tick.new.self c.loop-peer.invariant.indexed
          (λ other apart. c.report_tick.ensures.reported.others other apart)
          c.report_tick.ensures.others c.report_tick.ensures.many c.report_tick.ensures.indexed;
      within = omega (arith, below);
      looks = sum_more_thrice items (λ x. due_count c.args.advance.from c.args.advance.to x.slots)
          c.args.looks.now c.loop-peer.looks c.report_tick.new.looks peer part.0 part.1
          c.loop-peer.invariant.looks (c.report_tick.ensures.looks part.0
          (c.loop-peer.invariant.reported.left peer (omega arith) ∙ part.1));
    }

pub returns-clause-reported : goal.returns-clause-reported
returns-clause-reported c =
    FirstBecome-all _ _ _ _
    (omega (arith, c.requires.few, c.peers-peer-end.ensures.count, c.loop-peer-test.false))
    c.loop-peer.invariant.reported

pub returns-clause-indexed : goal.returns-clause-indexed
returns-clause-indexed c =
    let many = c.loop-peer.invariant.reported.many in
    FirstIndexed-all c.args.centre.now c.args.advance.to c.loop-peer.peer c.args.self.now
    c.loop-peer.self
    (omega (arith, many, c.requires.few, c.peers-peer-end.ensures.count, c.loop-peer-test.false))
    (c.requires.indexed.many ∙ sym many) c.loop-peer.invariant.indexed

pub returns-clause-looks : goal.returns-clause-looks
returns-clause-looks c =
    let items = c.args.self.now.peers.items in
    let less = over_peers-less c.loop-peer.peer (length items) (of_part items
    (λ x. due_count c.args.advance.from c.args.advance.to x.slots))
    c.loop-peer.invariant.within in
    omega (arith, less, c.loop-peer.invariant.looks)
