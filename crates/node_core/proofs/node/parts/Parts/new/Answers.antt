use Rattle.std.proofs.Common.{◌+◌, ◌∙◌, ap, length, refl, arith}
use Rattle.std.proofs.lemmas.List.{map_more}
use Rattle.std.proofs.lemmas.Option.{get_or_from_slice_get}
use Rattle.bilateral.specs.Rows.{no_table}
use Rattle.node_core.proofs.OfNode.Indexing.{AreIndexed-more, length_more}
use Rattle.node_core.proofs.node.parts.Parts.new.Invariants.{part_of}
use Rattle.node_core.proofs.node.parts.Parts.new.Goals as goal

pub loop-peer-preserved : goal.loop-peer-preserved
loop-peer-preserved c =
    let row = get_or_from_slice_get c.args.centre.now.tables c.loop-peer.peer c.table.result.now
    no_table c.table.ensures in
    let more = map_more part_of c.args.centre.now.tables c.loop-peer.peer no_table
    (omega arith) in
    let many = c.loop-peer.invariant.many in
    record {
      parts = rw (
        more,
        row,
        c.in_ok-push.ensures.items,
        c.loop-peer.invariant.parts,
        c.in_ok-part.ensures,
      ) refl;
      many = ap length c.in_ok-push.ensures.items
          ∙ length_more c.loop-peer.peers.items c.in_ok-part.part ∙ ap (λ n. n + 1) many;
      indexed = rw (c.in_ok-push.ensures.items, c.in_ok-push-2.ensures.items)
          (AreIndexed-more c.args.centre.now 0 c.loop-peer.peers.items c.loop-peer.indexes.items
          c.in_ok-part.part c.in_ok-index.index
          (rw (many, c.in_ok-part.ensures)
          (c.in_ok-index.ensures c.table.result.now.sets)) c.loop-peer.invariant.indexed);
    }
