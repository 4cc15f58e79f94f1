use Rattle.std.proofs.Common.{◌≡◌, ℕ, length, set, sym, ap, subst, ◌∙◌, length-set}
use Rattle.bilateral.specs.Rows.{variant_of}
use Rattle.node_core.specs.declared.feeds.index.PeerIndex.{PeerIndex}
use Rattle.node_core.specs.declared.node.peer.Peer.{Peer}
use Rattle.node_core.specs.Objects.Found.{TableInForce}
use Rattle.node_core.specs.Feeds.Indexed.{IsRoomy, HasWatchRoom, IsWatch, IsIndexed}
use Rattle.node_core.proofs.OfNode.Indexing.{AreIndexed-one, item_read, item_set, item_other}
use Rattle.node_core.proofs.OfNode.PartLists.{part_read, part_is}
use Rattle.node_core.proofs.node.parts.Parts.rebuild.Goals as goal
use Rattle.node_core.proofs.node.parts.Parts.rebuild.Goals.{After-rebuild}

pub new-table-requires : goal.new-table-requires
new-table-requires c = record {
  lawful = c.requires.lawful;
  known = c.requires.there.table;
  there = c.requires.there.in_force c.index-part.result.now
      (part_read c.args.self.now.peers.items c.args.peer c.index-part.result.now
      c.requires.there.part c.index-part.ensures);
}

roomy : (c : After-rebuild) → IsRoomy c.args.centre.now c.args.peer c.index_mut.result.now
roomy c =
    c.requires.index.roomy c.index_mut.result.now
    (item_read c.args.self.now.indexes.items c.args.peer c.index_mut.result.now
    c.requires.index.there c.index_mut.ensures.value)

pub rebuild-requires-clause-many : goal.rebuild-requires-clause-many
rebuild-requires-clause-many c =
    c.requires.there.slots c.index-part.result.now
    (part_read c.args.self.now.peers.items c.args.peer c.index-part.result.now
    c.requires.there.part c.index-part.ensures)

pub rebuild-requires-clause-dues : goal.rebuild-requires-clause-dues
rebuild-requires-clause-dues c =
    (c.requires.index.roomy c.index_mut.result.now
    (item_read c.args.self.now.indexes.items c.args.peer c.index_mut.result.now
    c.requires.index.there c.index_mut.ensures.value)).slots

pub rebuild-requires-clause-room : goal.rebuild-requires-clause-room
rebuild-requires-clause-room c =
    subst (λ (t : TableInForce). HasWatchRoom (length t.rows.points) t.table
    c.index_mut.result.now.watch) (sym c.new-table.ensures)
    ((c.requires.index.roomy c.index_mut.result.now
    (item_read c.args.self.now.indexes.items c.args.peer c.index_mut.result.now
    c.requires.index.there c.index_mut.ensures.value)).watch c.index-part.result.now.variant)

-- the index that was made anew is that of the part
indexed : (c : After-rebuild) → IsIndexed c.args.centre.now c.args.peer c.args.now
    c.index-part.result.now c.rebuild.new.self
indexed c =
    let rows = c.args.centre.now in
    let part = c.index-part.result.now in
    let r = roomy c in
    let many = c.requires.there.slots part
    (part_read c.args.self.now.peers.items c.args.peer part c.requires.there.part
    c.index-part.ensures) in
    let points : length c.new-table.result.rows.points ≡ length rows.points =
    ap (λ (t : TableInForce). length t.rows.points) c.new-table.ensures in
    record {
      roomy = record {
        slots = c.rebuild.ensures.dues.many ∙ many;
        watch = λ variant. subst (λ (n : ℕ). HasWatchRoom n (variant_of rows c.args.peer variant)
            c.rebuild.new.self.watch) points
            (c.rebuild.ensures.room (variant_of rows c.args.peer variant)
            (subst (λ (n : ℕ). HasWatchRoom n (variant_of rows c.args.peer variant)
            c.index_mut.result.now.watch) (sym points) (r.watch variant)));
      };
      dues = c.rebuild.ensures.dues;
      watch = subst (λ (t : TableInForce). IsWatch t part.book part.slots c.rebuild.new.self.watch)
          c.new-table.ensures c.rebuild.ensures.watch;
    }

pub returns-clause-indexed : goal.returns-clause-indexed
returns-clause-indexed c = λ before stay a.
    let rows = c.args.centre.now in
    let peer = c.args.peer in
    let items = c.args.self.now.peers.items in
    let indexes = c.args.self.now.indexes.items in
    AreIndexed-one rows c.args.now before items indexes (set indexes peer c.rebuild.new.self) peer
    stay (length-set indexes peer c.rebuild.new.self)
    (λ other apart. item_other indexes peer other c.rebuild.new.self apart)
    (λ part index found at.
    subst (λ (x : Peer). IsIndexed rows peer c.args.now x index)
    (part_is items peer c.index-part.result.now part c.requires.there.part c.index-part.ensures
    found)
    (subst (λ (i : PeerIndex). IsIndexed rows peer c.args.now c.index-part.result.now i)
    (item_set indexes peer c.rebuild.new.self index c.requires.index.there at)
    (indexed (goal.at.returns-clause-indexed c).After-rebuild))) a
