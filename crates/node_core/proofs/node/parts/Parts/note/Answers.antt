use Rattle.std.proofs.Common.{◌+◌, ◌*◌, ◌≤◌, subst, length-set}
use Rattle.node_core.specs.declared.feeds.index.PeerIndex.{PeerIndex}
use Rattle.node_core.specs.declared.node.peer.Peer.{Peer}
use Rattle.node_core.specs.Feeds.SlotFeeds.{planned_count}
use Rattle.node_core.specs.PartFeeds.{IsNoted}
use Rattle.node_core.specs.Feeds.Indexed.{IsIndexed}
use Rattle.node_core.proofs.OfNode.Indexing.{item_read, item_set, item_other}
use Rattle.node_core.proofs.OfNode.PartLists.{part_read, part_is, OneBecomes-set}
use Rattle.node_core.proofs.OfNode.Indexing.{IsIndexed-noted}
use Rattle.node_core.proofs.node.parts.Parts.note.Goals as goal
use Rattle.node_core.proofs.node.parts.Parts.note.Goals.{After-index_mut-2}

-- the index that is read is that of the part
indexed : (c : After-index_mut-2) → IsIndexed c.args.centre.now c.args.peer c.args.change.now
    c.index_mut.result.now c.index_mut-2.result.now
indexed c =
    c.requires.indexed c.index_mut.result.now c.index_mut-2.result.now
    (part_read c.args.self.now.peers.items c.args.peer c.index_mut.result.now
    c.requires.banked.there c.index_mut.ensures.value)
    (item_read c.args.self.now.indexes.items c.args.peer c.index_mut-2.result.now
    c.requires.index c.index_mut-2.ensures.value)

pub note-requires-clause-many : goal.note-requires-clause-many
note-requires-clause-many c =
    c.requires.banked.many c.index_mut.result.now
    (part_read c.args.self.now.peers.items c.args.peer c.index_mut.result.now
    c.requires.banked.there c.index_mut.ensures.value)

pub note-requires-clause-room : goal.note-requires-clause-room
note-requires-clause-room c =
    c.requires.room c.index_mut.result.now
    (part_read c.args.self.now.peers.items c.args.peer c.index_mut.result.now
    c.requires.banked.there c.index_mut.ensures.value)

pub note-requires-clause-dues : goal.note-requires-clause-dues
note-requires-clause-dues c = (indexed (goal.at.note-requires-clause-dues c).After-index_mut-2).dues

pub returns-clause-noted : goal.returns-clause-noted
returns-clause-noted c =
    OneBecomes-set (IsNoted c.args.change.now c.args.change.value c.args.change.cov)
    c.args.self.now.peers.items c.args.peer c.index_mut.result.now c.note.new.self
    c.requires.banked.there c.index_mut.ensures.value c.note.ensures.noted

pub returns-clause-indexed : goal.returns-clause-indexed
returns-clause-indexed c = λ part index here at.
    let new = IsIndexed-noted c.args.centre.now c.args.peer c.args.change.now
    c.index_mut.result.now c.note.new.self c.index_mut-2.result.now c.note.new.index
    c.note.ensures.noted.same c.note.ensures.slots c.note.ensures.wishes c.note.ensures.dues
    c.note.ensures.watch
    (indexed (goal.at.returns-clause-indexed c).After-index_mut-2) in
    subst (λ (x : Peer). IsIndexed c.args.centre.now c.args.peer c.args.change.now x index)
    (item_set c.args.self.now.peers.items c.args.peer c.note.new.self part
    c.requires.banked.there here)
    (subst (λ (i : PeerIndex). IsIndexed c.args.centre.now c.args.peer c.args.change.now
    c.note.new.self i)
    (item_set c.args.self.now.indexes.items c.args.peer c.note.new.index index
    c.requires.index at) new)

pub returns-clause-others : goal.returns-clause-others
returns-clause-others c = λ other apart.
    item_other c.args.self.now.indexes.items c.args.peer other c.note.new.index apart

pub returns-clause-many : goal.returns-clause-many
returns-clause-many c =
    length-set c.args.self.now.indexes.items c.args.peer c.note.new.index

pub returns-clause-looks : goal.returns-clause-looks
returns-clause-looks c = λ part at.
    subst (λ (x : Peer). c.note.new.looks ≤ c.args.looks.now + 2 * planned_count x.plan)
    (part_is c.args.self.now.peers.items c.args.peer c.index_mut.result.now part
    c.requires.banked.there c.index_mut.ensures.value at) c.note.ensures.looks
