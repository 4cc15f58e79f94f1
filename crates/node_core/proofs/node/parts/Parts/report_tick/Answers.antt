use Rattle.std.proofs.Common.{◌+◌, ◌*◌, ◌≤◌, subst, length-set}
use Rattle.node_core.specs.declared.feeds.cause.ReportCause.TheVariants.{Tick}
use Rattle.node_core.specs.declared.feeds.index.PeerIndex.{PeerIndex}
use Rattle.node_core.specs.declared.node.peer.Peer.{Peer}
use Rattle.node_core.specs.Feeds.SlotFeeds.{due_count}
use Rattle.node_core.specs.PartFeeds.{IsReported}
use Rattle.node_core.specs.Feeds.Indexed.{IsIndexed}
use Rattle.node_core.proofs.OfNode.Indexing.{item_read, item_set, item_other}
use Rattle.node_core.proofs.OfNode.PartLists.{part_read, part_is, OneBecomes-set}
use Rattle.node_core.proofs.OfNode.Indexing.{IsIndexed-reported}
use Rattle.node_core.proofs.node.parts.Parts.report_tick.Goals as goal
use Rattle.node_core.proofs.node.parts.Parts.report_tick.Goals.{After-index_mut-2}

-- the index that is read is that of the part
indexed : (c : After-index_mut-2) → IsIndexed c.args.centre.now c.args.peer c.args.advance.from
    c.index_mut.result.now c.index_mut-2.result.now
indexed c =
    c.requires.indexed c.index_mut.result.now c.index_mut-2.result.now
    (part_read c.args.self.now.peers.items c.args.peer c.index_mut.result.now
    c.requires.banked.there c.index_mut.ensures.value)
    (item_read c.args.self.now.indexes.items c.args.peer c.index_mut-2.result.now
    c.requires.index c.index_mut-2.ensures.value)

pub report_tick-requires-clause-many : goal.report_tick-requires-clause-many
report_tick-requires-clause-many c =
    c.requires.banked.many c.index_mut.result.now
    (part_read c.args.self.now.peers.items c.args.peer c.index_mut.result.now
    c.requires.banked.there c.index_mut.ensures.value)

pub report_tick-requires-clause-dues : goal.report_tick-requires-clause-dues
report_tick-requires-clause-dues c =
    (indexed (goal.at.report_tick-requires-clause-dues c).After-index_mut-2).dues

pub returns-clause-reported : goal.returns-clause-reported
returns-clause-reported c =
    OneBecomes-set (IsReported (Tick c.args.advance.from c.args.advance.to))
    c.args.self.now.peers.items c.args.peer c.index_mut.result.now c.report_tick.new.self
    c.requires.banked.there c.index_mut.ensures.value c.report_tick.ensures.reported

pub returns-clause-indexed : goal.returns-clause-indexed
returns-clause-indexed c = λ part index here at.
    let new = IsIndexed-reported c.args.centre.now c.args.peer c.args.advance.from
    c.args.advance.to c.index_mut.result.now c.report_tick.new.self c.index_mut-2.result.now
    c.report_tick.new.index c.report_tick.ensures.reported c.report_tick.ensures.dues
    c.report_tick.ensures.watch
    (indexed (goal.at.returns-clause-indexed c).After-index_mut-2) in
    subst (λ (x : Peer). IsIndexed c.args.centre.now c.args.peer c.args.advance.to x index)
    (item_set c.args.self.now.peers.items c.args.peer c.report_tick.new.self part
    c.requires.banked.there here)
    (subst (λ (i : PeerIndex). IsIndexed c.args.centre.now c.args.peer c.args.advance.to
    c.report_tick.new.self i)
    (item_set c.args.self.now.indexes.items c.args.peer c.report_tick.new.index index
    c.requires.index at) new)

pub returns-clause-others : goal.returns-clause-others
returns-clause-others c = λ other apart.
    item_other c.args.self.now.indexes.items c.args.peer other c.report_tick.new.index apart

pub returns-clause-many : goal.returns-clause-many
returns-clause-many c =
    length-set c.args.self.now.indexes.items c.args.peer c.report_tick.new.index

pub returns-clause-looks : goal.returns-clause-looks
returns-clause-looks c = λ part at.
    subst (λ (x : Peer). c.report_tick.new.looks ≤ c.args.looks.now
    + 3 * due_count c.args.advance.from c.args.advance.to x.slots)
    (part_is c.args.self.now.peers.items c.args.peer c.index_mut.result.now part
    c.requires.banked.there c.index_mut.ensures.value at) c.report_tick.ensures.looks
