use Rattle.std.proofs.Common.{◌+◌, ◌≤◌, subst, arith}
use Rattle.node_core.specs.declared.feeds.cause.ReportCause.TheVariants.{Tick}
use Rattle.node_core.specs.declared.node.peer.Peer.{Peer}
use Rattle.node_core.specs.Feeds.SlotFeeds.{due_count}
use Rattle.node_core.specs.PartFeeds.{IsAlike, IsDrafted}
use Rattle.node_core.proofs.OfNode.Indexing.{item_read}
use Rattle.node_core.proofs.OfNode.PartLists.{part_read, part_is, OneBecomes-set}
use Rattle.node_core.proofs.node.parts.Parts.draft_tick.Goals as goal

pub draft_tick-requires-clause-shown : goal.draft_tick-requires-clause-shown
draft_tick-requires-clause-shown c =
    c.requires.shown.shown c.index_mut.result.now
    (part_read c.args.self.now.peers.items c.args.peer c.index_mut.result.now
    c.requires.shown.there.part c.index_mut.ensures.value)

pub draft_tick-requires-clause-dues : goal.draft_tick-requires-clause-dues
draft_tick-requires-clause-dues c =
    (c.requires.indexed.each c.args.peer c.index_mut.result.now c.index-index.result.now
    (part_read c.args.self.now.peers.items c.args.peer c.index_mut.result.now
    c.requires.shown.there.part c.index_mut.ensures.value)
    (item_read c.args.self.now.indexes.items c.args.peer c.index-index.result.now
    (omega (arith, c.requires.shown.there.part, c.requires.indexed.many))
    c.index-index.ensures)).dues

pub returns-in_err-draft_tick-clause-alike : goal.returns-in_err-draft_tick-clause-alike
returns-in_err-draft_tick-clause-alike c =
    OneBecomes-set IsAlike c.args.self.now.peers.items c.args.peer c.index_mut.result.now
    c.draft_tick.new.self c.requires.shown.there.part c.index_mut.ensures.value
    c.draft_tick.ensures.alike

pub returns-in_err-draft_tick-clause-looks : goal.returns-in_err-draft_tick-clause-looks
returns-in_err-draft_tick-clause-looks c = λ part at.
    subst (λ (x : Peer). c.draft_tick.new.looks ≤ c.args.looks.now
    + due_count c.args.advance.from c.args.advance.to x.slots)
    (part_is c.args.self.now.peers.items c.args.peer c.index_mut.result.now part
    c.requires.shown.there.part c.index_mut.ensures.value at) c.draft_tick.ensures.looks

pub returns-clause-alike : goal.returns-clause-alike
returns-clause-alike c =
    OneBecomes-set IsAlike c.args.self.now.peers.items c.args.peer c.index_mut.result.now
    c.draft_tick.new.self c.requires.shown.there.part c.index_mut.ensures.value
    c.draft_tick.ensures.alike

pub returns-clause-ok : goal.returns-clause-ok
returns-clause-ok c =
    OneBecomes-set
    (λ part after. IsDrafted c.args.centre.now c.args.peer c.args.plant.now
    (Tick c.args.advance.from c.args.advance.to) after)
    c.args.self.now.peers.items c.args.peer c.index_mut.result.now c.draft_tick.new.self
    c.requires.shown.there.part c.index_mut.ensures.value c.in_ok-draft_tick.ensures.ok

pub returns-clause-looks : goal.returns-clause-looks
returns-clause-looks c = λ part at.
    subst (λ (x : Peer). c.draft_tick.new.looks ≤ c.args.looks.now
    + due_count c.args.advance.from c.args.advance.to x.slots)
    (part_is c.args.self.now.peers.items c.args.peer c.index_mut.result.now part
    c.requires.shown.there.part c.index_mut.ensures.value at) c.draft_tick.ensures.looks
