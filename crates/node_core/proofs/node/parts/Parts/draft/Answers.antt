use Rattle.node_core.specs.PartFeeds.{IsAlike, IsDrafted}
use Rattle.node_core.proofs.OfNode.PartLists.{part_read, OneBecomes-set}
use Rattle.node_core.proofs.node.parts.Parts.draft.Goals as goal

pub draft-requires-clause-shown : goal.draft-requires-clause-shown
draft-requires-clause-shown c =
    c.requires.shown c.index_mut.result.now
    (part_read c.args.self.now.peers.items c.args.peer c.index_mut.result.now
    c.requires.there.part c.index_mut.ensures.value)

pub returns-in_err-draft-clause-alike : goal.returns-in_err-draft-clause-alike
returns-in_err-draft-clause-alike c =
    OneBecomes-set IsAlike c.args.self.now.peers.items c.args.peer c.index_mut.result.now
    c.draft.new.self c.requires.there.part c.index_mut.ensures.value c.draft.ensures.alike

pub returns-clause-alike : goal.returns-clause-alike
returns-clause-alike c =
    OneBecomes-set IsAlike c.args.self.now.peers.items c.args.peer c.index_mut.result.now
    c.draft.new.self c.requires.there.part c.index_mut.ensures.value c.draft.ensures.alike

pub returns-clause-ok : goal.returns-clause-ok
returns-clause-ok c =
    OneBecomes-set
    (λ part after. IsDrafted c.args.centre.now c.args.peer c.args.plant.now c.args.cause after)
    c.args.self.now.peers.items c.args.peer c.index_mut.result.now c.draft.new.self
    c.requires.there.part c.index_mut.ensures.value c.in_ok-draft.ensures.ok
