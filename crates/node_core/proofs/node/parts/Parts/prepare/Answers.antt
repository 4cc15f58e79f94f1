use Rattle.std.proofs.Common.{◌+◌, ◌*◌, ◌≤◌, subst}
use Rattle.node_core.specs.declared.node.peer.Peer.{Peer}
use Rattle.node_core.specs.PartFeeds.{IsAlike, IsReady}
use Rattle.node_core.specs.Feeds.Indexed.{IsWatched, watch_of_part}
use Rattle.node_core.proofs.OfNode.Indexing.{item_read}
use Rattle.node_core.proofs.OfNode.PartLists.{part_read, part_is, OneBecomes-set}
use Rattle.node_core.proofs.node.parts.Parts.prepare.Goals as goal
use Rattle.node_core.proofs.node.parts.Parts.prepare.Goals.{After-index_mut}

watched : (c : After-index_mut) → IsWatched c.args.centre.now c.args.peer c.index_mut.result.now
    c.index-index.result.now
watched c =
    c.requires.indexed c.index_mut.result.now c.index-index.result.now
    (part_read c.args.self.now.peers.items c.args.peer c.index_mut.result.now
    c.requires.there.part c.index_mut.ensures.value)
    (item_read c.args.self.now.indexes.items c.args.peer c.index-index.result.now
    c.requires.index c.index-index.ensures)

pub prepare-requires-clause-there : goal.prepare-requires-clause-there
prepare-requires-clause-there c = record {
  lawful = c.requires.lawful;
  known = c.requires.there.table;
  there = c.requires.there.in_force c.index_mut.result.now
      (part_read c.args.self.now.peers.items c.args.peer c.index_mut.result.now
      c.requires.there.part c.index_mut.ensures.value);
}

pub prepare-requires-clause-many : goal.prepare-requires-clause-many
prepare-requires-clause-many c =
    c.requires.there.slots c.index_mut.result.now
    (part_read c.args.self.now.peers.items c.args.peer c.index_mut.result.now
    c.requires.there.part c.index_mut.ensures.value)

pub prepare-requires-clause-points : goal.prepare-requires-clause-points
prepare-requires-clause-points c =
    (watched (goal.at.prepare-requires-clause-points c).After-index_mut).many

pub prepare-requires-clause-watch : goal.prepare-requires-clause-watch
prepare-requires-clause-watch c =
    (watched (goal.at.prepare-requires-clause-watch c).After-index_mut).watch

pub returns-in_err-prepare-clause-alike : goal.returns-in_err-prepare-clause-alike
returns-in_err-prepare-clause-alike c =
    OneBecomes-set IsAlike c.args.self.now.peers.items c.args.peer c.index_mut.result.now
    c.prepare.new.self c.requires.there.part c.index_mut.ensures.value c.prepare.ensures.alike

pub returns-in_err-prepare-clause-looks : goal.returns-in_err-prepare-clause-looks
returns-in_err-prepare-clause-looks c = λ part at.
    subst (λ (x : Peer). c.prepare.new.looks ≤ c.args.looks.now
    + 2 * watch_of_part c.args.centre.now c.args.peer c.args.point x)
    (part_is c.args.self.now.peers.items c.args.peer c.index_mut.result.now part
    c.requires.there.part c.index_mut.ensures.value at) c.prepare.ensures.looks

pub returns-clause-alike : goal.returns-clause-alike
returns-clause-alike c =
    OneBecomes-set IsAlike c.args.self.now.peers.items c.args.peer c.index_mut.result.now
    c.prepare.new.self c.requires.there.part c.index_mut.ensures.value c.prepare.ensures.alike

pub returns-clause-ok : goal.returns-clause-ok
returns-clause-ok c =
    OneBecomes-set (λ part after. IsReady c.args.centre.now c.args.peer c.args.point after)
    c.args.self.now.peers.items c.args.peer c.index_mut.result.now c.prepare.new.self
    c.requires.there.part c.index_mut.ensures.value c.in_ok-prepare.ensures.ok

pub returns-clause-looks : goal.returns-clause-looks
returns-clause-looks c = λ part at.
    subst (λ (x : Peer). c.prepare.new.looks ≤ c.args.looks.now
    + 2 * watch_of_part c.args.centre.now c.args.peer c.args.point x)
    (part_is c.args.self.now.peers.items c.args.peer c.index_mut.result.now part
    c.requires.there.part c.index_mut.ensures.value at) c.prepare.ensures.looks
