use Rattle.std.proofs.Common.{◌<◌, length, refl, sym, subst, ◌∙◌}
use Rattle.std.specs.Arc.{arc_value}
use Rattle.bilateral.specs.Rows.{CentreRows, variants_of}
use Rattle.tase_views.specs.History.{last_tick}
use Rattle.tase_views.specs.OwnTables.{own_tables}
use Rattle.tase_views.specs.View.{chose}
use Rattle.node_core.specs.PeerParts.{part_after}
use Rattle.node_core.specs.Room.{past_of}
use Rattle.node_core.specs.Stored.{IsPeerThere, IsChanged}
use Rattle.node_core.proofs.OfNode.Causes.{named-table}
use Rattle.node_core.proofs.OfNode.Indexing.{stays_changed, there_settled}
use Rattle.node_core.proofs.OfNode.NodeAnswers.{light_enough, free_at, unlogged, logged, reindexed}
use Rattle.node_core.proofs.OfNode.NodeAnswers.{has_index, lawful_at}
use Rattle.node_core.proofs.OfNode.NodeSteps.{IsNode-chosen, peer_there, its_part}
use Rattle.node_core.proofs.node.Node.choose.Goals as goal
use Rattle.node_core.proofs.node.Node.choose.Goals.{After-open_count, After-choose}

named : (c : After-open_count) → (c.args.peer < length (arc_value c.self.inside.centre).tables)
    × (c.args.variant < length (variants_of (arc_value c.self.inside.centre) c.args.peer))
named c =
    named-table (arc_value c.self.inside.centre) c.args.peer c.args.variant
    (free_at c.self.inside c.args.who c.self.view_is c.requires.table c.requires.free).named

pub invariant_of-self : goal.invariant_of-self
invariant_of-self c =
    unlogged c.self.inside c.self.invariant c.reserve.new.self c.reserve.ensures.entries
    c.reserve.ensures.room refl c.self.invariant.0

pub append-requires-clause-light : goal.append-requires-clause-light
append-requires-clause-light c = light_enough (c.in_ok-reserve.ensures.room _ c.self.invariant.1)

pub choose-requires-clause-there : goal.choose-requires-clause-there
choose-requires-clause-there c =
    subst (λ (those : CentreRows). IsPeerThere those c.self.inside.parts.peers.items c.args.peer)
    (sym c.deref.ensures)
    (peer_there _ _ _ _ c.self.invariant.0 c.args.peer
    (named (goal.at.choose-requires-clause-there c).After-open_count).0)

pub choose-requires-clause-variant : goal.choose-requires-clause-variant
choose-requires-clause-variant c =
    subst (λ (those : CentreRows). c.args.variant < length (variants_of those c.args.peer))
    (sym c.deref.ensures) (named (goal.at.choose-requires-clause-variant c).After-open_count).1

-- the part of the peer behind the choice
chosen_part : (c : After-choose) → IsChanged c.self.inside.parts.peers.items c.args.peer
    (part_after (own_tables (arc_value c.self.inside.centre) c.args.peer)
    (last_tick (past_of c.self.inside.log)) (chose c.args.variant)) c.choose.new.self.peers.items
chosen_part c =
    subst (λ (those : CentreRows). IsChanged c.self.inside.parts.peers.items c.args.peer
    (part_after (own_tables those c.args.peer) (last_tick (past_of c.self.inside.log))
    (chose c.args.variant)) c.choose.new.self.peers.items) c.deref.ensures
    (c.choose.ensures.parts (last_tick (past_of c.self.inside.log)))

pub rebuild-requires-clause-there : goal.rebuild-requires-clause-there
rebuild-requires-clause-there c =
    let rows = arc_value c.self.inside.centre in
    let known = named (goal.at.rebuild-requires-clause-there c).After-open_count in
    let there = peer_there _ _ _ _ c.self.invariant.0 c.args.peer known.0 in
    let part = its_part _ _ _ _ c.self.invariant.0 c.args.peer known.0 in
    subst (λ (r : CentreRows). IsPeerThere r c.choose.new.self.peers.items c.args.peer)
    (sym c.deref-2.ensures)
    (there_settled rows c.self.invariant.0.common.lawful c.args.peer
    c.self.inside.parts.peers.items c.choose.new.self.peers.items there
    (own_tables rows c.args.peer) part.0 (record part.0 { chosen_last = c.args.variant }) part.1
    (chosen_part (goal.at.rebuild-requires-clause-there c).After-choose part.0 part.1) refl
    known.1 refl)

pub rebuild-requires-clause-lawful : goal.rebuild-requires-clause-lawful
rebuild-requires-clause-lawful c = lawful_at c.self.inside c.self.invariant c.deref-2.ensures

pub rebuild-requires-clause-index : goal.rebuild-requires-clause-index
rebuild-requires-clause-index c =
    has_index c.self.inside c.self.invariant c.deref-2.ensures c.choose.ensures.indexes
    (named (goal.at.rebuild-requires-clause-index c).After-open_count).0

pub invariant_of-self-2 : goal.invariant_of-self-2
invariant_of-self-2 c =
    let known = named (goal.at.invariant_of-self-2 c).After-open_count in
    let changed = chosen_part (goal.at.invariant_of-self-2 c).After-choose in
    let stay = stays_changed _ _ c.args.peer _ (peer_there _ _ _ _ c.self.invariant.0 c.args.peer
    known.0).part changed in
    logged c.self.inside c.self.invariant c.args.who c.reserve.new.self c.append.new.self
    c.open_count.result c.self.view_is c.requires.table c.requires.free refl
    c.in_ok-reserve.ensures c.append.ensures refl c.open_count.ensures.count
    (IsNode-chosen _ _ _ _ c.self.invariant.0 c.args.who c.self.inside.hub c.rebuild.new.self
    (reindexed c.self.inside c.self.invariant c.choose.new.self c.rebuild.new.self c.deref-2.ensures c.last_tick.ensures
    c.choose.ensures.indexes stay c.rebuild.ensures.indexed)
    c.args.peer c.args.variant known.0 known.1 refl
    (λ part at. c.rebuild.ensures.peers ∙ changed part at))
