use Rattle.std.proofs.Common.{◌≡◌, ◌+◌, ◌-◌, ℕ, is_some, map, refl, sym, ap, subst, ◌∙◌, arith}
use Rattle.std.proofs.lemmas.List.{length-map}
use Rattle.std.specs.Arc.{arc_value}
use Rattle.std.specs.HashMap.{hash_map_len}
use Rattle.bilateral.specs.Rows.{CentreRows}
use Rattle.transfer_sets.specs.Banks.{freed}
use Rattle.tase_views.specs.History.{association_in, last_tick}
use Rattle.tase_views.specs.Moves.{closes}
use Rattle.tase_views.specs.OwnTables.{own_tables}
use Rattle.tase_views.specs.View.{own}
use Rattle.sbo_device.specs.Moves.{closed}
use Rattle.sbo_device.specs.Banks.{moved}
use Rattle.node_core.specs.declared.plant.Plant.{Plant}
use Rattle.node_core.specs.Slots.Associations.{open_without}
use Rattle.node_core.specs.PeerParts.{part_after}
use Rattle.node_core.specs.Feeds.Indexed.{AreIndexed}
use Rattle.node_core.specs.Room.{past_of}
use Rattle.node_core.specs.Stored.{IsPeerThere, IsChanged}
use Rattle.node_core.proofs.OfNode.Causes.{seated-take}
use Rattle.node_core.proofs.OfNode.Indexing.{stays_changed, there_settled}
use Rattle.node_core.proofs.OfNode.NodeAnswers.{light_enough, free_at, seated_by, ended, reindexed}
use Rattle.node_core.proofs.OfNode.NodeAnswers.{has_index, lawful_at}
use Rattle.node_core.proofs.OfNode.NodeSteps.{IsNode-close, peer_there, its_part}
use Rattle.node_core.proofs.OfNode.Rooms.{line-close}
use Rattle.node_core.proofs.node.Node.end_association.Goals as goal
use Rattle.node_core.proofs.node.Node.end_association.Goals.{After-close-2}

pub unwrap-key-requires : goal.unwrap-key-requires
unwrap-key-requires c =
    rw (c.association.ensures, c.self.invariant.0.common.seated c.args.who)
    (seated-take (association_in (past_of c.self.inside.log) c.args.who)
    (free_at c.self.inside c.args.who c.self.view_is c.requires.close c.requires.free).seated)

pub close-requires-2 : goal.close-requires-2
close-requires-2 c =
    let peer = c.unwrap-key.result.peer in
    let seat = seated_by c.self.inside c.self.invariant c.args.who c.association.ensures
    c.unwrap-key.ensures in
    record {
      there = subst (λ (those : CentreRows). IsPeerThere those c.self.inside.parts.peers.items peer)
          (sym c.deref.ensures) (peer_there _ _ _ _ c.self.invariant.0 peer seat.1);
    }

-- the part of the peer behind the close
closed_part : (c : After-close-2) → IsChanged c.self.inside.parts.peers.items
    c.unwrap-key.result.peer (part_after (own_tables (arc_value c.self.inside.centre)
    c.unwrap-key.result.peer) (last_tick (past_of c.self.inside.log))
    (own c.unwrap-key.result.ordinal closes)) c.close-2.new.self.peers.items
closed_part c =
    subst (λ (those : CentreRows). IsChanged c.self.inside.parts.peers.items
    c.unwrap-key.result.peer (part_after (own_tables those c.unwrap-key.result.peer)
    (last_tick (past_of c.self.inside.log)) (own c.unwrap-key.result.ordinal closes))
    c.close-2.new.self.peers.items) c.deref.ensures
    (c.close-2.ensures.parts (last_tick (past_of c.self.inside.log)))

pub rebuild-requires-clause-there : goal.rebuild-requires-clause-there
rebuild-requires-clause-there c =
    let key = c.unwrap-key.result in
    let rows = arc_value c.self.inside.centre in
    let seat = seated_by c.self.inside c.self.invariant c.args.who c.association.ensures
    c.unwrap-key.ensures in
    let there = peer_there _ _ _ _ c.self.invariant.0 key.peer seat.1 in
    let part = its_part _ _ _ _ c.self.invariant.0 key.peer seat.1 in
    let those = open_without key.ordinal part.0.associations in
    subst (λ (r : CentreRows). IsPeerThere r c.close-2.new.self.peers.items key.peer)
    (sym c.deref-2.ensures)
    (there_settled rows c.self.invariant.0.common.lawful key.peer c.self.inside.parts.peers.items
    c.close-2.new.self.peers.items there (own_tables rows key.peer) part.0 (record part.0 {
      open_now = part.0.open_now - 1;
      associations = those;
      slots = map (freed key.ordinal) part.0.slots;
    }) part.1 (closed_part (goal.at.rebuild-requires-clause-there c).After-close-2 part.0 part.1)
    refl (there.chosen part.0 part.1) (length-map part.0.slots (freed key.ordinal)))

pub rebuild-requires-clause-lawful : goal.rebuild-requires-clause-lawful
rebuild-requires-clause-lawful c = lawful_at c.self.inside c.self.invariant c.deref-2.ensures

pub rebuild-requires-clause-index : goal.rebuild-requires-clause-index
rebuild-requires-clause-index c =
    let seat = seated_by c.self.inside c.self.invariant c.args.who c.association.ensures
    c.unwrap-key.ensures in
    has_index c.self.inside c.self.invariant c.deref-2.ensures c.close-2.ensures.indexes seat.1

one_less : (c : After-close-2) → hash_map_len c.unseat.new.self.seats + 1
    ≡ hash_map_len c.self.inside.hub.seats
one_less c = c.unseat.ensures.count (ap is_some (sym c.association.ensures ∙ c.unwrap-key.ensures))

pub append-requires-clause-line : goal.append-requires-clause-line
append-requires-clause-line c =
    omega (
      arith,
      one_less (goal.at.append-requires-clause-line c).After-close-2,
      c.self.invariant.1.lines,
    )

pub append-requires-clause-octets : goal.append-requires-clause-octets
append-requires-clause-octets c =
    rw c.requires.close (omega (
      arith,
      one_less (goal.at.append-requires-clause-octets c).After-close-2,
      c.self.invariant.1.octets,
      line-close c.args.who c.ranges.who.fits,
    ))

pub append-requires-clause-light : goal.append-requires-clause-light
append-requires-clause-light c = light_enough c.self.invariant.1

pub invariant_of-self : goal.invariant_of-self
invariant_of-self c =
    let key = c.unwrap-key.result in
    let seat = seated_by c.self.inside c.self.invariant c.args.who c.association.ensures
    c.unwrap-key.ensures in
    let rows = arc_value c.self.inside.centre in
    let changed = closed_part (goal.at.invariant_of-self c).After-close-2 in
    let stay = stays_changed _ _ key.peer _ (peer_there _ _ _ _ c.self.invariant.0 key.peer
    seat.1).part changed in
    ended c.self.inside c.self.invariant c.args.who c.append.new.self c.requires.close
    c.append.ensures
    (c.unseat.ensures.count (ap is_some (sym c.association.ensures ∙ c.unwrap-key.ensures))) tt
    (free_at c.self.inside c.args.who c.self.view_is c.requires.close c.requires.free)
    (IsNode-close _ _ _ _ c.self.invariant.0 c.args.who _ c.rebuild.new.self key seat.0
    (ap (λ (p : Plant). p.points) c.unseat.ensures.plant)
    (c.close.ensures ∙ ap (λ (p : Plant). record p.devices {
      devices = map (moved (closed key)) p.devices.devices;
    }) c.unseat.ensures.plant)
    c.unseat.ensures.clock c.unseat.ensures.seats
    (λ part at. c.rebuild.ensures.peers ∙ changed part at)
    (subst (λ (m : ℕ). AreIndexed rows m c.rebuild.new.self.peers.items
    c.rebuild.new.self.indexes.items) (sym c.unseat.ensures.clock)
    (reindexed c.self.inside c.self.invariant c.close-2.new.self c.rebuild.new.self c.deref-2.ensures
    (c.last_tick.ensures ∙ c.unseat.ensures.clock) c.close-2.ensures.indexes stay
    c.rebuild.ensures.indexed)))
