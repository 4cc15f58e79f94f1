use Rattle.std.proofs.Common.{◌≡◌, ◌<◌, ◌++◌, ℕ, List, length, Some, Option, refl, sym, ap}
use Rattle.std.proofs.Common.{subst, ◌∙◌, arith}
use Rattle.std.specs.Arc.{arc_value}
use Rattle.bilateral.specs.Rows.{CentreRows, IsCentre}
use Rattle.tase_views.specs.declared.call.CallKind.TheVariants.{Write}
use Rattle.tase_views.specs.declared.event.EventKind.TheVariants.{Request}
use Rattle.tase_views.specs.OwnTables.{OwnTable, own_tables, table_in}
use Rattle.node_core.specs.declared.node.peer.Peer.{Peer}
use Rattle.node_core.specs.Room.{past_of}
use Rattle.node_core.specs.Stored.{IsPeerThere, IsChanged}
use Rattle.node_core.proofs.OfNode.NodeAnswers.{IsSeated, seen_as, light_enough, seated_by}
use Rattle.node_core.proofs.OfNode.NodeAnswers.{unlogged, logged, reindexed, has_index, lawful_at}
use Rattle.node_core.proofs.OfNode.Outcomes.{IsAnswer-request}
use Rattle.std.specs.Prelude.{slice_get}
use Rattle.mms_data.specs.Datum.{Datum}
use Rattle.mms_data.specs.ObjectName.{ObjectName}
use Rattle.tase_views.specs.declared.reply.ReplyKind.TheVariants.{Written}
use Rattle.node_core.specs.Objects.Found.{table_at, offered}
use Rattle.sbo_device.specs.declared.order.Order.{Order}
use Rattle.sbo_device.specs.Banks.{DeviceRecord}
use Rattle.node_core.specs.declared.slots.writes.Asked.{Asked}
use Rattle.std.specs.List.{All}
use Rattle.node_core.specs.Slots.SlotWrites.{IsAskedThere, all_asked, all_answers, all_slots}
use Rattle.node_core.specs.Replies.DeviceWrites.{all_left, all_devices, all_orders}
use Rattle.node_core.proofs.OfReplies.DevicesKept.{bank_many}
use Rattle.node_core.proofs.OfReplies.DeviceActs.{left_many}
use Rattle.node_core.proofs.OfNode.Indexing.{stays_changed, there_slots, length-all_slots}
use Rattle.node_core.proofs.OfNode.NodeSteps.{IsNode-write, peer_there, its_part}
use Rattle.node_core.proofs.OfNode.PeerViews.{offered_is, written_is}
use Rattle.node_core.proofs.CallActs.{write_named}
use Rattle.node_core.proofs.node.Node.write.Goals as goal
use Rattle.node_core.proofs.node.Node.write.Goals.{After-unwrap-key, After-write_devices}
use Rattle.node_core.proofs.node.Node.write.Goals.{After-write}

seat : (c : After-unwrap-key) → IsSeated c.self.inside c.args.who c.unwrap-key.result
seat c =
    seated_by c.self.inside c.self.invariant c.args.who c.association.ensures c.unwrap-key.ensures

-- what it writes
written_names : (c : After-write)
    → (names : List ObjectName) × (values : List Datum)
    × (c.args.event ≡ Request (Write names values))
written_names c = write_named c.args.event c.requires.request

-- what is left of it for transfer sets
left_is : (c : After-write_devices) → c.write_devices.new.left.items
    ≡ all_left c.unwrap-key.result c.in_ok-writing.writing.asked.items
    c.self.inside.hub.plant.devices.devices
left_is c =
    c.write_devices.ensures.left
    ∙ ap (λ (front : List Asked). front ++ all_left c.unwrap-key.result
    c.in_ok-writing.writing.asked.items c.room.new.self.devices) c.in_ok-writing.ensures.left
    ∙ ap (all_left c.unwrap-key.result c.in_ok-writing.writing.asked.items) c.room.ensures.devices

-- what is asked, by the peer's table in force
asks : (c : After-write)
    → (c.unwrap-key.result.peer < length (arc_value c.self.inside.centre).tables) → (part : Peer)
    → slice_get c.self.inside.parts.peers.items c.unwrap-key.result.peer ≡ Some part
    → c.in_ok-writing.writing.asked.items
    ≡ all_asked (arc_value c.self.inside.centre)
    (table_in (own_tables (arc_value c.self.inside.centre) c.unwrap-key.result.peer)
    part.variant) (written_names c).0 (written_names c).1
asks c known part at =
    let peer = c.unwrap-key.result.peer in
    let rows = arc_value c.self.inside.centre in
    let names = (written_names c).0 in
    let values = (written_names c).1 in
    c.in_ok-writing.ensures.value part names values at (written_names c).2
    ∙ ap (λ (those : CentreRows). all_asked those (offered (table_at c.deref.result.now peer
    part.variant)) names values) c.deref.ensures
    ∙ ap (λ (table : OwnTable). all_asked rows table names values)
    (offered_is _ _ _ _ c.self.invariant.0 peer known c.deref.result.now c.self.inside.hub.plant
    c.deref.ensures refl part at)

pub read_writing-requires-clause-write : goal.read_writing-requires-clause-write
read_writing-requires-clause-write c = c.requires.request

pub read_writing-requires-clause-lawful : goal.read_writing-requires-clause-lawful
read_writing-requires-clause-lawful c =
    subst (λ (those : CentreRows). IsCentre those) (sym c.deref.ensures)
    c.self.invariant.0.common.lawful

pub read_writing-requires-clause-there : goal.read_writing-requires-clause-there
read_writing-requires-clause-there c =
    let peer = c.unwrap-key.result.peer in
    subst (λ (those : CentreRows). IsPeerThere those c.self.inside.parts.peers.items peer)
    (sym c.deref.ensures)
    (peer_there _ _ _ _ c.self.invariant.0 peer
    (seat (goal.at.read_writing-requires-clause-there c).After-unwrap-key).1)

pub invariant_of-self : goal.invariant_of-self
invariant_of-self c =
    unlogged c.self.inside c.self.invariant c.reserve.new.self c.reserve.ensures.entries
    c.reserve.ensures.room refl c.self.invariant.0

pub write-requires-clause-there : goal.write-requires-clause-there
write-requires-clause-there c =
    let peer = c.unwrap-key.result.peer in
    subst (λ (those : CentreRows). IsPeerThere those c.self.inside.parts.peers.items peer)
    (sym c.deref-2.ensures)
    (peer_there _ _ _ _ c.self.invariant.0 peer
    (seat (goal.at.write-requires-clause-there c).After-unwrap-key).1)

pub append-requires-clause-light : goal.append-requires-clause-light
append-requires-clause-light c = light_enough (c.in_ok-reserve.ensures.room _ c.self.invariant.1)

-- the part of the peer behind the write
written_part : (c : After-write) → c.write_devices.new.left.items
    ≡ all_left c.unwrap-key.result c.in_ok-writing.writing.asked.items
    c.self.inside.hub.plant.devices.devices
    → IsChanged c.self.inside.parts.peers.items
    c.unwrap-key.result.peer (λ (part : Peer). record part {
      slots = all_slots (table_in (own_tables (arc_value c.self.inside.centre)
          c.unwrap-key.result.peer) part.variant) part.book c.unwrap-key.result.ordinal
          c.last_tick-now.result (all_left c.unwrap-key.result c.in_ok-writing.writing.asked.items
          c.self.inside.hub.plant.devices.devices) part.slots;
    }) c.write.new.self.peers.items
written_part c left =
    let key = c.unwrap-key.result in
    let now = c.last_tick-now.result in
    subst (λ (those : CentreRows). IsChanged c.self.inside.parts.peers.items key.peer
    (λ (part : Peer). record part {
      slots = all_slots (table_in (own_tables those key.peer) part.variant) part.book key.ordinal
          now (all_left key c.in_ok-writing.writing.asked.items
          c.self.inside.hub.plant.devices.devices) part.slots;
    }) c.write.new.self.peers.items) c.deref-2.ensures
    (subst (λ (these : List Asked). IsChanged c.self.inside.parts.peers.items key.peer
    (λ (part : Peer). record part {
      slots = all_slots (table_in (own_tables c.deref-2.result.now key.peer) part.variant)
          part.book key.ordinal now these part.slots;
    }) c.write.new.self.peers.items) left
    c.write.ensures.parts)

pub rebuild-requires-clause-there : goal.rebuild-requires-clause-there
rebuild-requires-clause-there c =
    let rows = arc_value c.self.inside.centre in
    let key = c.unwrap-key.result in
    let known = (seat (goal.at.rebuild-requires-clause-there c).After-unwrap-key).1 in
    let part = its_part _ _ _ _ c.self.invariant.0 key.peer known in
    subst (λ (r : CentreRows). IsPeerThere r c.write.new.self.peers.items key.peer)
    (sym c.deref-3.ensures)
    (there_slots rows c.self.invariant.0.common.lawful key.peer c.self.inside.parts.peers.items
    c.write.new.self.peers.items (peer_there _ _ _ _ c.self.invariant.0 key.peer known) part.0 _
    part.1 (written_part (goal.at.rebuild-requires-clause-there c).After-write
    (left_is (goal.at.rebuild-requires-clause-there c).After-write_devices) part.0 part.1)
    refl refl (length-all_slots (table_in (own_tables rows key.peer) part.0.variant)
    part.0.book key.ordinal c.last_tick-now.result (all_left key c.in_ok-writing.writing.asked.items
    c.self.inside.hub.plant.devices.devices) part.0.slots))

pub rebuild-requires-clause-lawful : goal.rebuild-requires-clause-lawful
rebuild-requires-clause-lawful c = lawful_at c.self.inside c.self.invariant c.deref-3.ensures

pub rebuild-requires-clause-index : goal.rebuild-requires-clause-index
rebuild-requires-clause-index c =
    has_index c.self.inside c.self.invariant c.deref-3.ensures c.write.ensures.indexes
    (seat (goal.at.rebuild-requires-clause-index c).After-unwrap-key).1

pub invariant_of-self-2 : goal.invariant_of-self-2
invariant_of-self-2 c =
    let n = c.self.invariant.0 in
    let key = c.unwrap-key.result in
    let seated = seat (goal.at.invariant_of-self-2 c).After-unwrap-key in
    let wrote = written_names (goal.at.invariant_of-self-2 c).After-write in
    let now = c.last_tick-now.result in
    let asked = c.in_ok-writing.writing.asked.items in
    let devices = c.self.inside.hub.plant.devices.devices in
    let changed = written_part (goal.at.invariant_of-self-2 c).After-write
    (left_is (goal.at.invariant_of-self-2 c).After-write_devices) in
    let stay = stays_changed _ _ key.peer _ (peer_there _ _ _ _ n key.peer seated.1).part changed in
    logged c.self.inside c.self.invariant c.args.who c.reserve.new.self c.append.new.self
    c.open_count.result c.self.view_is (written_names (goal.at.invariant_of-self-2 c).After-write).2
    c.requires.free refl c.in_ok-reserve.ensures c.append.ensures refl
    c.open_count.ensures.count
    (IsNode-write _ _ _ _ n c.args.who _ c.rebuild.new.self now key
    wrote.0 wrote.1 asked (c.last_tick-now.ensures ∙ n.clock) seated.0 refl refl
    refl (asks (goal.at.invariant_of-self-2 c).After-write seated.1)
    (c.write_devices.ensures.devices ∙ ap (all_devices key asked) c.room.ensures.devices)
    (c.write_devices.ensures.orders
    ∙ ap (λ (orders : List Order). orders ++ all_orders key asked c.room.new.self.devices)
    c.room.ensures.orders
    ∙ ap (λ (these : List DeviceRecord). c.self.inside.hub.plant.devices.orders
    ++ all_orders key asked these) c.room.ensures.devices)
    (λ part at. c.rebuild.ensures.peers ∙ changed part at)
    (reindexed c.self.inside c.self.invariant c.write.new.self c.rebuild.new.self
    c.deref-3.ensures c.last_tick-now.ensures
    c.write.ensures.indexes stay c.rebuild.ensures.indexed))

pub returns-clause-answer : goal.returns-clause-answer
returns-clause-answer c =
    let n = c.self.invariant.0 in
    let rows = arc_value c.self.inside.centre in
    let key = c.unwrap-key.result in
    let seated = seat (goal.at.returns-clause-answer c).After-unwrap-key in
    let wrote = written_names (goal.at.returns-clause-answer c).After-write in
    let now = c.last_tick-now.result in
    let asked = c.in_ok-writing.writing.asked.items in
    let devices = c.self.inside.hub.plant.devices.devices in
    let part = its_part _ _ _ _ n key.peer seated.1 in
    let answers = subst (λ (those : CentreRows). c.write.new.results.items
    ≡ c.in_ok-writing.writing.results.items ++ all_answers
    (table_in (own_tables those key.peer) part.0.variant) part.0.book key.ordinal now
    (all_left key asked devices) part.0.slots) c.deref-2.ensures
    (subst (λ (these : List Asked). c.write.new.results.items
    ≡ c.in_ok-writing.writing.results.items ++ all_answers
    (table_in (own_tables c.deref-2.result.now key.peer) part.0.variant) part.0.book key.ordinal
    now these part.0.slots) (left_is (goal.at.returns-clause-answer c).After-write_devices)
    (c.write.ensures.answers part.0 part.1)) in
    rw (← c.self.view_is) (IsAnswer-request (seen_as c.self.inside).setup
    (past_of c.self.inside.log) c.args.who c.args.event
    (Write wrote.0 wrote.1) key c.written.result
    (written_names (goal.at.returns-clause-answer c).After-write).2 seated.0
    (c.written.ensures
    ∙ ap (λ (results : List (Option ℕ)). Written results)
    (answers
    ∙ ap (λ (front : List (Option ℕ)). front ++ all_answers
    (table_in (own_tables rows key.peer) part.0.variant) part.0.book key.ordinal now
    (all_left key asked devices) part.0.slots) c.in_ok-writing.ensures.results
    ∙ written_is _ _ _ _ n key.peer seated.1 rows c.self.inside.hub.plant refl refl part.0 part.1
    key.ordinal now wrote.0 wrote.1 asked (c.last_tick-now.ensures ∙ n.clock)
    (asks (goal.at.returns-clause-answer c).After-write seated.1 part.0 part.1))))

pub invariant_of-self-in_err-room : goal.invariant_of-self-in_err-room
invariant_of-self-in_err-room c =
    unlogged c.self.inside c.self.invariant c.reserve.new.self c.in_ok-reserve.ensures.entries
    c.in_ok-reserve.ensures.room refl
    (rw c.in_err-room.ensures.err c.self.invariant.0)

pub write_devices-requires-clause-there : goal.write_devices-requires-clause-there
write_devices-requires-clause-there c =
    let many : length c.deref.result.now.devices ≡ length c.room.new.self.devices =
    ap (λ (those : CentreRows). length those.devices) c.deref.ensures
    ∙ sym (bank_many _ _ _ c.self.invariant.0.common.devices)
    ∙ ap (λ (devices : List DeviceRecord). length devices) (sym c.room.ensures.devices) in
    subst (λ (n : ℕ). All (IsAskedThere n) c.in_ok-writing.writing.asked.items) many
    c.in_ok-writing.ensures.there

pub write-requires-clause-room : goal.write-requires-clause-room
write-requires-clause-room c =
    let left = left_is (goal.at.write-requires-clause-room c).After-write_devices in
    let many = ap (λ (these : List Asked). length these) left
    ∙ left_many c.unwrap-key.result c.in_ok-writing.writing.asked.items
    c.self.inside.hub.plant.devices.devices in
    omega (arith, many, c.in_ok-writing.ensures.results_room)
