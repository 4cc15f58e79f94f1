use Rattle.std.proofs.Common.{◌≡◌, ℕ, length, Some, refl, sym, ap, subst, ◌∙◌, arith}
use Rattle.std.specs.Prelude.{slice_get}
use Rattle.std.specs.Arc.{arc_value}
use Rattle.bilateral.specs.Rows.{CentreRows}
use Rattle.tase_views.specs.declared.call.CallKind.{CallKind}
use Rattle.tase_views.specs.declared.call.CallKind.TheVariants.{Read}
use Rattle.tase_views.specs.declared.event.EventKind.TheVariants.{Request}
use Rattle.tase_views.specs.OwnTables.{own_tables, table_in}
use Rattle.tase_views.specs.View.{view_of}
use Rattle.node_core.specs.LastValues.{updates_in}
use Rattle.node_core.specs.Room.{past_of}
use Rattle.node_core.specs.declared.node.peer.Peer.{Peer}
use Rattle.node_core.specs.Objects.Found.{TableInForce, IsThere, table_at, offered}
use Rattle.node_core.specs.Replies.DeviceWrites.{AreOfRows, devices_read}
use Rattle.node_core.specs.Stored.{IsPeerThere}
use Rattle.node_core.proofs.OfNode.NodeAnswers.{IsSeated, seen_as, light_enough, seated_by}
use Rattle.node_core.proofs.OfNode.NodeAnswers.{unlogged, logged, lawful_at, indexed_at, indexed_as}
use Rattle.node_core.proofs.OfNode.Outcomes.{IsAnswer-request}
use Rattle.node_core.proofs.OfNode.NodeSteps.{IsNode-read, peer_there, its_part}
use Rattle.node_core.proofs.OfReplies.DevicesKept.{bank_many, bank_rows}
use Rattle.node_core.proofs.OfNode.PeerViews.{showable, shown_is, hands_of, read_devices, there_is}
use Rattle.node_core.proofs.node.Node.read.Goals as goal
use Rattle.node_core.proofs.node.Node.read.Goals.{After-unwrap-key, After-peer_view-shown}

seat : (c : After-unwrap-key) → IsSeated c.self.inside c.args.who c.unwrap-key.result
seat c =
    seated_by c.self.inside c.self.invariant c.args.who c.association.ensures c.unwrap-key.ensures

called : (c : After-peer_view-shown)
    → c.args.event ≡ Request (Read c.in-Read.names c.in-Read.echo)
called c =
    sym (ap (λ (k : CallKind). Request k) (sym c.in-Read.is ∙ c.kind-2.ensures.value)
    ∙ sym c.in-Request.is ∙ c.kind.ensures)

pub peer_view-shown-requires-clause-there : goal.peer_view-shown-requires-clause-there
peer_view-shown-requires-clause-there c =
    let peer = c.unwrap-key.result.peer in
    subst (λ (those : CentreRows). IsPeerThere those c.self.inside.parts.peers.items peer)
    (sym c.deref.ensures)
    (peer_there _ _ _ _ c.self.invariant.0 peer
    (seat (goal.at.peer_view-shown-requires-clause-there c).After-unwrap-key).1)

pub peer_view-shown-requires-clause-shown : goal.peer_view-shown-requires-clause-shown
peer_view-shown-requires-clause-shown c =
    showable _ _ _ _ c.self.invariant.0 c.unwrap-key.result.peer
    (seat (goal.at.peer_view-shown-requires-clause-shown c).After-unwrap-key).1 _ _
    c.deref.ensures refl

pub invariant_of-self : goal.invariant_of-self
invariant_of-self c =
    unlogged c.self.inside c.self.invariant c.reserve.new.self c.reserve.ensures.entries
    c.reserve.ensures.room refl c.self.invariant.0

pub hand_out-requires-clause-there : goal.hand_out-requires-clause-there
hand_out-requires-clause-there c =
    let peer = c.unwrap-key.result.peer in
    subst (λ (those : CentreRows). IsPeerThere those c.self.inside.parts.peers.items peer)
    (sym c.deref-3.ensures)
    (peer_there _ _ _ _ c.self.invariant.0 peer
    (seat (goal.at.hand_out-requires-clause-there c).After-unwrap-key).1)

pub hand_out-requires-clause-lawful : goal.hand_out-requires-clause-lawful
hand_out-requires-clause-lawful c = lawful_at c.self.inside c.self.invariant c.deref-3.ensures

pub hand_out-requires-clause-indexed : goal.hand_out-requires-clause-indexed
hand_out-requires-clause-indexed c =
    indexed_at c.self.inside c.self.invariant c.deref-3.ensures c.last_tick-now.ensures

pub append-requires-clause-light : goal.append-requires-clause-light
append-requires-clause-light c = light_enough (c.in_ok-reserve.ensures.room _ c.self.invariant.1)

pub invariant_of-self-2 : goal.invariant_of-self-2
invariant_of-self-2 c =
    let n = c.self.invariant.0 in
    let key = c.unwrap-key.result in
    let seated = seat (goal.at.invariant_of-self-2 c).After-unwrap-key in
    let hands = hands_of _ _ _ _ n key.peer seated.1 _ _ c.deref.ensures refl
    c.peer_view-shown.result key.ordinal c.in-Read.names c.as_slice.result.now
    c.peer_view-shown.ensures (rw c.as_slice.ensures.value c.in_ok-reply.ensures.handed) in
    let now = c.last_tick-now.result in
    let devices = c.self.inside.hub.plant.devices in
    let selected : (part : Peer)
    → slice_get c.self.inside.parts.peers.items key.peer ≡ Some part
    → c.select_all.new.devices.devices ≡ devices_read (arc_value c.self.inside.centre)
    (table_in (own_tables (arc_value c.self.inside.centre) key.peer) part.variant) now key
    c.in-Read.names devices.devices = λ part at.
    c.select_all.ensures.devices
    ∙ ap (λ (t : TableInForce). devices_read t.rows (offered t) now key c.in-Read.names
    devices.devices) (c.new-table.ensures
    ∙ ap (table_at c.deref-2.result.now key.peer) (c.force.ensures part at))
    ∙ read_devices _ _ _ _ n key.peer seated.1 _ _ c.deref-2.ensures refl key now
    c.in-Read.names devices.devices part at in
    logged c.self.inside c.self.invariant c.args.who c.reserve.new.self c.append.new.self
    c.open_count.result c.self.view_is
    (called (goal.at.invariant_of-self-2 c).After-peer_view-shown) c.requires.free refl
    c.in_ok-reserve.ensures c.append.ensures refl c.open_count.ensures.count
    (IsNode-read _ _ _ _ n c.args.who _ c.hand_out.new.self now key c.in-Read.names
    c.in-Read.echo c.as_slice.result.now (c.last_tick-now.ensures ∙ n.clock) seated.0 refl refl
    refl selected c.select_all.ensures.orders hands c.hand_out.ensures.parts
    (indexed_as c.hand_out.new.self c.deref-3.ensures c.last_tick-now.ensures c.hand_out.ensures.indexed))

pub returns-clause-answer : goal.returns-clause-answer
returns-clause-answer c =
    let rows = arc_value c.self.inside.centre in
    let past = past_of c.self.inside.log in
    let key = c.unwrap-key.result in
    let seated = seat (goal.at.returns-clause-answer c).After-unwrap-key in
    let shown = shown_is rows past _ _ c.self.invariant.0 key.peer seated.1 _ _ c.deref.ensures
    refl c.peer_view-shown.result c.peer_view-shown.ensures in
    rw (← c.self.view_is) (IsAnswer-request (seen_as c.self.inside).setup past c.args.who
    c.args.event (Read c.in-Read.names c.in-Read.echo) key c.in_ok-reply.field-0.reply
    (called (goal.at.returns-clause-answer c).After-peer_view-shown) seated.0
    (c.in_ok-reply.ensures.value (updates_in past) (own_tables rows key.peer)
    (view_of rows key.peer past) shown))

pub new-table-requires : goal.new-table-requires
new-table-requires c =
    let rows = arc_value c.self.inside.centre in
    let n = c.self.invariant.0 in
    let peer = c.unwrap-key.result.peer in
    let known = (seat (goal.at.new-table-requires c).After-unwrap-key).1 in
    let part = its_part _ _ _ _ n peer known in
    subst (λ (those : CentreRows). IsThere those peer c.force.result) (sym c.deref-2.ensures)
    (subst (λ (variant : ℕ). IsThere rows peer variant) (sym (c.force.ensures part.0 part.1))
    (there_is _ _ _ _ n peer known rows c.self.inside.hub.plant refl refl part.0 part.1))

pub select_all-requires-clause-there : goal.select_all-requires-clause-there
select_all-requires-clause-there c =
    bank_many _ _ _ c.self.invariant.0.common.devices
    ∙ ap (λ (those : CentreRows). length those.devices) (sym c.deref-2.ensures)
    ∙ ap (λ (t : TableInForce). length t.rows.devices) (sym c.new-table.ensures)

pub select_all-requires-clause-kept : goal.select_all-requires-clause-kept
select_all-requires-clause-kept c =
    subst (λ (t : TableInForce). AreOfRows t.rows c.self.inside.hub.plant.devices.devices)
    (sym c.new-table.ensures)
    (subst (λ (those : CentreRows). AreOfRows those c.self.inside.hub.plant.devices.devices)
    (sym c.deref-2.ensures) (bank_rows _ _ _ c.self.invariant.0.common.devices))

pub select_all-requires-clause-moment : goal.select_all-requires-clause-moment
select_all-requires-clause-moment c =
    let timed = c.self.invariant.0.timed in
    omega (arith, c.last_tick-now.ensures, timed)

pub force-requires : goal.force-requires
force-requires c =
    let known = (seat (goal.at.force-requires c).After-unwrap-key).1 in
    omega (arith, known, c.self.invariant.0.peers.many, c.self.inside.parts.peers.ok)
