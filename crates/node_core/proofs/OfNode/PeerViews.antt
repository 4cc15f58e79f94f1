-- What a node shows a peer, by what it keeps of it.
use Rattle.std.proofs.Common.{◌≡◌, ◌<◌, ℕ, List, length, Some, ap, subst, sym, ◌∙◌, arith}
use Rattle.std.specs.Prelude.{slice_get}
use Rattle.bilateral.specs.Rows.{CentreRows, IsCentre}
use Rattle.sbo_device.specs.declared.key.Key.{Key}
use Rattle.sbo_device.specs.Banks.{DeviceRecord}
use Rattle.tase_views.specs.History.{Past, last_tick}
use Rattle.mms_data.specs.Datum.{Datum}
use Rattle.mms_data.specs.ObjectName.{ObjectName}
use Rattle.tase_views.specs.OwnTables.{OwnTable, own_tables, table_in}
use Rattle.tase_views.specs.View.{moves_in, view_of, held}
use Rattle.tase_views.specs.Answers.{write_outcomes}
use Rattle.node_core.specs.declared.node.hub.Hub.{Hub}
use Rattle.node_core.specs.declared.node.parts.Parts.{Parts}
use Rattle.node_core.specs.declared.node.peer.Peer.{Peer}
use Rattle.node_core.specs.declared.plant.Plant.{Plant}
use Rattle.node_core.specs.LastValues.{updates_in}
use Rattle.node_core.specs.Replies.Shown.{Shown, IsShown, IsShowable, shown_of}
use Rattle.node_core.specs.declared.slots.writes.Asked.{Asked}
use Rattle.node_core.specs.Objects.Found.{IsThere, table_at, offered}
use Rattle.node_core.specs.Slots.SlotsKept.{HandsOut, handed_all, all_read}
use Rattle.node_core.specs.Slots.SlotWrites.{all_asked, all_answers}
use Rattle.node_core.specs.Replies.DeviceWrites.{devices_read, all_left}
use Rattle.node_core.specs.Stored.{IsNode, found_by, IsPeerThere, IsPeerShown, IsPeerBanked}
use Rattle.node_core.specs.Stored.{HasPeerRoom}
use Rattle.node_core.specs.PartFeeds.{IsReady, EachBecomes}
use Rattle.node_core.proofs.OfNode.Steps.{part_there}
use Rattle.node_core.proofs.OfObjects.Known.{offered-at}
use Rattle.node_core.proofs.Moments.{moment_is}
use Rattle.node_core.proofs.OfDevices.DevicesShown.{devices_seen}
use Rattle.node_core.proofs.OfReplies.DevicesKept.{bank_many, bank_ranged}
use Rattle.node_core.proofs.OfReplies.SlotWrites.{IsKeptSo, all_answers_alike}
use Rattle.node_core.proofs.Views.{IsShown-of, IsShowable-of, IsThere-of}
use Rattle.node_core.proofs.OfNode.NodeSteps.{its_part, peer_there}

module _ (rows : CentreRows) (past : Past) (hub : Hub) (parts : Parts)
    (n : IsNode rows past hub parts) (peer : ℕ) (known : peer < length rows.tables)
    (centre : CentreRows) (plant : Plant) (same : centre ≡ rows)
    (kept : plant ≡ hub.plant) where
  pub showable : (part : Peer) → slice_get parts.peers.items peer ≡ Some part
      → IsShowable (shown_of centre peer part plant)
  showable part at =
      subst (λ (r : CentreRows). IsShowable (shown_of r peer part plant)) (sym same)
      (subst (λ (s : Plant). IsShowable (shown_of rows peer part s)) (sym kept)
      (IsShowable-of rows past peer part hub.plant (found_by hub) known
      (n.peers.each peer part at) n.common))

  pub shown_is : (given : Shown)
      → ((part : Peer) → slice_get parts.peers.items peer ≡ Some part
      → given ≡ shown_of centre peer part plant)
      → IsShown (updates_in past) (own_tables rows peer) (view_of rows peer past) given
  shown_is given is =
      let part = its_part rows past hub parts n peer known in
      subst (λ (x : Shown). IsShown (updates_in past) (own_tables rows peer)
      (view_of rows peer past) x)
      (sym (is part.0 part.1
      ∙ ap (λ (r : CentreRows). shown_of r peer part.0 plant) same
      ∙ ap (λ (s : Plant). shown_of rows peer part.0 s) kept))
      (IsShown-of rows past peer part.0 hub.plant (found_by hub) known part.2 n.common)

  -- the peer's table in force
  pub there_is : (part : Peer) → slice_get parts.peers.items peer ≡ Some part
      → IsThere rows peer part.variant
  there_is part at =
      IsThere-of rows past peer part hub.plant (found_by hub) known (n.peers.each peer part at)
      n.common

  pub offered_is : (part : Peer) → slice_get parts.peers.items peer ≡ Some part
      → offered (table_at centre peer part.variant)
      ≡ table_in (own_tables rows peer) part.variant
  offered_is part at =
      ap (λ (r : CentreRows). offered (table_at r peer part.variant)) same
      ∙ offered-at rows peer part.variant (there_is part at).there

  -- what a read by what is shown hands out
  pub hands_of : (given : Shown) (ordinal : ℕ) (names : List ObjectName) (handed : List ℕ)
      → ((part : Peer) → slice_get parts.peers.items peer ≡ Some part
      → given ≡ shown_of centre peer part plant)
      → HandsOut (offered given.table) ordinal names given.slots handed → (part : Peer)
      → slice_get parts.peers.items peer ≡ Some part
      → handed_all ordinal handed part.slots
      ≡ all_read (table_in (own_tables rows peer) part.variant) ordinal names part.slots
  hands_of given ordinal names handed is hands part at =
      subst (λ (x : Shown). handed_all ordinal handed x.slots
      ≡ all_read (offered x.table) ordinal names x.slots) (is part at) hands.0
      ∙ ap (λ (table : OwnTable). all_read table ordinal names part.slots) (offered_is part at)

  -- the devices behind its reads
  pub read_devices : (key : Key) (now : ℕ) (names : List ObjectName)
      (devices : List DeviceRecord) → (part : Peer)
      → slice_get parts.peers.items peer ≡ Some part
      → devices_read centre (offered (table_at centre peer part.variant)) now key names devices
      ≡ devices_read rows (table_in (own_tables rows peer) part.variant) now key names devices
  read_devices key now names devices part at =
      ap (λ (r : CentreRows). devices_read r (offered (table_at centre peer part.variant)) now key
      names devices) same
      ∙ ap (λ (table : OwnTable). devices_read rows table now key names devices)
      (offered_is part at)

  -- what writes give
  pub written_is : (part : Peer) → slice_get parts.peers.items peer ≡ Some part
      → (ordinal now : ℕ) (names : List ObjectName) (values : List Datum) (asked : List Asked)
      → now ≡ last_tick past
      → asked ≡ all_asked rows (table_in (own_tables rows peer) part.variant) names values
      → all_answers (table_in (own_tables rows peer) part.variant) part.book ordinal now
      (all_left (record { peer = peer; ordinal = ordinal }) asked hub.plant.devices.devices)
      part.slots
      ≡ write_outcomes (own_tables rows peer) (view_of rows peer past) ordinal names values
  written_is part at ordinal now names values asked clock is =
      let tables = own_tables rows peer in
      let view = view_of rows peer past in
      let key : Key = record { peer = peer; ordinal = ordinal } in
      let devices = hub.plant.devices.devices in
      let p = n.peers.each peer part at in
      let there = (there_is part at).there in
      let in_force : table_in tables part.variant ≡ held tables view =
      ap (table_in tables) p.in_force in
      let kept_so : IsKeptSo rows n.common.lawful peer part.variant ordinal now part.book there
      view part.slots devices = record {
        in_force = sym in_force ∙ sym (offered-at rows peer part.variant there);
        bank = p.slots;
        sets = p.sets;
        moment = clock ∙ sym (moment_is rows peer past);
        many = bank_many rows (moves_in past) hub.plant.devices n.common.devices;
        ranged = bank_ranged rows (moves_in past) hub.plant.devices n.common.lawful
            n.common.devices;
        seen = devices_seen rows past peer part.variant hub.plant.devices n.common.lawful there
            n.common.devices;
      } in
      ap (λ (these : List Asked). all_answers (table_in tables part.variant) part.book ordinal now
      (all_left key these devices) part.slots) is
      ∙ ap (λ (table : OwnTable). all_answers table part.book ordinal now
      (all_left key (all_asked rows table names values) devices) part.slots) in_force
      ∙ all_answers_alike rows n.common.lawful peer part.variant ordinal now part.book there names
      values view part.slots devices kept_so

-- what is kept of each peer can be shown
module _ (rows : CentreRows) (past : Past) (hub : Hub) (parts : Parts)
    (n : IsNode rows past hub parts) where
  pub peer_shown : (centre : CentreRows) (plant : Plant) → centre ≡ rows
      → plant ≡ hub.plant → (peer : ℕ) → peer < length rows.tables
      → IsPeerShown centre plant parts.peers.items peer
  peer_shown centre plant same kept peer known = record {
    lawful = subst IsCentre (sym same) n.common.lawful;
    there = subst (λ (r : CentreRows). IsPeerThere r parts.peers.items peer) (sym same)
        (peer_there rows past hub parts n peer known);
    shown = showable rows past hub parts n peer known centre plant same kept;
  }

  pub all_shown : (centre : CentreRows) (plant : Plant) → centre ≡ rows
      → plant ≡ hub.plant → (peer : ℕ) → peer < length parts.peers.items
      → IsPeerShown centre plant parts.peers.items peer
  all_shown centre plant same kept peer within =
      peer_shown centre plant same kept peer (omega (arith, within, n.peers.many))

  -- and has its transfer sets
  pub all_banked : (peer : ℕ) → peer < length parts.peers.items
      → IsPeerBanked parts.peers.items peer
  all_banked peer within = record {
    there = within;
    many = λ part at. (n.peers.each peer part at).slots.many;
  }

-- what is planned for each peer has room
pub all_roomed : (rows : CentreRows) (point : ℕ) (old new : List Peer)
    → EachBecomes (λ peer part behind. IsReady rows peer point behind) old new → (peer : ℕ)
    → peer < length new → HasPeerRoom new peer
all_roomed rows point old new ready peer within part at =
    let before = part_there old peer (omega (arith, within, ready.many)) in
    (ready.each peer before.0 part before.1 at).room
