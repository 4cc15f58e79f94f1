-- What a node keeps beside its history, so that no step looks through it.
use Rattle.std.specs.Prelude.{◌≡◌, ℕ, ◌+◌, ◌^◌, ◌<◌, ◌≤◌, List, length, Option, Some, slice_get}
use Rattle.std.specs.Prelude.{slice_set, nat_eq, true}
use Rattle.std.specs.HashMap.{get}
use Rattle.point_db.specs.Stored.{Keeps as KeepsPoints}
use Rattle.bilateral.specs.declared.rows.TheConstants.{SLOT_LIMIT}
use Rattle.bilateral.specs.Rows.{CentreRows, IsCentre, variants_of}
use Rattle.data_sets.specs.Books.{Book}
use Rattle.sbo_device.specs.declared.key.Key.{Key}
use Rattle.sbo_device.specs.declared.device.TheConstants.{MOMENT_LIMIT}
use Rattle.tase_views.specs.declared.event.EventKind.{EventKind}
use Rattle.tase_views.specs.declared.event.EventKind.TheVariants.{Request}
use Rattle.tase_views.specs.declared.event.EventKind.TheVariants as events
use Rattle.tase_views.specs.declared.reply.ReplyKind.{ReplyKind}
use Rattle.tase_views.specs.History.{Past, association_in, last_tick}
use Rattle.tase_views.specs.OwnTables.{OwnTable, own_tables, table_in}
use Rattle.tase_views.specs.Moves.{Act}
use Rattle.tase_views.specs.View.{moves_in, view_of}
use Rattle.tase_views.specs.Answers.{reply_to}
use Rattle.node_core.specs.Devices.DeviceBanks.{IsDeviceBank}
use Rattle.node_core.specs.declared.node.hub.Hub.{Hub}
use Rattle.node_core.specs.declared.node.parts.Parts.{Parts}
use Rattle.node_core.specs.declared.node.peer.Peer.{Peer}
use Rattle.node_core.specs.declared.plant.Plant.{Plant}
use Rattle.node_core.specs.LastValues.{kinds_of, updates_in}
use Rattle.node_core.specs.Replies.Shown.{IsCalm, IsShowable, shown_of}
use Rattle.node_core.specs.Feeds.SlotFeeds.{HasPlanRoom}
use Rattle.node_core.specs.Slots.Associations.{is_open_in}
use Rattle.node_core.specs.PeerParts.{IsPart, part_behind}
use Rattle.node_core.specs.Feeds.Indexed.{AreIndexed}

-- the centre is lawful; the points and the devices, and each seat's association, are those of this
-- past
pub record IsCommon (rows : CentreRows) (past : Past) (plant : Plant)
    (found : ℕ → Option Key) : Type 0 where
  pub lawful : IsCentre rows
  pub kept : KeepsPoints (kinds_of rows) (updates_in past) plant.points
  pub devices : IsDeviceBank rows (moves_in past) plant.devices
  pub seated : (who : ℕ) → found who ≡ association_in past who
  pub known : (who : ℕ) (key : Key) → found who ≡ Some key → key.peer < length rows.tables

-- the association of a seat, as the hub finds it
abbrev pub found_by : Hub → ℕ → Option Key
found_by hub who = get nat_eq hub.seats who

-- each peer has a part, which is that of its view of this past, with the associations of the seats
pub record AreParts (rows : CentreRows) (past : Past) (peers : List Peer) : Type 0 where
  pub many : length peers ≡ length rows.tables
  pub each : (peer : ℕ) (part : Peer) → slice_get peers peer ≡ Some part
      → IsPart (own_tables rows peer) (view_of rows peer past) part
  pub seated : (who : ℕ) (key : Key) (part : Peer) → association_in past who ≡ Some key
      → slice_get peers key.peer ≡ Some part → is_open_in key.ordinal part.associations ≡ true

-- what a node with this past keeps
pub record IsNode (rows : CentreRows) (past : Past) (hub : Hub) (parts : Parts) : Type 0 where
  pub common : IsCommon rows past hub.plant (found_by hub)
  pub clock : hub.last_tick ≡ last_tick past
  pub timed : hub.last_tick < MOMENT_LIMIT
  pub peers : AreParts rows past parts.peers.items
  pub indexed : AreIndexed rows hub.last_tick parts.peers.items parts.indexes.items

-- a peer has a table and a part, whose tables are there, with room for their transfer sets
pub record IsPeerThere (rows : CentreRows) (peers : List Peer) (peer : ℕ) : Type 0 where
  pub table : peer < length rows.tables
  pub part : peer < length peers
  pub in_force : (part : Peer) → slice_get peers peer ≡ Some part
      → part.variant < length (variants_of rows peer)
  pub chosen : (part : Peer) → slice_get peers peer ≡ Some part
      → part.chosen_last < length (variants_of rows peer)
  pub few : (part : Peer) → slice_get peers peer ≡ Some part
      → (table_in (own_tables rows peer) part.variant).slots ≤ length part.slots
  pub slots : (part : Peer) → slice_get peers peer ≡ Some part → length part.slots ≡ SLOT_LIMIT

-- a peer is there, and what is kept of it can be shown
pub record IsPeerShown (rows : CentreRows) (plant : Plant) (peers : List Peer)
    (peer : ℕ) : Type 0 where
  pub lawful : IsCentre rows
  pub there : IsPeerThere rows peers peer
  pub shown : (part : Peer) → slice_get peers peer ≡ Some part
      → IsShowable (shown_of rows peer part plant)

-- it has as many transfer sets as a table may offer
pub record IsPeerBanked (peers : List Peer) (peer : ℕ) : Type 0 where
  pub there : peer < length peers
  pub many : (part : Peer) → slice_get peers peer ≡ Some part
      → length part.slots ≡ SLOT_LIMIT

-- and room for what is planned
abbrev pub HasPeerRoom : List Peer → ℕ → Type 0
HasPeerRoom peers peer = (part : Peer) → slice_get peers peer ≡ Some part
    → HasPlanRoom part.plan part.slots

-- a peer may open one more association, as far as numbers of 64 bits go
abbrev pub MayOpen : List Peer → ℕ → Type 0
MayOpen peers peer = (part : Peer) → slice_get peers peer ≡ Some part
    → (part.opened_in_all + 1 < 2 ^ 64) × (part.open_now + 1 < 2 ^ 64)

-- parts of which that of one peer has changed so, and no other
abbrev pub IsChanged : List Peer → ℕ → (Peer → Peer) → List Peer → Type 0
IsChanged old peer change new = (part : Peer) → slice_get old peer ≡ Some part
    → new ≡ slice_set old peer (change part)

-- parts behind acts of an association, where what is said of its peer's table in force and of its
-- data sets holds
abbrev pub IsAsked : CentreRows → ℕ → Key → List Act → (OwnTable → Book → Type 0) → List Peer
    → List Peer → Type 0
IsAsked rows now key these Said old new =
    let tables = own_tables rows key.peer in
    (part : Peer) → slice_get old key.peer ≡ Some part
    → Said (table_in tables part.variant) part.book
    → new ≡ slice_set old key.peer (part_behind tables now key.ordinal these part)

-- a request
abbrev pub IsRequest : EventKind → Type 0
IsRequest (Request call) = Unit {0}
IsRequest event = ⊥

-- a tagging of this device
abbrev pub IsTaggingOf : ℕ → EventKind → Type 0
IsTaggingOf device (events.Tag tagged tag) = tagged ≡ device
IsTaggingOf device event = ⊥

-- a request that neither reads nor writes variables
abbrev pub IsCalmRequest : EventKind → Type 0
IsCalmRequest (Request call) = IsCalm call
IsCalmRequest event = ⊥

-- the reply to an event that is a request of the association with this key, behind this past
abbrev pub IsReplied : CentreRows → Past → Key → EventKind → ReplyKind → Type 0
IsReplied rows past key (Request call) reply = reply
    ≡ reply_to (own_tables rows key.peer) (view_of rows key.peer past) key.ordinal call
IsReplied rows past key event reply = ⊥
