-- What a node shows a peer, and that it is what the peer's view has.
use Rattle.std.specs.Prelude.{◌≡◌, ◌<◌, ◌^◌, ℕ, true, List, length, is_some}
use Rattle.std.specs.List.{All}
use Rattle.mms_data.specs.ObjectName.{IsIdentifier}
use Rattle.point_db.specs.Updates.{Updates, values_given}
use Rattle.point_db.specs.Stored.{Stored as PointsStored, Keeps as KeepsPoints}
use Rattle.data_sets.specs.Books.{Book}
use Rattle.transfer_sets.specs.Banks.{OwnedSlot}
use Rattle.sbo_device.specs.Banks.{DeviceRecord}
use Rattle.bilateral.specs.declared.rows.TheConstants.{SLOT_LIMIT}
use Rattle.bilateral.specs.Rows.{CentreRows, point_of, place_of_see}
use Rattle.tase_views.specs.declared.call.CallKind.{CallKind}
use Rattle.tase_views.specs.declared.call.CallKind.TheVariants.{Read, Write}
use Rattle.tase_views.specs.OwnTables.{OwnTables}
use Rattle.tase_views.specs.View.{View, held}
use Rattle.tase_views.specs.Values.{values_in}
use Rattle.node_core.specs.LastValues.{kinds_of}
use Rattle.node_core.specs.Devices.DevicesSeen.{AreDevicesSeen}
use Rattle.node_core.specs.declared.node.peer.Peer.{Peer}
use Rattle.node_core.specs.declared.plant.Plant.{Plant}
use Rattle.node_core.specs.Objects.Found.{TableInForce, offered, table_at}
use Rattle.node_core.specs.Slots.SetsKept.{IsBook}
use Rattle.node_core.specs.Slots.SlotsKept.{IsBank}

-- a peer by its number, its table in force, its data sets, its transfer sets, and the points and
-- devices of the centre
pub record Shown : Type 0 where
  pub peer : ℕ
  pub table : TableInForce
  pub book : Book
  pub slots : List OwnedSlot
  pub points : PointsStored
  pub devices : List DeviceRecord

abbrev pub shown_by : ℕ → TableInForce → Book → List OwnedSlot → Plant → Shown
shown_by peer table book slots plant =
    record {
      peer = peer;
      table = table;
      book = book;
      slots = slots;
      points = plant.points;
      devices = plant.devices.devices;
    }

-- what is shown by what a node keeps of a peer
abbrev pub shown_of : CentreRows → ℕ → Peer → Plant → Shown
shown_of rows peer part plant =
    shown_by peer (table_at rows peer part.variant) part.book part.slots plant

-- whatever came before, each point of the centre has a value, each device stands, data sets have
-- identifiers, a number of 32 bits counts them, and there is a transfer set for each that a table
-- may offer
pub record IsShowable (shown : Shown) : Type 0 where
  pub points : length shown.points.values ≡ length shown.table.rows.points
  pub devices : length shown.devices ≡ length shown.table.rows.devices
  pub named : All (λ set. IsIdentifier set.name) shown.book.sets
  pub few : length shown.book.sets < 2 ^ 32
  pub slots : length shown.slots ≡ SLOT_LIMIT

-- it is what the view of the peer, which has these tables, has behind these updates of points
pub record IsShown (updates : Updates) (tables : OwnTables) (view : View) (shown : Shown) : Type 0
  where
    pub table : offered shown.table ≡ held tables view
    pub book : IsBook tables view shown.book
    pub slots : IsBank tables view shown.slots
    pub kept : KeepsPoints (kinds_of shown.table.rows) updates shown.points
    pub values : (p : ℕ) → is_some (place_of_see shown.table.table p) ≡ true
        → values_in view (point_of shown.table.rows p).name ≡ values_given updates p
    pub devices : AreDevicesSeen shown.table.rows tables view shown.peer shown.table.table
        shown.devices

-- whatever view has what is shown
abbrev pub InEachView : Shown → (OwnTables → View → Type 0) → Type 0
InEachView shown Holds =
    (updates : Updates) (tables : OwnTables) (view : View) → IsShown updates tables view shown
    → Holds tables view

-- a call that neither reads nor writes variables
abbrev pub IsCalm : CallKind → Type 0
IsCalm (Read names echo) = ⊥
IsCalm (Write names values) = ⊥
IsCalm call = Unit {0}
