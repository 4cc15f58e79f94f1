-- What calls of a peer do to devices, as callers are told it.
use Rattle.std.specs.Prelude.{ℕ, ◌<◌, ◌≤◌, List, map, filter_map, Option, Some, None}
use Rattle.bilateral.specs.declared.rows.DeviceRow.{DeviceRow}
use Rattle.bilateral.specs.Rows.{CentreRows, device_of}
use Rattle.sbo_device.specs.declared.device.TheConstants.{TAG_LIMIT}
use Rattle.sbo_device.specs.Moves.{DeviceAct, selecting, operating, tagging}
use Rattle.tase_views.specs.Moves.{Act}
use Rattle.tase_views.specs.OwnTables.{OwnTable}
use Rattle.tase_views.specs.Devices.{Deed, deed_of}
use Rattle.node_core.specs.declared.deeds.DeedKind.{DeedKind}
use Rattle.node_core.specs.declared.deeds.DeedKind.TheVariants.{Select, Operate, Tag}
use Rattle.node_core.specs.declared.deeds.DeviceDeed.{DeviceDeed}
use Rattle.node_core.specs.declared.slots.writes.Asked.{Asked}
use Rattle.node_core.specs.declared.slots.writes.Asked.TheVariants.{Tagged}

-- an act on a device, by the centre's row for it
pub record RowDeed : Type 0 where
  pub row : DeviceRow
  pub act : DeviceAct

abbrev pub act_of : DeedKind → DeviceAct
act_of Select = selecting
act_of (Operate value) = operating value
act_of (Tag tag reason) = tagging (record { tag = tag; reason = reason })

-- the act on the device with the number that a caller is told
abbrev pub deed_at : CentreRows → DeviceDeed → RowDeed
deed_at rows deed = record { row = device_of rows deed.device; act = act_of deed.act }

-- the act on a device of a table
abbrev pub row_deed : Deed → RowDeed
row_deed deed = record { row = deed.device.row; act = deed.act }

-- what acts of an association with this table do to devices, in the order of the acts
abbrev pub deeds_done : OwnTable → List Act → List RowDeed
deeds_done table acts = map row_deed (filter_map (deed_of table) acts)

abbrev pub IsTagWithin : DeedKind → Type 0
IsTagWithin (Tag tag reason) = tag ≤ TAG_LIMIT
IsTagWithin _ = Unit {0}

-- the device is one of so many, and a tag one that devices take
pub record IsDeedThere (count : ℕ) (deed : DeviceDeed) : Type 0 where
  pub device : deed.device < count
  pub tag : IsTagWithin deed.act

-- the tagging that a write asks, if it asks one
abbrev pub deed_asked : Asked → Option DeviceDeed
deed_asked (Tagged n tag reason) =
    Some (record { device = n; act = Tag tag reason })
deed_asked _ = None
