-- What associations do to devices, and the moves of each device (IEC 60870-6-503, device control).
use Rattle.std.specs.Prelude.{ℕ, ◌/◌, ◌==◌, ℤ, pos, not, ◌&&◌, if◌then◌else◌, List, [], ◌∷◌}
use Rattle.std.specs.Prelude.{Option, Some, None, option_map, option_and_then, bytes_eq}
use Rattle.std.specs.Prelude.{slice_index}
use Rattle.std.specs.List.{cons_option}
use Rattle.mms_data.specs.Datum.{Datum, integer, unsigned, bits, text, structure, no_data, datum}
use Rattle.sbo_device.specs.declared.key.Key.{Key}
use Rattle.sbo_device.specs.Moves.{Tag, DeviceAct, selecting, operating, tagging, DeviceMove}
use Rattle.sbo_device.specs.Moves.{selected, operated, closed, ticked, tagged}
use Rattle.tase_views.specs.OwnTables.{OwnDevice, OwnTable}
use Rattle.tase_views.specs.Objects.{Object, object_named}
use Rattle.tase_views.specs.Objects as objects
use Rattle.tase_views.specs.Moves.{Act, reads, writes}

-- the number that a device is operated with: an integer or an unsigned one
abbrev pub number_in : Datum → Option ℤ
number_in (integer z) = Some z
number_in (unsigned n) = Some (pos n)
number_in _ = None

-- the tag that a datum has the form of: a structure of two bits and a reason
abbrev pub tag_in : Datum → Option Tag
tag_in (structure (datum (bits b) (datum (text reason) no_data))) =
    if b.count == 2 then Some (record { tag = slice_index b.octets 0 / 64; reason = reason })
    else None
tag_in _ = None

-- an act on a device of a table
pub record Deed : Type 0 where
  pub device : OwnDevice
  pub act : DeviceAct

-- a read selects a device, where it is of its selection
abbrev pub read_deed : Object → Option Deed
read_deed (objects.selection d) = Some (record { device = d; act = selecting })
read_deed _ = None

-- a write of a number operates a device; with the right to tag it, a write of a tag other than 3
-- tags it
abbrev pub write_deed : Datum → Object → Option Deed
write_deed value (objects.control_point d) =
    option_map (λ number. record { device = d; act = operating number }) (number_in value)
write_deed value (objects.device_tag d) =
    option_and_then
    (λ tag. if d.tag && not (tag.tag == 3) then Some (record { device = d; act = tagging tag })
    else None) (tag_in value)
write_deed value _ = None

-- what an act of an association with this table is to a device: a select, an operate, a tagging, or
-- nothing
abbrev pub deed_of : OwnTable → Act → Option Deed
deed_of table (reads name) = option_and_then read_deed (object_named table name)
deed_of table (writes name value) = option_and_then (write_deed value) (object_named table name)
deed_of table _ = None

-- what a move is to devices: an association acts on one, by its name, or is closed; one is tagged;
-- the clock stands at a moment
pub data DeviceStep : Type 0 where
  acted : Key → List ℕ → DeviceAct → DeviceStep
  ended : Key → DeviceStep
  marked : List ℕ → Tag → DeviceStep
  passed : ℕ → DeviceStep

-- the step of a deed
abbrev pub step_of_deed : Key → Deed → DeviceStep
step_of_deed key deed = acted key deed.device.row.name deed.act

-- the moment: that of the last tick; before any, 0
abbrev pub moment_of : List DeviceStep → ℕ
moment_of [] = 0
moment_of (passed now ∷ steps) = now
moment_of (_ ∷ steps) = moment_of steps

-- an act of an association at a moment as a move of the device
abbrev pub done_by : Key → ℕ → DeviceAct → DeviceMove
done_by key now selecting = selected key now
done_by key now (operating value) = operated key value
done_by key now (tagging tag) = tagged tag

-- what a step at a moment is to the device with this name
abbrev pub step_for : List ℕ → ℕ → DeviceStep → Option DeviceMove
step_for name now (acted key device act) =
    if bytes_eq device name then Some (done_by key now act) else None
step_for name now (ended key) = Some (closed key)
step_for name now (marked device tag) =
    if bytes_eq device name then Some (tagged tag) else None
step_for name now (passed moment) = Some (ticked moment)

-- the moves of a device, the newest first: its machine is that of `sbo_device`
abbrev pub device_moves : List ℕ → List DeviceStep → List DeviceMove
device_moves name [] = []
device_moves name (step ∷ steps) =
    cons_option (step_for name (moment_of steps) step) (device_moves name steps)
