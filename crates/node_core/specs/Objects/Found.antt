-- What names stand for by the table of a peer that is in force.
use Rattle.std.specs.Prelude.{◌≡◌, ℕ, ◌<◌, ◌&&◌, true, false, List, ◌++◌, length, flat_map, find}
use Rattle.std.specs.Prelude.{Option, Contains, bytes_eq, is_some}
use Rattle.std.specs.List.{range_with_len}
use Rattle.mms_data.specs.Datum.{text}
use Rattle.mms_data.specs.ObjectName.{ObjectName}
use Rattle.bilateral.specs.declared.rows.See.{See}
use Rattle.bilateral.specs.declared.rows.Table.{Table}
use Rattle.bilateral.specs.Rows.{CentreRows, IsCentre, variants_of, variant_of, point_of, device_of}
use Rattle.bilateral.specs.Rows.{place_of_see}
use Rattle.tase_views.specs.OwnTables.{OwnPoint, OwnDevice, OwnTable, own_point, own_device}
use Rattle.tase_views.specs.OwnTables.{own_table, is_scope_of}
use Rattle.tase_views.specs.Objects.{Object, constant, report_variable, indication_point, set_name}
use Rattle.tase_views.specs.Objects.{next_transfer_set, transfer_set, transfer_set_status}
use Rattle.tase_views.specs.Objects.{time_stamp, conditions_detected, event_code, version, features}
use Rattle.tase_views.specs.Objects.{version_shape, features_shape, name_shape}
use Rattle.tase_views.specs.Objects.{control_point, selection, device_tag, timeout, NamedObject}
use Rattle.tase_views.specs.Objects.{next_objects, objects_of_device, objects_of_slot}
use Rattle.node_core.specs.declared.objects.naming.Special.{Special}
use Rattle.node_core.specs.declared.objects.naming.Special.TheVariants as specials
use Rattle.node_core.specs.declared.objects.naming.Found.{Found}
use Rattle.node_core.specs.declared.objects.naming.Found.TheVariants as found

-- a table, with the centre that has its points
pub record TableInForce : Type 0 where
  pub rows : CentreRows
  pub table : Table

-- one of a peer's tables
abbrev pub table_at : CentreRows → ℕ → ℕ → TableInForce
table_at rows peer variant = record { rows = rows; table = variant_of rows peer variant }

-- the centre is lawful, the peer is there, and has the table
pub record IsThere (rows : CentreRows) (peer variant : ℕ) : Type 0 where
  pub lawful : IsCentre rows
  pub known : peer < length rows.tables
  pub there : variant < length (variants_of rows peer)

-- the table as the peer is offered it
abbrev pub offered : TableInForce → OwnTable
offered t = own_table t.rows t.table

-- the table's row for the point with a name
abbrev pub row_named : TableInForce → List ℕ → Option See
row_named t name = find (λ see. bytes_eq (point_of t.rows see.point).name name) t.table.sees

-- the point of a table that a name stands for, where it is that of a point
abbrev pub point_named : OwnTable → ObjectName → Option OwnPoint
point_named table name =
    find (λ p. is_scope_of table name.scope p.vmd && bytes_eq p.name name.item) table.points

-- the objects of devices of a table, in its order; of so many transfer sets, each with its status
abbrev pub device_objects : List OwnDevice → List NamedObject
device_objects devices = flat_map objects_of_device devices

abbrev pub slot_objects : ℕ → List NamedObject
slot_objects slots = flat_map objects_of_slot (range_with_len 0 slots)

-- those that a table has in its domain, but for the protocol's own and points: of the next transfer
-- set, of its devices, of its transfer sets
abbrev pub domain_objects : OwnTable → List NamedObject
domain_objects table =
    next_objects table.slots ++ device_objects table.devices ++ slot_objects table.slots

-- the object that an object of the protocol itself is for a peer with this table
abbrev pub special_object : OwnTable → Special → Object
special_object table specials.Version = constant version version_shape
special_object table specials.Features = constant features features_shape
special_object table specials.TableId = constant (text table.id) name_shape
special_object table specials.SetName = report_variable set_name
special_object table specials.TimeStamp = report_variable time_stamp
special_object table specials.Conditions = report_variable conditions_detected
special_object table specials.EventCode = report_variable event_code

-- the object that was found
abbrev pub object_found : TableInForce → Found → Object
object_found t (found.Special special) = special_object (offered t) special
object_found t found.NextSlot = next_transfer_set
object_found t (found.Slot slot) = transfer_set slot
object_found t (found.SlotStatus slot) = transfer_set_status slot
object_found t (found.ControlPoint control) = control_point (own_device t.rows control.now)
object_found t (found.Selection control) = selection (own_device t.rows control.now)
object_found t (found.DeviceTag control) = device_tag (own_device t.rows control.now)
object_found t (found.Timeout control) = timeout (own_device t.rows control.now)
object_found t (found.Point see) = indication_point (own_point t.rows see.now)

-- a row and a transfer set that were found are the table's; a device that has a selection isn't
-- direct
abbrev pub IsOfTable : TableInForce → Found → Type 0
IsOfTable t (found.Special special) = Unit {0}
IsOfTable t found.NextSlot = Unit {0}
IsOfTable t (found.Slot slot) = slot < t.table.slots
IsOfTable t (found.SlotStatus slot) = slot < t.table.slots
IsOfTable t (found.ControlPoint control) = Contains t.table.controls control.now
IsOfTable t (found.Selection control) =
    Contains t.table.controls control.now
    × ((device_of t.rows control.now.device).direct ≡ false)
IsOfTable t (found.DeviceTag control) = Contains t.table.controls control.now
IsOfTable t (found.Timeout control) = Contains t.table.controls control.now
IsOfTable t (found.Point see) = is_some (place_of_see t.table see.now.point) ≡ true
