-- The objects that there are for a peer by a table (IEC 60870-6-503, objects of bilateral tables).
use Rattle.std.specs.Prelude.{ℕ, ◌+◌, ◌==◌, pos, ◌&&◌, if◌then◌else◌, Bool, true, false, List, []}
use Rattle.std.specs.Prelude.{◌∷◌, ◌++◌, map, flat_map, find, Option, Some, option_map}
use Rattle.std.specs.Prelude.{bytes_eq, codes, decimal}
use Rattle.std.specs.List.{range_with_len}
use Rattle.mms_data.specs.Datum.{Datum, integer, bits, text, structure, data_of}
use Rattle.mms_data.specs.ObjectName.{ObjectName}
use Rattle.mms_data.specs.Types.TypeShape.{TypeShape, bits_shape, int_shape, text_shape}
use Rattle.mms_data.specs.Types.TypeShape.{structure_shape, shapes_of}
use Rattle.tase_views.specs.OwnTables.{OwnPoint, OwnDevice, OwnTable, is_scope_of}

-- what a report can tell of itself: its transfer set, its moment, its conditions, an event's code
pub data ReportVariable : Type 0 where
  set_name : ReportVariable
  time_stamp : ReportVariable
  conditions_detected : ReportVariable
  event_code : ReportVariable

-- what a name stands for: a value that never changes, with its type, the next transfer set, a
-- report variable, an indication point; of a device its control point, its selection, its tag, its
-- time-out; a transfer set, and its status
pub data Object : Type 0 where
  constant : Datum → TypeShape → Object
  next_transfer_set : Object
  report_variable : ReportVariable → Object
  indication_point : OwnPoint → Object
  control_point : OwnDevice → Object
  selection : OwnDevice → Object
  device_tag : OwnDevice → Object
  timeout : OwnDevice → Object
  transfer_set : ℕ → Object
  transfer_set_status : ℕ → Object

-- an object with its name, found in the whole device or else in the table's domain
pub record NamedObject : Type 0 where
  pub vmd : Bool
  pub item : List ℕ
  pub object : Object

abbrev pub named_by : Bool → List ℕ → Object → NamedObject
named_by vmd item object = record { vmd = vmd; item = item; object = object }

abbrev pub report_variables : Bool → List NamedObject
report_variables vmd =
    named_by vmd (codes "Transfer_Set_Name") (report_variable set_name)
    ∷ named_by vmd (codes "Transfer_Set_Time_Stamp") (report_variable time_stamp)
    ∷ named_by vmd (codes "DSConditions_Detected") (report_variable conditions_detected)
    ∷ named_by vmd (codes "Event_Code_Detected") (report_variable event_code) ∷ []

-- the protocol's version and the features that are supported (this project's profile)
abbrev pub version : Datum
version = structure (data_of (integer (pos 2000) ∷ integer (pos 8) ∷ []))

abbrev pub features : Datum
features = bits (record { count = 12; octets = 200 ∷ 0 ∷ [] })

-- the types of these two, and of the table's identifier
abbrev pub version_shape : TypeShape
version_shape = structure_shape (shapes_of (int_shape 16 ∷ int_shape 16 ∷ []))

abbrev pub features_shape : TypeShape
features_shape = bits_shape 12

abbrev pub name_shape : TypeShape
name_shape = text_shape 64

-- the objects of the protocol itself: its version and features, the table's identifier, the report
-- variables in both scopes
abbrev pub special_objects : OwnTable → List NamedObject
special_objects table =
    named_by true (codes "TASE2_Version") (constant version version_shape)
    ∷ named_by true (codes "Supported_Features") (constant features features_shape)
    ∷ named_by false (codes "Bilateral_Table_ID") (constant (text table.id) name_shape)
    ∷ report_variables true ++ report_variables false

-- a table that offers no transfer sets has none to hand out
abbrev pub next_objects : ℕ → List NamedObject
next_objects slots =
    if slots == 0 then []
    else named_by false (codes "Next_DSTransfer_Set") next_transfer_set ∷ []

-- a device that isn't direct has a selection, and that may run out
abbrev pub objects_of_device : OwnDevice → List NamedObject
objects_of_device d =
    let name = d.row.name in
    named_by false name (control_point d) ∷ named_by false (name ++ codes "_TAG") (device_tag d)
    ∷ (if d.row.direct then []
    else named_by false (name ++ codes "_SBO") (selection d)
    ∷ named_by false (name ++ codes "_TIMEOUT") (timeout d) ∷ [])

-- transfer sets are named from 1 on
abbrev pub slot_item : ℕ → List ℕ
slot_item s = codes "DSTrans" ++ decimal (s + 1)

abbrev pub objects_of_slot : ℕ → List NamedObject
objects_of_slot s =
    named_by false (slot_item s) (transfer_set s)
    ∷ named_by false (slot_item s ++ codes "$Status") (transfer_set_status s) ∷ []

abbrev pub point_object : OwnPoint → NamedObject
point_object p = named_by p.vmd p.name (indication_point p)

-- all objects that there are by a table
abbrev pub objects : OwnTable → List NamedObject
objects table =
    special_objects table ++ next_objects table.slots ++ flat_map objects_of_device table.devices
    ++ flat_map objects_of_slot (range_with_len 0 table.slots) ++ map point_object table.points

-- whether a name of a peer is that of an object
abbrev pub is_named : OwnTable → ObjectName → NamedObject → Bool
is_named table name o = is_scope_of table name.scope o.vmd && bytes_eq o.item name.item

-- what a name stands for by a table; nothing else exists
abbrev pub object_named : OwnTable → ObjectName → Option Object
object_named table name = option_map (λ o. o.object) (find (is_named table name) (objects table))

-- a member that a data set may have: a point, or a report variable
abbrev pub is_member : Option Object → Bool
is_member (Some (indication_point p)) = true
is_member (Some (report_variable v)) = true
is_member _ = false
