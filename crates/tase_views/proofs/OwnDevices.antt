-- The devices of a table's objects, and of what acts are to them, are devices of the table.
use Rattle.std.proofs.Common.{◌≡◌, ℕ, ◌==◌, ℤ, Bool, true, false, not, ◌&&◌, if◌then◌else◌}
use Rattle.std.proofs.Common.{List, [], ◌∷◌, ◌++◌, map, Option, Some, None, codes, subst, refl, ap}
use Rattle.std.specs.Prelude.{find, flat_map, option_map, option_and_then}
use Rattle.std.specs.List.{range_with_len}
use Rattle.std.proofs.lemmas.Option.{same_Some}
use Rattle.mms_data.specs.Datum.{Datum}
use Rattle.mms_data.specs.ObjectName.{ObjectName}
use Rattle.sbo_device.specs.Moves.{Tag, selecting, operating, tagging}
use Rattle.tase_views.specs.Moves.{Act, opens, takes, closes, reads, writes, defines, deletes}
use Rattle.tase_views.specs.Moves.{calls}
use Rattle.tase_views.specs.OwnTables.{OwnPoint, OwnDevice, OwnTable}
use Rattle.tase_views.specs.Objects.{Object, NamedObject, constant, next_transfer_set}
use Rattle.tase_views.specs.Objects.{report_variable, indication_point}
use Rattle.tase_views.specs.Objects.{control_point, selection, device_tag, timeout, transfer_set}
use Rattle.tase_views.specs.Objects.{transfer_set_status, named_by, special_objects, next_objects}
use Rattle.tase_views.specs.Objects.{objects_of_device, objects_of_slot, point_object, objects}
use Rattle.tase_views.specs.Objects.{is_named, object_named}
use Rattle.tase_views.specs.Devices.{number_in, tag_in, Deed, read_deed, write_deed, deed_of}

-- what is so of each device of a list
abbrev pub Each : (OwnDevice → Type 0) → List OwnDevice → Type 0
Each P [] = Unit {0}
Each P (d ∷ devices) = P d × Each P devices

-- what is so of the device of an object, if it has one
abbrev pub OfDevice : (OwnDevice → Type 0) → Object → Type 0
OfDevice P (control_point d) = P d
OfDevice P (selection d) = P d
OfDevice P (device_tag d) = P d
OfDevice P (timeout d) = P d
OfDevice P _ = Unit {0}

abbrev OfDevices : (OwnDevice → Type 0) → List NamedObject → Type 0
OfDevices P [] = Unit {0}
OfDevices P (o ∷ os) = OfDevice P o.object × OfDevices P os

joined : (P : OwnDevice → Type 0) (one other : List NamedObject) → OfDevices P one
    → OfDevices P other → OfDevices P (one ++ other)
joined P [] other first second = second
joined P (o ∷ os) other first second = (first.0, joined P os other first.1 second)

points_are : (P : OwnDevice → Type 0) (points : List OwnPoint)
    → OfDevices P (map point_object points)
points_are P [] = tt
points_are P (p ∷ points) = (tt, points_are P points)

slots_are : (P : OwnDevice → Type 0) (slots : List ℕ)
    → OfDevices P (flat_map objects_of_slot slots)
slots_are P [] = tt
slots_are P (s ∷ slots) = (tt, (tt, slots_are P slots))

next_are : (P : OwnDevice → Type 0) (slots : ℕ) → OfDevices P (next_objects slots)
next_are P slots = by (slots == 0)
  where
    by : (b : Bool)
        → OfDevices P
        (if b then []
        else named_by false (codes "Next_DSTransfer_Set") next_transfer_set ∷ [])
    by true = tt
    by false = (tt, tt)

device_is : (P : OwnDevice → Type 0) (d : OwnDevice) → P d → OfDevices P (objects_of_device d)
device_is P d there = (there, (there, by d.row.direct))
  where
    by : (b : Bool)
        → OfDevices P
        (if b then [] else named_by false (d.row.name ++ codes "_SBO") (selection d)
        ∷ named_by false (d.row.name ++ codes "_TIMEOUT") (timeout d) ∷ [])
    by true = tt
    by false = (there, (there, tt))

devices_are : (P : OwnDevice → Type 0) (devices : List OwnDevice) → Each P devices
    → OfDevices P (flat_map objects_of_device devices)
devices_are P [] all = tt
devices_are P (d ∷ devices) all =
    joined P (objects_of_device d) (flat_map objects_of_device devices) (device_is P d all.0)
    (devices_are P devices all.1)

specials_are : (P : OwnDevice → Type 0) (table : OwnTable) → OfDevices P (special_objects table)
specials_are P table =
    (tt, (tt, (tt, (tt, (tt, (tt, (tt, (tt, (tt, (tt, (tt, tt)))))))))))

objects_are : (P : OwnDevice → Type 0) (table : OwnTable) → Each P table.devices
    → OfDevices P (objects table)
objects_are P table all =
    let devices = flat_map objects_of_device table.devices in
    let slots = flat_map objects_of_slot (range_with_len 0 table.slots) in
    let before = special_objects table ++ next_objects table.slots in
    joined P (before ++ devices ++ slots) (map point_object table.points)
    (joined P (before ++ devices) slots
    (joined P before devices
    (joined P (special_objects table) (next_objects table.slots) (specials_are P table)
    (next_are P table.slots))
    (devices_are P table.devices all))
    (slots_are P (range_with_len 0 table.slots)))
    (points_are P table.points)

found_first : (P : Object → Type 0) (t : Bool) (o : NamedObject) (rest : Option NamedObject)
    (object : Object) → P o.object
    → (option_map (λ (x : NamedObject). x.object) rest ≡ Some object → P object)
    → option_map (λ (x : NamedObject). x.object) (if t then Some o else rest) ≡ Some object
    → P object
found_first P true o rest object this others e =
    subst P (same_Some o.object object e) this
found_first P false o rest object this others e = others e

found_is : (P : OwnDevice → Type 0) (test : NamedObject → Bool) (os : List NamedObject)
    → OfDevices P os → (object : Object)
    → option_map (λ (x : NamedObject). x.object) (find test os) ≡ Some object
    → OfDevice P object
found_is P test [] all object e = absurd cc
found_is P test (o ∷ os) all object e =
    found_first (OfDevice P) (test o) o (find test os) object all.0
    (λ rest. found_is P test os all.1 object rest) e

-- what is so of each device of a table is so of that of an object of the table
pub named_is : (P : OwnDevice → Type 0) (table : OwnTable) (name : ObjectName) (object : Object)
    → Each P table.devices → object_named table name ≡ Some object → OfDevice P object
named_is P table name object all e =
    found_is P (is_named table name) (objects table) (objects_are P table all) object e

one_device : (a b : Deed) → Some a ≡ Some b → a.device ≡ b.device
one_device a b e = ap (λ (d : Deed). d.device) (same_Some a b e)

read_is : (P : OwnDevice → Type 0) (object : Object) (deed : Deed)
    → read_deed object ≡ Some deed → OfDevice P object → P deed.device
read_is P (selection d) deed e there =
    subst P (one_device (record { device = d; act = selecting }) deed e) there
read_is P (constant v shape) deed e there = absurd cc
read_is P next_transfer_set deed e there = absurd cc
read_is P (report_variable v) deed e there = absurd cc
read_is P (indication_point p) deed e there = absurd cc
read_is P (control_point d) deed e there = absurd cc
read_is P (device_tag d) deed e there = absurd cc
read_is P (timeout d) deed e there = absurd cc
read_is P (transfer_set s) deed e there = absurd cc
read_is P (transfer_set_status s) deed e there = absurd cc

operate_is : (P : OwnDevice → Type 0) (d : OwnDevice) (number : Option ℤ) (deed : Deed)
    → option_map (λ n. let made : Deed = record { device = d; act = operating n } in made) number
    ≡ Some deed
    → P d → P deed.device
operate_is P d None deed e there = absurd cc
operate_is P d (Some number) deed e there =
    subst P (one_device (record { device = d; act = operating number }) deed e) there

tagging_is : (P : OwnDevice → Type 0) (d : OwnDevice) (tag : Tag) (b : Bool) (deed : Deed)
    → (if b then Some (let made : Deed = record { device = d; act = tagging tag } in made)
    else None)
    ≡ Some deed
    → P d → P deed.device
tagging_is P d tag true deed e there =
    subst P (one_device (record { device = d; act = tagging tag }) deed e) there
tagging_is P d tag false deed e there = absurd cc

tag_is : (P : OwnDevice → Type 0) (d : OwnDevice) (found : Option Tag) (deed : Deed)
    → option_and_then (λ (tag : Tag). if d.tag && not (tag.tag == 3)
    then Some (let made : Deed = record { device = d; act = tagging tag } in made) else None) found
    ≡ Some deed
    → P d → P deed.device
tag_is P d None deed e there = absurd cc
tag_is P d (Some tag) deed e there = tagging_is P d tag (d.tag && not (tag.tag == 3)) deed e there

write_is : (P : OwnDevice → Type 0) (value : Datum) (object : Object) (deed : Deed)
    → write_deed value object ≡ Some deed → OfDevice P object → P deed.device
write_is P value (control_point d) deed e there = operate_is P d (number_in value) deed e there
write_is P value (device_tag d) deed e there = tag_is P d (tag_in value) deed e there
write_is P value (constant v shape) deed e there = absurd cc
write_is P value next_transfer_set deed e there = absurd cc
write_is P value (report_variable v) deed e there = absurd cc
write_is P value (indication_point p) deed e there = absurd cc
write_is P value (selection d) deed e there = absurd cc
write_is P value (timeout d) deed e there = absurd cc
write_is P value (transfer_set s) deed e there = absurd cc
write_is P value (transfer_set_status s) deed e there = absurd cc

deed_by : (P : OwnDevice → Type 0) (table : OwnTable) (name : ObjectName) (found : Option Object)
    (deeds : Object → Option Deed) (deed : Deed) → Each P table.devices
    → object_named table name ≡ found
    → ((object : Object) → deeds object ≡ Some deed → OfDevice P object → P deed.device)
    → option_and_then deeds found ≡ Some deed
    → P deed.device
deed_by P table name None deeds deed all found is e = absurd cc
deed_by P table name (Some object) deeds deed all found is e =
    is object e (named_is P table name object all found)

-- and of that of what an act by the table is to a device
pub deed_is : (P : OwnDevice → Type 0) (table : OwnTable) (act : Act) (deed : Deed)
    → Each P table.devices → deed_of table act ≡ Some deed → P deed.device
deed_is P table (reads name) deed all e =
    deed_by P table name (object_named table name) read_deed deed all refl
    (λ object. read_is P object deed) e
deed_is P table (writes name value) deed all e =
    deed_by P table name (object_named table name) (write_deed value) deed all refl
    (λ object. write_is P value object deed) e
deed_is P table opens deed all e = absurd cc
deed_is P table takes deed all e = absurd cc
deed_is P table closes deed all e = absurd cc
deed_is P table (defines set members) deed all e = absurd cc
deed_is P table (deletes set) deed all e = absurd cc
deed_is P table (calls call) deed all e = absurd cc
