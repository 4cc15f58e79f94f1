-- What is so of each point of a table is so of a point that a name stands for by the table.
use Rattle.std.proofs.Common.{◌≡◌, ℕ, Bool, true, false, if◌then◌else◌, List, [], ◌∷◌, ◌++◌, map}
use Rattle.std.proofs.Common.{Option, Some, subst, ◌==◌}
use Rattle.std.proofs.lemmas.Option.{same_Some}
use Rattle.std.specs.Prelude.{find, flat_map, option_map, All, codes}
use Rattle.std.specs.List.{range_with_len}
use Rattle.std.proofs.lemmas.List.Elements.{All-head, All-tail}
use Rattle.mms_data.specs.ObjectName.{ObjectName}
use Rattle.tase_views.specs.OwnTables.{OwnPoint, OwnDevice, OwnTable}
use Rattle.tase_views.specs.Objects.{Object, indication_point, NamedObject, named_by}
use Rattle.tase_views.specs.Objects.{next_transfer_set, selection, timeout, special_objects}
use Rattle.tase_views.specs.Objects.{next_objects, objects_of_device, objects_of_slot, point_object}
use Rattle.tase_views.specs.Objects.{objects, is_named, object_named}

abbrev pub OfPoint : (OwnPoint → Type 0) → Object → Type 0
OfPoint P (indication_point p) = P p
OfPoint P _ = Unit {0}

abbrev OfPoints : (OwnPoint → Type 0) → List NamedObject → Type 0
OfPoints P [] = Unit {0}
OfPoints P (o ∷ os) = OfPoint P o.object × OfPoints P os

joined : (P : OwnPoint → Type 0) (one other : List NamedObject) → OfPoints P one
    → OfPoints P other → OfPoints P (one ++ other)
joined P [] other first second = second
joined P (o ∷ os) other first second = (first.0, joined P os other first.1 second)

points_are : (P : OwnPoint → Type 0) (points : List OwnPoint) → All P points
    → OfPoints P (map point_object points)
points_are P [] all = tt
points_are P (p ∷ points) all =
    (All-head P p points all, points_are P points (All-tail P p points all))

slots_are : (P : OwnPoint → Type 0) (slots : List ℕ)
    → OfPoints P (flat_map objects_of_slot slots)
slots_are P [] = tt
slots_are P (s ∷ slots) = (tt, (tt, slots_are P slots))

next_are : (P : OwnPoint → Type 0) (slots : ℕ) → OfPoints P (next_objects slots)
next_are P slots = by (slots == 0)
  where
    by : (b : Bool)
        → OfPoints P
        (if b then []
        else named_by false (codes "Next_DSTransfer_Set") next_transfer_set ∷ [])
    by true = tt
    by false = (tt, tt)

device_is : (P : OwnPoint → Type 0) (d : OwnDevice) (rest : List NamedObject) → OfPoints P rest
    → OfPoints P (objects_of_device d ++ rest)
device_is P d rest others =
    joined P (objects_of_device d) rest (tt, (tt, by d.row.direct)) others
  where
    by : (b : Bool)
        → OfPoints P
        (if b then []
        else named_by false (d.row.name ++ codes "_SBO") (selection d)
        ∷ named_by false (d.row.name ++ codes "_TIMEOUT") (timeout d) ∷ [])
    by true = tt
    by false = (tt, (tt, tt))

devices_are : (P : OwnPoint → Type 0) (devices : List OwnDevice)
    → OfPoints P (flat_map objects_of_device devices)
devices_are P [] = tt
devices_are P (d ∷ devices) =
    device_is P d (flat_map objects_of_device devices) (devices_are P devices)

special_are : (P : OwnPoint → Type 0) (table : OwnTable) → OfPoints P (special_objects table)
special_are P table =
    (tt, (tt, (tt, (tt, (tt, (tt, (tt, (tt, (tt, (tt, (tt, tt)))))))))))

objects_are : (P : OwnPoint → Type 0) (table : OwnTable) → All P table.points
    → OfPoints P (objects table)
objects_are P table all =
    joined P
    (special_objects table ++ next_objects table.slots
    ++ flat_map objects_of_device table.devices
    ++ flat_map objects_of_slot (range_with_len 0 table.slots))
    (map point_object table.points)
    (joined P
    (special_objects table ++ next_objects table.slots
    ++ flat_map objects_of_device table.devices)
    (flat_map objects_of_slot (range_with_len 0 table.slots))
    (joined P (special_objects table ++ next_objects table.slots)
    (flat_map objects_of_device table.devices)
    (joined P (special_objects table) (next_objects table.slots) (special_are P table)
    (next_are P table.slots))
    (devices_are P table.devices))
    (slots_are P (range_with_len 0 table.slots)))
    (points_are P table.points all)

found_first : (P : Object → Type 0) (b : Bool) (o : NamedObject) (rest : Option NamedObject)
    (object : Object) → P o.object
    → (option_map (λ (x : NamedObject). x.object) rest ≡ Some object → P object)
    → option_map (λ (x : NamedObject). x.object) (if b then Some o else rest) ≡ Some object
    → P object
found_first P true o rest object this others e = subst P (same_Some o.object object e) this
found_first P false o rest object this others e = others e

found_is : (P : OwnPoint → Type 0) (test : NamedObject → Bool) (os : List NamedObject)
    → OfPoints P os → (object : Object)
    → option_map (λ (x : NamedObject). x.object) (find test os) ≡ Some object → OfPoint P object
found_is P test [] all object e = absurd cc
found_is P test (o ∷ os) all object e =
    found_first (OfPoint P) (test o) o (find test os) object all.0
    (λ rest. found_is P test os all.1 object rest) e

pub point_is : (P : OwnPoint → Type 0) (table : OwnTable) (name : ObjectName) (p : OwnPoint)
    → All P table.points → object_named table name ≡ Some (indication_point p) → P p
point_is P table name p all e =
    found_is P (is_named table name) (objects table) (objects_are P table all)
    (indication_point p) e
