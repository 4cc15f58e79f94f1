-- The type of each object that a name stands for is one that a peer may be told.
use Rattle.std.proofs.Common.{◌≡◌, ℕ, ◌≤◌, leb, List, [], ◌∷◌, ◌++◌, map, flat_map, Option, Some}
use Rattle.std.proofs.Common.{Bool, true, false, ◌==◌, if◌then◌else◌, codes, refl, subst, arith}
use Rattle.std.specs.Prelude.{find, option_map}
use Rattle.std.specs.List.{range_with_len}
use Rattle.std.proofs.lemmas.Bool.{and_parts, leb-true}
use Rattle.std.proofs.lemmas.Option.{same_Some}
use Rattle.tase_points.specs.declared.kind.Kind.{Kind}
use Rattle.tase_points.specs.declared.kind.Kind.TheVariants.{State, Discrete, Real}
use Rattle.tase_points.specs.declared.layout.Component.{Component}
use Rattle.tase_points.specs.declared.layout.Component.TheVariants.{Value, Time, Millis, Flags, Cov}
use Rattle.mms_data.specs.ObjectName.{ObjectName}
use Rattle.mms_data.specs.Types.TypeShape.{TypeShape, int_shape, structure_shape, shapes_of}
use Rattle.mms_data.specs.Types.TypeShape.{shape_depth, deepest_shape}
use Rattle.mms_data.specs.Types.TypeShape.{is_shape_size, IsShapeSize, KeepsSizes, KeepAllSizes}
use Rattle.mms_data.specs.Types.TypeShape.{IsTypeShape}
use Rattle.tase_views.specs.OwnTables.{OwnPoint, OwnDevice, OwnTable}
use Rattle.tase_views.specs.Objects.{ReportVariable, set_name, time_stamp, conditions_detected}
use Rattle.tase_views.specs.Objects.{event_code, Object, constant, next_transfer_set}
use Rattle.tase_views.specs.Objects.{report_variable, indication_point, control_point, selection}
use Rattle.tase_views.specs.Objects.{device_tag, timeout, transfer_set, transfer_set_status}
use Rattle.tase_views.specs.Objects.{NamedObject, named_by, special_objects, next_objects}
use Rattle.tase_views.specs.Objects.{objects_of_device, objects_of_slot, point_object, objects}
use Rattle.tase_views.specs.Objects.{version_shape, features_shape, name_shape, report_variables}
use Rattle.tase_views.specs.Objects.{is_named, object_named}
use Rattle.tase_views.specs.Shapes.{body_shape, component_shape, layout_shape, set_name_shape}
use Rattle.tase_views.specs.Shapes.{wish_shape, report_shape, shape_of}

sized : (n : ℕ) → is_shape_size n ≡ true → IsShapeSize n
sized n e =
    let parts = and_parts (leb 1 n) (leb n 255) e in
    (leb-true 1 n parts.0, leb-true n 255 parts.1)

-- ---- layouts of points

-- one level, and numbers that a shape may have
record IsPlainType (s : TypeShape) : Type 0 where
  pub level : shape_depth s ≡ 1
  pub sizes : KeepsSizes s

body_plain : (kind : Kind) → IsPlainType (body_shape kind)
body_plain State = record { level = refl; sizes = sized 8 refl }
body_plain Discrete = record { level = refl; sizes = sized 32 refl }
body_plain Real = record { level = refl; sizes = tt }

component_plain : (kind : Kind) (component : Component)
    → IsPlainType (component_shape kind component)
component_plain kind Value = body_plain kind
component_plain kind Time = record { level = refl; sizes = sized 32 refl }
component_plain kind Millis = record { level = refl; sizes = sized 16 refl }
component_plain kind Flags = record { level = refl; sizes = sized 8 refl }
component_plain kind Cov = record { level = refl; sizes = sized 16 refl }

record ArePlainTypes (ss : List TypeShape) : Type 0 where
  pub level : deepest_shape (shapes_of ss) ≤ 1
  pub sizes : KeepAllSizes (shapes_of ss)

components_plain : (kind : Kind) (components : List Component)
    → ArePlainTypes (map (component_shape kind) components)
components_plain kind [] = record { level = omega arith; sizes = tt }
components_plain kind (component ∷ components) =
    let first = component_plain kind component in
    let others = components_plain kind components in
    record {
      level = omega (arith, first.level, others.level);
      sizes = (first.sizes, others.sizes);
    }

structure_typed : (ss : List TypeShape) → ArePlainTypes ss
    → IsTypeShape (structure_shape (shapes_of ss))
structure_typed ss plain =
    record { shallow = omega (arith, plain.level); sizes = plain.sizes }

layout_typed : (kind : Kind) (layout : List Component) → IsTypeShape (layout_shape kind layout)
layout_typed kind [] = structure_typed [] (components_plain kind [])
layout_typed kind (component ∷ []) =
    let plain = component_plain kind component in
    record { shallow = omega (arith, plain.level); sizes = plain.sizes }
layout_typed kind (component ∷ next ∷ components) =
    structure_typed (map (component_shape kind) (component ∷ next ∷ components))
    (components_plain kind (component ∷ next ∷ components))

-- ---- other objects

int_typed : IsTypeShape (int_shape 16)
int_typed = record { shallow = omega arith; sizes = sized 16 refl }

set_name_sizes : KeepsSizes set_name_shape
set_name_sizes = (sized 8 refl, (sized 64 refl, (sized 64 refl, tt)))

set_name_typed : IsTypeShape set_name_shape
set_name_typed = record { shallow = omega arith; sizes = set_name_sizes }

wish_typed : IsTypeShape wish_shape
wish_typed =
    let long = sized 32 refl in
    record {
      shallow = omega arith;
      sizes = (
        set_name_sizes,
        (
          long,
          (
            long,
            (
              long,
              (
                long,
                (
                  long,
                  (
                    sized 5 refl,
                    (tt, (tt, (tt, (tt, (tt, (sized 16 refl, tt)))))),
                  ),
                ),
              ),
            ),
          ),
        ),
      );
    }

report_typed : (v : ReportVariable) → IsTypeShape (report_shape v)
report_typed set_name = set_name_typed
report_typed time_stamp = record { shallow = omega arith; sizes = sized 32 refl }
report_typed conditions_detected = record { shallow = omega arith; sizes = sized 5 refl }
report_typed event_code = int_typed

-- a value that never changes has a type that may be told
abbrev HasLawfulType : Object → Type 0
HasLawfulType (constant value shape) = IsTypeShape shape
HasLawfulType _ = Unit {0}

object_typed : (o : Object) → HasLawfulType o → IsTypeShape (shape_of o)
object_typed (constant value shape) lawful = lawful
object_typed next_transfer_set lawful = set_name_typed
object_typed (report_variable v) lawful = report_typed v
object_typed (indication_point p) lawful = layout_typed p.kind p.layout
object_typed (control_point d) lawful = int_typed
object_typed (selection d) lawful = int_typed
object_typed (device_tag d) lawful =
    record { shallow = omega arith; sizes = (sized 2 refl, (sized 64 refl, tt)) }
object_typed (timeout d) lawful = int_typed
object_typed (transfer_set s) lawful = wish_typed
object_typed (transfer_set_status s) lawful = record { shallow = omega arith; sizes = tt }

-- ---- the objects of a table

abbrev HaveLawfulTypes : List NamedObject → Type 0
HaveLawfulTypes [] = Unit {0}
HaveLawfulTypes (o ∷ os) = HasLawfulType o.object × HaveLawfulTypes os

joined : (one other : List NamedObject) → HaveLawfulTypes one → HaveLawfulTypes other
    → HaveLawfulTypes (one ++ other)
joined [] other first second = second
joined (o ∷ os) other first second = (first.0, joined os other first.1 second)

points_lawful : (points : List OwnPoint) → HaveLawfulTypes (map point_object points)
points_lawful [] = tt
points_lawful (p ∷ points) = (tt, points_lawful points)

slots_lawful : (slots : List ℕ) → HaveLawfulTypes (flat_map objects_of_slot slots)
slots_lawful [] = tt
slots_lawful (s ∷ slots) = (tt, (tt, slots_lawful slots))

next_lawful : (slots : ℕ) → HaveLawfulTypes (next_objects slots)
next_lawful slots = by (slots == 0)
  where
    by : (b : Bool)
        → HaveLawfulTypes
        (if b then []
        else named_by false (codes "Next_DSTransfer_Set") next_transfer_set ∷ [])
    by true = tt
    by false = (tt, tt)

device_lawful : (d : OwnDevice) → HaveLawfulTypes (objects_of_device d)
device_lawful d = (tt, (tt, by d.row.direct))
  where
    by : (b : Bool)
        → HaveLawfulTypes
        (if b then [] else named_by false (d.row.name ++ codes "_SBO") (selection d)
        ∷ named_by false (d.row.name ++ codes "_TIMEOUT") (timeout d) ∷ [])
    by true = tt
    by false = (tt, (tt, tt))

devices_lawful : (devices : List OwnDevice) → HaveLawfulTypes (flat_map objects_of_device devices)
devices_lawful [] = tt
devices_lawful (d ∷ devices) =
    joined (objects_of_device d) (flat_map objects_of_device devices) (device_lawful d)
    (devices_lawful devices)

version_typed : IsTypeShape version_shape
version_typed = record { shallow = omega arith; sizes = (sized 16 refl, (sized 16 refl, tt)) }

features_typed : IsTypeShape features_shape
features_typed = record { shallow = omega arith; sizes = sized 12 refl }

name_typed : IsTypeShape name_shape
name_typed = record { shallow = omega arith; sizes = sized 64 refl }

specials_lawful : (table : OwnTable) → HaveLawfulTypes (special_objects table)
specials_lawful table =
    let variables : HaveLawfulTypes (report_variables true ++ report_variables false) =
    (tt, (tt, (tt, (tt, (tt, (tt, (tt, (tt, tt)))))))) in
    (version_typed, (features_typed, (name_typed, variables)))

objects_lawful : (table : OwnTable) → HaveLawfulTypes (objects table)
objects_lawful table =
    let devices = flat_map objects_of_device table.devices in
    let slots = flat_map objects_of_slot (range_with_len 0 table.slots) in
    let before = special_objects table ++ next_objects table.slots in
    joined (before ++ devices ++ slots) (map point_object table.points)
    (joined (before ++ devices) slots
    (joined before devices
    (joined (special_objects table) (next_objects table.slots) (specials_lawful table)
    (next_lawful table.slots))
    (devices_lawful table.devices))
    (slots_lawful (range_with_len 0 table.slots)))
    (points_lawful table.points)

found_first : (test : Bool) (o : NamedObject) (rest : Option NamedObject) (object : Object)
    → HasLawfulType o.object
    → (option_map (λ (x : NamedObject). x.object) rest ≡ Some object → HasLawfulType object)
    → option_map (λ (x : NamedObject). x.object) (if test then Some o else rest) ≡ Some object
    → HasLawfulType object
found_first true o rest object first others e =
    subst HasLawfulType (same_Some o.object object e) first
found_first false o rest object first others e = others e

found_lawful : (test : NamedObject → Bool) (os : List NamedObject) → HaveLawfulTypes os
    → (object : Object) → option_map (λ (x : NamedObject). x.object) (find test os) ≡ Some object
    → HasLawfulType object
found_lawful test [] all object e = absurd cc
found_lawful test (o ∷ os) all object e =
    found_first (test o) o (find test os) object all.0
    (λ rest. found_lawful test os all.1 object rest) e

-- the type of what a name stands for may be told
pub named_typed : (table : OwnTable) (name : ObjectName) (object : Object)
    → object_named table name ≡ Some object → IsTypeShape (shape_of object)
named_typed table name object e =
    object_typed object
    (found_lawful (is_named table name) (objects table) (objects_lawful table) object e)
