-- The names of the objects of devices: what a name stands for among them, and that each of them is
-- an identifier.
use Rattle.std.proofs.Common.{◌≡◌, ◌≢◌, ℕ, suc, ◌+◌, ◌<◌, ◌≤◌, Bool, true, false, cond}
use Rattle.std.proofs.Common.{◌||◌, List, [], ◌∷◌, ◌++◌, map, length, get_or, drop, Bor, Option}
use Rattle.std.proofs.Common.{Some, None, is_some, bytes_eq, refl, sym, ap, ◌∙◌, arith, subst}
use Rattle.std.proofs.Common.{take, append-nil, append_assoc, add-one, drop-cons, length-append}
use Rattle.std.proofs.lemmas.Bool.{true≢false, false≢true, false_from_ne_true, and_parts, and_from}
use Rattle.std.proofs.lemmas.Bool.{leb-true, eq-eqb}
use Rattle.std.proofs.lemmas.Bool.Decides.{Decides-eqb}
use Rattle.std.proofs.lemmas.List.Elements.{All-cons, All-nil, All-append, All-contains, All-head}
use Rattle.std.proofs.lemmas.List.Elements.{All-tail}
use Rattle.std.proofs.lemmas.Grind.{flat_map-append}
use Rattle.std.proofs.lemmas.List.{map-append, take_more}
use Rattle.std.proofs.lemmas.List.Folds.{find-append, list_all-append}
use Rattle.std.proofs.lemmas.Slice.Eq.{bytes_eq-Decides, ends_is}
use Rattle.std.specs.Prelude.{if◌then◌else◌, codes, Contains, nat_eq}
use Rattle.std.specs.List.{All, find, ends_with, list_all}
use Rattle.std.specs.Option.{option_or}
use Rattle.ber_values.specs.Visible.{is_visible_octet}
use Rattle.mms_data.specs.ObjectName.{IsIdentifier}
use Rattle.bilateral.specs.Words.Words.{is_name}
use Rattle.bilateral.specs.declared.words.words.TheConstants.{NAME_LIMIT}
use Rattle.bilateral.proofs.OfWords.VisibleWords.{IsVisible-from_name}
use Rattle.bilateral.specs.declared.rows.Control.{Control}
use Rattle.bilateral.specs.declared.rows.DeviceRow.{DeviceRow}
use Rattle.bilateral.specs.Rows.{CentreRows, IsCentre, IsControlling, device_of}
use Rattle.bilateral.specs.Rows.{no_device, no_table, table_of, further_of, variant_of}
use Rattle.bilateral.specs.Rows.{place_of_device}
use Rattle.tase_views.specs.OwnTables.{OwnDevice, own_device}
use Rattle.tase_views.specs.Objects.{Object, NamedObject, named_by, control_point, selection}
use Rattle.tase_views.specs.Objects.{device_tag, timeout, objects_of_device}
use Rattle.node_core.specs.Objects.Found.{IsThere, device_objects}
use Rattle.node_core.proofs.OfObjects.Names.{all_fail-position_None, object_of}

-- ---- the devices of a table are there

pub variant_controls : (rows : CentreRows) (peer variant : ℕ) → IsThere rows peer variant
    → IsControlling (length rows.devices) (variant_of rows peer variant)
variant_controls rows peer variant at =
    All-cons (IsControlling (length rows.devices)) (table_of rows peer) (further_of rows peer)
    (at.lawful.controls peer no_table at.known) (at.lawful.further peer).controls
    variant no_table at.there

pub control_is_there : (rows : CentreRows) (peer variant : ℕ) (control : Control)
    → IsThere rows peer variant → Contains (variant_of rows peer variant).controls control
    → control.device < length rows.devices
control_is_there rows peer variant control at among =
    All-contains (λ (c : Control). c.device < length rows.devices)
    (variant_of rows peer variant).controls control (variant_controls rows peer variant at).known
    among

-- ---- a name against those of one device's objects

-- the tag of a device, its time-out, and what it has of a selection, where it isn't direct
abbrev pub tag_object : OwnDevice → NamedObject
tag_object d = named_by false (d.row.name ++ codes "_TAG") (device_tag d)

abbrev pub timeout_object : OwnDevice → NamedObject
timeout_object d = named_by false (d.row.name ++ codes "_TIMEOUT") (timeout d)

abbrev pub with_selection : OwnDevice → Bool → List NamedObject
with_selection d direct =
    if direct then []
    else named_by false (d.row.name ++ codes "_SBO") (selection d) ∷ timeout_object d ∷ []

-- what of a device a name stands for
abbrev pub named_in : OwnDevice → List ℕ → Option NamedObject
named_in d item = find (λ o. bytes_eq o.item item) (objects_of_device d)

-- the same by what stands behind the device's name
abbrev pub named_by_end : OwnDevice → List ℕ → Option Object
named_by_end d rest =
    cond (bytes_eq [] rest) (Some (control_point d))
    (cond (bytes_eq (codes "_TAG") rest) (Some (device_tag d))
    (if d.row.direct then None
    else cond (bytes_eq (codes "_SBO") rest) (Some (selection d))
    (cond (bytes_eq (codes "_TIMEOUT") rest) (Some (timeout d)) None)))

cut_front : (front a b : List ℕ) → bytes_eq (front ++ a) (front ++ b) ≡ bytes_eq a b
cut_front [] a b = refl
cut_front (x ∷ front) a b = rw (eq-eqb x x refl) (cut_front front a b)

cut_whole : (front rest : List ℕ) → bytes_eq front (front ++ rest) ≡ bytes_eq [] rest
cut_whole [] rest = refl
cut_whole (x ∷ front) rest = rw (eq-eqb x x refl) (cut_whole front rest)

-- nothing stands behind the device's name, or something does
pub nothing_behind : (rest : List ℕ) → length rest ≡ 0 → bytes_eq [] rest ≡ true
nothing_behind [] none = refl
nothing_behind (x ∷ rest) none = absurd (omega (arith, none))

pub something_behind : (rest : List ℕ) → length rest ≢ 0 → bytes_eq [] rest ≡ false
something_behind [] some = absurd (some refl)
something_behind (x ∷ rest) some = refl

first_found : (here there : Bool) (o : NamedObject) (more : Option NamedObject)
    (rest : Option Object) → here ≡ there → object_of more ≡ rest
    → object_of (cond here (Some o) more) ≡ cond there (Some o.object) rest
first_found true true o more rest same is = refl
first_found false false o more rest same is = is
first_found true false o more rest same is = absurd (true≢false same)
first_found false true o more rest same is = absurd (false≢true same)

module _ (d : OwnDevice) where
  pub named-behind : (rest : List ℕ)
      → object_of (named_in d (d.row.name ++ rest)) ≡ named_by_end d rest
  named-behind rest =
      let item = d.row.name ++ rest in
      first_found (bytes_eq d.row.name item) (bytes_eq [] rest)
      (named_by false d.row.name (control_point d)) _ _ (cut_whole d.row.name rest)
      (first_found (bytes_eq (d.row.name ++ codes "_TAG") item) (bytes_eq (codes "_TAG") rest)
      (tag_object d) _ _ (cut_front d.row.name (codes "_TAG") rest) (by d.row.direct))
    where
      by : (direct : Bool)
          → object_of
          (find (λ o. bytes_eq o.item (d.row.name ++ rest)) (with_selection d direct))
          ≡ (if direct then None
          else cond (bytes_eq (codes "_SBO") rest) (Some (selection d))
          (cond (bytes_eq (codes "_TIMEOUT") rest) (Some (timeout d)) None))
      by true = refl
      by false =
          first_found (bytes_eq (d.row.name ++ codes "_SBO") (d.row.name ++ rest))
          (bytes_eq (codes "_SBO") rest)
          (named_by false (d.row.name ++ codes "_SBO") (selection d)) _ _
          (cut_front d.row.name (codes "_SBO") rest)
          (first_found (bytes_eq (d.row.name ++ codes "_TIMEOUT") (d.row.name ++ rest))
          (bytes_eq (codes "_TIMEOUT") rest)
          (timeout_object d) None None (cut_front d.row.name (codes "_TIMEOUT") rest) refl)

  -- so of a name that begins as the device's
  pub named-by_end : (row : DeviceRow) (item name : List ℕ) (rest : Bor (List ℕ))
      (found : Option Object) → row ≡ d.row → name ≡ row.name → item ≡ name ++ rest.now
      → found ≡ named_by_end d rest.now → found ≡ object_of (named_in d item)
  named-by_end row item name rest found same own is by_end =
      let all : item ≡ d.row.name ++ rest.now =
      is ∙ ap (λ (front : List ℕ). front ++ rest.now)
      (own ∙ ap (λ (r : DeviceRow). r.name) same) in
      by_end ∙ sym (named-behind rest.now) ∙ ap (λ (i : List ℕ). object_of (named_in d i)) (sym all)

  -- none has the name, where it is neither the device's nor that with one of the three ends
  named-none : (item : List ℕ) → bytes_eq d.row.name item ≡ false
      → bytes_eq (d.row.name ++ codes "_TAG") item ≡ false
      → bytes_eq (d.row.name ++ codes "_SBO") item ≡ false
      → bytes_eq (d.row.name ++ codes "_TIMEOUT") item ≡ false → named_in d item ≡ None
  named-none item own tag sbo late = rw (own, tag) (by d.row.direct)
    where
      by : (direct : Bool) → find (λ o. bytes_eq o.item item) (with_selection d direct) ≡ None
      by true = refl
      by false = rw (sbo, late) refl

  -- so where it doesn't begin as the device's name
  pub named-apart : (item : List ℕ) → ((rest : List ℕ) → item ≢ d.row.name ++ rest)
      → named_in d item ≡ None
  named-apart item apart =
      named-none item
      (false_from_ne_true _ (λ e. apart [] (sym (append-nil d.row.name
      ∙ (bytes_eq-Decides d.row.name item).0 e))))
      (away (codes "_TAG")) (away (codes "_SBO")) (away (codes "_TIMEOUT"))
    where
      away : (end : List ℕ) → bytes_eq (d.row.name ++ end) item ≡ false
      away end = false_from_ne_true _ (λ e. apart end
          (sym ((bytes_eq-Decides (d.row.name ++ end) item).0 e)))

other_end : (front end item : List ℕ) → ends_with nat_eq item end ≡ false
    → bytes_eq (front ++ end) item ≡ false
other_end front end item apart =
    false_from_ne_true _ (λ e. true≢false
    (sym ((ends_is Decides-eqb item end (ends_with nat_eq item end) refl).1 front
    (sym ((bytes_eq-Decides (front ++ end) item).0 e))) ∙ apart))

or_apart : (a b : Bool) → (a || b) ≡ false → (a ≡ false) × (b ≡ false)
or_apart true b e = absurd (true≢false e)
or_apart false b e = (refl, e)

-- no object of a device of the centre has a name that is none of a device and ends otherwise
pub may_not_be : (rows : CentreRows) (item : List ℕ) (control : Control)
    → control.device < length rows.devices → is_some (place_of_device rows item) ≡ false
    → (ends_with nat_eq item (codes "_TAG") || ends_with nat_eq item (codes "_SBO")
    || ends_with nat_eq item (codes "_TIMEOUT")) ≡ false
    → named_in (own_device rows control) item ≡ None
may_not_be rows item control there none ends =
    let three = or_apart _ _ ends in
    let two = or_apart _ _ three.0 in
    let name = (device_of rows control.device).name in
    named-none (own_device rows control) item
    (all_fail-position_None (λ row. bytes_eq row.name item) rows.devices
    (nothing (place_of_device rows item) none) control.device no_device there)
    (other_end name (codes "_TAG") item two.0) (other_end name (codes "_SBO") item two.1)
    (other_end name (codes "_TIMEOUT") item three.1)
  where
    nothing : (place : Option ℕ) → is_some place ≡ false → place ≡ None
    nothing None e = refl
    nothing (Some n) e = absurd (true≢false e)

-- ---- a name against those of the objects of many devices

-- the objects of the devices of these rows from one on
abbrev pub devices_from : CentreRows → ℕ → List Control → List NamedObject
devices_from rows i controls = device_objects (map (own_device rows) (drop i controls))

pub devices_none : (rows : CentreRows) (item : List ℕ) (controls : List Control)
    → All (λ control. named_in (own_device rows control) item ≡ None) controls
    → find (λ o. bytes_eq o.item item) (device_objects (map (own_device rows) controls)) ≡ None
devices_none rows item [] none = refl
devices_none rows item (control ∷ controls) none =
    let test : NamedObject → Bool = λ o. bytes_eq o.item item in
    let more = device_objects (map (own_device rows) controls) in
    find-append test (objects_of_device (own_device rows control)) more
    ∙ ap (λ (found : Option NamedObject). option_or found (find test more))
    (All-head (λ c. named_in (own_device rows c) item ≡ None) control controls none)
    ∙ devices_none rows item controls
    (All-tail (λ c. named_in (own_device rows c) item ≡ None) control controls none)

no_object : (found : Option NamedObject) → None ≡ object_of found → found ≡ None
no_object None e = refl
no_object (Some o) e = absurd cc

some_object : (found more : Option NamedObject) (object : Object) → Some object ≡ object_of found
    → Some object ≡ object_of (option_or found more)
some_object None more object e = absurd cc
some_object (Some o) more object e = e

-- what was found among all is what is found from here on
module _ (rows : CentreRows) (item : List ℕ) (controls : List Control) (found : Option NamedObject)
    (i : ℕ) (control : Control) (within : i < length controls)
    (is : control ≡ get_or controls i control)
    (before : found ≡ find (λ o. bytes_eq o.item item) (devices_from rows i controls)) where
  by_parts : found ≡ option_or (named_in (own_device rows control) item)
      (find (λ o. bytes_eq o.item item) (devices_from rows (i + 1) controls))
  by_parts =
      let more : drop i controls ≡ control ∷ drop (i + 1) controls =
      rw (add-one i) (drop-cons controls i control within
      ∙ ap (λ (c : Control). c ∷ drop (suc i) controls) (sym is)) in
      before
      ∙ ap (λ (those : List Control). find (λ o. bytes_eq o.item item)
      (device_objects (map (own_device rows) those))) more
      ∙ find-append (λ (o : NamedObject). bytes_eq o.item item)
      (objects_of_device (own_device rows control)) (devices_from rows (i + 1) controls)

  pub device_found : (object : Object)
      → Some object ≡ object_of (named_in (own_device rows control) item)
      → Some object ≡ object_of found
  device_found object here =
      some_object (named_in (own_device rows control) item)
      (find (λ o. bytes_eq o.item item) (devices_from rows (i + 1) controls)) object here
      ∙ ap object_of (sym by_parts)

  pub device_passed : None ≡ object_of (named_in (own_device rows control) item)
      → found ≡ find (λ o. bytes_eq o.item item) (devices_from rows (i + 1) controls)
  device_passed none =
      by_parts
      ∙ ap (λ (o : Option NamedObject). option_or o
      (find (λ o. bytes_eq o.item item) (devices_from rows (i + 1) controls)))
      (no_object (named_in (own_device rows control) item) none)

-- ---- names with an end are identifiers

name_is_short : (name : List ℕ) → is_name name ≡ true → length name ≤ NAME_LIMIT
name_is_short [] named = absurd (false≢true named)
name_is_short (first ∷ more) named =
    leb-true (length (first ∷ more)) NAME_LIMIT (and_parts _ _ (and_parts _ _ named).0).1

pub IsIdentifier-end : (name end : List ℕ) → is_name name ≡ true → length end ≤ 8
    → list_all is_visible_octet end ≡ true → IsIdentifier (name ++ end)
IsIdentifier-end [] end named short visible = absurd (false≢true named)
IsIdentifier-end (first ∷ more) end named short visible =
    let name = first ∷ more in
    let few : length name ≤ NAME_LIMIT = name_is_short name named in
    let long : length (name ++ end) ≡ length name + length end = length-append name end in
    let all : list_all is_visible_octet (name ++ end) ≡ true =
    list_all-append is_visible_octet name end
    ∙ and_from (list_all is_visible_octet name) (list_all is_visible_octet end)
    (IsVisible-from_name name named).1 visible in
    (omega (arith, long), (omega (arith, long, few, short), all))

pub IsIdentifier-device : (d : OwnDevice) → is_name d.row.name ≡ true
    → All (λ o. IsIdentifier o.item) (objects_of_device d)
IsIdentifier-device d named =
    let Well : NamedObject → Type 0 = λ o. IsIdentifier o.item in
    let name = d.row.name in
    let own : IsIdentifier name =
    subst IsIdentifier (append-nil name) (IsIdentifier-end name [] named (omega arith) refl) in
    let more = with_selection d d.row.direct in
    All-cons Well (named_by false name (control_point d)) (tag_object d ∷ more) own
    (All-cons Well (tag_object d) more
    (IsIdentifier-end name (codes "_TAG") named (omega arith) refl) (by d.row.direct))
  where
    by : (direct : Bool) → All (λ (o : NamedObject). IsIdentifier o.item) (with_selection d direct)
    by true = All-nil (λ (o : NamedObject). IsIdentifier o.item)
    by false =
        All-cons (λ (o : NamedObject). IsIdentifier o.item)
        (named_by false (d.row.name ++ codes "_SBO") (selection d)) (timeout_object d ∷ [])
        (IsIdentifier-end d.row.name (codes "_SBO") named (omega arith) refl)
        (All-cons (λ (o : NamedObject). IsIdentifier o.item) (timeout_object d) []
        (IsIdentifier-end d.row.name (codes "_TIMEOUT") named (omega arith) refl)
        (All-nil (λ (o : NamedObject). IsIdentifier o.item)))

pub IsIdentifier-devices : (rows : CentreRows) (controls : List Control) → IsCentre rows
    → All (λ control. control.device < length rows.devices) controls
    → All (λ o. IsIdentifier o.item) (device_objects (map (own_device rows) controls))
IsIdentifier-devices rows [] lawful there = All-nil (λ (o : NamedObject). IsIdentifier o.item)
IsIdentifier-devices rows (control ∷ controls) lawful there =
    All-append (λ (o : NamedObject). IsIdentifier o.item)
    (objects_of_device (own_device rows control))
    (device_objects (map (own_device rows) controls))
    (IsIdentifier-device (own_device rows control)
    (lawful.devices control.device no_device
    (All-head (λ (c : Control). c.device < length rows.devices) control controls there)).named)
    (IsIdentifier-devices rows controls lawful
    (All-tail (λ (c : Control). c.device < length rows.devices) control controls there))

-- ---- the names of the objects of devices, one behind another

abbrev pub items_of : List NamedObject → List (List ℕ)
items_of those = map (λ o. o.item) those

devices_more : (rows : CentreRows) (controls : List Control) (i : ℕ) (control : Control)
    → i < length controls → control ≡ get_or controls i control
    → device_objects (map (own_device rows) (take (i + 1) controls))
    ≡ device_objects (map (own_device rows) (take i controls))
    ++ objects_of_device (own_device rows control)
devices_more rows controls i control within is =
    let d = own_device rows control in
    let so_far = map (own_device rows) (take i controls) in
    ap (λ (those : List Control). device_objects (map (own_device rows) those))
    (take_more controls i control within ∙ ap (λ (c : Control). take i controls ++ c ∷ []) (sym is))
    ∙ ap device_objects (map-append (own_device rows) (take i controls) (control ∷ []))
    ∙ flat_map-append objects_of_device so_far (d ∷ [])
    ∙ ap (λ (those : List NamedObject). device_objects so_far ++ those)
    (append-nil (objects_of_device d))

pub device_listed : (rows : CentreRows) (controls : List Control) (i : ℕ) (control : Control)
    (names more : List (List ℕ)) → i < length controls → control ≡ get_or controls i control
    → names ≡ items_of (device_objects (map (own_device rows) (take i controls)))
    → more ≡ names ++ items_of (objects_of_device (own_device rows control))
    → more ≡ items_of (device_objects (map (own_device rows) (take (i + 1) controls)))
device_listed rows controls i control names more within is so_far pushed =
    let d = own_device rows control in
    pushed ∙ ap (λ (ns : List (List ℕ)). ns ++ items_of (objects_of_device d)) so_far
    ∙ sym (map-append (λ (o : NamedObject). o.item)
    (device_objects (map (own_device rows) (take i controls))) (objects_of_device d))
    ∙ ap items_of (sym (devices_more rows controls i control within is))

-- a name behind some that were appended
appended : (old some : List (List ℕ)) (name : List ℕ) (names more : List (List ℕ))
    → names ≡ old ++ some → more ≡ names ++ name ∷ [] → more ≡ old ++ (some ++ name ∷ [])
appended old some name names more so_far pushed =
    pushed ∙ ap (λ (ns : List (List ℕ)). ns ++ name ∷ []) so_far
    ∙ append_assoc old some (name ∷ [])

-- those of one device, appended in turn
module _ (row : DeviceRow) (tag : Bool) (old first second : List (List ℕ))
    (own : first ≡ old ++ (row.name ++ []) ∷ [])
    (tagged : second ≡ first ++ (row.name ++ codes "_TAG") ∷ []) where
  both : second ≡ old ++ (row.name ∷ (row.name ++ codes "_TAG") ∷ [])
  both =
      appended old (row.name ∷ []) (row.name ++ codes "_TAG") first second
      (own ∙ ap (λ (n : List ℕ). old ++ n ∷ []) (append-nil row.name)) tagged

  pub direct_listed : row.direct ≡ true
      → second ≡ old ++ items_of (objects_of_device (record { row = row; tag = tag }))
  direct_listed direct = both ∙ rw direct refl

  pub selected_listed : (third fourth : List (List ℕ)) → row.direct ≡ false
      → third ≡ second ++ (row.name ++ codes "_SBO") ∷ []
      → fourth ≡ third ++ (row.name ++ codes "_TIMEOUT") ∷ []
      → fourth ≡ old ++ items_of (objects_of_device (record { row = row; tag = tag }))
  selected_listed third fourth direct sbo late =
      let front = row.name ∷ (row.name ++ codes "_TAG") ∷ [] in
      appended old (front ++ (row.name ++ codes "_SBO") ∷ []) (row.name ++ codes "_TIMEOUT") third
      fourth (appended old front (row.name ++ codes "_SBO") second third both sbo) late
      ∙ rw direct refl
