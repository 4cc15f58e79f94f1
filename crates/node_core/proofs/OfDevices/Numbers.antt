-- The numbers of the devices of a centre: names and numbers tell the same.
use Rattle.std.proofs.Common.{◌≡◌, ◌≢◌, ℕ, zero, suc, ◌<◌, Bool, true, false, List, length}
use Rattle.std.proofs.Common.{Option, Some, unwrap_or, bytes_eq, refl, sym, ap, ◌∙◌, subst, arith}
use Rattle.std.proofs.Common.{⊎_elim, inl, inr}
use Rattle.std.specs.List.{All, slice_get}
use Rattle.std.proofs.lemmas.Bool.{cases_lt, cases_order}
use Rattle.std.proofs.lemmas.List.{get_or_past, get_or-map, length-map}
use Rattle.std.proofs.lemmas.Option.{slice_get-get_or}
use Rattle.std.proofs.lemmas.Slice.Eq.{bytes_eq-Decides}
use Rattle.bilateral.specs.declared.rows.DeviceRow.{DeviceRow}
use Rattle.bilateral.specs.declared.rows.Control.{Control}
use Rattle.bilateral.specs.Rows.{CentreRows, IsCentre, IsControlling, variant_of, further_of}
use Rattle.bilateral.specs.Rows.{no_table, device_of, no_device}
use Rattle.bilateral.proofs.Positions.{found}
use Rattle.sbo_device.specs.Moves.{ControlPoint}
use Rattle.tase_views.specs.Moves.{Act}
use Rattle.tase_views.specs.OwnTables.{OwnDevice, own_tables, table_in}
use Rattle.tase_views.specs.Devices.{Deed, deed_of}
use Rattle.tase_views.proofs.OwnDevices.{deed_is}
use Rattle.tase_views.proofs.DeviceRows.{IsRow, table_rows}
use Rattle.node_core.specs.Devices.DeviceBanks.{row_control, controls_of, number_of}

not_same : (a b : List ℕ) → a ≢ b → bytes_eq a b ≡ false
not_same a b apart = by (bytes_eq a b) refl
  where
    by : (t : Bool) → bytes_eq a b ≡ t → bytes_eq a b ≡ false
    by true e = absurd (apart ((bytes_eq-Decides a b).0 e))
    by false e = e

-- devices with different numbers have different names
pub names_differ : (rows : CentreRows) → IsCentre rows → (n other : ℕ) → n < length rows.devices
    → other < length rows.devices → other ≢ n
    → bytes_eq (device_of rows n).name (device_of rows other).name ≡ false
names_differ rows lawful n other here there apart =
    not_same (device_of rows n).name (device_of rows other).name
    (λ same. elim (cases_order n other) [
      | inl equal ↦ apart (sym equal)
      | inr rest ↦ elim rest [
        | inl below ↦ lawful.device_names n other no_device below there same
        | inr above ↦ lawful.device_names other n no_device above here (sym same)
      ]
    ])

pub number_found : (rows : CentreRows) (d : OwnDevice) → IsCentre rows → (row : IsRow rows d)
    → number_of rows d ≡ row.0
number_found rows d lawful row =
    let named : d.row.name ≡ (device_of rows row.0).name = ap (λ r. r.name) row.2 in
    ap (λ (place : Option ℕ). unwrap_or place 0)
    (found (λ (r : DeviceRow). bytes_eq r.name d.row.name) rows.devices row.0 no_device row.1
    ((bytes_eq-Decides (device_of rows row.0).name d.row.name).1 (sym named))
    (λ k below. not_same (device_of rows k).name d.row.name (λ same.
    lawful.device_names k row.0 no_device below row.1 (same ∙ named))))

-- the number of a device that is a row is that of the row
pub number_is : (rows : CentreRows) (d : OwnDevice) → IsCentre rows → IsRow rows d
    → (number_of rows d < length rows.devices) × (d.row ≡ device_of rows (number_of rows d))
number_is rows d lawful row =
    subst (λ (n : ℕ). (n < length rows.devices) × (d.row ≡ device_of rows n))
    (sym (number_found rows d lawful row)) (row.1, row.2)

pub control_at : (rows : CentreRows) (n : ℕ) → n < length rows.devices
    → slice_get (controls_of rows) n ≡ Some (row_control (device_of rows n))
control_at rows n within =
    slice_get-get_or (controls_of rows) n (row_control no_device)
    (subst (λ (many : ℕ). n < many) (sym (length-map rows.devices row_control)) within)
    ∙ ap (λ (point : ControlPoint). Some point)
    (get_or-map row_control rows.devices n no_device (row_control no_device) within)

-- an act by a table of a peer is on a row
pub row_of_deed : (rows : CentreRows) (peer n : ℕ) (act : Act) (deed : Deed) → IsCentre rows
    → deed_of (table_in (own_tables rows peer) n) act ≡ Some deed → IsRow rows deed.device
row_of_deed rows peer n act deed lawful is =
    deed_is (IsRow rows) (table_in (own_tables rows peer) n) act deed
    (table_rows rows peer n lawful) is

-- no table of a peer controls a device that isn't there

nothing : (many : ℕ) → IsControlling many no_table
nothing many = record {
  known = λ k other within. absurd (omega (arith, within));
  once = λ i k other below within. absurd (omega (arith, within));
  limit = omega arith;
}

controlling : (rows : CentreRows) (peer variant : ℕ) → IsCentre rows
    → IsControlling (length rows.devices) (variant_of rows peer variant)
controlling rows peer zero lawful =
    ⊎_elim (λ there. lawful.controls peer no_table there)
    (λ past. subst (IsControlling (length rows.devices))
    (sym (get_or_past rows.tables peer no_table past)) (nothing (length rows.devices)))
    (cases_lt peer (length rows.tables))
controlling rows peer (suc k) lawful =
    ⊎_elim (λ there. (lawful.further peer).controls k no_table there)
    (λ past. subst (IsControlling (length rows.devices))
    (sym (get_or_past (further_of rows peer) k no_table past)) (nothing (length rows.devices)))
    (cases_lt k (length (further_of rows peer)))

pub control_within : (rows : CentreRows) (peer variant : ℕ) → IsCentre rows
    → All (λ (control : Control). control.device < length rows.devices)
    (variant_of rows peer variant).controls
control_within rows peer variant lawful = (controlling rows peer variant lawful).known
