-- What a peer's own read leaves alike, and that its devices are seen as they are kept behind its
-- own write.
use Rattle.std.proofs.Common.{◌≡◌, ◌≢◌, ◌==◌, ℕ, ◌<◌, Bool, true, false, if◌then◌else◌, List}
use Rattle.std.proofs.Common.{◌∷◌, length, Option, Some, None, bytes_eq, subst, refl, sym, ap, ◌∙◌}
use Rattle.std.specs.Prelude.{option_map, option_and_then, slice_index_or}
use Rattle.std.specs.List.{cons_option}
use Rattle.std.proofs.lemmas.Bool.{false≢true, eqb-true, eq-eqb}
use Rattle.std.proofs.lemmas.List.{get_or-set_same, get_or-set_other}
use Rattle.std.proofs.lemmas.Slice.Eq.{bytes_eq-Decides}
use Rattle.mms_data.specs.Datum.{Datum}
use Rattle.mms_data.specs.ObjectName.{ObjectName}
use Rattle.bilateral.specs.declared.rows.Control.{Control}
use Rattle.bilateral.specs.Rows.{CentreRows, IsCentre, variants_of, variant_of, device_of}
use Rattle.sbo_device.specs.Moves.{selecting, DeviceMove, selected}
use Rattle.sbo_device.specs.States.{state_in, tag_of, select_answer}
use Rattle.sbo_device.specs.Banks.{DeviceRecord, device_at, moved}
use Rattle.sbo_device.proofs.HoldsEnd.{answered_alike}
use Rattle.tase_views.specs.Moves.{reads, writes}
use Rattle.tase_views.specs.OwnTables.{OwnDevice, OwnTables, own_device, own_table, own_tables}
use Rattle.tase_views.specs.OwnTables.{control_of}
use Rattle.tase_views.specs.Objects.{Object, constant, next_transfer_set, report_variable}
use Rattle.tase_views.specs.Objects.{indication_point, control_point, selection, device_tag}
use Rattle.tase_views.specs.Objects.{timeout, transfer_set, transfer_set_status, object_named}
use Rattle.tase_views.specs.Devices.{Deed, read_deed, deed_of, DeviceStep, step_of_deed, moment_of}
use Rattle.tase_views.specs.Devices.{done_by, device_moves}
use Rattle.tase_views.specs.View.{View, own, force, held, own_key, steps_seen, moves_seen}
use Rattle.tase_views.specs.View.{moment_in}
use Rattle.tase_views.specs.Answers.{device_state}
use Rattle.tase_views.proofs.InForce.{steps_seen-moment}
use Rattle.tase_views.proofs.DeviceRows.{IsRow}
use Rattle.node_core.specs.Devices.DeviceBanks.{number_of, devices_by}
use Rattle.node_core.specs.Devices.DevicesSeen.{AreDevicesSeen}
use Rattle.node_core.proofs.OfDevices.Numbers.{names_differ, number_is, row_of_deed, control_within}
use Rattle.node_core.proofs.OfDevices.SeenAlike.{key_of, IsKeptBy, kept_seen, seen_kept, moved_alike}

-- a read selects, or does nothing

reads_select : (P : Option Deed → Type 0) → P None
    → ((d : OwnDevice) → P (Some (record { device = d; act = selecting })))
    → (object : Option Object) → P (option_and_then read_deed object)
reads_select P none selects None = none
reads_select P none selects (Some (selection d)) = selects d
reads_select P none selects (Some (constant value shape)) = none
reads_select P none selects (Some next_transfer_set) = none
reads_select P none selects (Some (report_variable v)) = none
reads_select P none selects (Some (indication_point p)) = none
reads_select P none selects (Some (control_point d)) = none
reads_select P none selects (Some (device_tag d)) = none
reads_select P none selects (Some (timeout d)) = none
reads_select P none selects (Some (transfer_set s)) = none
reads_select P none selects (Some (transfer_set_status s)) = none

-- the moves of a device behind a deed of an own association
abbrev behind : ℕ → List ℕ → List DeviceStep → Option Deed → List DeviceMove
behind ordinal item steps deed =
    device_moves item (cons_option (option_map (step_of_deed (own_key ordinal)) deed) steps)

-- and where it is on this device, and where it isn't
abbrev behind_if : List DeviceMove → DeviceMove → Bool → List DeviceMove
behind_if moves move t = cons_option (if t then Some move else None) moves

pub selects_alike : (tables : OwnTables) (view : View) (ordinal : ℕ) (name : ObjectName)
    (d : OwnDevice)
    → select_answer (device_state tables (own ordinal (reads name) ∷ view) d) (own_key ordinal)
    ≡ select_answer (device_state tables view d) (own_key ordinal)
selects_alike tables view ordinal name d =
    reads_select (λ (deed : Option Deed).
    select_answer
    (state_in (control_of d) (behind ordinal d.row.name (steps_seen tables view) deed))
    (own_key ordinal) ≡ select_answer (device_state tables view d) (own_key ordinal)) refl
    (λ other. by (bytes_eq other.row.name d.row.name)) (object_named (held tables view) name)
  where
    by : (t : Bool)
        → select_answer (state_in (control_of d) (behind_if (moves_seen tables view d.row.name)
        (selected (own_key ordinal) (moment_of (steps_seen tables view))) t)) (own_key ordinal)
        ≡ select_answer (device_state tables view d) (own_key ordinal)
    by true =
        answered_alike (device_state tables view d) (own_key ordinal)
        (moment_of (steps_seen tables view))
    by false = refl

pub tags_alike : (tables : OwnTables) (view : View) (ordinal : ℕ) (name : ObjectName)
    (item : List ℕ) → tag_of (moves_seen tables (own ordinal (reads name) ∷ view) item)
    ≡ tag_of (moves_seen tables view item)
tags_alike tables view ordinal name item =
    reads_select (λ (deed : Option Deed).
    tag_of (behind ordinal item (steps_seen tables view) deed)
    ≡ tag_of (moves_seen tables view item)) refl
    (λ other. by (bytes_eq other.row.name item)) (object_named (held tables view) name)
  where
    by : (t : Bool)
        → tag_of (behind_if (moves_seen tables view item)
        (selected (own_key ordinal) (moment_of (steps_seen tables view))) t)
        ≡ tag_of (moves_seen tables view item)
    by true = refl
    by false = refl

-- a write is on the device of a control, or on another one

module _ (rows : CentreRows) (steps : List DeviceStep) (peer ordinal : ℕ) (control : Control) where
  abbrev device_name : List ℕ
  device_name = (device_of rows control.device).name

  -- the devices behind a deed, and the moves of this one where the deed is on it or isn't
  abbrev devices_after : Option Deed → List DeviceRecord → List DeviceRecord
  devices_after deed devices =
      devices_by rows (moment_of steps) (key_of peer ordinal) deed devices

  abbrev Kept : List DeviceMove → DeviceRecord → Type 0
  Kept moves kept = IsKeptBy peer (own_device rows control) moves kept

  abbrev moves_if : Deed → Bool → List DeviceMove
  moves_if deed t =
      behind_if (device_moves device_name steps)
      (done_by (own_key ordinal) (moment_of steps) deed.act) t

  deed_kept : (deed : Option Deed) (devices : List DeviceRecord) → IsCentre rows
      → length devices ≡ length rows.devices → control.device < length rows.devices
      → ((one : Deed) → deed ≡ Some one → IsRow rows one.device)
      → Kept (device_moves device_name steps) (device_at devices control.device)
      → Kept (behind ordinal device_name steps deed)
      (device_at (devices_after deed devices) control.device)
  deed_kept None devices lawful many there is kept = kept
  deed_kept (Some deed) devices lawful many there is kept =
      by (control.device == number_of rows deed.device) refl
    where
      its : (number_of rows deed.device < length rows.devices)
          × (deed.device.row ≡ device_of rows (number_of rows deed.device))
      its = number_is rows deed.device lawful (is deed refl)

      by_test : (t : Bool) (new : DeviceRecord) → bytes_eq deed.device.row.name device_name ≡ t
          → Kept (moves_if deed t) new → Kept (behind ordinal device_name steps (Some deed)) new
      by_test t new e kept_by = subst (λ (b : Bool). Kept (moves_if deed b) new) (sym e) kept_by

      by : (t : Bool) → (control.device == number_of rows deed.device) ≡ t
          → Kept (behind ordinal device_name steps (Some deed))
          (device_at (devices_after (Some deed) devices) control.device)
      by true e =
          let n = number_of rows deed.device in
          let same : control.device ≡ n = eqb-true control.device n e in
          let move = done_by (key_of peer ordinal) (moment_of steps) deed.act in
          let new : device_at (devices_after (Some deed) devices) control.device
          ≡ moved move (device_at devices control.device) =
          subst (λ (i : ℕ). device_at (devices_after (Some deed) devices) i
          ≡ moved move (device_at devices i)) (sym same)
          (get_or-set_same devices n (moved move (device_at devices n)) _
          (subst (λ (l : ℕ). n < l) (sym many) its.0)) in
          by_test true _
          ((bytes_eq-Decides deed.device.row.name device_name).1
          (ap (λ r. r.name) its.1 ∙ ap (λ (i : ℕ). (device_of rows i).name) (sym same)))
          (subst (Kept (moves_if deed true)) (sym new)
          (moved_alike peer ordinal (moment_of steps) deed.act (own_device rows control)
          (device_moves device_name steps) (device_at devices control.device) kept))
      by false e =
          let n = number_of rows deed.device in
          let apart : control.device ≢ n =
          λ same. false≢true (sym e ∙ eq-eqb control.device n same) in
          by_test false _
          (ap (λ r. bytes_eq r.name device_name) its.1
          ∙ names_differ rows lawful n control.device its.0 there apart)
          (subst (Kept (device_moves device_name steps))
          (sym (get_or-set_other devices n control.device _ _ apart)) kept)

pub written_alike : (rows : CentreRows) (view : View) (peer variant ordinal : ℕ)
    (name : ObjectName) (value : Datum) (devices : List DeviceRecord) → IsCentre rows
    → variant < length (variants_of rows peer)
    → length devices ≡ length rows.devices
    → held (own_tables rows peer) view ≡ own_table rows (variant_of rows peer variant)
    → AreDevicesSeen rows (own_tables rows peer) view peer (variant_of rows peer variant) devices
    → AreDevicesSeen rows (own_tables rows peer) (own ordinal (writes name value) ∷ view)
    peer (variant_of rows peer variant)
    (devices_by rows (moment_in view) (record { peer = peer; ordinal = ordinal })
    (deed_of (held (own_tables rows peer) view) (writes name value)) devices)
written_alike rows view peer variant ordinal name value devices lawful there many same seen k other
    within =
    let tables = own_tables rows peer in
    let steps = steps_seen tables view in
    let control = slice_index_or (variant_of rows peer variant).controls k other in
    let d = own_device rows control in
    let deed = deed_of (held tables view) (writes name value) in
    seen_kept tables (own ordinal (writes name value) ∷ view) peer d _
    (subst (λ (now : ℕ). IsKeptBy peer d (behind ordinal d.row.name steps deed)
    (device_at (devices_by rows now (key_of peer ordinal) deed devices) control.device))
    (steps_seen-moment tables view)
    (deed_kept rows steps peer ordinal control deed devices lawful many
    (control_within rows peer variant lawful k other within)
    (λ one. row_of_deed rows peer (force view) (writes name value) one lawful)
    (kept_seen tables view peer d (device_at devices control.device) (seen k other within))))
