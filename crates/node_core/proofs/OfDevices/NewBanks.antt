-- A bank to which the devices of a centre are pushed one by one.
use Rattle.std.proofs.Common.{◌≡◌, ℕ, ◌+◌, ◌<◌, ◌≤◌, List, [], ◌∷◌, ◌++◌, take, length}
use Rattle.std.proofs.Common.{subst, refl, sym, ap, ◌∙◌, add-one, Some}
use Rattle.std.specs.List.{slice_get}
use Rattle.std.proofs.lemmas.List.{take_all, get_or-map, length-map}
use Rattle.std.proofs.lemmas.Option.{get_or_from_slice_get}
use Rattle.std.proofs.Math.Seq.{take-suc}
use Rattle.bilateral.specs.declared.rows.DeviceRow.{DeviceRow}
use Rattle.bilateral.specs.Rows.{CentreRows, IsCentre, no_device}
use Rattle.sbo_device.specs.Moves.{ControlPoint, DeviceMove}
use Rattle.sbo_device.specs.States.{HasSpan}
use Rattle.sbo_device.specs.Banks.{BankState, StandBy, record_in}
use Rattle.sbo_device.proofs.BankMoves.{pushed_stand, none_moved}
use Rattle.tase_views.specs.OwnTables.{own_tables}
use Rattle.tase_views.specs.View.{steps_in}
use Rattle.node_core.specs.Devices.DeviceBanks.{row_control, controls_of, moves_of_each, IsDeviceBank}

abbrev unmoved : ℕ → List DeviceMove
unmoved n = []

-- a bank with so many of the devices, and no orders
pub record HasFirst (rows : CentreRows) (many : ℕ) (bank : BankState) : Type 0 where
  pub devices : StandBy (take many (controls_of rows)) (λ n. []) bank.devices
  pub orders : bank.orders ≡ []

pub has_span : (rows : CentreRows) (n : ℕ) (row : DeviceRow) → IsCentre rows
    → n < length rows.devices → slice_get rows.devices n ≡ Some row → HasSpan (row_control row)
has_span rows n row lawful within is =
    subst (λ (r : DeviceRow). HasSpan (row_control r))
    (get_or_from_slice_get rows.devices n row no_device is)
    (λ direct. let its = lawful.devices n no_device within in (its.some_span direct, its.span))

pub has_more : (rows : CentreRows) (n : ℕ) (row : DeviceRow) (old new : BankState)
    → n < length rows.devices → slice_get rows.devices n ≡ Some row
    → new ≡ record old { devices = old.devices ++ record_in (row_control row) [] ∷ [] }
    → HasFirst rows n old → HasFirst rows (n + 1) new
has_more rows n row old new within is pushed first =
    let points = controls_of rows in
    let there : n < length points =
    subst (λ (many : ℕ). n < many) (sym (length-map rows.devices row_control)) within in
    let more : take (n + 1) points ≡ take n points ++ row_control row ∷ [] =
    ap (λ (k : ℕ). take k points) (add-one n)
    ∙ take-suc points n (row_control no_device) there
    ∙ ap (λ (point : ControlPoint). take n points ++ point ∷ [])
    (get_or-map row_control rows.devices n no_device (row_control no_device) within
    ∙ ap row_control (get_or_from_slice_get rows.devices n row no_device is)) in
    subst (HasFirst rows (n + 1)) (sym pushed)
    (record {
      devices = subst (λ (known : List ControlPoint). StandBy known (λ k. [])
          (old.devices ++ record_in (row_control row) [] ∷ [])) (sym more)
          (pushed_stand (take n points) unmoved old.devices (row_control row) first.devices refl);
      orders = first.orders;
    })

pub has_all : (rows : CentreRows) (n : ℕ) (bank : BankState) → length rows.devices ≤ n
    → HasFirst rows n bank → IsDeviceBank rows [] bank
has_all rows n bank past first =
    let points = controls_of rows in
    let all : take n points ≡ points =
    take_all n points
    (subst (λ (many : ℕ). many ≤ n) (sym (length-map rows.devices row_control)) past) in
    record {
      devices = none_moved points unmoved
          (moves_of_each rows (steps_in rows (own_tables rows) [])) bank.devices (λ k. refl)
          (subst (λ (known : List ControlPoint). StandBy known unmoved bank.devices) all
          first.devices);
      orders = first.orders;
    }
