-- The devices that a node keeps, as a peer's table names them.
use Rattle.std.proofs.Common.{◌≡◌, ◌<◌, ℕ, suc, true, List, [], ◌∷◌, length, map, Some}
use Rattle.std.proofs.Common.{refl, sym, ap, ◌∙◌, subst, ⊎_elim, arith}
use Rattle.std.specs.List.{All}
use Rattle.std.proofs.lemmas.Bool.{cases_lt}
use Rattle.std.proofs.lemmas.List.{get_or_past, length-map}
use Rattle.mms_data.specs.ObjectName.{ObjectName}
use Rattle.bilateral.specs.declared.rows.Control.{Control}
use Rattle.bilateral.specs.Rows.{CentreRows, IsCentre, device_of, no_device, variant_of}
use Rattle.sbo_device.specs.Moves.{ControlPoint}
use Rattle.sbo_device.specs.Banks.{DeviceRecord, BankState, device_at}
use Rattle.sbo_device.proofs.OneHolder.{point_stays}
use Rattle.bilateral.specs.Words.Devices.{is_range}
use Rattle.tase_views.specs.Moves.{Move}
use Rattle.tase_views.specs.OwnTables.{OwnDevice, OwnTables, own_device, own_table}
use Rattle.tase_views.specs.OwnTables.{own_tables}
use Rattle.tase_views.specs.Objects.{control_point, object_named}
use Rattle.tase_views.specs.View.{View, steps_in}
use Rattle.tase_views.proofs.OwnDevices.{Each, named_is}
use Rattle.node_core.specs.Devices.DeviceBanks.{IsDeviceBank, row_control, moves_of_each}
use Rattle.node_core.specs.Devices.DeviceBanks.{number_of}
use Rattle.node_core.specs.Devices.DevicesSeen.{IsDeviceSeen, AreDevicesSeen}
use Rattle.node_core.proofs.OfDevices.Numbers.{control_at, number_found, control_within}
use Rattle.node_core.specs.Replies.DeviceWrites.{AreOfRows}
use Rattle.node_core.proofs.OfReplies.Operands.{AreRanged}

-- each is there
pub bank_many : (rows : CentreRows) (moves : List Move) (bank : BankState)
    → IsDeviceBank rows moves bank → length bank.devices ≡ length rows.devices
bank_many rows moves bank b = b.devices.many ∙ length-map rows.devices row_control

pub bank_rows : (rows : CentreRows) (moves : List Move) (bank : BankState)
    → IsDeviceBank rows moves bank → AreOfRows rows bank.devices
bank_rows rows moves bank b n within =
    let row = row_control (device_of rows n) in
    ap (λ (d : DeviceRecord). d.state.point) (b.devices.each n row (control_at rows n within))
    ∙ point_stays row (moves_of_each rows (steps_in rows (own_tables rows) moves) n)

-- and takes a range of 16 bits
pub bank_ranged : (rows : CentreRows) (moves : List Move) (bank : BankState) → IsCentre rows
    → IsDeviceBank rows moves bank → AreRanged bank.devices
bank_ranged rows moves bank lawful b n =
    ⊎_elim
    (λ there.
    let row = device_of rows n in
    let its = moves_of_each rows (steps_in rows (own_tables rows) moves) n in
    subst (λ (d : DeviceRecord). is_range d.state.point.kind ≡ true)
    (sym (b.devices.each n (row_control row) (control_at rows n there)))
    (subst (λ (point : ControlPoint). is_range point.kind ≡ true)
    (sym (point_stays (row_control row) its))
    (lawful.devices n no_device there).form.range))
    (λ past. subst (λ (d : DeviceRecord). is_range d.state.point.kind ≡ true)
    (sym (get_or_past bank.devices n _ (omega (arith, past, bank_many rows moves bank b)))) refl)
    (cases_lt n (length rows.devices))

-- a device is seen that a table names
abbrev pub IsSeenAt : CentreRows → OwnTables → View → ℕ → List DeviceRecord → OwnDevice → Type 0
IsSeenAt rows tables view peer devices d =
    IsDeviceSeen tables view peer d (device_at devices (number_of rows d))

each_seen : (rows : CentreRows) (tables : OwnTables) (view : View) (peer : ℕ)
    (devices : List DeviceRecord) (controls : List Control) → IsCentre rows
    → All (λ (c : Control). c.device < length rows.devices) controls
    → All (λ (c : Control). IsDeviceSeen tables view peer (own_device rows c)
    (device_at devices c.device)) controls
    → Each (IsSeenAt rows tables view peer devices) (map (own_device rows) controls)
each_seen rows tables view peer devices [] lawful there seen = tt
each_seen rows tables view peer devices (c ∷ controls) lawful there seen = (
  subst (λ (n : ℕ). IsDeviceSeen tables view peer (own_device rows c) (device_at devices n))
      (sym (number_found rows (own_device rows c) lawful
      (c.device, there 0 c (omega arith), refl)))
      (seen 0 c (omega arith)),
  each_seen rows tables view peer devices controls lawful
      (λ k d within. there (suc k) d (omega (arith, within)))
      (λ k d within. seen (suc k) d (omega (arith, within))),
)

-- that of a name
pub seen_named : (rows : CentreRows) (view : View) (peer variant : ℕ)
    (devices : List DeviceRecord) → IsCentre rows
    → AreDevicesSeen rows (own_tables rows peer) view peer (variant_of rows peer variant) devices
    → (name : ObjectName) (d : OwnDevice)
    → object_named (own_table rows (variant_of rows peer variant)) name ≡ Some (control_point d)
    → IsSeenAt rows (own_tables rows peer) view peer devices d
seen_named rows view peer variant devices lawful seen name d is =
    named_is (IsSeenAt rows (own_tables rows peer) view peer devices)
    (own_table rows (variant_of rows peer variant)) name (control_point d)
    (each_seen rows (own_tables rows peer) view peer devices
    (variant_of rows peer variant).controls lawful (control_within rows peer variant lawful) seen)
    is
