-- The devices of a node as a peer's view shows them.
use Rattle.std.specs.Prelude.{◌≡◌, ◌↔◌, ℕ, List, Option, Some, None}
use Rattle.std.specs.List.{All}
use Rattle.bilateral.specs.declared.rows.Table.{Table}
use Rattle.bilateral.specs.Rows.{CentreRows}
use Rattle.sbo_device.specs.declared.hold.Hold.{Hold}
use Rattle.sbo_device.specs.States.{tag_of}
use Rattle.sbo_device.specs.Banks.{DeviceRecord, device_at, tag_shown}
use Rattle.tase_views.specs.OwnTables.{OwnDevice, OwnTables, own_device, control_of}
use Rattle.tase_views.specs.View.{View, moves_seen}
use Rattle.tase_views.specs.Answers.{device_state}

-- a hold as a peer sees it: the same, by a number that is 0 for an association of its own alone
abbrev pub IsHoldSeen : ℕ → Option Hold → Option Hold → Type 0
IsHoldSeen peer None seen = seen ≡ None
IsHoldSeen peer (Some hold) seen =
    (number : ℕ)
    × (seen ≡ Some (record {
      key = record { peer = number; ordinal = hold.key.ordinal };
      until = hold.until;
    }))
    × ((number ≡ 0) ↔ (hold.key.peer ≡ peer))

-- a device is kept as the view of this peer, which has these tables, shows it
pub record IsDeviceSeen (tables : OwnTables) (view : View) (peer : ℕ) (d : OwnDevice)
    (kept : DeviceRecord) : Type 0 where
  pub point : kept.state.point ≡ control_of d
  pub hold : IsHoldSeen peer kept.state.hold (device_state tables view d).hold
  pub tag : tag_shown kept ≡ tag_of (moves_seen tables view d.row.name)

-- all devices of a table are
abbrev pub AreDevicesSeen : CentreRows → OwnTables → View → ℕ → Table → List DeviceRecord
    → Type 0
AreDevicesSeen rows tables view peer table devices =
    All
    (λ control. IsDeviceSeen tables view peer (own_device rows control)
    (device_at devices control.device)) table.controls
