-- What a node keeps of its devices is what its history has made of them.
use Rattle.std.specs.Prelude.{◌≡◌, ℕ, List, [], ◌∷◌, ◌++◌, map, Option, Some, None}
use Rattle.std.specs.Option.{unwrap_or}
use Rattle.bilateral.specs.declared.rows.DeviceRow.{DeviceRow}
use Rattle.bilateral.specs.Rows.{CentreRows, device_of, place_of_device}
use Rattle.sbo_device.specs.declared.key.Key.{Key}
use Rattle.sbo_device.specs.declared.order.Order.{Order}
use Rattle.sbo_device.specs.Moves.{ControlPoint, DeviceState, DeviceAct, operating, DeviceMove}
use Rattle.sbo_device.specs.Banks.{DeviceRecord, BankState, StandBy, device_at, moved_at, order_by}
use Rattle.tase_views.specs.Moves.{Act, opens, takes, Move, acts, updates, asks, chooses, stops}
use Rattle.tase_views.specs.OwnTables.{OwnDevice, OwnTable, own_tables}
use Rattle.tase_views.specs.Devices.{Deed, deed_of, DeviceStep, done_by, device_moves}
use Rattle.tase_views.specs.View.{steps_in}
use Rattle.tase_views.specs.Orders.{orders_left}

abbrev pub row_control : DeviceRow → ControlPoint
row_control row = record { kind = row.kind; direct = row.direct; span = row.span }

-- the devices of a centre, by their numbers
abbrev pub controls_of : CentreRows → List ControlPoint
controls_of rows = map row_control rows.devices

-- the moves of each of them
abbrev pub moves_of_each : CentreRows → List DeviceStep → ℕ → List DeviceMove
moves_of_each rows steps n = device_moves (device_of rows n).name steps

-- a bank has each device as these moves of the node have left it, and the orders that are left
pub record IsDeviceBank (rows : CentreRows) (moves : List Move) (bank : BankState) : Type 0 where
  pub devices : StandBy (controls_of rows)
      (moves_of_each rows (steps_in rows (own_tables rows) moves)) bank.devices
  pub orders : bank.orders ≡ orders_left rows (own_tables rows) moves

-- ---- acts of an association

-- the number of a device of a table
abbrev pub number_of : CentreRows → OwnDevice → ℕ
number_of rows d = unwrap_or (place_of_device rows d.row.name) 0

-- devices behind what an association does to one of them at a moment
abbrev pub devices_by : CentreRows → ℕ → Key → Option Deed → List DeviceRecord
    → List DeviceRecord
devices_by rows now key None devices = devices
devices_by rows now key (Some deed) devices =
    moved_at (number_of rows deed.device) (done_by key now deed.act) devices

-- the orders that it gives
abbrev pub orders_given : ℕ → Key → DeviceAct → DeviceState → List Order
orders_given n key (operating value) state = order_by n key value state
orders_given n key _ state = []

abbrev pub orders_given_by : CentreRows → Key → Option Deed → List DeviceRecord → List Order
orders_given_by rows key None devices = []
orders_given_by rows key (Some deed) devices =
    let n = number_of rows deed.device in
    orders_given n key deed.act (device_at devices n).state

module _ (rows : CentreRows) (table : OwnTable) (now : ℕ) (key : Key) where
  -- devices behind acts of an association with this table, the newest first, and the orders that
  -- these give
  abbrev pub devices_behind : List Act → List DeviceRecord → List DeviceRecord
  devices_behind [] devices = devices
  devices_behind (act ∷ these) devices =
      devices_by rows now key (deed_of table act) (devices_behind these devices)

  abbrev pub orders_behind : List Act → List DeviceRecord → List Order
  orders_behind [] devices = []
  orders_behind (act ∷ these) devices =
      orders_behind these devices
      ++ orders_given_by rows key (deed_of table act) (devices_behind these devices)

  pub record HaveActed (these : List Act) (old new : BankState) : Type 0 where
    pub devices : new.devices ≡ devices_behind these old.devices
    pub orders : new.orders ≡ old.orders ++ orders_behind these old.devices

-- ---- moves of the node that are nothing to devices and orders

abbrev pub IsIdle : Move → Type 0
IsIdle (acts key opens) = Unit {0}
IsIdle (acts key takes) = Unit {0}
IsIdle (updates point value) = Unit {0}
IsIdle (asks peer slot) = Unit {0}
IsIdle (chooses peer variant) = Unit {0}
IsIdle stops = Unit {0}
IsIdle _ = ⊥
