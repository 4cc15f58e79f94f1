-- What reads and writes of a peer do to the devices of the centre, and what comes of it.
use Rattle.std.specs.Prelude.{◌≡◌, ℕ, ◌<◌, List, [], ◌∷◌, ◌++◌, length, None}
use Rattle.mms_data.specs.ObjectName.{ObjectName}
use Rattle.bilateral.specs.Rows.{CentreRows, device_of}
use Rattle.sbo_device.specs.declared.key.Key.{Key}
use Rattle.sbo_device.specs.declared.order.Order.{Order}
use Rattle.sbo_device.specs.Moves.{operated, tagged}
use Rattle.sbo_device.specs.States.{operate_answer}
use Rattle.sbo_device.specs.Banks.{DeviceRecord, device_at, moved_at, order_by}
use Rattle.tase_views.specs.Moves.{reads}
use Rattle.tase_views.specs.OwnTables.{OwnTable}
use Rattle.tase_views.specs.Devices.{deed_of}
use Rattle.tase_views.specs.Answers.{operate_written}
use Rattle.node_core.specs.Devices.DeviceBanks.{row_control, devices_by}
use Rattle.node_core.specs.declared.slots.writes.Asked.{Asked}
use Rattle.node_core.specs.declared.slots.writes.Asked.TheVariants.{Answered, Operated, Tagged}

-- each device is kept that the centre has by its number
abbrev pub AreOfRows : CentreRows → List DeviceRecord → Type 0
AreOfRows rows devices =
    (n : ℕ) → n < length rows.devices
    → (device_at devices n).state.point ≡ row_control (device_of rows n)

-- devices behind reads at a moment, one after another, of which some select one
abbrev pub devices_read : CentreRows → OwnTable → ℕ → Key → List ObjectName → List DeviceRecord
    → List DeviceRecord
devices_read rows table now key [] devices = devices
devices_read rows table now key (name ∷ names) devices =
    devices_read rows table now key names
    (devices_by rows now key (deed_of table (reads name)) devices)

module _ (key : Key) where
  -- what is left to be done of what a write asks, when that is done which it asks of a device
  abbrev pub left_of : Asked → List DeviceRecord → Asked
  left_of (Operated n number) devices =
      Answered (operate_written (operate_answer (device_at devices n).state key number))
  left_of (Tagged n tag reason) devices = Answered None
  left_of asked devices = asked

  -- the devices then, and the orders that are given
  abbrev pub devices_asked : Asked → List DeviceRecord → List DeviceRecord
  devices_asked (Operated n number) devices = moved_at n (operated key number) devices
  devices_asked (Tagged n tag reason) devices =
      moved_at n (tagged (record { tag = tag; reason = reason })) devices
  devices_asked asked devices = devices

  abbrev pub orders_asked : Asked → List DeviceRecord → List Order
  orders_asked (Operated n number) devices = order_by n key number (device_at devices n).state
  orders_asked asked devices = []

  -- each behind those before it
  abbrev pub all_left : List Asked → List DeviceRecord → List Asked
  all_left [] devices = []
  all_left (asked ∷ more) devices =
      left_of asked devices ∷ all_left more (devices_asked asked devices)

  abbrev pub all_devices : List Asked → List DeviceRecord → List DeviceRecord
  all_devices [] devices = devices
  all_devices (asked ∷ more) devices = all_devices more (devices_asked asked devices)

  abbrev pub all_orders : List Asked → List DeviceRecord → List Order
  all_orders [] devices = []
  all_orders (asked ∷ more) devices =
      orders_asked asked devices ++ all_orders more (devices_asked asked devices)
