-- The devices of a centre, side by side, each with the reason of its tag, and the orders that are
-- left.
use Rattle.std.specs.Prelude.{◌≡◌, ◌≢◌, ℕ, ◌<◌, ℤ, if◌then◌else◌, true, List, [], ◌∷◌, Some, length}
use Rattle.std.specs.Prelude.{slice_get, slice_set, slice_index_or}
use Rattle.sbo_device.specs.declared.key.Key.{Key}
use Rattle.sbo_device.specs.declared.kind.CommandKind.TheVariants.{Command}
use Rattle.sbo_device.specs.declared.order.Order.{Order}
use Rattle.sbo_device.specs.Moves.{ControlPoint, DeviceState, Tag, DeviceMove, tagged}
use Rattle.sbo_device.specs.States.{after, state_in, tag_of, is_permitted}

-- a device and why it was tagged last
pub record DeviceRecord : Type 0 where
  pub state : DeviceState
  pub reason : List ℕ

-- the devices by their numbers from 0, the orders that are left, the oldest first, and how many can
-- be added without memory
pub record BankState : Type 0 where
  pub devices : List DeviceRecord
  pub orders : List Order
  pub spare : ℕ

-- what these moves, the newest first, make of a device that was free and had no tag
abbrev pub record_in : ControlPoint → List DeviceMove → DeviceRecord
record_in point moves =
    record { state = state_in point moves; reason = (tag_of moves).reason }

-- the reason after a move
abbrev pub reason_after : DeviceMove → List ℕ → List ℕ
reason_after (tagged tag) reason = tag.reason
reason_after _ reason = reason

abbrev pub moved : DeviceMove → DeviceRecord → DeviceRecord
moved move device =
    record { state = after move device.state; reason = reason_after move device.reason }

-- the tag of a device with its reason
abbrev pub tag_shown : DeviceRecord → Tag
tag_shown device = record { tag = device.state.tag; reason = device.reason }

-- the device with a number; where none stands, a direct one that is free
abbrev pub device_at : List DeviceRecord → ℕ → DeviceRecord
device_at devices n =
    slice_index_or devices n (record_in (record { kind = Command; direct = true; span = 0 }) [])

-- of devices the one with this number is behind a move, and the others stay
abbrev pub moved_at : ℕ → DeviceMove → List DeviceRecord → List DeviceRecord
moved_at n move devices = slice_set devices n (moved move (device_at devices n))

abbrev pub with_move : ℕ → DeviceMove → BankState → BankState
with_move n move bank = record bank { devices = moved_at n move bank.devices }

-- the order that an operate of a device gives: one where it is permitted
abbrev pub order_by : ℕ → Key → ℤ → DeviceState → List Order
order_by n key value s =
    if is_permitted s key value then record { device = n; value = value } ∷ [] else []

-- each device stands as its own moves have left it, the newest first
pub record StandBy (points : List ControlPoint) (moves : ℕ → List DeviceMove)
    (devices : List DeviceRecord) : Type 0 where
  pub many : length devices ≡ length points
  pub each : (n : ℕ) (point : ControlPoint) → slice_get points n ≡ Some point
      → device_at devices n ≡ record_in point (moves n)

-- of so many devices a move more of the one with this number, and none of the others
pub record HasMoved (many n : ℕ) (move : DeviceMove) (before behind : ℕ → List DeviceMove) :
    Type 0 where
  pub here : behind n ≡ move ∷ before n
  pub others : (other : ℕ) → other < many → other ≢ n → behind other ≡ before other
