-- What a device is, what is known of it, and what may befall it.
use Rattle.std.specs.Prelude.{ℕ, ℤ, Bool, List, Option}
use Rattle.sbo_device.specs.declared.key.Key.{Key}
use Rattle.sbo_device.specs.declared.kind.CommandKind.{CommandKind}
use Rattle.sbo_device.specs.declared.hold.Hold.{Hold}

-- a device as its table has it: what it takes, whether it is operated without a selection, and for
-- how many milliseconds a selection holds it
pub record ControlPoint : Type 0 where
  pub kind : CommandKind
  pub direct : Bool
  pub span : ℕ

-- a device at a moment: its tag, and the selection that stands, if one does
pub record DeviceState : Type 0 where
  pub point : ControlPoint
  pub tag : ℕ
  pub hold : Option Hold

-- a tag and why the device was tagged (IEC 60870-6-802, tag)
pub record Tag : Type 0 where
  pub tag : ℕ
  pub reason : List ℕ

-- what an association does to a device: it selects it, operates it with a value, or tags it
pub data DeviceAct : Type 0 where
  selecting : DeviceAct
  operating : ℤ → DeviceAct
  tagging : Tag → DeviceAct

-- what may befall a device: an association selects it at a moment, in milliseconds since 1970, or
-- operates it with a value, or is closed; the clock stands at a moment; the device is tagged
pub data DeviceMove : Type 0 where
  selected : Key → ℕ → DeviceMove
  operated : Key → ℤ → DeviceMove
  closed : Key → DeviceMove
  ticked : ℕ → DeviceMove
  tagged : Tag → DeviceMove
