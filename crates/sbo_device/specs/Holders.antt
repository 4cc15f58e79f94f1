-- Who holds a device, and which operates are permitted, told of each association by itself from the
-- moves of the device.
use Rattle.std.specs.Prelude.{◌≡◌, ◌≢◌, ◌⊎◌, ℕ, ◌+◌, ◌<◌, ◌≤◌, ℤ, pos, ◌≤ℤ◌, true, false, List, []}
use Rattle.std.specs.Prelude.{◌∷◌}
use Rattle.sbo_device.specs.declared.key.Key.{Key}
use Rattle.sbo_device.specs.declared.kind.CommandKind.{CommandKind}
use Rattle.sbo_device.specs.declared.kind.CommandKind.TheVariants.{Command, Setpoint}
use Rattle.sbo_device.specs.declared.device.TheConstants.{OPEN_AND_CLOSE_INHIBITED}
use Rattle.sbo_device.specs.declared.device.TheConstants.{CLOSE_INHIBITED}
use Rattle.sbo_device.specs.Moves.{ControlPoint, DeviceMove}
use Rattle.sbo_device.specs.Moves.{selected, operated, closed, ticked, tagged}
use Rattle.sbo_device.specs.States.{tag_of}

-- a value that a device takes: 0 or 1 of a command, from the lowest to the highest of a setpoint
abbrev pub Takes : CommandKind → ℤ → Type 0
Takes Command value = (value ≡ pos 0) ⊎ (value ≡ pos 1)
Takes (Setpoint low high) value = (low ≤ℤ value) × (value ≤ℤ high)

-- a tag allows a value
abbrev pub Allows : ℕ → CommandKind → ℤ → Type 0
Allows tag Command value =
    (tag ≢ OPEN_AND_CLOSE_INHIBITED) × (tag ≡ CLOSE_INHIBITED → value ≢ pos 1)
Allows tag (Setpoint low high) value = tag ≢ OPEN_AND_CLOSE_INHIBITED

-- who holds a device until when
abbrev pub Holding : Type 1
Holding = Key → ℕ → Type 0

-- An association may take a device: it isn't direct, nobody else holds it, and its tag isn't that
-- which inhibits all.
abbrev pub MayTake : ControlPoint → ℕ → Holding → Key → Type 0
MayTake point tag holds key =
    (point.direct ≡ false) × ((other : Key) (until : ℕ) → holds other until → other ≡ key)
    × (tag ≢ OPEN_AND_CLOSE_INHIBITED)

-- An association may operate a device: the device is direct or held by it, the value is in its
-- list, and its tag allows the value.
abbrev pub MayOperate : ControlPoint → ℕ → Holding → Key → ℤ → Type 0
MayOperate point tag holds key value =
    ((point.direct ≡ true) ⊎ ((until : ℕ) × holds key until)) × Takes point.kind value
    × Allows tag point.kind value

-- After these moves, the newest first, an association holds a device until a moment: it selected
-- the device when it might take it, or held it before, and what came then ended no hold of it.
abbrev pub Holds : ControlPoint → List DeviceMove → Key → ℕ → Type 0
Holds point [] key until = ⊥
Holds point (selected by now ∷ moves) key until =
    (MayTake point (tag_of moves).tag (Holds point moves) by × (by ≡ key)
    × (until ≡ now + point.span))
    ⊎ (¬ MayTake point (tag_of moves).tag (Holds point moves) by × Holds point moves key until)
Holds point (operated by value ∷ moves) key until =
    Holds point moves key until
    × ¬ MayOperate point (tag_of moves).tag (Holds point moves) by value
Holds point (closed by ∷ moves) key until = Holds point moves key until × (by ≢ key)
Holds point (ticked now ∷ moves) key until = Holds point moves key until × (now < until)
Holds point (tagged tag ∷ moves) key until = Holds point moves key until

-- after these moves an association may operate a device with this value
abbrev pub IsPermitted : ControlPoint → List DeviceMove → Key → ℤ → Type 0
IsPermitted point moves key value =
    MayOperate point (tag_of moves).tag (Holds point moves) key value

-- what ends the hold of an association until a moment: a permitted operate of its own, its close,
-- and the clock that stands at that moment or a later one
abbrev pub EndsHold : ControlPoint → List DeviceMove → Key → ℕ → DeviceMove → Type 0
EndsHold point moves key until (selected by now) = ⊥
EndsHold point moves key until (operated by value) = (by ≡ key) × IsPermitted point moves by value
EndsHold point moves key until (closed by) = by ≡ key
EndsHold point moves key until (ticked now) = until ≤ now
EndsHold point moves key until (tagged tag) = ⊥

-- an association that selects anew what it holds holds it until another moment
abbrev pub IsExtended : ControlPoint → List DeviceMove → Key → DeviceMove → Type 0
IsExtended point moves key move =
    (now : ℕ) × (move ≡ selected key now) × Holds point (move ∷ moves) key (now + point.span)
