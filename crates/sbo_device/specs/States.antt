-- What the moves of a device make of it: its tag, who holds it until when, and which operates are
-- permitted.
use Rattle.std.specs.Prelude.{◌≡◌, ℕ, ◌+◌, ◌≤◌, ◌==◌, nat_le, ℤ, pos, int_le, Bool, false}
use Rattle.std.specs.Prelude.{not, ◌&&◌, ◌||◌, if◌then◌else◌, List, [], ◌∷◌, Option, Some, None}
use Rattle.std.specs.Prelude.{is_some}
use Rattle.std.specs.Ordering.{int_eq}
use Rattle.sbo_device.specs.declared.key.Key.{Key}
use Rattle.sbo_device.specs.declared.hold.Hold.{Hold}
use Rattle.sbo_device.specs.declared.kind.CommandKind.{CommandKind}
use Rattle.sbo_device.specs.declared.kind.CommandKind.TheVariants.{Command, Setpoint}
use Rattle.sbo_device.specs.declared.answer.Select.{Select}
use Rattle.sbo_device.specs.declared.answer.Select.TheVariants as select
use Rattle.sbo_device.specs.declared.answer.Operate.{Operate}
use Rattle.sbo_device.specs.declared.answer.Operate.TheVariants as operate
use Rattle.sbo_device.specs.declared.device.TheConstants.{SPAN_LIMIT, OPEN_AND_CLOSE_INHIBITED}
use Rattle.sbo_device.specs.declared.device.TheConstants.{CLOSE_INHIBITED}
use Rattle.sbo_device.specs.Moves.{ControlPoint, DeviceState, Tag, DeviceMove}
use Rattle.sbo_device.specs.Moves.{selected, operated, closed, ticked, tagged}

-- the span of a device that isn't direct
abbrev pub HasSpan : ControlPoint → Type 0
HasSpan point = point.direct ≡ false → (1 ≤ point.span) × (point.span ≤ SPAN_LIMIT)

-- whether two associations are one
abbrev pub same_key : Key → Key → Bool
same_key a b = (a.peer == b.peer) && (a.ordinal == b.ordinal)

-- whether this association holds the device
abbrev pub is_held_by : Key → Option Hold → Bool
is_held_by key None = false
is_held_by key (Some hold) = same_key hold.key key

-- whether another association holds the device
abbrev pub is_held_by_other : Key → Option Hold → Bool
is_held_by_other key None = false
is_held_by_other key (Some hold) = not (same_key hold.key key)

-- whether a hold ends at this moment or ended before
abbrev pub has_run_out : ℕ → Option Hold → Bool
has_run_out now None = false
has_run_out now (Some hold) = nat_le hold.until now

-- whether a value is in a device's list: 0 and 1 of a command, from the lowest to the highest of a
-- setpoint
abbrev pub takes : CommandKind → ℤ → Bool
takes Command value = int_eq value (pos 0) || int_eq value (pos 1)
takes (Setpoint low high) value = int_le low value && int_le value high

-- whether a tag inhibits a value: one tag every value, the other the value 1 of a command
abbrev pub inhibits : ℕ → CommandKind → ℤ → Bool
inhibits tag Command value =
    (tag == OPEN_AND_CLOSE_INHIBITED) || ((tag == CLOSE_INHIBITED) && int_eq value (pos 1))
inhibits tag (Setpoint low high) value = tag == OPEN_AND_CLOSE_INHIBITED

-- a select is granted where no other association holds the device and the tag doesn't inhibit all;
-- a direct device isn't selected
abbrev pub is_granted : DeviceState → Key → Bool
is_granted s key =
    not s.point.direct && not (is_held_by_other key s.hold)
    && not (s.tag == OPEN_AND_CLOSE_INHIBITED)

-- an operate is permitted where the device is direct or held by this association, the value is in
-- its list, and the tag doesn't inhibit it
abbrev pub is_permitted : DeviceState → Key → ℤ → Bool
is_permitted s key value =
    (s.point.direct || is_held_by key s.hold) && takes s.point.kind value
    && not (inhibits s.tag s.point.kind value)

-- the hold after a move: a granted select begins one or extends it; a permitted operate, the close
-- of the holder, and the moment of its end or a later one end it; nothing else changes it
abbrev pub hold_after : DeviceMove → DeviceState → Option Hold
hold_after (selected key now) s =
    if is_granted s key then Some (record { key = key; until = now + s.point.span }) else s.hold
hold_after (operated key value) s = if is_permitted s key value then None else s.hold
hold_after (closed key) s = if is_held_by key s.hold then None else s.hold
hold_after (ticked now) s = if has_run_out now s.hold then None else s.hold
hold_after (tagged tag) s = s.hold

-- the tag after a move
abbrev pub tag_after : DeviceMove → ℕ → ℕ
tag_after (selected key now) tag = tag
tag_after (operated key value) tag = tag
tag_after (closed key) tag = tag
tag_after (ticked now) tag = tag
tag_after (tagged new) tag = new.tag

abbrev pub after : DeviceMove → DeviceState → DeviceState
after move s =
    record { point = s.point; tag = tag_after move s.tag; hold = hold_after move s }

-- what these moves, the newest first, make of a device that was free and had no tag
abbrev pub state_in : ControlPoint → List DeviceMove → DeviceState
state_in point [] = record { point = point; tag = 0; hold = None }
state_in point (move ∷ moves) = after move (state_in point moves)

-- the last tag and its reason; before any, 0, which inhibits nothing, and no reason
abbrev pub tag_of : List DeviceMove → Tag
tag_of [] = record { tag = 0; reason = [] }
tag_of (tagged tag ∷ moves) = tag
tag_of (_ ∷ moves) = tag_of moves

-- the selection that stands: who holds the device, and until when
abbrev pub hold_of : ControlPoint → List DeviceMove → Option Hold
hold_of point moves = (state_in point moves).hold

-- whether an association's operate with this value is permitted
abbrev pub permits : ControlPoint → List DeviceMove → Key → ℤ → Bool
permits point moves key value = is_permitted (state_in point moves) key value

-- the hold that a move ends, if it ends one
abbrev pub ended_by : DeviceMove → DeviceState → Option Hold
ended_by move s = if is_some (hold_after move s) then None else s.hold

-- the answer to a select of a device that isn't direct
abbrev pub select_answer : DeviceState → Key → Select
select_answer s key =
    if is_held_by_other key s.hold then select.HeldByOther
    else if s.tag == OPEN_AND_CLOSE_INHIBITED then select.Inhibited
    else select.Granted

-- the answer to an operate
abbrev pub operate_answer : DeviceState → Key → ℤ → Operate
operate_answer s key value =
    if not (s.point.direct || is_held_by key s.hold) then operate.NotHolder
    else if not (takes s.point.kind value) then operate.BadValue
    else if inhibits s.tag s.point.kind value then operate.Inhibited
    else operate.Ordered

-- the selection that a tick to a moment ends, if it ends one
abbrev pub hold_ended : ControlPoint → List DeviceMove → ℕ → Option Hold
hold_ended point moves now = ended_by (ticked now) (state_in point moves)
