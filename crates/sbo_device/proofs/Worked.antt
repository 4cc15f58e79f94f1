-- The definition of a device computed on worked moves, apart from all code.
use Rattle.std.proofs.Common.{◌≡◌, true, false, List, [], ◌∷◌, map, Some, None, pos, refl}
use Rattle.std.specs.Prelude.{codes}
use Rattle.sbo_device.specs.declared.key.Key.{Key}
use Rattle.sbo_device.specs.declared.kind.CommandKind.TheVariants.{Command, Setpoint}
use Rattle.sbo_device.specs.declared.answer.Select.TheVariants as select
use Rattle.sbo_device.specs.declared.answer.Operate.TheVariants as operate
use Rattle.sbo_device.specs.Moves.{ControlPoint, DeviceMove, selected, operated, closed, ticked}
use Rattle.sbo_device.specs.Moves.{tagged, Tag}
use Rattle.sbo_device.specs.States.{state_in, select_answer, operate_answer, ended_by}
use Rattle.sbo_device.specs.States.{tag_of, hold_of, permits, hold_ended}
use Rattle.sbo_device.specs.Banks.{DeviceRecord, record_in, moved, device_at, moved_at, order_by}

abbrev breaker : ControlPoint
breaker = record { kind = Command; direct = false; span = 30000 }

abbrev first : Key
first = record { peer = 0; ordinal = 0 }

abbrev second : Key
second = record { peer = 1; ordinal = 4 }

-- selected at 40,000, it is held until 70,000
abbrev chosen : List DeviceMove
chosen = selected first 40000 ∷ []

held_until : (state_in breaker chosen).hold ≡ Some (record { key = first; until = 70000 })
held_until = refl

refused_before_its_end :
    select_answer (state_in breaker (ticked 69999 ∷ chosen)) second ≡ select.HeldByOther
refused_before_its_end = refl

free_at_its_end : (state_in breaker (ticked 70000 ∷ chosen)).hold ≡ None
free_at_its_end = refl

handed_back_at_its_end :
    ended_by (ticked 70000) (state_in breaker chosen)
    ≡ Some (record { key = first; until = 70000 })
handed_back_at_its_end = refl

kept_before_its_end : ended_by (ticked 69999) (state_in breaker chosen) ≡ None
kept_before_its_end = refl

granted_to_another_then :
    select_answer (state_in breaker (ticked 70000 ∷ chosen)) second ≡ select.Granted
granted_to_another_then = refl

-- a select by the holder extends the hold
extended : (state_in breaker (selected first 60000 ∷ chosen)).hold
    ≡ Some (record { key = first; until = 90000 })
extended = refl

kept_against_another : (state_in breaker (selected second 60000 ∷ chosen)).hold
    ≡ Some (record { key = first; until = 70000 })
kept_against_another = refl

-- a refused operate keeps the hold: of a value that a command doesn't have, of another association,
-- and under a tag
bad_value : operate_answer (state_in breaker chosen) first (pos 2) ≡ operate.BadValue
bad_value = refl

bad_value_keeps : (state_in breaker (operated first (pos 2) ∷ chosen)).hold
    ≡ Some (record { key = first; until = 70000 })
bad_value_keeps = refl

not_holder : operate_answer (state_in breaker chosen) second (pos 1) ≡ operate.NotHolder
not_holder = refl

not_holder_keeps : (state_in breaker (operated second (pos 1) ∷ chosen)).hold
    ≡ Some (record { key = first; until = 70000 })
not_holder_keeps = refl

ordered : operate_answer (state_in breaker chosen) first (pos 1) ≡ operate.Ordered
ordered = refl

ordered_frees : (state_in breaker (operated first (pos 1) ∷ chosen)).hold ≡ None
ordered_frees = refl

abbrev closing : Tag
closing = record { tag = 2; reason = codes "work" }

abbrev all : Tag
all = record { tag = 1; reason = codes "test" }

-- tag 2 refuses the value 1 of a command and takes 0; of a setpoint it refuses nothing
closing_inhibited :
    operate_answer (state_in breaker (tagged closing ∷ chosen)) first (pos 1) ≡ operate.Inhibited
closing_inhibited = refl

opening_ordered :
    operate_answer (state_in breaker (tagged closing ∷ chosen)) first (pos 0) ≡ operate.Ordered
opening_ordered = refl

abbrev setpoint : ControlPoint
setpoint = record { kind = Setpoint (pos 1) (pos 9); direct = true; span = 0 }

setting_ordered :
    operate_answer (state_in setpoint (tagged closing ∷ [])) first (pos 1) ≡ operate.Ordered
setting_ordered = refl

setting_inhibited :
    operate_answer (state_in setpoint (tagged all ∷ [])) first (pos 1) ≡ operate.Inhibited
setting_inhibited = refl

setting_too_high : operate_answer (state_in setpoint []) first (pos 10) ≡ operate.BadValue
setting_too_high = refl

-- a tag doesn't end a hold, but refuses the next select
tag_keeps : (state_in breaker (tagged all ∷ chosen)).hold
    ≡ Some (record { key = first; until = 70000 })
tag_keeps = refl

select_inhibited : select_answer (state_in breaker (tagged all ∷ chosen)) first ≡ select.Inhibited
select_inhibited = refl

select_inhibited_keeps : (state_in breaker (selected first 60000 ∷ tagged all ∷ chosen)).hold
    ≡ Some (record { key = first; until = 70000 })
select_inhibited_keeps = refl

-- the close of the holder frees the device, that of another association doesn't
closed_frees : (state_in breaker (closed first ∷ chosen)).hold ≡ None
closed_frees = refl

close_of_another_keeps : (state_in breaker (closed second ∷ chosen)).hold
    ≡ Some (record { key = first; until = 70000 })
close_of_another_keeps = refl

-- a direct device is never held
direct_is_free : (state_in setpoint (selected first 40000 ∷ [])).hold ≡ None
direct_is_free = refl

-- what the moves tell: the selection that stands, whether an operate is permitted, the selection
-- that a tick ends, and the last tag with its reason
held : hold_of breaker chosen ≡ Some (record { key = first; until = 70000 })
held = refl

permitted : permits breaker chosen first (pos 1) ≡ true
permitted = refl

not_to_another : permits breaker chosen second (pos 1) ≡ false
not_to_another = refl

-- the second operate has no selection any more
not_twice : permits breaker (operated first (pos 1) ∷ chosen) first (pos 1) ≡ false
not_twice = refl

-- at the very tick that reaches its end a selection ends
permitted_one_before : permits breaker (ticked 69999 ∷ chosen) first (pos 0) ≡ true
permitted_one_before = refl

not_at_its_end : permits breaker (ticked 70000 ∷ chosen) first (pos 0) ≡ false
not_at_its_end = refl

ended_at_its_end : hold_ended breaker chosen 70000 ≡ Some (record { key = first; until = 70000 })
ended_at_its_end = refl

nothing_ended_before : hold_ended breaker chosen 69999 ≡ None
nothing_ended_before = refl

not_one_at_work : permits breaker (tagged closing ∷ chosen) first (pos 1) ≡ false
not_one_at_work = refl

zero_at_work : permits breaker (tagged closing ∷ chosen) first (pos 0) ≡ true
zero_at_work = refl

tag_at_work : tag_of (selected first 40000 ∷ tagged closing ∷ tagged all ∷ []) ≡ closing
tag_at_work = refl

no_tag_at_first : tag_of chosen ≡ record { tag = 0; reason = [] }
no_tag_at_first = refl

-- side by side: a move of one is none of the others, a close is one of all; an operate gives an
-- order once
abbrev both : List DeviceRecord
both = record_in breaker chosen ∷ record_in setpoint (tagged closing ∷ []) ∷ []

one_is_operated : moved_at 0 (operated first (pos 1)) both
    ≡ record_in breaker (operated first (pos 1) ∷ chosen) ∷ record_in setpoint (tagged closing ∷ [])
    ∷ []
one_is_operated = refl

all_are_closed : map (λ d. d.state.hold) (map (moved (closed first)) both) ≡ None ∷ None ∷ []
all_are_closed = refl

none_beyond : moved_at 2 (tagged all) both ≡ both
none_beyond = refl

order_given : order_by 0 first (pos 1) (device_at both 0).state
    ≡ record { device = 0; value = pos 1 } ∷ []
order_given = refl

given_once : order_by 0 first (pos 1)
    (device_at (moved_at 0 (operated first (pos 1)) both) 0).state
    ≡ []
given_once = refl

none_of_another : order_by 0 second (pos 1) (device_at both 0).state ≡ []
none_of_another = refl

reason_stands : (device_at (moved_at 0 (ticked 70000) both) 1).reason ≡ codes "work"
reason_stands = refl
