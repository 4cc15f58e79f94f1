-- What is due, computed on worked slots, apart from all code.
use Rattle.std.proofs.Common.{◌≡◌, ℕ, true, false, replicate, Some, None, refl}
use Rattle.tase_points.specs.declared.body.Body.TheVariants.{State}
use Rattle.transfer_sets.specs.declared.noted.Noted.{Noted}
use Rattle.transfer_sets.specs.declared.wish.Wish.{Wish}
use Rattle.transfer_sets.specs.Wishes.{empty_wish, may_enable, base_of}
use Rattle.transfer_sets.specs.SlotState.{SlotState, new_slot, enabled_by, noted_at}
use Rattle.transfer_sets.specs.Due.{conditions_due}

-- every two seconds
abbrev each_two : Wish
each_two = record empty_wish { interval = 2; conditions = 128 }

abbrev pub running : SlotState
running = enabled_by each_two 10000

not_after_one_second : conditions_due running 10000 11000 ≡ 0
not_after_one_second = refl

after_two_seconds : conditions_due running 11000 12000 ≡ 128
after_two_seconds = refl

not_again_at_once : conditions_due running 12000 12999 ≡ 0
not_again_at_once = refl

once_for_several_multiples : conditions_due running 12000 19000 ≡ 128
once_for_several_multiples = refl

not_at_the_base_itself : conditions_due running 9999 10000 ≡ 0
not_at_the_base_itself = refl

-- a start in the future is the base
abbrev starting : SlotState
starting = enabled_by (record each_two { start = 20 }) 10000

base_is_the_start : starting.base ≡ 20000
base_is_the_start = refl

not_before_the_start : conditions_due starting 10000 21999 ≡ 0
not_before_the_start = refl

after_the_start : conditions_due starting 21000 22000 ≡ 128
after_the_start = refl

a_start_that_is_over : base_of (record each_two { start = 9 }) 10000 ≡ 10000
a_start_that_is_over = refl

-- three seconds after the first of several changes
abbrev on_change : Wish
on_change = record empty_wish { buffer = 3; conditions = 32; rbe = true }

abbrev pub changed : SlotState
changed = record (enabled_by on_change 20000) { first = noted_at 21000 (noted_at 20000 None) }

first_change_is_kept : changed.first ≡ Some 20000
first_change_is_kept = refl

not_within_the_buffer : conditions_due changed 20000 22999 ≡ 0
not_within_the_buffer = refl

after_the_buffer : conditions_due changed 22000 23000 ≡ 32
after_the_buffer = refl

-- to enable anew clears the change, and begins the times anew
abbrev anew : SlotState
anew = enabled_by changed.wish 22500

cleared : anew.first ≡ None
cleared = refl

nothing_left : conditions_due anew 22500 30000 ≡ 0
nothing_left = refl

-- every change told: 499 within the buffer make none due, 500 do, and so do 501; once the buffer
-- has run out some are enough
abbrev pub all_told : Wish
all_told = record on_change { all_changes = true }

abbrev noted : Noted
noted = record {
  member = 4;
  value = record { body = State 1; flags = 0; seconds = 21; millis = 0 };
  cov = 7;
}

abbrev pub with_notes : Wish → ℕ → SlotState
with_notes w n = record (enabled_by w 20000) { first = Some 21000; noted = replicate n noted }

not_of_499 : conditions_due (with_notes all_told 499) 21000 22000 ≡ 0
not_of_499 = refl

of_500 : conditions_due (with_notes all_told 500) 21000 22000 ≡ 32
of_500 = refl

of_501 : conditions_due (with_notes all_told 501) 21000 22000 ≡ 32
of_501 = refl

of_499_after_the_buffer : conditions_due (with_notes all_told 499) 21000 24000 ≡ 32
of_499_after_the_buffer = refl

of_500_after_the_buffer : conditions_due (with_notes all_told 500) 21000 24000 ≡ 32
of_500_after_the_buffer = refl

-- 500 make none due without every change told, without the condition, and while not enabled
not_without_all : conditions_due (with_notes on_change 500) 21000 22000 ≡ 0
not_without_all = refl

not_without_rbe : conditions_due (with_notes (record all_told { rbe = false }) 500) 21000 22000 ≡ 0
not_without_rbe = refl

not_without_condition :
    conditions_due (with_notes (record all_told { conditions = 128; interval = 9 }) 500) 21000 22000
    ≡ 0
not_without_condition = refl

not_while_off :
    conditions_due (record (with_notes all_told 500) { wish = all_told }) 21000 22000 ≡ 0
not_while_off = refl

-- both at once, and none of a slot that isn't enabled
abbrev pub both : Wish
both = record empty_wish { interval = 2; integrity = 3; conditions = 192 }

both_at_six_seconds : conditions_due (enabled_by both 10000) 15000 16000 ≡ 192
both_at_six_seconds = refl

not_requested :
    conditions_due (enabled_by (record both { conditions = 64 }) 10000) 15000 16000 ≡ 64
not_requested = refl

not_enabled : conditions_due (record new_slot { wish = both }) 0 100000 ≡ 0
not_enabled = refl

-- what may be enabled
no_interval : may_enable (record empty_wish { conditions = 128 }) ≡ false
no_interval = refl

with_interval : may_enable each_two ≡ true
with_interval = refl

no_integrity : may_enable (record each_two { conditions = 192 }) ≡ false
no_integrity = refl

no_blocks : may_enable (record each_two { block = true }) ≡ false
no_blocks = refl

not_critical : may_enable (record each_two { critical = true }) ≡ false
not_critical = refl
