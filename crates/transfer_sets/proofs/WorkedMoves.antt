-- A transfer set by what befell it, computed on worked moves, apart from all code.
use Rattle.std.proofs.Common.{◌≡◌, ℕ, true, false, if◌then◌else◌, List, [], ◌∷◌, ◌++◌, replicate}
use Rattle.std.proofs.Common.{Some, None, arith, refl}
use Rattle.std.specs.Prelude.{codes, bytes_eq}
use Rattle.tase_points.specs.declared.body.Body.TheVariants.{State}
use Rattle.tase_points.specs.Sample.{Sample}
use Rattle.transfer_sets.specs.declared.noted.Noted.{Noted}
use Rattle.transfer_sets.specs.declared.wish.Wish.{Wish}
use Rattle.transfer_sets.specs.Wishes.{empty_wish}
use Rattle.transfer_sets.specs.SlotState.{SlotState, with_status}
use Rattle.transfer_sets.specs.Due.{PassesMultiple, conditions_due}
use Rattle.transfer_sets.specs.SlotMoves.{SlotMove, handed_out, wishes, changes, reports}
use Rattle.transfer_sets.specs.SlotMoves.{Places, owner_in, slot_in, has_untold}

-- the data set has LOAD1 at the places 0 and 2, and FREQ1 at 1
abbrev places : Places
places point =
    if bytes_eq point (codes "LOAD1") then 0 ∷ 2 ∷ []
    else if bytes_eq point (codes "FREQ1") then 1 ∷ []
    else []

abbrev slot : List SlotMove → SlotState
slot moves = slot_in places moves

-- a state that is off, valid
abbrev off : Sample
off = record { body = State 1; flags = 0; seconds = 20; millis = 0 }

-- a change of a point, after which it has changed so often
abbrev change : List ℕ → ℕ → ℕ → SlotMove
change point moment count =
    changes (record { point = point; moment = moment; value = off; count = count })

-- every two seconds, enabled at 10,000
abbrev each_two : Wish
each_two = record empty_wish { interval = 2; conditions = 128; status = true }

abbrev running : List SlotMove
running = wishes each_two 10000 ∷ handed_out 3 ∷ []

owned : owner_in running ≡ Some 3
owned = refl

nothing_wished : (slot (handed_out 3 ∷ [])).wish ≡ empty_wish
nothing_wished = refl

first_multiple : conditions_due (slot running) 11000 12000 ≡ 128
first_multiple = refl

not_before : conditions_due (slot running) 10000 11999 ≡ 0
not_before = refl

-- the tick to 19,000 passes three multiples: they are due once
passes_several : PassesMultiple 10000 2000 12000 19000
passes_several = (2, omega arith, omega arith, omega arith)

once_for_several : conditions_due (slot (reports ∷ running)) 12000 19000 ≡ 128
once_for_several = refl

-- three seconds after the first of two changes of a member; another point's change doesn't count
abbrev on_change : Wish
on_change = record empty_wish { buffer = 3; conditions = 32; rbe = true; status = true }

abbrev changed : List SlotMove
changed =
    change (codes "LOAD1") 21000 8 ∷ change (codes "LOAD1") 20000 7 ∷ change (codes "BUS1") 19000 3
    ∷ wishes on_change 18000 ∷ []

first_is_noted : (slot changed).first ≡ Some 20000
first_is_noted = refl

within_the_buffer : conditions_due (slot changed) 20000 22999 ≡ 0
within_the_buffer = refl

after_the_buffer : conditions_due (slot changed) 22000 23000 ≡ 32
after_the_buffer = refl

told_by_its_report : has_untold (reports ∷ changed) (codes "LOAD1") ≡ false
told_by_its_report = refl

-- a wish with status true enables anew, though the slot has this very wish: the times count from
-- then, and no change is noted
enabled_anew : slot (wishes on_change 22500 ∷ changed)
    ≡ record { wish = on_change; base = 22500; first = None; noted = [] }
enabled_anew = refl

-- a wish with status false is kept, and nothing is due
abbrev switched_off : List SlotMove
switched_off = wishes (with_status false each_two) 11000 ∷ running

kept_while_off : (slot switched_off).wish ≡ with_status false each_two
kept_while_off = refl

nothing_due_then : conditions_due (slot switched_off) 11000 19000 ≡ 0
nothing_due_then = refl

-- a start to come is the base
starts_later : (slot (wishes (record each_two { start = 20 }) 10000 ∷ [])).base ≡ 20000
starts_later = refl

-- where every change is told, each is noted at each place that names its point, in order, with the
-- value and the count just after it
abbrev all_told : Wish
all_told = record on_change { all_changes = true }

abbrev note : ℕ → ℕ → Noted
note member cov = record { member = member; value = off; cov = cov }

abbrev busy : List SlotMove
busy =
    change (codes "LOAD1") 21000 8 ∷ change (codes "BUS1") 20600 4 ∷ change (codes "FREQ1") 20500 2
    ∷ change (codes "LOAD1") 20000 7 ∷ wishes all_told 18000 ∷ []

noted_in_order : (slot busy).noted ≡ note 0 7 ∷ note 2 7 ∷ note 1 2 ∷ note 0 8 ∷ note 2 8 ∷ []
noted_in_order = refl

noted_since_the_first : (slot busy).first ≡ Some 20000
noted_since_the_first = refl

told_by_reports : (slot (reports ∷ busy)).noted ≡ []
told_by_reports = refl

begun_anew_by_a_wish : (slot (wishes all_told 22000 ∷ busy)).noted ≡ []
begun_anew_by_a_wish = refl

-- 499 changes of one place make none due within the buffer, and 500 do; of two places 250 do
abbrev many : ℕ → List ℕ → List SlotMove
many n point = replicate n (change point 20000 7) ++ wishes all_told 18000 ∷ []

not_of_499_changes : conditions_due (slot (many 499 (codes "FREQ1"))) 20000 21000 ≡ 0
not_of_499_changes = refl

of_500_changes : conditions_due (slot (many 500 (codes "FREQ1"))) 20000 21000 ≡ 32
of_500_changes = refl

not_of_249_changes : conditions_due (slot (many 249 (codes "LOAD1"))) 20000 21000 ≡ 0
not_of_249_changes = refl

of_250_changes : conditions_due (slot (many 250 (codes "LOAD1"))) 20000 21000 ≡ 32
of_250_changes = refl

not_of_other_points : conditions_due (slot (many 500 (codes "BUS1"))) 20000 21000 ≡ 0
not_of_other_points = refl
