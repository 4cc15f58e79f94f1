-- Data sets, transfer sets and their reports computed on worked moves, apart from all code.
use Rattle.std.proofs.Common.{◌≡◌, ℕ, List, [], ◌∷◌, Some, None, true, false, pos, refl}
use Rattle.std.specs.Prelude.{codes, replicate, length, map}
use Rattle.std.specs.Fmt.{digits}
use Rattle.tase_points.specs.declared.body.Body.TheVariants.{State, Discrete}
use Rattle.mms_data.specs.Datum.{boolean, integer, unsigned, bits, text, structure, data_of}
use Rattle.mms_data.specs.declared.outcome.Outcome.{Outcome}
use Rattle.mms_data.specs.declared.outcome.Outcome.TheVariants.{Good, Fail}
use Rattle.mms_data.specs.ObjectName.{ObjectName}
use Rattle.transfer_sets.specs.declared.wish.Wish.{Wish}
use Rattle.transfer_sets.specs.SlotState.{SlotState}
use Rattle.transfer_sets.specs.Due.{conditions_due}
use Rattle.transfer_sets.proofs.DueNumbers.{some_number}
use Rattle.tase_views.specs.declared.call.CallKind.TheVariants.{Define, Delete, Read}
use Rattle.tase_views.specs.declared.reply.ReplyKind.TheVariants.{Results, Written, Defined}
use Rattle.tase_views.specs.declared.reply.ReplyKind.TheVariants.{Deleted}
use Rattle.tase_views.specs.Moves.{Act, opens, takes, closes, reads, writes, deletes, Move, acts}
use Rattle.tase_views.specs.Moves.{asks, ticks}
use Rattle.tase_views.specs.Answers.{reply_to}
use Rattle.tase_views.specs.OwnTables.{table_in}
use Rattle.tase_views.specs.Reports.{slot_reports, AreDueAt}
use Rattle.tase_views.specs.declared.reply.ReportKind.{ReportKind}
use Rattle.tase_views.specs.declared.reply.ReportKind.TheVariants.{Set, Variables}
use Rattle.tase_views.specs.Reports.{slot_state}
use Rattle.tase_views.proofs.NodeSample.{tables_of, seen_of}
use Rattle.tase_views.proofs.NodeSample.{by_a, by_b, in_a, in_b, told_a, told_b, taken_a, taken_b}
use Rattle.tase_views.proofs.NodeSample.{read_one, write_one, update, octet, first_slot, wished_a}
use Rattle.tase_views.proofs.NodeSample.{wished_b, wish_a, wish_b}

-- every two seconds, of a data set with two report variables and a point
abbrev each_two : Wish
each_two = record (wish_a (codes "S1")) { interval = 2; conditions = 128 }

abbrev opened : List Move
opened = by_a opens ∷ ticks 10000 ∷ []

abbrev running : List Move
running =
    wished_a each_two (codes "S1")
    (in_a (codes "Transfer_Set_Name") ∷ in_a (codes "DSConditions_Detected")
    ∷ in_a (codes "BUS1") ∷ []) opened

set_is_defined :
    told_a opened (Define (in_a (codes "S1")) (in_a (codes "BUS1") ∷ [])) ≡ Defined
unfolding digits
set_is_defined = refl

slot_is_handed_out : told_a opened (read_one (in_a (codes "Next_DSTransfer_Set")))
    ≡ (Results None (Good first_slot ∷ []))
unfolding digits
slot_is_handed_out = refl

nothing_after_one_second : taken_a (ticks 11000 ∷ running) ≡ []
unfolding digits
nothing_after_one_second = refl

abbrev report : ReportKind
report =
    Set (in_a (codes "S1"))
    (Good first_slot ∷ Good (bits (record { count = 5; octets = 128 ∷ [] })) ∷ Good (octet 48) ∷ [])

report_after_two_seconds :
    taken_a (ticks 12000 ∷ by_a takes ∷ ticks 11000 ∷ running) ≡ (report ∷ [])
unfolding digits
report_after_two_seconds = refl

one_report_after_several_multiples :
    taken_a (ticks 19000 ∷ by_a takes ∷ ticks 12000 ∷ running) ≡ (report ∷ [])
unfolding digits
one_report_after_several_multiples = refl

-- what the report variables tell: the transfer set, the moment in seconds, the conditions, no code
abbrev all_variables : List ObjectName
all_variables =
    in_a (codes "Transfer_Set_Name") ∷ in_a (codes "Transfer_Set_Time_Stamp")
    ∷ in_a (codes "DSConditions_Detected") ∷ in_a (codes "Event_Code_Detected") ∷ []

variables_are_told :
    taken_a (ticks 12500 ∷ wished_a each_two (codes "S1") all_variables opened)
    ≡ (Set (in_a (codes "S1"))
    (Good first_slot ∷ Good (integer (pos 12))
    ∷ Good (bits (record { count = 5; octets = 128 ∷ [] })) ∷ Good (integer (pos 0)) ∷ []) ∷ [])
unfolding digits
variables_are_told = refl

-- three seconds after the first of two changes, only the member that changed: its value and the
-- count of its changes
abbrev on_change : Wish
on_change = record (wish_a (codes "S2")) { buffer = 3; conditions = 32; rbe = true }

abbrev changed : List Move
changed =
    update 1 (Discrete (pos 5)) 102 ∷ update 1 (Discrete (pos 9)) 101
    ∷ wished_a on_change (codes "S2") (in_a (codes "LOAD1") ∷ [])
    (update 1 (Discrete (pos 5)) 100 ∷ by_a opens ∷ ticks 20000 ∷ [])

nothing_within_the_buffer : taken_a (ticks 22000 ∷ changed) ≡ []
unfolding digits
nothing_within_the_buffer = refl

change_after_the_buffer : taken_a (ticks 23000 ∷ ticks 22000 ∷ changed)
    ≡ (Variables (in_a (codes "LOAD1") ∷ [])
    (Good (structure (data_of (integer (pos 5) ∷ unsigned 3 ∷ []))) ∷ []) ∷ [])
unfolding digits
change_after_the_buffer = refl

-- two peers with a data set of the same point: a report to one leaves the other's change untold
abbrev both_wished : List Move
both_wished =
    wished_b (record (wish_b (codes "S")) { buffer = 5; conditions = 32; rbe = true }) (codes "S")
    (in_b (codes "BUS1") ∷ [])
    (wished_a (record (wish_a (codes "S")) { conditions = 32; rbe = true }) (codes "S")
    (in_a (codes "BUS1") ∷ []) (by_b opens ∷ by_a opens ∷ ticks 30000 ∷ []))

abbrev first_told : List Move
first_told = ticks 31000 ∷ update 0 (State 1) 30 ∷ both_wished

first_report_of_a :
    taken_a first_told
    ≡ (Variables (in_a (codes "BUS1") ∷ []) (Good (octet 64) ∷ []) ∷ [])
unfolding digits
first_report_of_a = refl

abbrev second_told : List Move
second_told = ticks 35000 ∷ update 0 (State 2) 31 ∷ by_a takes ∷ first_told

second_report_of_a :
    taken_a second_told
    ≡ (Variables (in_a (codes "BUS1") ∷ []) (Good (octet 128) ∷ []) ∷ [])
unfolding digits
second_report_of_a = refl

report_of_b :
    taken_b second_told
    ≡ (Variables (in_b (codes "BUS1") ∷ [])
    (Good (structure (data_of (octet 128 ∷ integer (pos 31) ∷ []))) ∷ []) ∷ [])
unfolding digits
report_of_b = refl

-- a data set that an enabled transfer set wishes is kept; when that is off, it goes, once
delete_while_enabled :
    told_a running (Delete (in_a (codes "S1") ∷ [])) ≡ (Deleted 1 0)
unfolding digits
delete_while_enabled = refl

switch_off : told_a running (write_one (in_a (codes "DSTrans1$Status")) (boolean false))
    ≡ (Written (None ∷ []))
unfolding digits
switch_off = refl

abbrev switched_off : List Move
switched_off =
    by_a (writes (in_a (codes "DSTrans1$Status")) (boolean false))
    ∷ by_a (deletes (in_a (codes "S1"))) ∷ running

delete_after :
    told_a switched_off (Delete (in_a (codes "S1") ∷ [])) ≡ (Deleted 1 1)
unfolding digits
delete_after = refl

delete_again : told_a (by_a (deletes (in_a (codes "S1"))) ∷ switched_off)
    (Delete (in_a (codes "S1") ∷ [])) ≡ (Deleted 0 0)
unfolding digits
delete_again = refl

none_left : told_a running (read_one (in_a (codes "Next_DSTransfer_Set")))
    ≡ (Results None (Fail 2 ∷ []))
unfolding digits
none_left = refl

-- a wish with status false is kept, and its transfer set isn't enabled
abbrev wished_off : List Move
wished_off =
    wished_a (record each_two { status = false }) (codes "S1") (in_a (codes "BUS1") ∷ []) opened

status_is_false : told_a wished_off (read_one (in_a (codes "DSTrans1$Status")))
    ≡ (Results None (Good (boolean false) ∷ []))
unfolding digits
status_is_false = refl

nothing_is_due : taken_a (ticks 19000 ∷ wished_off) ≡ []
unfolding digits
nothing_is_due = refl

-- a status that is set true again is a new enabling: the times count anew, no change is noted
abbrev anew : List Move
anew =
    ticks 12500 ∷ by_a (writes (in_a (codes "DSTrans1$Status")) (boolean true)) ∷ ticks 11000
    ∷ running

not_at_the_old_multiple : taken_a anew ≡ []
unfolding digits
not_at_the_old_multiple = refl

at_the_new_multiple : taken_a (ticks 13000 ∷ anew) ≡ (report ∷ [])
unfolding digits
at_the_new_multiple = refl

no_change_is_noted :
    taken_a (ticks 30000 ∷ by_a (writes (in_a (codes "DSTrans1$Status")) (boolean true)) ∷ changed)
    ≡ []
unfolding digits
no_change_is_noted = refl

-- the operator's request makes one report at once, where the wish has it
on_request : taken_a (asks 0 0
    ∷ wished_a (record (wish_a (codes "S1")) { conditions = 16 }) (codes "S1")
    (in_a (codes "DSConditions_Detected") ∷ []) opened)
    ≡ (Set (in_a (codes "S1")) (Good (bits (record { count = 5; octets = 16 ∷ [] })) ∷ []) ∷ [])
unfolding digits
on_request = refl

not_on_request : taken_a (asks 0 0 ∷ running) ≡ []
unfolding digits
not_on_request = refl

-- a transfer set is free again behind the close of its owner, and the lowest is handed out
abbrev next_b : Act
next_b = reads (in_b (codes "Next_DSTransfer_Set"))

abbrev slot_b : List ℕ → Outcome
slot_b item =
    Good (structure (data_of (integer (pos 1) ∷ text (codes "DOMB") ∷ text item ∷ [])))

abbrev second_b : Act → Move
second_b act = acts (record { peer = 1; ordinal = 1 }) act

abbrev both_taken : List Move
both_taken = second_b next_b ∷ by_b next_b ∷ second_b opens ∷ by_b opens ∷ []

second_is_handed_out : told_b (by_b next_b ∷ by_b opens ∷ [])
    (read_one (in_b (codes "Next_DSTransfer_Set")))
    ≡ (Results None (slot_b (codes "DSTrans2") ∷ []))
unfolding digits
second_is_handed_out = refl

lowest_after_a_close :
    reply_to (tables_of 1) (seen_of 1 (by_b closes ∷ both_taken)) 1
    (read_one (in_b (codes "Next_DSTransfer_Set")))
    ≡ (Results None (slot_b (codes "DSTrans1") ∷ []))
unfolding digits
lowest_after_a_close = refl

-- nobody but its owner reads a transfer set
not_of_the_owner : told_b both_taken (read_one (in_b (codes "DSTrans2$Status")))
    ≡ (Results None (Fail 3 ∷ []))
unfolding digits
not_of_the_owner = refl

-- the reserved transfer set can be read by what comes behind in the same request, and by nobody
-- before: nothing is wished of it
unowned : told_a opened (read_one (in_a (codes "DSTrans1"))) ≡ (Results None (Fail 3 ∷ []))
unfolding digits
unowned = refl

read_behind_its_hand_out :
    told_a opened
    (Read (in_a (codes "Next_DSTransfer_Set") ∷ in_a (codes "DSTrans1") ∷ []) false)
    ≡ (Results None (Good first_slot
    ∷ Good (structure (data_of
    (structure (data_of (integer (pos 1) ∷ text [] ∷ text [] ∷ []))
    ∷ integer (pos 0) ∷ integer (pos 0) ∷ integer (pos 0) ∷ integer (pos 0) ∷ integer (pos 0)
    ∷ bits (record { count = 5; octets = 0 ∷ [] })
    ∷ boolean false ∷ boolean false ∷ boolean false ∷ boolean false ∷ boolean false
    ∷ integer (pos 0) ∷ []))) ∷ []))
unfolding digits
read_behind_its_hand_out = refl

-- of what changed alone: the report variables and the member that changed, in the set's order, and
-- not the member between them
abbrev mixed : List ObjectName
mixed =
    in_a (codes "Transfer_Set_Time_Stamp") ∷ in_a (codes "BUS1")
    ∷ in_a (codes "DSConditions_Detected") ∷ in_a (codes "LOAD1") ∷ []

only_what_changed :
    taken_a (ticks 23000 ∷ update 1 (Discrete (pos 5)) 100
    ∷ wished_a on_change (codes "S2") mixed (by_a opens ∷ ticks 20000 ∷ []))
    ≡ (Variables
    (in_a (codes "Transfer_Set_Time_Stamp") ∷ in_a (codes "DSConditions_Detected")
    ∷ in_a (codes "LOAD1") ∷ [])
    (Good (integer (pos 23)) ∷ Good (bits (record { count = 5; octets = 32 ∷ [] }))
    ∷ Good (structure (data_of (integer (pos 5) ∷ unsigned 1 ∷ []))) ∷ []) ∷ [])
unfolding digits
only_what_changed = refl

nothing_without_a_change :
    taken_a (ticks 90000
    ∷ wished_a (record on_change { interval = 7; conditions = 160 }) (codes "S2") mixed
    (by_a opens ∷ ticks 20000 ∷ [])) ≡ []
unfolding digits
nothing_without_a_change = refl

-- with the integrity period the whole data set is told, by all conditions that are due at once; it
-- clears the change
abbrev with_integrity : List Move
with_integrity =
    update 1 (Discrete (pos 5)) 100
    ∷ wished_a (record on_change { buffer = 2; integrity = 5; conditions = 96 }) (codes "S2")
    (in_a (codes "DSConditions_Detected") ∷ in_a (codes "BUS1") ∷ in_a (codes "LOAD1") ∷ [])
    (by_a opens ∷ ticks 20000 ∷ [])

abbrev whole_of : ℕ → ReportKind
whole_of conditions =
    Set (in_a (codes "S2"))
    (Good (bits (record { count = 5; octets = conditions ∷ [] })) ∷ Good (octet 48)
    ∷ Good (structure (data_of (integer (pos 5) ∷ unsigned 1 ∷ []))) ∷ [])

both_are_due : taken_a (ticks 25000 ∷ with_integrity) ≡ (whole_of 96 ∷ [])
unfolding digits
both_are_due = refl

integrity_alone :
    taken_a (ticks 30000 ∷ ticks 29999 ∷ by_a takes ∷ ticks 25000 ∷ with_integrity)
    ≡ (whole_of 64 ∷ [])
unfolding digits
integrity_alone = refl

-- every change, in order, each with its value and count just after it
each_change :
    taken_a (ticks 23000 ∷ update 1 (Discrete (pos 5)) 102 ∷ update 1 (Discrete (pos 9)) 101
    ∷ wished_a (record on_change { all_changes = true }) (codes "S2") mixed
    (update 1 (Discrete (pos 5)) 100 ∷ by_a opens ∷ ticks 20000 ∷ []))
    ≡ (Variables
    (in_a (codes "Transfer_Set_Time_Stamp") ∷ in_a (codes "DSConditions_Detected")
    ∷ in_a (codes "LOAD1") ∷ in_a (codes "LOAD1") ∷ [])
    (Good (integer (pos 23)) ∷ Good (bits (record { count = 5; octets = 32 ∷ [] }))
    ∷ Good (structure (data_of (integer (pos 9) ∷ unsigned 2 ∷ [])))
    ∷ Good (structure (data_of (integer (pos 5) ∷ unsigned 3 ∷ []))) ∷ []) ∷ [])
unfolding digits
each_change = refl

-- in parts of 500 changes, each with the report variables; 500 make a report due at once
abbrev noted : ℕ → SlotState
noted n =
    record {
      wish = record on_change { all_changes = true };
      base = 20000;
      first = Some 20000;
      noted = replicate n (record {
        member = 3;
        value = record { body = Discrete (pos 9); flags = 0; seconds = 100; millis = 0 };
        cov = 2;
      });
    }

abbrev size_of : ReportKind → ℕ
size_of (Set set outcomes) = length outcomes
size_of (Variables names outcomes) = length outcomes

abbrev sizes : ℕ → List ℕ
sizes n = map size_of (slot_reports (table_in (tables_of 0) 0) [] 0 21000 32 (noted n) mixed)

one_below_the_limit : sizes 499 ≡ 501 ∷ []
unfolding digits
one_below_the_limit = refl

one_full_report : sizes 500 ≡ 502 ∷ []
unfolding digits
one_full_report = refl

one_above_the_limit : sizes 501 ≡ 502 ∷ 3 ∷ []
unfolding digits
one_above_the_limit = refl

waits_below_the_limit : conditions_due (noted 499) 20000 21000 ≡ 0
waits_below_the_limit = refl

due_at_the_limit : conditions_due (noted 500) 20000 21000 ≡ 32
due_at_the_limit = refl

-- the interval is due, since some whole multiple of it stands between the two ticks
due_once : AreDueAt (tables_of 0) (seen_of 0 (ticks 12000 ∷ running)) 0 19000 128
unfolding digits
due_once = some_number (slot_state (tables_of 0) (seen_of 0 (ticks 12000 ∷ running)) 0)
    12000 19000
