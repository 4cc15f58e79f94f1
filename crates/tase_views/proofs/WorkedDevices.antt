-- Devices, their orders and names computed on worked moves, apart from all code.
use Rattle.std.proofs.Common.{◌≡◌, List, [], ◌∷◌, Some, None, false, pos, refl}
use Rattle.std.specs.Prelude.{codes}
use Rattle.std.specs.Fmt.{digits}
use Rattle.mms_data.specs.Datum.{integer, bits, text, structure, data_of}
use Rattle.mms_data.specs.declared.object_name.Scope.TheVariants.{Domain}
use Rattle.mms_data.specs.declared.outcome.Outcome.TheVariants.{Good, Fail}
use Rattle.sbo_device.specs.Moves.{selecting}
use Rattle.tase_views.specs.declared.call.CallKind.TheVariants.{Write, NameList, MembersOf}
use Rattle.tase_views.specs.declared.reply.ReplyKind.TheVariants.{Results, Written, NamesAre, Error}
use Rattle.tase_views.specs.Moves.{opens, closes, reads, writes, Move, ticks, takes_orders}
use Rattle.tase_views.specs.OwnTables.{own_tables}
use Rattle.tase_views.specs.View.{own, other_acted, other_closed}
use Rattle.tase_views.specs.declared.reply.ReportKind.TheVariants.{Variables}
use Rattle.tase_views.specs.Orders.{orders_left}
use Rattle.tase_views.proofs.NodeSample.{rows, seen_of, by_a, by_b, in_a, in_b, told_a, told_b}
use Rattle.tase_views.proofs.NodeSample.{taken_a}
use Rattle.tase_views.proofs.NodeSample.{read_one, write_one, tagged_with}

abbrev both_open : List Move
both_open = by_b opens ∷ by_a opens ∷ []

abbrev selected : List Move
selected = by_a (reads (in_a (codes "BRK1_SBO"))) ∷ both_open

a_selects : told_a both_open (read_one (in_a (codes "BRK1_SBO")))
    ≡ (Results None (Good (integer (pos 77)) ∷ []))
unfolding digits
a_selects = refl

held_by_another : told_b selected (read_one (in_b (codes "BRK1_SBO")))
    ≡ (Results None (Fail 2 ∷ []))
unfolding digits
held_by_another = refl

not_the_holder : told_b selected (write_one (in_b (codes "BRK1")) (integer (pos 1)))
    ≡ (Written (Some 3 ∷ []))
unfolding digits
not_the_holder = refl

holder_operates : told_a selected (write_one (in_a (codes "BRK1")) (integer (pos 1)))
    ≡ (Written (None ∷ []))
unfolding digits
holder_operates = refl

-- what the other peer sees of it: the select, by the key and the ordinal of its association
seen_by_b : seen_of 1 selected
    ≡ other_acted (codes "A") 0 (codes "BRK1") selecting ∷ own 0 opens ∷ []
unfolding digits
seen_by_b = refl

abbrev operated : List Move
operated =
    by_a (writes (in_a (codes "BRK1")) (integer (pos 1)))
    ∷ by_b (writes (in_b (codes "BRK1")) (integer (pos 1))) ∷ selected

second_operate_is_refused : told_a operated (write_one (in_a (codes "BRK1")) (integer (pos 1)))
    ≡ (Written (Some 3 ∷ []))
unfolding digits
second_operate_is_refused = refl

direct_device : told_b operated (Write (in_b (codes "CAP1") ∷ in_b (codes "CAP1") ∷ [])
    (integer (pos 2) ∷ integer (pos 1) ∷ []))
    ≡ (Written (Some 11 ∷ None ∷ []))
unfolding digits
direct_device = refl

-- orders stand at the permitted operates alone, and are taken once
abbrev ordering : List Move
ordering =
    by_b (writes (in_b (codes "CAP1")) (integer (pos 1)))
    ∷ by_b (writes (in_b (codes "CAP1")) (integer (pos 2)))
    ∷ by_a (writes (in_a (codes "BRK1")) (integer (pos 1))) ∷ operated

all_orders : orders_left rows (own_tables rows) ordering
    ≡ record { device = 0; value = pos 1 } ∷ record { device = 1; value = pos 1 } ∷ []
unfolding digits
all_orders = refl

orders_are_taken_once : orders_left rows (own_tables rows) (takes_orders ∷ ordering) ≡ []
unfolding digits
orders_are_taken_once = refl

-- a selection holds up to the tick before its end, and not at its end, which its holder is told
abbrev selected_late : List Move
selected_late =
    ticks 69999 ∷ by_a (reads (in_a (codes "BRK1_SBO"))) ∷ by_a opens ∷ ticks 40000 ∷ []

before_the_end : told_a selected_late (write_one (in_a (codes "BRK1")) (integer (pos 0)))
    ≡ (Written (None ∷ []))
unfolding digits
before_the_end = refl

abbrev run_out : List Move
run_out =
    ticks 99999 ∷ by_a (reads (in_a (codes "BRK1_SBO")))
    ∷ by_a (writes (in_a (codes "BRK1")) (integer (pos 0))) ∷ selected_late

at_the_end : told_a run_out (write_one (in_a (codes "BRK1")) (integer (pos 0)))
    ≡ (Written (Some 3 ∷ []))
unfolding digits
at_the_end = refl

time_out_is_reported :
    taken_a run_out
    ≡ (Variables (in_a (codes "BRK1_TIMEOUT") ∷ []) (Good (integer (pos 77)) ∷ []) ∷ [])
unfolding digits
time_out_is_reported = refl

-- tag 2 inhibits the value 1, tag 1 all
abbrev at_work : List Move
at_work = by_a (reads (in_a (codes "BRK1_SBO"))) ∷ tagged_with 2 (codes "work") ∷ by_a opens ∷ []

select_at_work :
    told_a (tagged_with 2 (codes "work") ∷ by_a opens ∷ []) (read_one (in_a (codes "BRK1_SBO")))
    ≡ (Results None (Good (integer (pos 77)) ∷ []))
unfolding digits
select_at_work = refl

no_closing_at_work : told_a at_work (write_one (in_a (codes "BRK1")) (integer (pos 1)))
    ≡ (Written (Some 3 ∷ []))
unfolding digits
no_closing_at_work = refl

opening_at_work : told_a at_work (write_one (in_a (codes "BRK1")) (integer (pos 0)))
    ≡ (Written (None ∷ []))
unfolding digits
opening_at_work = refl

abbrev at_test : List Move
at_test = tagged_with 1 (codes "test") ∷ at_work

no_select_at_test : told_a at_test (read_one (in_a (codes "BRK1_SBO")))
    ≡ (Results None (Fail 3 ∷ []))
unfolding digits
no_select_at_test = refl

tag_at_test : told_a at_test (read_one (in_a (codes "BRK1_TAG")))
    ≡ (Results None
    (Good (structure (data_of (bits (record { count = 2; octets = 64 ∷ [] })
    ∷ text (codes "test") ∷ []))) ∷ []))
unfolding digits
tag_at_test = refl

-- a peer with the right writes a tag, of two bits that aren't 3; another may not
tag_is_written : told_a both_open (write_one (in_a (codes "BRK1_TAG")) (structure (data_of
    (bits (record { count = 2; octets = 64 ∷ [] }) ∷ text (codes "test") ∷ []))))
    ≡ (Written (None ∷ []))
unfolding digits
tag_is_written = refl

no_third_tag : told_a both_open (write_one (in_a (codes "BRK1_TAG")) (structure (data_of
    (bits (record { count = 2; octets = 192 ∷ [] }) ∷ text (codes "test") ∷ []))))
    ≡ (Written (Some 11 ∷ []))
unfolding digits
no_third_tag = refl

no_right_to_tag : told_b both_open (write_one (in_b (codes "BRK1_TAG")) (structure (data_of
    (bits (record { count = 2; octets = 64 ∷ [] }) ∷ text (codes "test") ∷ []))))
    ≡ (Written (Some 3 ∷ []))
unfolding digits
no_right_to_tag = refl

-- the close of an association frees what it selected, and no other close does
freed_by_its_close : told_b (by_a closes ∷ selected) (read_one (in_b (codes "BRK1_SBO")))
    ≡ (Results None (Good (integer (pos 77)) ∷ []))
unfolding digits
freed_by_its_close = refl

close_seen_by_b : seen_of 1 (by_a closes ∷ [])
    ≡ other_closed (codes "A") 0 ∷ []
unfolding digits
close_seen_by_b = refl

-- the names of A's domain, with devices and transfer sets
names_of_a : told_a both_open (NameList (pos 0) (Domain (codes "DOMA")) None)
    ≡ (NamesAre (codes "BRK1" ∷ codes "BRK1_SBO" ∷ codes "BRK1_TAG"
    ∷ codes "BRK1_TIMEOUT" ∷ codes "BUS1" ∷ codes "Bilateral_Table_ID"
    ∷ codes "DSConditions_Detected" ∷ codes "DSTrans1" ∷ codes "DSTrans1$Status"
    ∷ codes "Event_Code_Detected" ∷ codes "LOAD1" ∷ codes "Next_DSTransfer_Set"
    ∷ codes "Transfer_Set_Name" ∷ codes "Transfer_Set_Time_Stamp" ∷ []) false)
unfolding digits
names_of_a = refl

no_names_of_another : told_a both_open (NameList (pos 2) (Domain (codes "DOMB")) None)
    ≡ (Error 7 2)
unfolding digits
no_names_of_another = refl

no_such_set : told_a both_open (MembersOf (in_a (codes "S"))) ≡ (Error 7 2)
unfolding digits
no_such_set = refl
