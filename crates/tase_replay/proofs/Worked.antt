-- The definitions computed on worked scenarios, apart from all code: what each shows, by
-- computation alone.
use Rattle.std.proofs.Common.{◌≡◌, ℕ, ◌^◌, List, [], ◌∷◌, ◌++◌, Option, Some, pos, refl, ap, arith}
use Rattle.std.specs.Prelude.{negsuc}
use Rattle.std.proofs.Common.{rules, lit<}
use Rattle.std.specs.Prelude.{codes, Result, Ok, Err}
use Rattle.std.specs.List.{flat_map}
use Rattle.std.specs.Fmt.{digits}
use Rattle.bilateral.specs.Rows.{CentreRows}
use Rattle.bilateral.specs.Reading.{centre_in, no_rows}
use Rattle.tase_views.specs.Setup.{Setup}
use Rattle.mms_data.specs.Datum.{integer, bits}
use Rattle.mms_data.specs.declared.object_name.Scope.TheVariants.{Domain}
use Rattle.mms_data.specs.declared.outcome.Outcome.TheVariants.{Good}
use Rattle.mms_data.specs.ObjectName.{ObjectName}
use Rattle.mms_data.specs.Text.DatumIn.{datum_in}
use Rattle.mms_data.proofs.OfText.TextReading.{datum_in-text}
use Rattle.tase_views.specs.declared.call.CallKind.TheVariants.{Write, WriteSet}
use Rattle.tase_views.specs.declared.event.EventKind.TheVariants.{Request}
use Rattle.tase_views.specs.declared.event.Entry.{Entry}
use Rattle.tase_views.specs.declared.reply.Answer.TheVariants.{Reports, Orders}
use Rattle.tase_views.specs.declared.reply.ReportKind.TheVariants.{Set, Variables}
use Rattle.tase_replay.specs.Links.{Asking, an_event, asking_in}
use Rattle.tase_replay.specs.Play.{Played, done, bad_line, history_full, shown_of, scenario_of}
use Rattle.tase_replay.specs.Play.{printed_of}
use Rattle.tase_replay.specs.Play.{Scene, first_scene, means, line_meaning, play_line, ends_there}

-- lines, each with its end
abbrev pub text_of : List (List ℕ) → List ℕ
text_of texts = flat_map (λ line. line ++ 10 ∷ []) texts

-- two peers, each with a table of its own
abbrev pub tables : List ℕ
tables =
    text_of (codes "point BUS1 state" ∷ codes "point LOAD1 discrete" ∷ codes "point FREQ1 real"
    ∷ codes "peer A 1.1.999.1 DOMA TBLA" ∷ codes "slots 1" ∷ codes "see BUS1 domain value"
    ∷ codes "see LOAD1 domain value,cov"
    ∷ codes "peer B 1.1.999.2 DOMB TBLB" ∷ codes "see BUS1 domain value,time"
    ∷ codes "see LOAD1 domain value,flags" ∷ codes "see FREQ1 vmd value" ∷ [])

abbrev pub rows_of : {E : Type 0} → Result CentreRows E → CentreRows
rows_of (Ok rows) = rows
rows_of (Err fault) = no_rows

abbrev pub setup : Setup
setup = record { centre = rows_of (centre_in tables); limit = 2 ^ 31 }

abbrev pub played : List (List ℕ) → Played
played scenario = scenario_of setup (text_of scenario)

abbrev two_peers : List (List ℕ)
two_peers =
    codes "open 1 A" ∷ codes "open 2 B" ∷ codes "update BUS1 s2 00 1700000000 0"
    ∷ codes "say 1 read DOMA/BUS1" ∷ codes "say 2 read DOMB/BUS1 DOMB/LOAD1" ∷ []

two_peers-shown : shown_of (played two_peers)
    ≡ text_of (codes "reply 1 read b8.80" ∷ codes "reply 2 read {b8.80,i1700000000} {i0,b8.30}"
    ∷ [])
unfolding digits
two_peers-shown = refl

two_peers-end : (played two_peers).end ≡ done
unfolding digits
two_peers-end = refl

-- names that don't exist, and those of another's table
abbrev absent_names : List (List ℕ)
absent_names = codes "open 1 A" ∷ codes "open 2 B"
    ∷ codes "say 2 read DOMA/LOAD1 DOMB/NOPE vmd:LOAD1" ∷ codes "say 1 read vmd:FREQ1" ∷ []

absent_names-shown : shown_of (played absent_names)
    ≡ text_of (codes "reply 2 read !10 !10 !10" ∷ codes "reply 1 read !10" ∷ [])
unfolding digits
absent_names-shown = refl

-- points before any update, and an update that changes nothing but the time
abbrev changes : List (List ℕ)
changes =
    codes "open 1 A" ∷ codes "open 2 B" ∷ codes "say 1 read DOMA/BUS1"
    ∷ codes "say 2 read vmd:FREQ1" ∷ codes "update LOAD1 d5 00 1 0"
    ∷ codes "update LOAD1 d5 00 2 0" ∷ codes "say 1 read DOMA/LOAD1" ∷ []

changes-shown : shown_of (played changes)
    ≡ text_of (codes "reply 1 read b8.30" ∷ codes "reply 2 read f00000000"
    ∷ codes "reply 1 read {i5,u1}" ∷ [])
unfolding digits
changes-shown = refl

-- a seat that opens twice: the third line is the first bad one
abbrev refused : List (List ℕ)
refused = codes "open 1 A" ∷ codes "say 1 read DOMA/LOAD1" ∷ codes "open 1 B" ∷ []

refused-end : (played refused).end ≡ bad_line 3
unfolding digits
refused-end = refl

refused-shown : shown_of (played refused) ≡ text_of (codes "reply 1 read {i0,u0}" ∷ [])
unfolding digits
refused-shown = refl

-- the names that there are for a peer
abbrev listed : List (List ℕ)
listed = codes "open 1 A" ∷ codes "say 1 names 9 vmd:" ∷ codes "say 1 names 0 DOMB/"
    ∷ codes "say 1 names 0 aa:" ∷ codes "say 1 names 0 DOMA/"
    ∷ codes "say 1 names 0 DOMA/ Event_Code_Detected" ∷ []

listed-shown : shown_of (played listed)
    ≡ text_of (codes "reply 1 names end DOMA" ∷ codes "reply 1 error 7 2"
    ∷ codes "reply 1 names end"
    ∷ (codes "reply 1 names end BUS1 Bilateral_Table_ID DSConditions_Detected DSTrans1"
    ++ codes " DSTrans1$Status Event_Code_Detected LOAD1 Next_DSTransfer_Set"
    ++ codes " Transfer_Set_Name Transfer_Set_Time_Stamp")
    ∷ (codes "reply 1 names end LOAD1 Next_DSTransfer_Set Transfer_Set_Name"
    ++ codes " Transfer_Set_Time_Stamp") ∷ [])
unfolding digits
listed-shown = refl

-- who the node is, a read whose reply repeats the names, reports, a close and another open
abbrev reopened : List (List ℕ)
reopened = codes "open 1 A" ∷ codes "say 1 identify" ∷ codes "say 1 read+ DOMA/BUS1"
    ∷ codes "take 1" ∷ codes "close 1" ∷ codes "open 1 B" ∷ codes "say 1 read vmd:FREQ1" ∷ []

reopened-shown : shown_of (played reopened)
    ≡ text_of (codes "reply 1 identify" ∷ codes "reply 1 read+ b8.30"
    ∷ codes "reply 1 read f00000000" ∷ [])
unfolding digits
reopened-shown = refl

reopened-end : (played reopened).end ≡ done
unfolding digits
reopened-end = refl

-- after a stop closes alone are taken: the fourth line is the first bad one
abbrev stopped : List (List ℕ)
stopped = codes "open 1 A" ∷ codes "stop" ∷ codes "close 1" ∷ codes "open 1 A" ∷ []

stopped-end : (played stopped).end ≡ bad_line 4
unfolding digits
stopped-end = refl

-- seats without an association, and an odd call
unseated-end : (played (codes "take 1" ∷ [])).end ≡ bad_line 1
unfolding digits
unseated-end = refl

closed-end : (played (codes "open 1 A" ∷ codes "close 1" ∷ codes "close 1" ∷ [])).end ≡ bad_line 3
unfolding digits
closed-end = refl

odd-end : (played (codes "open 1 A" ∷ codes "say 1 odd 5 1" ∷ [])).end ≡ bad_line 2
unfolding digits
odd-end = refl

-- a history that may weigh 40 octets: the third event is the first that it has no room for
abbrev light : Setup
light = record { centre = setup.centre; limit = 40 }

abbrev heavy : List (List ℕ)
heavy =
    codes "open 1 A" ∷ codes "update BUS1 s2 00 1700000000 0" ∷ codes "say 1 read DOMA/BUS1" ∷ []

heavy-end : (scenario_of light (text_of heavy)).end ≡ history_full 52 40
unfolding digits
heavy-end = refl

-- writes of a point and of a name that doesn't exist
abbrev write_line : List ℕ
write_line = codes "say 1 write DOMA/BUS1=b8.80 DOMA/NOPE=i1"

abbrev name_a : List ℕ → ObjectName
name_a item = record { scope = Domain (codes "DOMA"); item = item }

abbrev write_entry : Entry
write_entry = record {
  who = 1;
  event = Request (Write (name_a (codes "BUS1") ∷ name_a (codes "NOPE") ∷ [])
      (bits (record { count = 8; octets = 128 ∷ [] }) ∷ integer (pos 1) ∷ []));
}

bits_read : datum_in (codes "b8.80") ≡ Some (bits (record { count = 8; octets = 128 ∷ [] }))
unfolding digits
bits_read = datum_in-text (bits (record { count = 8; octets = 128 ∷ [] })) (record {
  shallow = omega arith;
  parts = search (rules, lit<);
})

one_read : datum_in (codes "i1") ≡ Some (integer (pos 1))
unfolding digits
one_read = datum_in-text (integer (pos 1)) (record {
  shallow = omega arith;
  parts = search (rules, lit<);
})

write_line-asking : asking_in setup.centre write_line ≡ Some (an_event write_entry)
write_line-asking = rw (bits_read, one_read) refl

written-shown : shown_of (played (codes "open 1 A" ∷ write_line ∷ []))
    ≡ text_of (codes "reply 1 write !3 !10" ∷ [])
unfolding digits
written-shown =
    ap (λ (found : Option Asking). shown_of (play_line (codes "open 1 A") 1
    (line_meaning setup (first_scene []) (codes "open 1 A"))
    (λ (after : Scene). play_line write_line 2 (means setup after found) ends_there)))
    write_line-asking

-- the reports that a seat takes, a line each
reports-printed : printed_of setup.centre 7 (Reports (Set (name_a (codes "S1"))
    (Good (bits (record { count = 8; octets = 128 ∷ [] })) ∷ Good (integer (pos 5)) ∷ [])
    ∷ Variables (name_a (codes "BRK1_TIMEOUT") ∷ []) (Good (integer (pos 77)) ∷ []) ∷ []))
    ≡ text_of (codes "report 7 set DOMA/S1 b8.80 i5" ∷ codes "report 7 vars DOMA/BRK1_TIMEOUT=i77"
    ∷ [])
unfolding digits
reports-printed = refl

-- the orders that the plant takes, a line each
abbrev devices : CentreRows
devices = rows_of (centre_in (text_of (codes "device CAP1 command direct"
    ∷ codes "device TAP1 setpoint -5 5 sbo 3 60000" ∷ [])))

orders-printed : printed_of devices 0 (Orders (record { device = 1; value = negsuc 4 }
    ∷ record { device = 0; value = pos 1 } ∷ []))
    ≡ text_of (codes "order TAP1 -5" ∷ codes "order CAP1 1" ∷ [])
unfolding digits
orders-printed = refl

-- data sets, and the names of the protocol itself
abbrev sets : List (List ℕ)
sets =
    codes "open 1 A" ∷ codes "open 2 B" ∷ codes "update BUS1 s2 00 1700000000 0"
    ∷ (codes "say 1 read vmd:TASE2_Version vmd:Supported_Features DOMA/Bilateral_Table_ID"
    ++ codes " DOMA/Transfer_Set_Name")
    ∷ codes "say 1 define DOMA/S DOMA/BUS1 DOMA/DSConditions_Detected"
    ∷ codes "say 1 readset DOMA/S" ∷ codes "say 1 define DOMA/S DOMA/BUS1"
    ∷ codes "say 1 define DOMA/X DOMA/NOPE"
    ∷ codes "say 1 define DOMA/X vmd:Transfer_Set_Name DOMA/BUS1" ∷ codes "open 3 A"
    ∷ codes "say 3 members DOMA/S" ∷ codes "say 2 readset DOMA/S" ∷ codes "say 1 deletescope 2"
    ∷ codes "say 1 delete DOMA/S DOMA/S" ∷ codes "say 3 names 2 DOMA/" ∷ []

sets-shown : shown_of (played sets)
    ≡ text_of (codes "reply 1 read {i2000,i8} b12.c800 vTBLA !9" ∷ codes "reply 1 defined"
    ∷ codes "reply 1 read b8.80 !9" ∷ codes "reply 1 error 2 5" ∷ codes "reply 1 error 2 1"
    ∷ codes "reply 1 defined" ∷ codes "reply 3 members DOMA/BUS1 DOMA/DSConditions_Detected"
    ∷ codes "reply 2 error 7 2" ∷ codes "reply 1 error 7 3" ∷ codes "reply 1 deleted 1 1"
    ∷ codes "reply 3 names end X" ∷ [])
unfolding digits
sets-shown = refl

-- a write of a data set
abbrev define_line : List ℕ
define_line = codes "say 1 define DOMA/S DOMA/BUS1 DOMA/LOAD1"

abbrev write_set_line : List ℕ
write_set_line = codes "say 1 writeset DOMA/S i1 i1"

abbrev write_set_entry : Entry
write_set_entry = record {
  who = 1;
  event = Request (WriteSet (name_a (codes "S")) (integer (pos 1) ∷ integer (pos 1) ∷ []));
}

write_set_line-asking : asking_in setup.centre write_set_line ≡ Some (an_event write_set_entry)
write_set_line-asking = rw one_read refl

set_written-shown : shown_of (played (codes "open 1 A" ∷ define_line ∷ write_set_line ∷ []))
    ≡ text_of (codes "reply 1 defined" ∷ codes "reply 1 error 7 3" ∷ [])
unfolding digits
set_written-shown =
    ap (λ (found : Option Asking). shown_of (play_line (codes "open 1 A") 1
    (line_meaning setup (first_scene []) (codes "open 1 A"))
    (λ (opened : Scene). play_line define_line 2 (line_meaning setup opened define_line)
    (λ (after : Scene). play_line write_set_line 3 (means setup after found) ends_there))))
    write_set_line-asking
