-- Audits of worked runs computed apart from all code.
use Rattle.std.proofs.Common.{◌≡◌, ℕ, List, [], ◌∷◌, reverse, Some, None, pos, true, false, refl}
use Rattle.std.specs.Prelude.{codes, unwrap_or, slice_index_or}
use Rattle.std.specs.Fmt.{digits}
use Rattle.plain_text.specs.Words.{each_in}
use Rattle.mms_data.specs.Text.DatumIn.{datum_in}
use Rattle.tase_views.specs.History.{Past}
use Rattle.mms_data.specs.Datum.{integer}
use Rattle.mms_data.specs.declared.outcome.Outcome.TheVariants.{Good, Fail}
use Rattle.transfer_sets.specs.declared.wish.Wish.{Wish}
use Rattle.transfer_sets.specs.WishData.{shown_wish}
use Rattle.bilateral.specs.declared.rows.Table.{Table}
use Rattle.bilateral.specs.Rows.{CentreRows, no_device}
use Rattle.tase_points.specs.declared.kind.Kind.TheVariants.{State, Discrete, Real}
use Rattle.tase_points.specs.declared.layout.Component.TheVariants.{Value, Cov}
use Rattle.tase_views.specs.declared.call.CallKind.TheVariants.{Define, Read, Write}
use Rattle.tase_views.specs.declared.event.EventKind.{EventKind}
use Rattle.tase_views.specs.declared.event.EventKind.TheVariants.{Open, Request, Take, Tick}
use Rattle.tase_views.specs.declared.event.Entry.{Entry}
use Rattle.tase_views.specs.declared.reply.ReplyKind.TheVariants.{Results, Written, Defined}
use Rattle.tase_views.specs.declared.reply.ReportKind.TheVariants.{Set}
use Rattle.tase_views.proofs.NodeSample.{table_a, table_b, rows, in_a, octet, first_slot, wish_a}
use Rattle.texts.specs.Journal.Entries.{entry_in}
use Rattle.tase_audit.specs.PeerAnswers.{reply_at, reports_at}
use Rattle.tase_audit.specs.Audits.{PastRun, AuditVerdict, other_tables, apart_at, equal_runs}
use Rattle.tase_audit.specs.Audits.{audit_of, watched_lines}

-- the history whose entries have these lines, the oldest first
abbrev past_of : List (List ℕ) → Past
past_of lines = reverse (unwrap_or (each_in entry_in lines) [])

abbrev run : List (List ℕ) → PastRun
run lines = record { centre = rows; past = past_of lines }

-- ---- entries

-- A reads a point; another peer opens, and a point of another table has a new value
abbrev amid_others : PastRun
amid_others =
    run (codes "1 open 0" ∷ codes "2 open 1" ∷ codes "0 update 0 s2 00 5 0"
    ∷ codes "0 update 2 r00000000 00 5 0" ∷ codes "1 call read DOMA/BUS1" ∷ [])

-- the same of A alone, by another seat; and with another value
abbrev alone : PastRun
alone =
    run (codes "9 open 0" ∷ codes "0 update 0 s2 00 5 0" ∷ codes "9 call read DOMA/BUS1" ∷ [])

abbrev with_another_value : PastRun
with_another_value =
    run (codes "9 open 0" ∷ codes "0 update 0 s1 00 5 0" ∷ codes "9 call read DOMA/BUS1" ∷ [])

same_reply : audit_of amid_others alone (codes "A")
    ≡ equal_runs (reply_at 0 (Results None (Good (octet 128) ∷ [])) ∷ [])
unfolding digits
same_reply = refl

other_value : audit_of amid_others with_another_value (codes "A")
    ≡ apart_at 1 (Some (codes "all update BUS1 s2 00 5 0"))
    (Some (codes "all update BUS1 s1 00 5 0"))
unfolding digits
other_value = refl

-- of B, which opened an association in one alone
of_another : audit_of amid_others alone (codes "B")
    ≡ apart_at 0 (Some (codes "own 0 open B")) (Some (codes "all update BUS1 s2 00 5 0"))
unfolding digits
of_another = refl

-- B selects a device of A's table, then A does; or A alone
abbrev selected_twice : PastRun
selected_twice =
    run (codes "1 open 0" ∷ codes "2 open 1" ∷ codes "2 call read DOMB/BRK1_SBO"
    ∷ codes "1 call read DOMA/BRK1_SBO" ∷ [])

abbrev selected_once : PastRun
selected_once =
    run (codes "1 open 0" ∷ codes "2 open 1" ∷ codes "1 call read DOMA/BRK1_SBO" ∷ [])

selected_by_another : audit_of selected_twice selected_once (codes "A")
    ≡ apart_at 1 (Some (codes "other B 0 select BRK1"))
    (Some (codes "own 0 call read DOMA/BRK1_SBO"))
unfolding digits
selected_by_another = refl

-- while B holds the device A is refused, and behind B's close it isn't
abbrev selected_behind_a_close : PastRun
selected_behind_a_close =
    run (codes "1 open 0" ∷ codes "2 open 1" ∷ codes "2 call read DOMB/BRK1_SBO"
    ∷ codes "1 call read DOMA/BRK1_SBO" ∷ codes "2 close" ∷ codes "1 call read DOMA/BRK1_SBO"
    ∷ [])

held_by_another : audit_of selected_behind_a_close selected_behind_a_close (codes "A")
    ≡ equal_runs (reply_at 0 (Results None (Fail 2 ∷ []))
    ∷ reply_at 0 (Results None (Good (integer (pos 77)) ∷ [])) ∷ [])
unfolding digits
held_by_another = refl

-- A reads a point, and nothing else comes
abbrev one_read : PastRun
one_read =
    run (codes "1 open 0" ∷ codes "1 call read DOMA/BUS1" ∷ [])

-- B operates a device that A's table doesn't name, and the plant takes the order
abbrev with_order : PastRun
with_order =
    run (codes "1 open 0" ∷ codes "2 open 1" ∷ codes "2 call write DOMB/CAP1=i1" ∷ codes "0 orders"
    ∷ codes "1 call read DOMA/BUS1" ∷ [])

unshown_order : audit_of with_order one_read (codes "A")
    ≡ equal_runs (reply_at 0 (Results None (Good (octet 48) ∷ [])) ∷ [])
unfolding digits datum_in
unshown_order = refl

-- what one request asks for isn't what two ask for
abbrev read_together : PastRun
read_together =
    run (codes "1 open 0" ∷ codes "1 call read DOMA/BUS1 DOMA/LOAD1" ∷ [])

abbrev read_in_turn : PastRun
read_in_turn =
    run (codes "1 open 0" ∷ codes "1 call read DOMA/BUS1" ∷ codes "1 call read DOMA/LOAD1" ∷ [])

grouped : audit_of read_together read_in_turn (codes "A")
    ≡ apart_at 1 (Some (codes "own 0 call read DOMA/BUS1 DOMA/LOAD1"))
    (Some (codes "own 0 call read DOMA/BUS1"))
unfolding digits
grouped = refl

-- nor is a read that wants its names repeated one that doesn't
abbrev one_read_with_names : PastRun
one_read_with_names =
    run (codes "1 open 0" ∷ codes "1 call read+ DOMA/BUS1" ∷ [])

repeated_names : audit_of one_read one_read_with_names (codes "A")
    ≡ apart_at 1 (Some (codes "own 0 call read DOMA/BUS1"))
    (Some (codes "own 0 call read+ DOMA/BUS1"))
unfolding digits
repeated_names = refl

-- a run and its first entry alone
front_alone : audit_of one_read (run (codes "1 open 0" ∷ [])) (codes "A")
    ≡ apart_at 1 (Some (codes "own 0 call read DOMA/BUS1")) None
unfolding digits
front_alone = refl

-- an update is the centre's, whichever seat makes it
abbrev fed_by_seat : PastRun
fed_by_seat =
    run (codes "1 open 0" ∷ codes "1 update 0 s2 00 5 0" ∷ codes "1 call read DOMA/BUS1" ∷ [])

fed_by_its_seat : audit_of fed_by_seat alone (codes "A")
    ≡ equal_runs (reply_at 0 (Results None (Good (octet 128) ∷ [])) ∷ [])
unfolding digits
fed_by_its_seat = refl

-- one association behind the other, or two at once
abbrev one_behind_the_other : PastRun
one_behind_the_other =
    run (codes "1 open 0" ∷ codes "1 close" ∷ codes "1 open 0" ∷ [])

abbrev both_open : PastRun
both_open =
    run (codes "1 open 0" ∷ codes "2 open 0" ∷ codes "1 close" ∷ [])

two_at_once : audit_of one_behind_the_other both_open (codes "A")
    ≡ apart_at 1 (Some (codes "own 0 close")) (Some (codes "own 1 open A"))
unfolding digits
two_at_once = refl

-- B operates a device that isn't direct twice by one write, before and behind one that is, and tags
-- it without the right; then it closes: A is shown the first two and the close
abbrev four_writes : PastRun
four_writes =
    run (codes "1 open 1"
    ∷ codes "1 call write DOMB/BRK1=i1 DOMB/CAP1=i1 DOMB/BRK1=u1 DOMB/BRK1_TAG={b2.40,vx}"
    ∷ codes "1 close" ∷ [])

shown_of_another : watched_lines four_writes 0 (codes "A")
    ≡ codes "other B 0 operate BRK1 1" ∷ codes "other B 0 operate BRK1 1"
    ∷ codes "other B 0 close" ∷ []
unfolding digits datum_in
shown_of_another = refl

against_nothing : audit_of four_writes (run []) (codes "A")
    ≡ apart_at 0 (Some (codes "other B 0 operate BRK1 1")) None
unfolding digits datum_in
against_nothing = refl

no_such_peer : audit_of (run []) (run []) (codes "-") ≡ other_tables
no_such_peer = refl

-- ---- tables

-- the same by other numbers: points, devices and peers in another order, and a further point
abbrev other_rows : CentreRows
other_rows =
    record rows {
      points = record { name = codes "FREQ1"; kind = Real }
          ∷ record { name = codes "BUS2"; kind = State }
          ∷ record { name = codes "LOAD1"; kind = Discrete }
          ∷ record { name = codes "BUS1"; kind = State } ∷ [];
      devices = slice_index_or rows.devices 1 no_device ∷ slice_index_or rows.devices 0 no_device
          ∷ [];
      tables = table_b
          ∷ record table_a {
            sees = record { point = 3; vmd = false; layout = Value ∷ [] }
                ∷ record { point = 2; vmd = false; layout = Value ∷ Cov ∷ [] } ∷ [];
            controls = record { device = 1; tag = true } ∷ [];
          } ∷ [];
    }

abbrev by_numbers : PastRun
by_numbers =
    run (codes "1 open 0" ∷ codes "2 open 1" ∷ codes "0 update 0 s2 00 5 0"
    ∷ codes "2 call read DOMB/BRK1_SBO" ∷ codes "0 tag 0 1 vx" ∷ codes "1 call read DOMA/BUS1"
    ∷ codes "0 ask 0 0" ∷ [])

abbrev by_others : PastRun
by_others = record {
  centre = other_rows;
  past = past_of (codes "1 open 1" ∷ codes "2 open 0" ∷ codes "0 update 3 s2 00 5 0"
      ∷ codes "2 call read DOMB/BRK1_SBO" ∷ codes "0 tag 1 1 vx" ∷ codes "1 call read DOMA/BUS1"
      ∷ codes "0 ask 1 0" ∷ []);
}

by_other_numbers : audit_of by_numbers by_others (codes "A")
    ≡ equal_runs (reply_at 0 (Results None (Good (octet 128) ∷ [])) ∷ [])
unfolding digits
by_other_numbers = refl

-- of a tag, a choice, a request of the operator, a tick and the stop, by names
all_items : watched_lines (run (codes "0 tag 0 1 vA%20B" ∷ codes "0 tag 1 1 vx"
    ∷ codes "0 table 0 0" ∷ codes "0 table 1 0" ∷ codes "0 ask 0 0" ∷ codes "0 tick 7"
    ∷ codes "0 stop" ∷ [])) 0 (codes "A")
    ≡ codes "all tag BRK1 1 vA%20B" ∷ codes "all table A 0" ∷ codes "all ask A 0"
    ∷ codes "all tick 7" ∷ codes "all stop" ∷ []
unfolding digits
all_items = refl

-- no entries, over tables of which A's is another
abbrev over : Table → List ℕ → AuditVerdict
over table key =
    audit_of (run []) (record {
      centre = record rows { tables = table ∷ table_b ∷ [] };
      past = [];
    }) key

other_id : over (record table_a { id = codes "TBLX" }) (codes "A") ≡ other_tables
other_id = refl

other_title : over (record table_a { title = Some (codes "T") }) (codes "A") ≡ other_tables
other_title = refl

other_pending : over (record table_a { pending = 2048 }) (codes "A") ≡ other_tables
other_pending = refl

other_order : over (record table_a {
  sees = record { point = 1; vmd = false; layout = Value ∷ Cov ∷ [] }
      ∷ record { point = 0; vmd = false; layout = Value ∷ [] } ∷ [];
}) (codes "A") ≡ other_tables
other_order = refl

of_no_concern : over (record table_a { pending = 2048 }) (codes "B") ≡ equal_runs []
of_no_concern = refl

-- ---- reports

abbrev entry : EventKind → Entry
entry event = record { who = 1; event = event }

abbrev each_two : Wish
each_two = record (wish_a (codes "S1")) { interval = 2; conditions = 128 }

-- a transfer set that reports at its tick
abbrev reporting : PastRun
reporting = record {
  centre = rows;
  past = reverse (entry (Open 0) ∷ entry (Tick 10000)
      ∷ entry (Request (Define (in_a (codes "S1")) (in_a (codes "BUS1") ∷ [])))
      ∷ entry (Request (Read (in_a (codes "Next_DSTransfer_Set") ∷ []) false))
      ∷ entry (Request (Write (in_a (codes "DSTrans1") ∷ []) (shown_wish each_two ∷ [])))
      ∷ entry (Tick 12000) ∷ entry Take ∷ []);
}

report_taken : audit_of reporting reporting (codes "A")
    ≡ equal_runs (
    reply_at 0 Defined ∷ reply_at 0 (Results None (Good first_slot ∷ []))
    ∷ reply_at 0 (Written (None ∷ []))
    ∷ reports_at 0 (Set (in_a (codes "S1")) (Good (octet 48) ∷ []) ∷ []) ∷ []
    )
unfolding digits
report_taken = refl
