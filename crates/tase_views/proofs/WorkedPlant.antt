-- Two devices that are selected and one that is direct, named by two peers: their holds, setpoints
-- and tags computed on worked moves, apart from all code.
use Rattle.std.proofs.Common.{◌≡◌, ℕ, pos, negsuc, List, [], ◌∷◌, Some, None, true, false, refl}
use Rattle.std.specs.Prelude.{codes}
use Rattle.std.specs.Fmt.{digits}
use Rattle.mms_data.specs.Datum.{Datum, integer, unsigned, bits, text, structure, data_of}
use Rattle.mms_data.specs.declared.outcome.Outcome.TheVariants.{Good, Fail}
use Rattle.bilateral.specs.declared.rows.Table.{Table}
use Rattle.bilateral.specs.Rows.{CentreRows}
use Rattle.sbo_device.specs.declared.kind.CommandKind.TheVariants.{Command, Setpoint}
use Rattle.sbo_device.specs.Moves.{tagging}
use Rattle.tase_views.specs.declared.call.CallKind.{CallKind}
use Rattle.tase_views.specs.declared.reply.ReplyKind.{ReplyKind}
use Rattle.tase_views.specs.declared.reply.ReplyKind.TheVariants.{Results, Written}
use Rattle.tase_views.specs.Moves.{opens, closes, reads, writes, Move, ticks}
use Rattle.tase_views.specs.OwnTables.{own_tables}
use Rattle.tase_views.specs.View.{View, view_by, own, other_acted}
use Rattle.tase_views.specs.Answers.{reply_to}
use Rattle.tase_views.specs.Reports.{reports_pending}
use Rattle.tase_views.specs.declared.reply.ReportKind.{ReportKind}
use Rattle.tase_views.specs.declared.reply.ReportKind.TheVariants.{Variables}
use Rattle.tase_views.proofs.NodeSample.{by_a, by_b, in_a, in_b, read_one, write_one}

abbrev table_a : Table
table_a =
    record {
      key = codes "A";
      title = None;
      domain = codes "DOMA";
      id = codes "TBLA";
      sees = [];
      controls = record { device = 1; tag = false } ∷ record { device = 0; tag = false }
          ∷ record { device = 2; tag = true } ∷ [];
      slots = 1;
      sets = 64;
      pending = 1048576;
    }

abbrev table_b : Table
table_b =
    record {
      key = codes "B";
      title = None;
      domain = codes "DOMB";
      id = codes "TBLB";
      sees = [];
      controls = record { device = 1; tag = false } ∷ record { device = 2; tag = false } ∷ [];
      slots = 1;
      sets = 64;
      pending = 1048576;
    }

-- a breaker that answers 77, a tap from -5 to 10 that answers 5, and a capacitor that is direct
abbrev rows : CentreRows
rows =
    record {
      points = [];
      devices =
          record {
            name = codes "BRK1";
            kind = Command;
            direct = false;
            checkback = pos 77;
            span = 30000;
          }
          ∷ record {
            name = codes "TAP1";
            kind = Setpoint (negsuc 4) (pos 10);
            direct = false;
            checkback = pos 5;
            span = 30000;
          }
          ∷ record {
            name = codes "CAP1";
            kind = Command;
            direct = true;
            checkback = pos 0;
            span = 0;
          } ∷ [];
      tables = table_a ∷ table_b ∷ [];
      variants = [] ∷ [] ∷ [];
    }

abbrev seen_of : ℕ → List Move → View
seen_of peer moves = view_by rows (own_tables rows) peer moves

abbrev told_a : List Move → CallKind → ReplyKind
told_a moves call = reply_to (own_tables rows 0) (seen_of 0 moves) 0 call

abbrev told_b : List Move → CallKind → ReplyKind
told_b moves call = reply_to (own_tables rows 1) (seen_of 1 moves) 0 call

abbrev taken_a : List Move → List ReportKind
taken_a moves = reports_pending (own_tables rows 0) (seen_of 0 moves) 0

abbrev both_open : List Move
both_open = by_b opens ∷ by_a opens ∷ ticks 40000 ∷ []

-- A selects the breaker and the tap
abbrev both_held : List Move
both_held =
    by_a (reads (in_a (codes "TAP1_SBO"))) ∷ by_a (reads (in_a (codes "BRK1_SBO"))) ∷ both_open

tap_is_held : told_b both_held (read_one (in_b (codes "TAP1_SBO"))) ≡ (Results None (Fail 2 ∷ []))
unfolding digits
tap_is_held = refl

-- both selections end at one tick, and are told in the order of the table
both_run_out :
    taken_a (ticks 70000 ∷ ticks 69999 ∷ both_held)
    ≡ (Variables (in_a (codes "TAP1_TIMEOUT") ∷ []) (Good (integer (pos 5)) ∷ [])
    ∷ Variables (in_a (codes "BRK1_TIMEOUT") ∷ []) (Good (integer (pos 77)) ∷ []) ∷ [])
unfolding digits
both_run_out = refl

tap_is_free_then : told_b (ticks 70000 ∷ both_held) (read_one (in_b (codes "TAP1_SBO")))
    ≡ (Results None (Good (integer (pos 5)) ∷ []))
unfolding digits
tap_is_free_then = refl

-- and both at the close of their association, without a report
tap_is_free_behind_the_close :
    told_b (by_a closes ∷ both_held) (read_one (in_b (codes "TAP1_SBO")))
    ≡ (Results None (Good (integer (pos 5)) ∷ []))
unfolding digits
tap_is_free_behind_the_close = refl

nothing_is_told_behind_the_close : taken_a (ticks 70000 ∷ by_a closes ∷ both_held) ≡ []
unfolding digits
nothing_is_told_behind_the_close = refl

-- the device that B doesn't have is nothing to it
breaker_is_unseen :
    seen_of 1 (by_a (reads (in_a (codes "BRK1_SBO"))) ∷ both_open)
    ≡ own 0 opens ∷ seen_of 1 (ticks 40000 ∷ [])
unfolding digits
breaker_is_unseen = refl

-- the lowest and the highest value of the setpoint are in its list, those beside them aren't
abbrev tap : Datum → CallKind
tap value = write_one (in_a (codes "TAP1")) value

lowest : told_a both_held (tap (integer (negsuc 4))) ≡ (Written (None ∷ []))
unfolding digits
lowest = refl

below_the_lowest : told_a both_held (tap (integer (negsuc 5))) ≡ (Written (Some 11 ∷ []))
unfolding digits
below_the_lowest = refl

highest : told_a both_held (tap (unsigned 10)) ≡ (Written (None ∷ []))
unfolding digits
highest = refl

above_the_highest : told_a both_held (tap (integer (pos 11))) ≡ (Written (Some 11 ∷ []))
unfolding digits
above_the_highest = refl

no_text_is_taken : told_a both_held (tap (text (codes "5"))) ≡ (Written (Some 7 ∷ []))
unfolding digits
no_text_is_taken = refl

-- another's tagging of a direct device is seen, and inhibits; its operates aren't seen
abbrev safe : Datum
safe =
    structure (data_of (bits (record { count = 2; octets = 64 ∷ [] }) ∷ text (codes "safe") ∷ []))

abbrev tagged_by_a : List Move
tagged_by_a = by_a (writes (in_a (codes "CAP1_TAG")) safe) ∷ both_open

tagging_is_seen :
    seen_of 1 tagged_by_a
    ≡ other_acted (codes "A") 0 (codes "CAP1") (tagging (record { tag = 1; reason = codes "safe" }))
    ∷ own 0 opens ∷ seen_of 1 (ticks 40000 ∷ [])
unfolding digits
tagging_is_seen = refl

tag_is_read : told_b tagged_by_a (read_one (in_b (codes "CAP1_TAG")))
    ≡ (Results None (Good safe ∷ []))
unfolding digits
tag_is_read = refl

tag_inhibits : told_b tagged_by_a (write_one (in_b (codes "CAP1")) (integer (pos 0)))
    ≡ (Written (Some 3 ∷ []))
unfolding digits
tag_inhibits = refl

operate_of_a_direct_device_is_unseen :
    seen_of 1 (by_a (writes (in_a (codes "CAP1")) (integer (pos 1))) ∷ both_open)
    ≡ own 0 opens ∷ seen_of 1 (ticks 40000 ∷ [])
unfolding digits
operate_of_a_direct_device_is_unseen = refl
