-- The definitions computed on worked histories, apart from all code.
use Rattle.std.proofs.Common.{◌≡◌, ℕ, ◌^◌, List, [], ◌∷◌, Option, Some, None, true, false, pos}
use Rattle.std.proofs.Common.{refl}
use Rattle.std.specs.Prelude.{codes}
use Rattle.std.specs.Fmt.{digits}
use Rattle.tase_points.specs.declared.kind.Kind.TheVariants.{State, Discrete, Real}
use Rattle.tase_points.specs.declared.body.Body.TheVariants as bodies
use Rattle.tase_points.specs.declared.layout.Component.TheVariants.{Value, Cov}
use Rattle.mms_data.specs.Datum.{integer, bits}
use Rattle.mms_data.specs.declared.object_name.Scope.TheVariants.{Vmd, Domain, Association}
use Rattle.mms_data.specs.ObjectName.{ObjectName}
use Rattle.bilateral.specs.declared.rows.Table.{Table}
use Rattle.bilateral.specs.Rows.{CentreRows}
use Rattle.tase_views.specs.declared.call.CallKind.{CallKind}
use Rattle.tase_views.specs.declared.call.CallKind.TheVariants.{Identify, Read, Write, NameList}
use Rattle.tase_views.specs.declared.call.CallKind.TheVariants.{Odd}
use Rattle.tase_views.specs.declared.event.EventKind.{EventKind}
use Rattle.tase_views.specs.declared.event.EventKind.TheVariants.{Open, Request, Take, Close}
use Rattle.tase_views.specs.declared.event.EventKind.TheVariants.{Update, Stop}
use Rattle.tase_views.specs.declared.event.Entry.{Entry}
use Rattle.tase_views.specs.declared.fault.StepFault.TheVariants.{Stopped, HistoryFull}
use Rattle.tase_views.specs.declared.fault.StepFault.TheVariants.{NoAssociation, Already}
use Rattle.tase_views.specs.declared.fault.StepFault.TheVariants.{UnknownName}
use Rattle.tase_views.specs.declared.reply.ReplyKind.TheVariants.{NamesAre, Error, Written}
use Rattle.tase_views.specs.declared.reply.ReplyKind.TheVariants.{Identified, Reject}
use Rattle.tase_views.specs.declared.reply.Answer.{Answer}
use Rattle.tase_views.specs.declared.reply.Answer.TheVariants.{Reply, Closed, Reports}
use Rattle.tase_views.specs.Setup.{Setup}
use Rattle.tase_views.specs.History.{Past, association_in}
use Rattle.tase_views.specs.Moves.{opens, closes}
use Rattle.tase_views.specs.View.{view_of, own, stopped}
use Rattle.tase_views.specs.Moves.{writes}
use Rattle.tase_views.specs.EventTexts.{call_text, event_text}
use Rattle.tase_views.specs.Weights.{weight_of}
use Rattle.tase_views.specs.Outcomes.{refusal_of, answer_of}

-- a peer A of the domain DOMA, which sees two points there, and a peer B, which sees one in the
-- whole device
abbrev table_a : Table
table_a =
    record {
      key = codes "A";
      title = None;
      domain = codes "DOMA";
      id = codes "TBLA";
      sees = record { point = 1; vmd = false; layout = Value ∷ Cov ∷ [] }
          ∷ record { point = 0; vmd = false; layout = Value ∷ [] } ∷ [];
      controls = [];
      slots = 1;
      sets = 64;
      pending = 1048576;
    }

abbrev table_b : Table
table_b =
    record {
      key = codes "B";
      title = None;
      domain = codes "DOMB";
      id = codes "TBLB";
      sees = record { point = 2; vmd = true; layout = Value ∷ [] } ∷ [];
      controls = [];
      slots = 8;
      sets = 64;
      pending = 1048576;
    }

abbrev rows : CentreRows
rows =
    record {
      points = record { name = codes "BUS1"; kind = State }
          ∷ record { name = codes "LOAD1"; kind = Discrete }
          ∷ record { name = codes "FREQ1"; kind = Real } ∷ [];
      devices = [];
      tables = table_a ∷ table_b ∷ [];
      variants = [] ∷ [] ∷ [];
    }

abbrev setup : Setup
setup = record { centre = rows; limit = 2 ^ 31 }

-- the same with so small a limit
abbrev within : ℕ → Setup
within limit = record { centre = rows; limit = limit }

abbrev entry : ℕ → EventKind → Entry
entry who event = record { who = who; event = event }

abbrev open_a : Past
open_a = entry 1 (Open 0) ∷ []

abbrev names : ℕ → List ℕ → Option (List ℕ) → CallKind
names class domain after = NameList (pos class) (Domain domain) after

abbrev asked : CallKind → Answer
asked call = answer_of setup open_a 1 (Request call)

domains-are : asked (NameList (pos 9) Vmd None) ≡ Reply (NamesAre (codes "DOMA" ∷ []) false)
domains-are = refl

no_names_of_another_domain : asked (names 0 (codes "DOMB") None) ≡ Reply (Error 7 2)
no_names_of_another_domain = refl

no_names_of_an_association :
    asked (NameList (pos 0) Association None) ≡ Reply (NamesAre [] false)
no_names_of_an_association = refl

names-are :
    asked (names 0 (codes "DOMA") None)
    ≡ Reply (NamesAre (codes "BUS1" ∷ codes "Bilateral_Table_ID" ∷ codes "DSConditions_Detected"
    ∷ codes "DSTrans1" ∷ codes "DSTrans1$Status" ∷ codes "Event_Code_Detected" ∷ codes "LOAD1"
    ∷ codes "Next_DSTransfer_Set" ∷ codes "Transfer_Set_Name" ∷ codes "Transfer_Set_Time_Stamp"
    ∷ []) false)
unfolding digits
names-are = refl

names_after-are : asked (names 0 (codes "DOMA") (Some (codes "Event_Code_Detected")))
    ≡ Reply (NamesAre (codes "LOAD1" ∷ codes "Next_DSTransfer_Set" ∷ codes "Transfer_Set_Name"
    ∷ codes "Transfer_Set_Time_Stamp" ∷ []) false)
unfolding digits
names_after-are = refl

names_of_the_device-are : asked (NameList (pos 0) Vmd None)
    ≡ Reply (NamesAre (codes "DSConditions_Detected" ∷ codes "Event_Code_Detected"
    ∷ codes "Supported_Features" ∷ codes "TASE2_Version" ∷ codes "Transfer_Set_Name"
    ∷ codes "Transfer_Set_Time_Stamp" ∷ []) false)
names_of_the_device-are = refl

no_sets-are : asked (names 2 (codes "DOMA") None) ≡ Reply (NamesAre [] false)
no_sets-are = refl

no_other_class : asked (names 9 (codes "DOMA") None) ≡ Reply (Error 7 3)
no_other_class = refl

identified : asked Identify ≡ Reply Identified
identified = refl

rejected : asked (Odd 5 1) ≡ Reply (Reject 5 1)
rejected = refl

abbrev named : List ℕ → ObjectName
named item = record { scope = Domain (codes "DOMA"); item = item }

abbrev write_two : CallKind
write_two =
    Write (named (codes "BUS1") ∷ named (codes "NOPE") ∷ [])
    (bits (record { count = 8; octets = 128 ∷ [] }) ∷ integer (pos 1) ∷ [])

written-are : asked write_two ≡ Reply (Written (Some 3 ∷ Some 10 ∷ []))
written-are = refl

taken-are : answer_of setup open_a 1 Take ≡ Reports []
taken-are = refl

-- each variable of a write is a move of its own
write-seen : view_of rows 0 (entry 1 (Request write_two) ∷ open_a)
    ≡ own 0 (writes (named (codes "NOPE")) (integer (pos 1)))
    ∷ own 0 (writes (named (codes "BUS1")) (bits (record { count = 8; octets = 128 ∷ [] })))
    ∷ own 0 opens ∷ []
write-seen = refl

-- after a stop only closes are taken
abbrev stopped_past : Past
stopped_past = entry 0 Stop ∷ open_a

abbrev closed_past : Past
closed_past = entry 1 Close ∷ stopped_past

close-is_taken : refusal_of setup stopped_past 1 Close ≡ None
close-is_taken = refl

close-is_answered : answer_of setup stopped_past 1 Close ≡ Closed
close-is_answered = refl

open-is_stopped : refusal_of setup closed_past 1 (Open 0) ≡ Some (Stopped 1)
open-is_stopped = refl

stop-is_stopped : refusal_of setup closed_past 0 Stop ≡ Some (Stopped 1)
stop-is_stopped = refl

closed-has_no_association : association_in closed_past 1 ≡ None
closed-has_no_association = refl

closed-seen : view_of rows 0 closed_past ≡ own 0 closes ∷ stopped ∷ own 0 opens ∷ []
closed-seen = refl

closed-seen_by_another : view_of rows 1 closed_past ≡ stopped ∷ []
closed-seen_by_another = refl

close-wants_an_association : refusal_of setup closed_past 1 Close ≡ Some NoAssociation
close-wants_an_association = refl

open_again : refusal_of setup open_a 1 (Open 7) ≡ Some Already
open_again = refl

no_such_peer : refusal_of setup [] 1 (Open 7) ≡ Some UnknownName
no_such_peer = refl

-- `open 0` weighs six octets, `take` four, `stop` four and `close` five
history-weighs : weight_of closed_past ≡ 15
unfolding digits
history-weighs = refl

take-is_full : refusal_of (within 9) open_a 1 Take ≡ Some (HistoryFull 10 9)
unfolding digits
take-is_full = refl

take-fits : refusal_of (within 10) open_a 1 Take ≡ None
unfolding digits
take-fits = refl

close-fits : refusal_of (within 6) open_a 1 Close ≡ None
close-fits = refl

stop-fits : refusal_of (within 6) open_a 1 Stop ≡ None
stop-fits = refl

read-text : event_text (Request (Read (named (codes "BUS1") ∷ []) true))
    ≡ codes "call read+ DOMA/BUS1"
read-text = refl

write-text : call_text write_two ≡ codes "write DOMA/BUS1=b8.80 DOMA/NOPE=i1"
unfolding digits
write-text = refl

names-text : call_text (names 0 (codes "DOMA") (Some (codes "A B"))) ≡ codes "names 0 DOMA/ A%20B"
unfolding digits
names-text = refl

domains-text : call_text (NameList (pos 9) Vmd None) ≡ codes "names 9 vmd:"
unfolding digits
domains-text = refl

odd-text : call_text (Odd 5 1) ≡ codes "odd 5 1"
unfolding digits
odd-text = refl

update-text : event_text (Update 0 (record {
  body = bodies.State 2;
  flags = 0;
  seconds = 1700000000;
  millis = 0;
})) ≡ codes "update 0 s2 00 1700000000 0"
unfolding digits
update-text = refl
