-- What each kind of thing that was read asks for, or how it ends the connection.
use Rattle.std.proofs.Common.{◌≡◌, ℕ, Bool, true, false, List, [], ◌∷◌, ◌++◌, Option, Some}
use Rattle.std.proofs.Common.{None, ℤ, refl, sym, ap, subst, ◌∙◌, inl, inr}
use Rattle.std.specs.Prelude.{◌⊎◌, ◌||◌, ◌&&◌, not, if◌then◌else◌, MatchOption, is_some, option_map}
use Rattle.std.specs.List.{list_any}
use Rattle.std.proofs.lemmas.Bool.{false≢true}
use Rattle.std.proofs.lemmas.List.{append-nil}
use Rattle.bilateral.specs.Rows.{CentreRows, place_of_title}
use Rattle.mms_services.specs.Negotiations.{granted}
use Rattle.mms_services.specs.declared.initiate.Initiate.{Initiate}
use Rattle.mms_services.specs.declared.pdu.MmsPdu.{MmsPdu}
use Rattle.mms_services.specs.declared.pdu.MmsPdu.TheVariants as pdus
use Rattle.mms_services.specs.declared.request.Request.{Request}
use Rattle.stack_assoc.specs.declared.messages.fault.StackFault.{StackFault}
use Rattle.stack_assoc.specs.declared.wire.setup.AssociationSetup.{AssociationSetup}
use Rattle.stack_assoc.specs.declared.input.StackIn.TheVariants as inputs
use Rattle.stack_assoc.specs.declared.messages.heard.Heard.TheVariants as heards
use Rattle.stack_assoc.specs.Arrivals.{Arrival, called, heard, is_conclude}
use Rattle.stack_assoc.specs.Courses.{CourseStands, is_accepted}
use Rattle.stack_assoc.specs.Courses as courses
use Rattle.stack_assoc.specs.Tellings.{StopsTelling}
use Rattle.stack_assoc.specs.Expectations.{setup_after}
use Rattle.tase_views.specs.declared.event.EventKind.TheVariants as events
use Rattle.tase_conn.specs.Map.Asked.{call_of_request, invalid}
use Rattle.tase_conn.specs.Map.Inputs.{Item, text_given}
use Rattle.tase_conn.specs.Map.Readings.{reading_of}
use Rattle.tase_conn.specs.Map.Turns.{Turn, offers, offers_badly, asks, concludes, releases, aborts}
use Rattle.tase_conn.specs.Map.Turns.{breaks, ends, pauses, turn_of_pdu}
use Rattle.tase_conn.specs.Map.Asks.{begins, finishes, is_last, is_open_behind, open_of, event_if}
use Rattle.tase_conn.specs.Map.Out.{abort_wire, release_wire}
use Rattle.tase_conn.proofs.OfMap.Fronts.{setup_fixed}
use Rattle.tase_conn.proofs.OfMap.ReadingLaws.{reading_only}
use Rattle.tase_conn.specs.declared.stage.ConnEnd.TheVariants as conn_ends
use Rattle.tase_conn.specs.declared.stage.Stage.{Stage}
use Rattle.tase_conn.specs.declared.stage.Stage.TheVariants as stages
use Rattle.tase_conn.specs.declared.stage.Coming.TheVariants as comings
use Rattle.tase_conn.specs.declared.stage.Cause.{Cause}
use Rattle.tase_conn.specs.declared.stage.Cause.TheVariants as causes
use Rattle.tase_conn.specs.declared.stage.PendingEvent.TheVariants as askeds
use Rattle.tase_conn.specs.Talking.{Talking}
use Rattle.tase_conn.specs.Places.{Runs, InputIsDue, PduIsDue, IsAgreed, has_begun, has_finished}
use Rattle.tase_conn.specs.Places.{Position, position_by, coming_by, turn_for, turn_listed}
use Rattle.tase_conn.specs.Wanting.{behind_close, refusal_said}
use Rattle.tase_conn.proofs.Acted.{HasToldAll, ends_with, Asking, Ending, Passing}

-- ---- an offer

pub asks_open : (rows : CentreRows) (told : List Arrival) (turns : List Turn)
    (title : Option (List ℕ)) (initiate offered : Initiate) (peer : ℕ) (stage : Stage)
    → InputIsDue told stage (inputs.Offer title initiate)
    → place_of_title rows title ≡ Some peer → offered ≡ granted initiate
    → list_any (is_last rows) turns ≡ false
    → Asking rows told turns (offers title) (events.Open peer) stage (askeds.Opening peer offered)
    (comings.Input (inputs.Offer title initiate))
asks_open rows told turns title initiate offered peer stages.Early due place g goes = record {
  turn_is = refl;
  at = refl;
  reached = ap (λ (p : Option ℕ). record {
    begun = false || (is_some p || false);
    finished = false;
    ending = false || (not (is_some p) || false);
  }) place;
  agreed = record {
    connect = due.connect;
    first = due.first;
    is = g ∙ ap (λ (i : Initiate). granted i) (sym due.initiate_is);
  };
  last = (title, ends_with rows turns (offers title) goes, place);
  asks_are = ap (λ (p : Option ℕ). open_of p) place;
  quiet = λ setup. ap (λ (p : Option ℕ). if is_some p then [] else refusal_said setup) place;
  waits = refl;
  due = tt;
  passed = λ b p. tt;
}
asks_open rows told turns title initiate offered peer (stages.Open p d) due place g goes =
    absurd due
asks_open rows told turns title initiate offered peer (stages.Closed p) due place g goes =
    absurd due

-- ---- what an open association asks for

pub asks_request : (rows : CentreRows) (told : List Arrival) (turns : List Turn) (invoke : ℕ)
    (request : Request) (stage : Stage)
    → PduIsDue stage (pdus.Request invoke request) → IsAgreed told stage askeds.Nothing
    → list_any (is_last rows) turns ≡ false
    → Asking rows told turns (asks invoke (call_of_request request)) (events.Request (call_of_request request))
    stage (askeds.Requesting invoke) (comings.Input (inputs.Pdu (pdus.Request invoke request)))
asks_request rows told turns invoke request stages.Early due agreed goes = absurd cc
asks_request rows told turns invoke request (stages.Closed p) due agreed goes = absurd cc
asks_request rows told turns invoke request (stages.Open p d) due agreed goes = record {
  turn_is = refl;
  at = refl;
  reached = refl;
  agreed = agreed;
  last = (call_of_request request, ends_with rows turns (asks invoke (call_of_request request)) goes);
  asks_are = refl;
  quiet = λ setup. refl;
  waits = tt;
  due = tt;
  passed = λ b p. tt;
}

pub asks_badly : (rows : CentreRows) (told : List Arrival) (turns : List Turn) (invoke : ℕ)
    (stage : Stage) → InputIsDue told stage (inputs.BadRequest invoke)
    → IsAgreed told stage askeds.Nothing → list_any (is_last rows) turns ≡ false
    → Asking rows told turns (asks invoke invalid) (events.Request invalid) stage
    (askeds.Requesting invoke) (comings.Input (inputs.BadRequest invoke))
asks_badly rows told turns invoke stages.Early due agreed goes = absurd due
asks_badly rows told turns invoke (stages.Closed p) due agreed goes = absurd due
asks_badly rows told turns invoke (stages.Open p d) due agreed goes = record {
  turn_is = refl;
  at = refl;
  reached = refl;
  agreed = agreed;
  last = (invalid, ends_with rows turns (asks invoke invalid) goes);
  asks_are = refl;
  quiet = λ setup. refl;
  waits = tt;
  due = tt;
  passed = λ b p. tt;
}

pub asks_take : (rows : CentreRows) (told : List Arrival) (turns : List Turn) (peer : ℕ) (detail : ℤ)
    → IsAgreed told (stages.Open peer detail) askeds.Nothing → is_open_behind rows turns ≡ true
    → list_any (is_last rows) turns ≡ false
    → Asking rows told turns pauses events.Take (stages.Open peer detail) askeds.Taking
    comings.Pause
asks_take rows told turns peer detail agreed is goes = record {
  turn_is = refl;
  at = refl;
  reached = refl;
  agreed = agreed;
  last = ends_with rows turns pauses goes;
  asks_are = ap (λ (b : Bool). event_if b events.Take) is;
  quiet = λ setup. refl;
  waits = tt;
  due = tt;
  passed = λ b p. p;
}

close_for : (b : Bool) → b ≡ true → event_if b events.Close ≡ events.Close ∷ []
close_for b e = ap (λ (x : Bool). event_if x events.Close) e

quiet_open : (rows : CentreRows) (turns : List Turn) (octets : List ℕ)
    → is_open_behind rows turns ≡ true → behind_close rows turns octets ≡ []
quiet_open rows turns octets e = ap (λ (b : Bool). if b then [] else
    (if list_any (begins rows) turns then octets else [])) e

-- its close
pub asks_close : (rows : CentreRows) (told : List Arrival) (turns : List Turn) (cause : Cause)
    (peer : ℕ) (detail : ℤ) → IsAgreed told (stages.Open peer detail) askeds.Nothing
    → is_open_behind rows turns ≡ true → list_any (is_last rows) turns ≡ false
    → list_any finishes turns ≡ false
    → Asking rows told turns (turn_for cause) events.Close (stages.Open peer detail)
    (askeds.Closing cause) (coming_by cause)
asks_close rows told turns causes.Concluded peer detail agreed is goes shut = record {
  turn_is = refl;
  at = refl;
  reached = refl;
  agreed = agreed;
  last = (ends_with rows turns concludes goes, shut);
  asks_are = close_for (is_open_behind rows turns) is;
  quiet = λ setup. refl;
  waits = tt;
  due = tt;
  passed = λ b p. tt;
}
asks_close rows told turns causes.Released peer detail agreed is goes shut = record {
  turn_is = refl;
  at = refl;
  reached = refl;
  agreed = agreed;
  last = (ends_with rows turns releases goes, shut);
  asks_are = close_for (is_open_behind rows turns) is;
  quiet = λ setup. quiet_open rows turns (release_wire setup) is;
  waits = tt;
  due = tt;
  passed = λ b p. tt;
}
asks_close rows told turns causes.Aborted peer detail agreed is goes shut = record {
  turn_is = refl;
  at = refl;
  reached = refl;
  agreed = agreed;
  last = (ends_with rows turns aborts goes, shut);
  asks_are = close_for (is_open_behind rows turns) is;
  quiet = λ setup. refl;
  waits = tt;
  due = tt;
  passed = λ b p. tt;
}
asks_close rows told turns causes.LinkEnd peer detail agreed is goes shut = record {
  turn_is = refl;
  at = refl;
  reached = refl;
  agreed = agreed;
  last = (ends_with rows turns ends goes, shut);
  asks_are = close_for (is_open_behind rows turns) is;
  quiet = λ setup. refl;
  waits = tt;
  due = tt;
  passed = λ b p. tt;
}
asks_close rows told turns (causes.Broken fault) peer detail agreed is goes shut = record {
  turn_is = refl;
  at = refl;
  reached = refl;
  agreed = agreed;
  last = (ends_with rows turns breaks goes, shut);
  asks_are = close_for (is_open_behind rows turns) is;
  quiet = λ setup. quiet_open rows turns (abort_wire setup) is;
  waits = tt;
  due = tt;
  passed = λ b p. tt;
}

-- ---- what ends the connection

-- what the connect fixed is known once it has come
pub setup_known : (rows : CentreRows) (items : List Item) (told : List Arrival) (turns : List Turn)
    (v : Talking) → Runs rows items told turns askeds.Nothing v
    → (position_by v.stage askeds.Nothing v.held).connected ≡ true
    → v.course.setup ≡ setup_after told
setup_known rows items told turns v r is =
    (setup_fixed (text_given items) told v.course r.stands (ap (λ (p : Position). p.connected) r.at ∙ is)).0

pub declines_offer : (rows : CentreRows) (items : List Item) (told : List Arrival)
    (turns : List Turn) (title : Option (List ℕ)) (initiate : Initiate) (setup : AssociationSetup)
    → place_of_title rows title ≡ None → setup ≡ setup_after told
    → HasToldAll items told conn_ends.Declined
    → Ending rows items told turns (offers title) conn_ends.Declined (refusal_said setup)
    (comings.Input (inputs.Offer title initiate))
declines_offer rows items told turns title initiate setup place known all = record {
  told_all = all;
  turn_is = refl;
  is_last = ap (λ (p : Option ℕ). not (is_some p)) place;
  cause = refl;
  asks_are = ap (λ (p : Option ℕ). open_of p) place;
  said = ap (λ (p : Option ℕ). if is_some p then [] else refusal_said (setup_after told)) place
      ∙ ap (λ (s : AssociationSetup). refusal_said s) (sym known);
}

pub declines_badly : (rows : CentreRows) (items : List Item) (told : List Arrival)
    (turns : List Turn) (setup : AssociationSetup) → setup ≡ setup_after told
    → HasToldAll items told conn_ends.Declined
    → Ending rows items told turns offers_badly conn_ends.Declined (refusal_said setup)
    (comings.Input inputs.BadOffer)
declines_badly rows items told turns setup known all = record {
  told_all = all;
  turn_is = refl;
  is_last = refl;
  cause = refl;
  asks_are = refl;
  said = ap (λ (s : AssociationSetup). refusal_said s) (sym known);
}

none_for : (b : Bool) → b ≡ false → event_if b events.Close ≡ []
none_for b e = ap (λ (x : Bool). event_if x events.Close) e

-- behind the close of an association it is said, before its open nothing is
said_closed : (rows : CentreRows) (turns : List Turn) (octets : List ℕ) (b : Bool)
    → is_open_behind rows turns ≡ false → list_any (begins rows) turns ≡ b
    → behind_close rows turns octets ≡ (if b then octets else [])
said_closed rows turns octets b e f =
    ap (λ (x : Bool). if x then [] else (if list_any (begins rows) turns then octets else [])) e
    ∙ ap (λ (x : Bool). if x then octets else []) f

pub ends_released : (rows : CentreRows) (items : List Item) (told : List Arrival)
    (turns : List Turn) (setup : AssociationSetup) → setup ≡ setup_after told
    → is_open_behind rows turns ≡ false → list_any (begins rows) turns ≡ true
    → HasToldAll items told conn_ends.Finished
    → Ending rows items told turns releases conn_ends.Finished (release_wire setup)
    (coming_by causes.Released)
ends_released rows items told turns setup known e f all = record {
  told_all = all;
  turn_is = refl;
  is_last = refl;
  cause = refl;
  asks_are = none_for (is_open_behind rows turns) e;
  said = said_closed rows turns (release_wire (setup_after told)) true e f
      ∙ ap (λ (s : AssociationSetup). release_wire s) (sym known);
}

pub ends_aborted : (rows : CentreRows) (items : List Item) (told : List Arrival)
    (turns : List Turn) → is_open_behind rows turns ≡ false
    → HasToldAll items told conn_ends.PeerEnd
    → Ending rows items told turns aborts conn_ends.PeerEnd [] (coming_by causes.Aborted)
ends_aborted rows items told turns e all = record {
  told_all = all;
  turn_is = refl;
  is_last = refl;
  cause = refl;
  asks_are = none_for (is_open_behind rows turns) e;
  said = refl;
}

pub ends_linked : (rows : CentreRows) (items : List Item) (told : List Arrival)
    (turns : List Turn) → is_open_behind rows turns ≡ false
    → HasToldAll items told conn_ends.PeerEnd
    → Ending rows items told turns ends conn_ends.PeerEnd [] (coming_by causes.LinkEnd)
ends_linked rows items told turns e all = record {
  told_all = all;
  turn_is = refl;
  is_last = refl;
  cause = refl;
  asks_are = none_for (is_open_behind rows turns) e;
  said = refl;
}

-- the rule that was broken is the one that the octets break
pub broken_is : (items : List Item) (told : List Arrival) (fault : StackFault) (v : Talking)
    → CourseStands called (text_given items) told v.course → v.course.fault ≡ Some fault
    → (reading_of (text_given items)).broken ≡ Some fault
broken_is items told fault v s e =
    ap (λ r. r.broken) (reading_only (text_given items) told (Some fault)
    (subst (λ (f : Option StackFault). MatchOption f
    (courses.ReadsMessages called (text_given items) told v.course)
    (λ g. StopsTelling called (text_given items) told g)) e s.reads))

pub ends_broken : (rows : CentreRows) (items : List Item) (told : List Arrival)
    (turns : List Turn) (fault : StackFault) (setup : AssociationSetup) (b : Bool)
    → setup ≡ setup_after told ⊎ (b ≡ false) → is_open_behind rows turns ≡ false
    → list_any (begins rows) turns ≡ b → (reading_of (text_given items)).broken ≡ Some fault
    → HasToldAll items told (conn_ends.Refused fault)
    → Ending rows items told turns breaks (conn_ends.Refused fault)
    (if b then abort_wire setup else []) (coming_by (causes.Broken fault))
ends_broken rows items told turns fault setup b known e f broken all = record {
  told_all = all;
  turn_is = refl;
  is_last = refl;
  cause = ap (λ (b : Option StackFault). option_map conn_ends.Refused b) broken;
  asks_are = none_for (is_open_behind rows turns) e;
  said = said_closed rows turns (abort_wire (setup_after told)) b e f
      ∙ said_known b setup (setup_after told) known;
}
  where
    said_known : (b : Bool) (setup other : AssociationSetup) → setup ≡ other ⊎ (b ≡ false)
        → (if b then abort_wire other else []) ≡ (if b then abort_wire setup else [])
    said_known b setup other (inl k) =
        ap (λ (s : AssociationSetup). if b then abort_wire s else []) (sym k)
    said_known true setup other (inr k) = absurd (false≢true (sym k))
    said_known false setup other (inr k) = refl

-- ---- what has no effect

no_conclude : (pdu : MmsPdu) → turn_of_pdu pdu ≡ None → is_conclude (heard (heards.Pdu pdu)) ≡ false
no_conclude (pdus.Request invoke request) e = refl
no_conclude (pdus.Response invoke response) e = refl
no_conclude (pdus.Error x) e = refl
no_conclude (pdus.Report r) e = refl
no_conclude (pdus.Reject r) e = refl
no_conclude (pdus.Initiate offer) e = refl
no_conclude (pdus.Initiated offer) e = refl
no_conclude pdus.InitiateError e = refl
no_conclude pdus.Conclude e = absurd cc
no_conclude pdus.Concluded e = refl

or_false : (b : Bool) → (b || false) ≡ b
or_false true = refl
or_false false = refl

pub passes_pdu : (rows : CentreRows) (turns : List Turn) (stage : Stage) (pdu : MmsPdu)
    → turn_of_pdu pdu ≡ None → Passing rows turns [] stage (comings.Input (inputs.Pdu pdu))
passes_pdu rows turns stage pdu no_turn = record {
  turns_are = ap (λ (t : Option Turn). turn_listed t) no_turn;
  at = rw (no_conclude pdu no_turn, or_false (has_finished stage)) refl;
  reached = rw (or_false (has_begun stage), or_false (has_finished stage)) refl;
  asks_are = refl;
  quiet = λ setup. refl;
}

-- a pause, where no association is open
abbrev pub IsShut : Stage → Type 0
IsShut stages.Early = Unit {0}
IsShut (stages.Open peer detail) = ⊥
IsShut (stages.Closed peer) = Unit {0}

pub shut_open : (stage : Stage) → IsShut stage → (has_begun stage && not (has_finished stage)) ≡ false
shut_open stages.Early s = refl
shut_open (stages.Open p d) s = absurd s
shut_open (stages.Closed p) s = refl

pub passes_pause : (rows : CentreRows) (turns : List Turn) (stage : Stage)
    → is_open_behind rows turns ≡ false → Passing rows turns (pauses ∷ []) stage comings.Pause
passes_pause rows turns stage shut = record {
  turns_are = refl;
  at = refl;
  reached = rw (or_false (has_begun stage), or_false (has_finished stage)) refl;
  asks_are = ap (λ (x : Bool). event_if x events.Take ++ []) shut;
  quiet = λ setup. refl;
}
