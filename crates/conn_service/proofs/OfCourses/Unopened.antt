-- A connection whose open waits has said all that its peer is sent.
use Rattle.std.proofs.Common.{◌≡◌, ℕ, Bool, false, List, [], ◌∷◌, ◌++◌, Option, Some}
use Rattle.std.proofs.Common.{refl, sym, ap, subst, ◌∙◌, append_assoc, reverse}
use Rattle.std.specs.Prelude.{is_some, if◌then◌else◌, not}
use Rattle.std.proofs.lemmas.List.{append-nil}
use Rattle.tpkt_cotp.specs.Written.{wire}
use Rattle.mms_services.specs.declared.initiate.Initiate.{Initiate}
use Rattle.stack_assoc.specs.Wire.Tsdus.{refusal_tsdu}
use Rattle.stack_assoc.specs.Arrivals.{called}
use Rattle.stack_assoc.specs.Handing.{answers_to}
use Rattle.stack_assoc.specs.Expectations.{setup_after}
use Rattle.bilateral.specs.Rows.{CentreRows}
use Rattle.tase_views.specs.declared.event.EventKind.{EventKind}
use Rattle.tase_views.specs.declared.event.EventKind.TheVariants as events
use Rattle.tase_views.specs.History.{Past}
use Rattle.tase_conn.specs.Map.Inputs.{Item, text_given, link_has_ended}
use Rattle.tase_conn.specs.Map.Readings.{reading_of}
use Rattle.tase_conn.specs.Map.Turns.{Turn, offers, turns_told, turns_of}
use Rattle.tase_conn.specs.Map.Asks.{asks_behind, without_pauses}
use Rattle.tase_conn.specs.Map.Out.{is_declined, refusal_octets}
use Rattle.tase_conn.specs.Map.Linked.{octets_by, link_octets}
use Rattle.tase_conn.proofs.OfMap.TurnOrder.{AllFollow, turns_follow}
use Rattle.tase_conn.proofs.OfMap.Uncut.{without-append}
use Rattle.tase_conn.specs.declared.stage.PendingEvent.{PendingEvent}
use Rattle.tase_conn.specs.declared.stage.PendingEvent.TheVariants as askeds
use Rattle.tase_conn.specs.declared.stage.Progress.{Progress}
use Rattle.tase_conn.specs.declared.stage.Progress.TheVariants as progresses
use Rattle.tase_conn.specs.Talking.{Talking}
use Rattle.tase_conn.specs.Places.{Runs}
use Rattle.tase_conn.proofs.Known.{asked_connected}
use Rattle.conn_service.specs.Courses.Serving.{IsWaiting, Serves}
use Rattle.conn_service.proofs.OfCourses.Answered.{asked_turn, opens_early}
use Rattle.conn_service.proofs.OfCourses.Ended.{declined_told}
use Rattle.conn_service.proofs.OfCourses.Seats.{none_opened, goes_at, says_at}
use Rattle.conn_service.proofs.OfCourses.Served.{begins_turns}
use Rattle.conn_service.proofs.OfCourses.Texts.{fixed_over, text_turns}
use Rattle.conn_service.proofs.OfCourses.TurnLists.{silent}
use Rattle.conn_service.proofs.OfCourses.Wanted.{waiting_of}

opening_said : (rows : CentreRows) (past : Past) (who : ℕ) (items : List Item)
    (octets : List ℕ) (event : EventKind) (v : Talking) (peer : ℕ) (offered : Initiate)
    → (s : Serves rows past who items octets (Some event) v)
    → v.progress ≡ progresses.Running (askeds.Opening peer offered)
    → Runs rows items s.told s.turns (askeds.Opening peer offered) v
    → octets ≡ link_octets rows past who items
opening_said rows past who items octets event v peer offered s p r =
    let asked = askeds.Opening peer offered in
    let early = opens_early peer offered v.stage v.held r.waits in
    let title = r.last.0 in
    let a = asked_turn rows s.answered s.turns event (offers title) s.are r.last.1 in
    let before = says_at s early p in
    let none : asks_behind rows [] s.answered ≡ [] =
    sym s.asked ∙ ap (λ (es : List EventKind). reverse es) before.0 in
    let connect = asked_connected r tt in
    let x = fixed_over items [] s.told v.course r.stands connect in
    let whole = reading_of (text_given items) in
    let answers : answers_to called whole.told ≡ answers_to called s.told =
    ap (λ (is : List Item). answers_to called (reading_of (text_given is)).told) (sym
    (append-nil items))
    ∙ x.answered in
    let f = begins_turns rows items s.told s.turns asked v r in
    let t : turns_of items ≡ s.answered ++ offers title ∷ f.0 =
    f.1 ∙ ap (λ (ts : List Turn). ts ++ f.0) a.is
    ∙ append_assoc s.answered (offers title ∷ []) f.0 in
    let alone : without_pauses s.answered ≡ [] =
    silent rows [] s.answered (offers title ∷ f.0) refl a.goes
    (subst (λ (ts : List Turn). AllFollow [] ts) t (turns_follow items s.input)) none in
    let accepted : is_declined rows (turns_told whole) ≡ false =
    sym (declined_told rows (turns_told whole) (link_has_ended items))
    ∙ ap (λ (ts : List Turn). is_declined rows ts)
    (sym (text_turns items s.input) ∙ ap (λ (ts : List Turn). without_pauses ts) t
    ∙ without-append s.answered (offers title ∷ f.0)
    ∙ ap (λ (ts : List Turn). ts ++ offers title ∷ without_pauses f.0) alone)
    ∙ ap (λ (found : Option ℕ). not (is_some found)) r.last.2 in
    let unrefused : refusal_octets rows whole ≡ [] =
    ap (λ (b : Bool). if b then wire (setup_after whole.told).size
    (refusal_tsdu (setup_after whole.told).acse) else []) accepted in
    before.1 ∙ sym answers ∙ sym (append-nil (answers_to called whole.told))
    ∙ ap (λ (os : List ℕ). answers_to called whole.told ++ os) (sym unrefused)
    ∙ sym (ap (octets_by rows past items) (none_opened past who before.0))

opening_by : (rows : CentreRows) (past : Past) (who : ℕ) (items : List Item)
    (octets : List ℕ) (peer : ℕ) (v : Talking) (asked : PendingEvent)
    → (s : Serves rows past who items octets (Some (events.Open peer)) v)
    → v.progress ≡ progresses.Running asked
    → IsWaiting (progresses.Running asked) (Some (events.Open peer))
    → Runs rows items s.told s.turns asked v → octets ≡ link_octets rows past who items
opening_by rows past who items octets peer v askeds.Nothing s p w r = absurd w
opening_by rows past who items octets peer v (askeds.Opening other offered) s p w r =
    opening_said rows past who items octets (events.Open peer) v other offered s p r
opening_by rows past who items octets peer v (askeds.Requesting invoke) s p w r = absurd w
opening_by rows past who items octets peer v askeds.Taking s p w r = absurd w
opening_by rows past who items octets peer v (askeds.Closing cause) s p w r = absurd w

pub unopened_said : (rows : CentreRows) (past : Past) (who : ℕ) (items : List Item)
    (octets : List ℕ) (peer : ℕ) (v : Talking)
    → Serves rows past who items octets (Some (events.Open peer)) v
    → octets ≡ link_octets rows past who items
unopened_said rows past who items octets peer v s =
    let found = waiting_of v.progress (events.Open peer) s.waits in
    opening_by rows past who items octets peer v found.0 s found.1
    (subst (λ (x : Progress). IsWaiting x (Some (events.Open peer))) found.1 s.waits)
    (goes_at s.stands found.1)
