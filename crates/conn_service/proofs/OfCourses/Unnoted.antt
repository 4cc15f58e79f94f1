-- A connection for whose answer memory was wanting is given up.
use Rattle.std.proofs.Common.{◌≡◌, ℕ, true, false, List, [], ◌∷◌, ◌++◌, Some, None}
use Rattle.std.proofs.Common.{refl, sym, ap, subst, ◌∙◌, append_assoc, reverse, inr}
use Rattle.std.specs.Prelude.{is_some, Ok}
use Rattle.std.proofs.lemmas.List.{append-nil}
use Rattle.stack_assoc.specs.declared.wire.setup.AssociationSetup as wire_setup
use Rattle.stack_assoc.specs.Arrivals.{Arrival, first_in, connect_in}
use Rattle.bilateral.specs.Rows.{CentreRows}
use Rattle.tase_views.specs.Setup.{Setup}
use Rattle.tase_views.specs.declared.event.EventKind.{EventKind}
use Rattle.tase_views.specs.declared.reply.Answer.{Answer}
use Rattle.tase_views.specs.History.{Past}
use Rattle.tase_views.specs.Outcomes.{IsRightOutcome}
use Rattle.tase_conn.specs.Map.Inputs.{Item, text_given, link_has_ended}
use Rattle.tase_conn.specs.Map.Readings.{reading_of}
use Rattle.tase_conn.specs.Map.Turns.{Turn, turns_of}
use Rattle.tase_conn.specs.Map.Asks.{up_to_last, asks_behind, without_pauses}
use Rattle.tase_conn.specs.Map.Out.{talk_of}
use Rattle.tase_conn.specs.Map.Sent.{events_by, with_event}
use Rattle.tase_conn.specs.declared.stage.PendingEvent.{PendingEvent}
use Rattle.tase_conn.specs.declared.stage.PendingEvent.TheVariants as askeds
use Rattle.tase_conn.specs.declared.stage.ConnEnd.{ConnEnd}
use Rattle.tase_conn.specs.declared.stage.Progress.{Progress}
use Rattle.tase_conn.specs.declared.stage.Progress.TheVariants as progresses
use Rattle.tase_conn.specs.declared.stage.Stage.{Stage}
use Rattle.tase_conn.specs.declared.stage.Stage.TheVariants as stages
use Rattle.tase_conn.specs.Talking.{Talking, pending_of}
use Rattle.tase_conn.specs.Places.{ConnStandsAt, Runs, BeginsTurns}
use Rattle.tase_conn.proofs.Known.{asked_connected}
use Rattle.tase_conn.specs.Answering.{stage_told, told_said}
use Rattle.tase_conn.specs.Leaving.{IsLeft}
use Rattle.conn_service.specs.Courses.Cutting.{HasLeft, LeftBy, LeftOpen, HasSetupOf, left_said, parting}
use Rattle.conn_service.specs.Courses.Serving.{IsWaiting, SaysBy, Serves, HoldsOfAllInput, owed}
use Rattle.conn_service.proofs.OfCourses.Answered.{follows_by, asked_more}
use Rattle.conn_service.proofs.OfCourses.Left.{leaves, setup_known}
use Rattle.conn_service.proofs.OfCourses.Seats.{event_here, goes_at}
use Rattle.tase_conn.proofs.LastTurns.{goes_front}
use Rattle.conn_service.proofs.OfCourses.Served.{begins_turns, first_kept}
use Rattle.conn_service.proofs.OfCourses.TurnLists.{never_empty}
use Rattle.conn_service.proofs.OfCourses.Wanted.{waiting_of, answered_goes}

-- where an event waits a connect was told
pub connected_asked : (rows : CentreRows) (items : List Item) (told : List Arrival) (turns : List Turn)
    (asked : PendingEvent) (event : EventKind) (v : Talking)
    → IsWaiting (progresses.Running asked) (Some event) → Runs rows items told turns asked v
    → is_some (first_in connect_in told) ≡ true
connected_asked rows items told turns askeds.Nothing event v w r = absurd w
connected_asked rows items told turns (askeds.Opening peer offered) event v w r =
    asked_connected r tt
connected_asked rows items told turns (askeds.Requesting invoke) event v w r = asked_connected r tt
connected_asked rows items told turns askeds.Taking event v w r = asked_connected r tt
connected_asked rows items told turns (askeds.Closing cause) event v w r = asked_connected r tt

-- the turns with that which asked for the event begin those up to the last
pub read_with : (rows : CentreRows) (past : Past) (who : ℕ) (items : List Item) (octets : List ℕ)
    (event : EventKind) (asked : PendingEvent) (v : Talking)
    → (s : Serves rows past who items octets (Some event) v)
    → Runs rows items s.told s.turns asked v
    → BeginsTurns s.turns (up_to_last rows (turns_of items))
read_with rows past who items octets event asked v s r =
    let f = begins_turns rows items s.told s.turns asked v r in
    let k = first_kept rows s.are.last f.0 in (
      k.0,
      ap (λ (ts : List Turn). up_to_last rows ts)
          (f.1 ∙ ap (λ (ts : List Turn). ts ++ f.0) s.are.is
          ∙ append_assoc s.answered (s.are.last ∷ []) f.0)
          ∙ goes_front rows s.answered (s.are.last ∷ f.0)
          (answered_goes rows past who items octets event v s)
          ∙ ap (λ (ts : List Turn). s.answered ++ ts) k.1
          ∙ sym (append_assoc s.answered (s.are.last ∷ []) k.0)
          ∙ ap (λ (ts : List Turn). ts ++ k.0) (sym s.are.is),
    )

abbrev stalled : Stage → Talking → Talking
stalled stage v = record v { progress = progresses.Refused; stage = stage }

-- of the last answer nothing was said
some_kept : (stage : Stage) (progress : Progress) (rows : CentreRows) (past : Past) (who : ℕ)
    (items : List Item) (told : List Arrival) (turns : List Turn) (event : EventKind)
    (octets missing : List ℕ) (end : ConnEnd) (v : Talking)
    → reverse (events_by who (with_event who event past)) ≡ asks_behind rows [] turns
    → HoldsOfAllInput items turns (HasSetupOf v.course)
    → SaysBy stage progress rows (with_event who event past) who items told turns
    (octets ++ missing)
    → LeftBy false stage end v.course.standing v.course rows (with_event who event past) who items
    turns (octets ++ left_said stage v.course end)
some_kept stages.Early progress rows past who items told turns event octets missing end v asked
    setup
    says =
    absurd (never_empty [] event (events_by who past) (sym (event_here event past who) ∙ says.0))
some_kept (stages.Open peer detail) progress rows past who items told turns event octets missing end
    v asked setup says =
    subst (λ (os : List ℕ). LeftOpen false v.course.standing v.course rows
    (with_event who event past) who items turns os) (sym (append-nil octets))
    (record {
      key = says.key;
      seat = says.seat;
      asked = asked;
      stood = refl;
      setup = setup;
      octets = λ more i rest t.
          let b = says.octets more i rest t in (missing, sym b.0, b.1, λ w. absurd cc);
    })
some_kept (stages.Closed peer) progress rows past who items told turns event octets missing end v
    asked setup says =
    inr (record {
      key = says.key;
      opened = says.opened;
      closed = says.closed;
      asked = asked;
      before = octets;
      octets = λ more i rest t.
          let talk = talk_of (reading_of (text_given (items ++ more))) (link_has_ended (items ++ more)) in (
            ap (λ (s : wire_setup.AssociationSetup). octets ++ parting end v.course.standing s)
                (setup more i rest t),
            missing ++ owed progress talk.setup (without_pauses rest),
            sym (says.octets more i rest t)
                ∙ append_assoc octets missing (owed progress talk.setup (without_pauses rest)),
          );
    })

pub unnoted_leaves : (setup : Setup) (past : Past) (who : ℕ) (items : List Item)
    (octets octets_more : List ℕ) (event : EventKind) (answer : Answer) (end : ConnEnd)
    (old new : Talking) → (s : Serves setup.centre past who items octets (Some event) old)
    → IsRightOutcome setup past who event (Ok answer)
    → ConnStandsAt setup.centre items s.told s.turns new
    → IsLeft end (stalled (stage_told old.progress (Ok answer) old.stage) old) new
    → pending_of new ≡ pending_of old ++ octets_more
    → HasLeft false end old.course.standing setup.centre (with_event who event past) who items
    (octets ++ octets_more) None new
unnoted_leaves setup past who items octets octets_more event answer end old new s right stands left
    pending =
    let rows = setup.centre in
    let found = waiting_of old.progress event s.waits in
    let asked = found.0 in
    let r = goes_at s.stands found.1 in
    let connect = connected_asked rows items s.told s.turns asked event old
    (subst (λ (x : Progress). IsWaiting x (Some event)) found.1 s.waits) r in
    let f = follows_by rows past who items octets event answer old old.progress s refl s.waits
    s.stands.goes right.1 in
    let kept = some_kept f.stage f.progress rows past who items s.told s.turns event octets
    (told_said old.progress old.stage old.course (Ok answer)) end old
    (asked_more rows past who event s.answered s.turns s.are.last s.asked s.are.is s.are.asks)
    (setup_known items s.told s.turns rows s.turns asked old r connect) f.says in
    leaves false rows (with_event who event past) who items s.told s.turns s.turns octets
    octets_more
    end (stalled (stage_told old.progress (Ok answer) old.stage) old) new s.input stands left
    pending
    (read_with rows past who items octets event asked old s r)
    (subst (λ (x : Stage). LeftBy false x end old.course.standing old.course rows
    (with_event who event past) who items s.turns (octets ++ left_said x old.course end))
    (sym f.stage_is) kept)
