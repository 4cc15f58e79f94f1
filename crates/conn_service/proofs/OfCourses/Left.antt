-- A connection that is left.
use Rattle.std.proofs.Common.{◌≡◌, ℕ, ℤ, Bool, true, false, List, [], ◌∷◌, ◌++◌, Option, Some, None}
use Rattle.std.proofs.Common.{refl, sym, ap, subst, ◌∙◌, append_assoc, reverse, inl, inr}
use Rattle.std.specs.Prelude.{is_some, if◌then◌else◌, MatchBool, Ok, Err}
use Rattle.std.specs.List.{list_any}
use Rattle.std.proofs.lemmas.Bool.{false≢true}
use Rattle.std.proofs.lemmas.List.{append-nil, append_cancel_left, reverse-append}
use Rattle.mms_services.specs.declared.initiate.Initiate.{Initiate}
use Rattle.stack_assoc.specs.declared.wire.setup.AssociationSetup.{AssociationSetup}
use Rattle.stack_assoc.specs.declared.end_state.EndState.{EndState}
use Rattle.stack_assoc.specs.Arrivals.{Arrival, called, first_in, connect_in}
use Rattle.stack_assoc.specs.Handing.{answers_to}
use Rattle.stack_assoc.specs.Courses.{Course, is_accepted}
use Rattle.bilateral.specs.Rows.{CentreRows}
use Rattle.tase_views.specs.declared.event.EventKind.{EventKind}
use Rattle.tase_views.specs.declared.event.EventKind.TheVariants as events
use Rattle.tase_views.specs.declared.fault.StepFault.{StepFault}
use Rattle.tase_views.specs.declared.reply.Answer.{Answer}
use Rattle.tase_views.specs.History.{Past}
use Rattle.tase_views.specs.OwnTables.{own_tables}
use Rattle.tase_conn.specs.Map.Inputs.{Item, IsLinkInput, text_given, link_has_ended}
use Rattle.tase_conn.specs.Map.Readings.{reading_of}
use Rattle.tase_conn.specs.Map.Turns.{Turn, turns_of}
use Rattle.tase_conn.specs.Map.Asks.{is_last, up_to_last, asks_behind, without_pauses}
use Rattle.tase_conn.specs.Map.Out.{talk_of, concluded_octets, close_octets}
use Rattle.tase_conn.specs.Map.Out.{refusal_octets}
use Rattle.tase_conn.specs.Map.Sent.{events_by, turns_left, with_event}
use Rattle.tase_conn.proofs.OfMap.Adding.{close_adds}
use Rattle.tase_conn.specs.declared.stage.PendingEvent.{PendingEvent}
use Rattle.tase_conn.specs.declared.stage.PendingEvent.TheVariants as askeds
use Rattle.tase_conn.specs.declared.stage.ConnEnd.{ConnEnd}
use Rattle.tase_conn.specs.declared.stage.Progress.{Progress}
use Rattle.tase_conn.specs.declared.stage.Progress.TheVariants as progresses
use Rattle.tase_conn.specs.declared.stage.Stage.{Stage}
use Rattle.tase_conn.specs.declared.stage.Stage.TheVariants as stages
use Rattle.tase_conn.specs.Talking.{Talking, pending_of, is_open_stage, is_leaving}
use Rattle.tase_conn.specs.Places.{ConnStandsAt, Runs, BeginsTurns, has_begun, Position}
use Rattle.tase_conn.specs.Places.{position_by, Reach}
use Rattle.tase_conn.proofs.Known.{opening_position, begun_connected, early_unaccepted}
use Rattle.tase_conn.specs.Answering.{told_said, end_of_fault, aborts, aborted, parting_octets, IsAnswerFor}
use Rattle.tase_conn.specs.Answering.{stage_closed}
use Rattle.tase_conn.specs.Answering.{progress_told, stage_told}
use Rattle.tase_conn.specs.Leaving.{IsLeft, Parts}
use Rattle.tase_conn.specs.Wanting.{WantsClose, progress_closing, IsLeaving}
use Rattle.conn_service.specs.Courses.Cutting.{IsClosingFor, parting, LeftOpen, LeftClosed, IsSaidEarly, HasSetupOf}
use Rattle.conn_service.specs.Courses.Cutting.{LeftBy, HasLeft, left_said}
use Rattle.conn_service.specs.Courses.Serving.{SaysBy, SaysOpen, SaysClosed, Serves, HasTold}
use Rattle.conn_service.specs.Courses.Serving.{HoldsOfAllInput}
use Rattle.conn_service.proofs.OfCourses.Answered.{opens_early, request_served, take_served, IsServedAt}
use Rattle.conn_service.proofs.OfCourses.Seats.{goes_at, says_at, says_now}
use Rattle.conn_service.proofs.OfCourses.Texts.{answers-append}
use Rattle.tase_conn.proofs.OfMap.Fronts.{HasFront, has_front, front_read}
use Rattle.conn_service.proofs.OfCourses.Seats.{event_here, opened_here, seat_opened, close_closes}
use Rattle.tase_conn.proofs.LastTurns.{goes_front}
use Rattle.conn_service.proofs.OfCourses.Served.{begins_turns}
use Rattle.conn_service.proofs.OfCourses.Texts.{fixed_over, longer_front}
use Rattle.conn_service.proofs.OfCourses.Wanted.{waiting_of, answered_goes}

-- ---- no more was said than is sent

early_front : (rows : CentreRows) (items : List Item) (told : List Arrival) (answered : List Turn)
    (octets : List ℕ) (v : Course) → HasFront (text_given items) told
    → octets ≡ answers_to called told
    → HoldsOfAllInput items answered (IsSaidEarly rows octets)
early_front rows items told answered octets v front said = λ more i rest t.
    let text = text_given (items ++ more) in
    let r = reading_of text in
    let f = front_read text told (longer_front items more told front) in
    let later = answers_to called f.0 ++ refusal_octets rows r in (
      later,
      ap (λ (ts : List Arrival). answers_to called ts ++ refusal_octets rows r) f.1
          ∙ ap (λ (os : List ℕ). os ++ refusal_octets rows r) (answers-append told f.0)
          ∙ append_assoc (answers_to called told) (answers_to called f.0) (refusal_octets rows r)
          ∙ ap (λ (os : List ℕ). os ++ later) (sym said),
    )

-- the turns that are answered begin those of the items
answered_read : (rows : CentreRows) (past : Past) (who : ℕ) (items : List Item)
    (octets : List ℕ) (event : EventKind) (asked : PendingEvent) (v : Talking)
    → (s : Serves rows past who items octets (Some event) v)
    → Runs rows items s.told s.turns asked v → BeginsTurns s.answered (turns_of items)
answered_read rows past who items octets event asked v s r =
    let f = begins_turns rows items s.told s.turns asked v r in (
      s.are.last ∷ f.0,
      f.1 ∙ ap (λ (ts : List Turn). ts ++ f.0) s.are.is
          ∙ append_assoc s.answered (s.are.last ∷ []) f.0,
    )

pub setup_known : (items : List Item) (told : List Arrival) (answered : List Turn) (rows : CentreRows)
    (turns : List Turn) (asked : PendingEvent) (v : Talking) → Runs rows items told turns asked v
    → is_some (first_in connect_in told) ≡ true
    → HoldsOfAllInput items answered (HasSetupOf v.course)
setup_known items told answered rows turns asked v r connect = λ more i rest t.
    let x = fixed_over items more told v.course r.stands connect in x.course_setup ∙ sym x.setup

-- an association that doesn't stand isn't aborted
pub unparted : (course : Course) (end : ConnEnd) → is_accepted course.standing ≡ false
    → parting_octets course end ≡ []
unparted course end e =
    let none : aborted course ≡ [] = rw e refl in
    by_end (aborts end) none
  where
    by_end : (b : Bool) → aborted course ≡ [] → (if b then aborted course else []) ≡ []
    by_end true e = e
    by_end false e = refl

-- ---- what was said before

-- what was said, where it is left now
abbrev IsKept : Bool → CentreRows → Past → ℕ → List Item → List Turn → List ℕ → ConnEnd → Talking
    → Type 0
IsKept whole rows past who items answered octets end old =
    LeftBy whole old.stage end old.course.standing old.course rows past who items answered
    (octets ++ left_said old.stage old.course end)

early_kept : (rows : CentreRows) (past : Past) (who : ℕ) (items : List Item) (told : List Arrival)
    (answered : List Turn) (octets : List ℕ) (end : ConnEnd) (old : Talking)
    → old.stage ≡ stages.Early → is_accepted old.course.standing ≡ false
    → events_by who past ≡ [] → reverse (events_by who past) ≡ asks_behind rows [] answered
    → HasFront (text_given items) told → octets ≡ answers_to called told
    → IsKept true rows past who items answered octets end old
early_kept rows past who items told answered octets end old early unaccepted none asked front said =
    let none_said : left_said old.stage old.course end ≡ [] =
    ap (λ (x : Stage). left_said x old.course end) early ∙ unparted old.course end unaccepted in
    subst (λ (os : List ℕ). LeftBy true old.stage end old.course.standing old.course rows past who
    items
    answered os)
    (sym (ap (λ (os : List ℕ). octets ++ os) none_said ∙ append-nil octets))
    (subst (λ (x : Stage). LeftBy true x end old.course.standing old.course rows past who items
    answered
    octets) (sym early)
    (record {
      none = none;
      asked = asked;
      octets = early_front rows items told answered octets old.course front said;
    }))

open_kept : (rows : CentreRows) (past : Past) (who : ℕ) (items : List Item)
    (octets : List ℕ) (event : EventKind) (end : ConnEnd) (old : Talking) (peer : ℕ)
    (offered : Initiate) → (s : Serves rows past who items octets (Some event) old)
    → old.progress ≡ progresses.Running (askeds.Opening peer offered)
    → Runs rows items s.told s.turns (askeds.Opening peer offered) old
    → IsKept true rows past who items s.answered octets end old
open_kept rows past who items octets event end old peer offered s p r =
    let asked = askeds.Opening peer offered in
    let early = opens_early peer offered old.stage old.held r.waits in
    let before = says_at s early p in
    early_kept rows past who items s.told s.answered octets end old early
    (ap (λ (x : Position). is_accepted x.standing) (opening_position r)) before.0 s.asked
    (has_front (text_given items) s.told old.course r.stands) before.1

-- of what it is sent while its association is open nothing is missing
pub open_left : (rows : CentreRows) (past : Past) (who : ℕ) (items : List Item)
    (answered : List Turn) (octets : List ℕ) (course : Course)
    → reverse (events_by who past) ≡ asks_behind rows [] answered
    → HoldsOfAllInput items answered (HasSetupOf course)
    → SaysOpen rows past who items answered octets
    → LeftOpen true course.standing course rows past who items answered octets
open_left rows past who items answered octets course asked setup says = record {
  key = says.key;
  seat = says.seat;
  asked = asked;
  stood = refl;
  setup = setup;
  octets = λ more i rest t.
      let b = says.octets more i rest t in
      ([], sym b.0 ∙ sym (append-nil octets), b.1, λ w. refl);
}

served_kept : (rows : CentreRows) (past : Past) (who : ℕ) (items : List Item)
    (told : List Arrival) (turns answered : List Turn) (octets : List ℕ) (end : ConnEnd)
    (asked : PendingEvent) (peer : ℕ) (detail : ℤ) (old : Talking)
    → Runs rows items told turns asked old → old.stage ≡ stages.Open peer detail
    → reverse (events_by who past) ≡ asks_behind rows [] answered
    → SaysOpen rows past who items answered octets
    → IsKept true rows past who items answered octets end old
served_kept rows past who items told turns answered octets end asked peer detail old r st before
    says =
    let standing = old.course.standing in
    let connect = begun_connected r (ap (λ (x : Stage). has_begun x) st) in
    let none : left_said old.stage old.course end ≡ [] =
    ap (λ (x : Stage). left_said x old.course end) st in
    subst (λ (os : List ℕ). LeftBy true old.stage end standing old.course rows past who items
    answered
    os)
    (sym (ap (λ (os : List ℕ). octets ++ os) none ∙ append-nil octets))
    (subst (λ (x : Stage). LeftBy true x end standing old.course rows past who items answered
    octets)
    (sym st)
    (open_left rows past who items answered octets old.course before
    (setup_known items told answered rows turns asked old r connect) says))

asked_kept : (rows : CentreRows) (past : Past) (who : ℕ) (items : List Item)
    (octets : List ℕ) (event : EventKind) (end : ConnEnd) (old : Talking) (asked : PendingEvent)
    → (s : Serves rows past who items octets (Some event) old)
    → Runs rows items s.told s.turns asked old → IsServedAt old.stage old.held
    → IsKept true rows past who items s.answered octets end old
asked_kept rows past who items octets event end old asked s r w =
    served_kept rows past who items s.told s.turns s.answered octets end asked w.peer w.detail old r
    w.stage_is s.asked
    (says_at s w.stage_is refl)

running_kept : (rows : CentreRows) (past : Past) (who : ℕ) (items : List Item)
    (octets : List ℕ) (event : EventKind) (fault : StepFault) (end : ConnEnd) (old : Talking)
    (asked : PendingEvent) → (s : Serves rows past who items octets (Some event) old)
    → old.progress ≡ progresses.Running asked
    → IsAnswerFor (progresses.Running asked) (Err fault)
    → Runs rows items s.told s.turns asked old
    → IsKept true rows past who items s.answered octets end old
running_kept rows past who items octets event fault end old askeds.Nothing s p w r = absurd w
running_kept rows past who items octets event fault end old (askeds.Opening peer offered) s p w r =
    open_kept rows past who items octets event end old peer offered s p r
running_kept rows past who items octets event fault end old (askeds.Requesting invoke) s p w r =
    asked_kept rows past who items octets event end old (askeds.Requesting invoke) s r
    (request_served invoke old.stage old.held r.waits)
running_kept rows past who items octets event fault end old askeds.Taking s p w r =
    asked_kept rows past who items octets event end old askeds.Taking s r
    (take_served old.stage old.held r.waits)
running_kept rows past who items octets event fault end old (askeds.Closing cause) s p w r =
    absurd w

-- ---- it is left

-- how it stands then
pub record Stands (end : ConnEnd) (old new : Talking) : Type 0 where
  pub waits : IsClosingFor new.progress None end
  pub owes : is_open_stage new.stage ≡ is_leaving new.progress
  pub stage : new.stage ≡ old.stage
  pub course : is_open_stage old.stage ≡ true → new.course ≡ old.course
  pub pending : pending_of new ≡ pending_of old ++ left_said old.stage old.course end

pub stands_by : (b : Bool) (end : ConnEnd) (old new : Talking) → is_open_stage old.stage ≡ b
    → MatchBool b (new ≡ record old { progress = progresses.Leaving end false })
    (Parts (progresses.Cut end) (parting_octets old.course end) old new)
    → Stands end old new
stands_by true end old new e l = record {
  waits = subst (λ (x : Progress). IsClosingFor x None end)
      (sym (ap (λ (v : Talking). v.progress) l)) refl;
  owes = ap (λ (v : Talking). is_open_stage v.stage) l ∙ e
      ∙ sym (ap (λ (v : Talking). is_leaving v.progress) l);
  stage = ap (λ (v : Talking). v.stage) l;
  course = λ is. ap (λ (v : Talking). v.course) l;
  pending = ap (λ (v : Talking). pending_of v) l ∙ sym (append-nil (pending_of old))
      ∙ ap (λ (b : Bool). pending_of old ++ (if b then [] else parting_octets old.course end)) (sym e);
}
stands_by false end old new e l = record {
  waits = subst (λ (x : Progress). IsClosingFor x None end)
      (sym (ap (λ (v : Talking). v.progress) l.is)) refl;
  owes = ap (λ (v : Talking). is_open_stage v.stage) l.is ∙ e
      ∙ sym (ap (λ (v : Talking). is_leaving v.progress) l.is);
  stage = ap (λ (v : Talking). v.stage) l.is;
  course = λ is. absurd (false≢true (sym e ∙ is));
  pending = ap (λ (os : List ℕ). os ++ new.farewell.items) (ap (λ (v : Talking). v.out) l.is)
      ∙ ap (λ (os : List ℕ). old.out ++ os) l.said_is
      ∙ sym (append_assoc old.out old.farewell.items (parting_octets old.course end))
      ∙ ap (λ (b : Bool). pending_of old ++ (if b then [] else parting_octets old.course end)) (sym e);
}

-- what begins all turns begins those up to the last
up_to_read : (rows : CentreRows) (items : List Item) (answered : List Turn)
    → list_any (is_last rows) answered ≡ false → BeginsTurns answered (turns_of items)
    → BeginsTurns answered (up_to_last rows (turns_of items))
up_to_read rows items answered goes b = (
  up_to_last rows b.0,
  ap (λ (ts : List Turn). up_to_last rows ts) b.1 ∙ goes_front rows answered b.0 goes,
)

-- behind it
pub kept_on : (whole : Bool) (stage : Stage) (end : ConnEnd) (standing : EndState)
    (rows : CentreRows) (past : Past)
    (who : ℕ) (items : List Item) (answered : List Turn) (octets : List ℕ) (old new : Talking)
    → (is_open_stage stage ≡ true → new.course ≡ old.course)
    → LeftBy whole stage end standing old.course rows past who items answered octets
    → LeftBy whole stage end standing new.course rows past who items answered octets
kept_on whole stages.Early end standing rows past who items answered octets old new same k = k
kept_on whole (stages.Open peer detail) end standing rows past who items answered octets old new
    same k =
    subst (λ (x : Course). LeftOpen whole standing x rows past who items answered octets)
    (sym (same refl)) k
kept_on whole (stages.Closed peer) end standing rows past who items answered octets old new same k
    = k

pub leaves : (whole : Bool) (rows : CentreRows) (past : Past) (who : ℕ) (items : List Item)
    (told : List Arrival)
    (turns answered : List Turn) (octets octets_more : List ℕ) (end : ConnEnd)
    (old new : Talking) → IsLinkInput items → ConnStandsAt rows items told turns new → IsLeft end old new
    → pending_of new ≡ pending_of old ++ octets_more
    → BeginsTurns answered (up_to_last rows (turns_of items))
    → IsKept whole rows past who items answered octets end old
    → HasLeft whole end old.course.standing rows past who items (octets ++ octets_more) None new
leaves whole rows past who items told turns answered octets octets_more end old new input stands
    left pending read kept =
    let standing = old.course.standing in
    let l = stands_by (is_open_stage old.stage) end old new refl left in
    let same : octets_more ≡ left_said old.stage old.course end =
    append_cancel_left (pending_of old) octets_more (left_said old.stage old.course end)
    (sym pending ∙ l.pending) in
    record {
      told = told;
      turns = turns;
      input = input;
      stands = stands;
      waits = l.waits;
      owes = l.owes;
      answered = answered;
      read = read;
      says = subst (λ (x : Stage). LeftBy whole x end standing new.course rows past who items
          answered
          (octets ++ octets_more)) (sym l.stage)
          (subst (λ (os : List ℕ). LeftBy whole old.stage end standing new.course rows past who
          items
          answered (octets ++ os)) (sym same)
          (kept_on whole old.stage end standing rows past who items answered
          (octets ++ left_said old.stage old.course end) old new l.course kept));
    }

-- the node has refused an event
pub refused_leaves : (rows : CentreRows) (past : Past) (who : ℕ) (items : List Item)
    (octets octets_more : List ℕ) (event : EventKind) (fault : StepFault) (old new : Talking)
    → (s : Serves rows past who items octets (Some event) old)
    → IsAnswerFor old.progress (Err fault) → ConnStandsAt rows items s.told s.turns new
    → IsLeft (end_of_fault fault) old new → pending_of new ≡ pending_of old ++ octets_more
    → HasLeft true (end_of_fault fault) old.course.standing rows past who items
    (octets ++ octets_more) None
    new
refused_leaves rows past who items octets octets_more event fault old new s right stands left
    pending =
    let found = waiting_of old.progress event s.waits in
    let asked = found.0 in
    let r = goes_at s.stands found.1 in
    leaves true rows past who items s.told s.turns s.answered octets octets_more (end_of_fault fault) old
    new s.input stands left pending
    (up_to_read rows items s.answered (answered_goes rows past who items octets event old s)
    (answered_read rows past who items octets event asked old s r))
    (running_kept rows past who items octets event fault (end_of_fault fault) old asked s found.1
    (subst (λ (x : Progress). IsAnswerFor x (Err fault)) found.1 right) r)

-- ---- it is given up

concluded_kept : (rows : CentreRows) (past : Past) (who : ℕ) (items : List Item)
    (told : List Arrival) (answered : List Turn) (octets : List ℕ) (end : ConnEnd) (peer : ℕ)
    (old : Talking) → Runs rows items told answered askeds.Nothing old
    → old.stage ≡ stages.Closed peer
    → reverse (events_by who past) ≡ asks_behind rows [] answered
    → SaysClosed (progresses.Running askeds.Nothing) rows past who items answered octets
    → IsKept true rows past who items answered octets end old
concluded_kept rows past who items told answered octets end peer old r st before says =
    let standing = old.course.standing in
    let connect = begun_connected r (ap (λ (x : Stage). has_begun x) st) in
    let setup = setup_known items told answered rows answered askeds.Nothing old r connect in
    let part : left_said old.stage old.course end ≡ parting_octets old.course end =
    ap (λ (x : Stage). left_said x old.course end) st in
    subst (λ (os : List ℕ). LeftBy true old.stage end standing old.course rows past who items
    answered
    (octets ++ os)) (sym part)
    (subst (λ (x : Stage). LeftBy true x end standing old.course rows past who items answered
    (octets ++ parting_octets old.course end)) (sym st)
    (inr (record {
      key = says.key;
      opened = says.opened;
      closed = says.closed;
      asked = before;
      before = octets;
      octets = λ more i rest t. (
        ap (λ (s : AssociationSetup). octets ++ parting end standing s) (setup more i rest t),
        concluded_octets (talk_of (reading_of (text_given (items ++ more)))
            (link_has_ended (items ++ more))).setup (without_pauses rest),
        sym (says.octets more i rest t),
      );
    })))

idle_kept : (rows : CentreRows) (past : Past) (who : ℕ) (items : List Item) (told : List Arrival)
    (answered : List Turn) (octets : List ℕ) (end : ConnEnd) (stage : Stage) (old : Talking)
    → Runs rows items told answered askeds.Nothing old → old.stage ≡ stage
    → reverse (events_by who past) ≡ asks_behind rows [] answered
    → SaysBy stage (progresses.Running askeds.Nothing) rows past who items told answered octets
    → IsKept true rows past who items answered octets end old
idle_kept rows past who items told answered octets end stages.Early old r st before says =
    early_kept rows past who items told answered octets end old st
    (ap (λ (x : Position). is_accepted x.standing)
    (r.at ∙ ap (λ (x : Stage). position_by x askeds.Nothing old.held) st)
    ∙ early_unaccepted old.held) says.0 before
    (has_front (text_given items) told old.course r.stands) says.1
idle_kept rows past who items told answered octets end (stages.Open peer detail) old r st before
    says =
    served_kept rows past who items told answered answered octets end askeds.Nothing peer detail old
    r st before says
idle_kept rows past who items told answered octets end (stages.Closed peer) old r st before says =
    concluded_kept rows past who items told answered octets end peer old r st before says

pub given_up : (rows : CentreRows) (past : Past) (who : ℕ) (items : List Item)
    (octets octets_more : List ℕ) (end : ConnEnd) (old new : Talking)
    → (s : Serves rows past who items octets None old)
    → old.progress ≡ progresses.Running askeds.Nothing → ConnStandsAt rows items s.told s.turns new
    → IsLeft end old new → pending_of new ≡ pending_of old ++ octets_more
    → HasLeft true end old.course.standing rows past who items (octets ++ octets_more) None new
given_up rows past who items octets octets_more end old new s p stands left pending =
    let idle = progresses.Running askeds.Nothing in
    let r = goes_at s.stands p in
    let says = says_now s p in
    leaves true rows past who items s.told s.turns s.turns octets octets_more end old new s.input
    stands left pending
    (up_to_read rows items s.turns (ap (λ (x : Reach). x.ending) r.reached)
    (begins_turns rows items s.told s.turns askeds.Nothing old r))
    (idle_kept rows past who items s.told s.turns octets end old.stage old r refl
    (s.asked ∙ ap (λ (ts : List Turn). asks_behind rows [] ts) (sym s.are)) says)

-- ---- its association is closed

-- the close was asked
record Asks (end : ConnEnd) (old new : Talking) : Type 0 where
  waits : IsClosingFor new.progress (Some events.Close) end
  leaving : is_leaving new.progress ≡ is_leaving old.progress
  stage : new.stage ≡ old.stage
  course : new.course ≡ old.course

asks_close : (p : Progress) (end : ConnEnd) (old new : Talking) → old.progress ≡ p → IsLeaving p
    → IsClosingFor p None end → new ≡ progress_closing old p → Asks end old new
asks_close (progresses.Running asked) end old new e l w n = absurd l
asks_close progresses.Refused end old new e l w n = absurd l
asks_close (progresses.Leaving left false) end old new e l w n = record {
  waits = subst (λ (x : Progress). IsClosingFor x (Some events.Close) end)
      (sym (ap (λ (v : Talking). v.progress) n)) w;
  leaving = ap (λ (v : Talking). is_leaving v.progress) n
      ∙ sym (ap (λ (x : Progress). is_leaving x) e);
  stage = ap (λ (v : Talking). v.stage) n;
  course = ap (λ (v : Talking). v.course) n;
}
asks_close (progresses.Leaving left true) end old new e l w n = absurd w
asks_close (progresses.Ended left) end old new e l w n = absurd l
asks_close (progresses.Cut left) end old new e l w n = absurd l

pub closing_leaves : (rows : CentreRows) (past : Past) (who : ℕ) (items : List Item)
    (octets : List ℕ) (event : Option EventKind) (whole : Bool) (end : ConnEnd)
    (standing : EndState)
    (old new : Talking) → (h : HasLeft whole end standing rows past who items octets None old)
    → IsLeaving old.progress → WantsClose event old new × ConnStandsAt rows items h.told h.turns new
    → HasLeft whole end standing rows past who items octets event new
closing_leaves rows past who items octets event whole end standing old new h leaving l =
    let a = asks_close old.progress end old new refl leaving h.waits l.0.is in
    record {
      told = h.told;
      turns = h.turns;
      input = h.input;
      stands = l.1;
      waits = subst (λ (e : Option EventKind). IsClosingFor new.progress e end) (sym l.0.event_is)
          a.waits;
      owes = ap (λ (x : Stage). is_open_stage x) a.stage ∙ h.owes ∙ sym a.leaving;
      answered = h.answered;
      read = h.read;
      says = subst (λ (x : Stage). LeftBy whole x end standing new.course rows past who items
          h.answered
          octets) (sym a.stage)
          (subst (λ (x : Course). LeftBy whole old.stage end standing x rows past who items
          h.answered
          octets) (sym a.course) h.says);
    }

-- which event that is
record IsClose (event : EventKind) (end : ConnEnd) (old : Talking) : Type 0 where
  event_is : event ≡ events.Close
  progress : old.progress ≡ progresses.Leaving end true

close_of : (p : Progress) (event : EventKind) (end : ConnEnd) (old : Talking)
    → old.progress ≡ p → IsClosingFor p (Some event) end → IsClose event end old
close_of (progresses.Running asked) event end old p w = absurd w
close_of progresses.Refused event end old p w = absurd w
close_of (progresses.Leaving left false) event end old p w = absurd w
close_of (progresses.Leaving left true) events.Close end old p w =
    record { event_is = refl; progress = p ∙ ap (λ x. progresses.Leaving x true) w }
close_of (progresses.Leaving left true) (events.Open peer) end old p w = absurd w
close_of (progresses.Leaving left true) (events.Request call) end old p w = absurd w
close_of (progresses.Leaving left true) events.Take end old p w = absurd w
close_of (progresses.Leaving left true) (events.Update point value) end old p w = absurd w
close_of (progresses.Leaving left true) (events.Table chooser variant) end old p w = absurd w
close_of (progresses.Leaving left true) (events.Tick now) end old p w = absurd w
close_of (progresses.Leaving left true) (events.Ask asker slot) end old p w = absurd w
close_of (progresses.Leaving left true) (events.Tag device tag) end old p w = absurd w
close_of (progresses.Leaving left true) events.TakeOrders end old p w = absurd w
close_of (progresses.Leaving left true) events.Stop end old p w = absurd w
close_of (progresses.Ended left) event end old p w = absurd w
close_of (progresses.Cut left) event end old p w = absurd w

pub closed_says : (whole : Bool) (rows : CentreRows) (past : Past) (who : ℕ) (items : List Item)
    (answered : List Turn) (octets : List ℕ) (end : ConnEnd) (standing : EndState) (course : Course)
    → LeftOpen whole standing course rows past who items answered octets
    → LeftClosed whole end standing rows (with_event who events.Close past) who items answered
    (octets ++ parting_octets course end)
closed_says whole rows past who items answered octets end standing course o =
    let key = o.key in
    record {
      key = key;
      opened = opened_here events.Close past who ∙ seat_opened past who key o.seat;
      closed = close_closes past who key o.seat;
      asked = ap (λ (es : List EventKind). reverse es) (event_here events.Close past who)
          ∙ reverse-append (events.Close ∷ []) (events_by who past)
          ∙ ap (λ (es : List EventKind). es ++ events.Close ∷ []) o.asked;
      before = octets;
      octets = λ more i rest t.
          let talk = talk_of (reading_of (text_given (items ++ more))) (link_has_ended (items ++ more)) in
          let b = o.octets more i rest t in (
            ap (λ (x : EndState). octets ++ parting end x course.setup) o.stood
                ∙ ap (λ (s : AssociationSetup). octets ++ parting end standing s) (o.setup more i rest t),
            b.0,
            close_adds rows (own_tables rows key.peer) talk key who past o.seat
                ∙ ap (λ (os : List ℕ). os ++ close_octets talk.setup (turns_left rows past key
                (text_given (items ++ more)) (link_has_ended (items ++ more)))) b.1
                ∙ ap (λ (ts : List Turn). (octets ++ b.0) ++ close_octets talk.setup ts) b.2,
            b.3,
          );
    }

closed_shut : (stage : Stage) → is_open_stage (stage_closed stage) ≡ false
closed_shut stages.Early = refl
closed_shut (stages.Open peer detail) = refl
closed_shut (stages.Closed peer) = refl

closed_by : (whole : Bool) (stage : Stage) (rows : CentreRows) (past : Past) (who : ℕ)
    (items : List Item)
    (answered : List Turn) (octets : List ℕ) (end : ConnEnd) (standing : EndState)
    (old new : Course) → is_open_stage stage ≡ true
    → LeftBy whole stage end standing old rows past who items answered octets
    → LeftBy whole (stage_closed stage) end standing new rows (with_event who events.Close past) who items
    answered (octets ++ parting_octets old end)
closed_by whole stages.Early rows past who items answered octets end standing old new o k =
    absurd (false≢true o)
closed_by whole (stages.Open peer detail) rows past who items answered octets end standing old new
    o k =
    inl (closed_says whole rows past who items answered octets end standing old k)
closed_by whole (stages.Closed peer) rows past who items answered octets end standing old new o k =
    absurd (false≢true o)

pub closed_leaves : (rows : CentreRows) (past : Past) (who : ℕ) (items : List Item)
    (octets : List ℕ) (event : EventKind) (answer : Answer) (whole : Bool) (end : ConnEnd)
    (standing : EndState)
    (old new : Talking) → (h : HasLeft whole end standing rows past who items octets
    (Some event) old)
    → HasTold rows items h.told h.turns (Ok answer) old new
    → HasLeft whole end standing rows (with_event who event past) who items
    (octets ++ told_said old.progress old.stage old.course (Ok answer)) None new
closed_leaves rows past who items octets event answer whole end standing old new h t =
    let c = close_of old.progress event end old refl h.waits in
    let p = c.progress in
    let is_open = goes_at h.stands p in
    let said : told_said old.progress old.stage old.course (Ok answer) ≡ parting_octets old.course end =
    ap (λ (x : Progress). told_said x old.stage old.course (Ok answer)) p in
    let stage : new.stage ≡ stage_closed old.stage =
    t.stage ∙ ap (λ (x : Progress). stage_told x (Ok answer) old.stage) p in
    let progress : new.progress ≡ progresses.Cut end =
    t.progress ∙ ap (λ (x : Progress). progress_told x old.stage (Ok answer)) p in
    let now = with_event who event past in
    record {
      told = h.told;
      turns = h.turns;
      input = h.input;
      stands = t.stands;
      waits = subst (λ (x : Progress). IsClosingFor x None end) (sym progress) refl;
      owes = ap (λ (x : Stage). is_open_stage x) stage ∙ closed_shut old.stage
          ∙ sym (ap (λ (x : Progress). is_leaving x) progress);
      answered = h.answered;
      read = h.read;
      says = subst (λ (x : Stage). LeftBy whole x end standing new.course rows now who items
          h.answered
          (octets ++ told_said old.progress old.stage old.course (Ok answer))) (sym stage)
          (subst (λ (os : List ℕ). LeftBy whole (stage_closed old.stage) end standing new.course rows now
          who
          items h.answered (octets ++ os)) (sym said)
          (subst (λ (x : EventKind). LeftBy whole (stage_closed old.stage) end standing new.course rows
          (with_event who x past) who items h.answered (octets ++ parting_octets old.course end))
          (sym c.event_is)
          (closed_by whole old.stage rows past who items h.answered octets end standing old.course
          new.course is_open h.says)));
    }
