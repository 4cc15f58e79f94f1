-- What was said behind each answer.
use Rattle.std.proofs.Common.{pos, ◌≡◌, ℕ, ℤ, ◌≤◌, Bool, true, false, List, [], ◌∷◌, ◌++◌, Option}
use Rattle.std.proofs.Common.{refl, sym, ap, ◌∙◌, append_assoc, arith}
use Rattle.std.specs.Prelude.{is_some, if◌then◌else◌}
use Rattle.std.specs.List.{list_any}
use Rattle.std.proofs.lemmas.List.{append-nil}
use Rattle.tpkt_cotp.specs.Written.{wire}
use Rattle.mms_services.specs.declared.initiate.Initiate.{Initiate}
use Rattle.mms_services.specs.declared.pdu.MmsPdu.TheVariants as pdus
use Rattle.stack_assoc.specs.declared.messages.heard.Connecting.{Connecting}
use Rattle.stack_assoc.specs.declared.wire.setup.AssociationSetup.{AssociationSetup}
use Rattle.stack_assoc.specs.Wire.Tsdus.{accept_tsdu}
use Rattle.stack_assoc.specs.Arrivals.{Arrival, called, first_in, connect_in}
use Rattle.stack_assoc.specs.Handing.{answers_to}
use Rattle.stack_assoc.specs.Expectations.{setup_after}
use Rattle.stack_assoc.specs.declared.end_state.EndState.{EndState}
use Rattle.stack_assoc.specs.Courses.{Course, CourseStands, is_accepted}
use Rattle.bilateral.specs.Rows.{CentreRows}
use Rattle.sbo_device.specs.declared.key.Key.{Key}
use Rattle.tase_views.specs.declared.call.CallKind.{CallKind}
use Rattle.tase_views.specs.declared.event.EventKind.TheVariants as events
use Rattle.tase_views.specs.declared.reply.ReplyKind.{ReplyKind}
use Rattle.tase_views.specs.declared.reply.ReportKind.{ReportKind}
use Rattle.tase_views.specs.History.{Past, next_key, opens_in}
use Rattle.tase_views.specs.OwnTables.{own_tables}
use Rattle.tase_views.specs.View.{view_of}
use Rattle.tase_views.specs.Answers.{reply_to}
use Rattle.tase_views.specs.Reports.{reports_pending}
use Rattle.tase_conn.specs.Map.Inputs.{Item, IsLinkInput, text_given, link_has_ended}
use Rattle.tase_conn.specs.Map.Readings.{reading_of}
use Rattle.tase_conn.specs.Map.Replied.{pdu_of_reply}
use Rattle.tase_conn.specs.Map.Turns.{Turn, offers, asks, pauses}
use Rattle.tase_conn.specs.Map.Turns.{turns_of}
use Rattle.tase_conn.specs.Map.Asks.{is_last, asks_behind, without_pauses}
use Rattle.tase_conn.specs.Map.Out.{talk_of, accept_wire, detail_of, behind_offer, said, within}
use Rattle.tase_conn.specs.Map.Out.{reply_octets, close_octets, concluded_octets, release_wire}
use Rattle.tase_conn.specs.Map.Out.{abort_wire, turns_behind, reports_said}
use Rattle.tase_conn.specs.Map.Sent.{association_octets, with_event}
use Rattle.tase_conn.proofs.OfMap.Adding.{open_adds, take_adds, close_adds, asked_adds}
use Rattle.tase_conn.proofs.OfMap.Passing.{left_asked, quiet_event, none_sent, all_left}
use Rattle.tase_conn.proofs.OfMap.Uncut.{without-append}
use Rattle.tase_conn.specs.declared.stage.Cause.{Cause}
use Rattle.tase_conn.specs.declared.stage.Cause.TheVariants as causes
use Rattle.tase_conn.specs.declared.stage.Stage.TheVariants as stages
use Rattle.tase_conn.specs.Places.{IsGranted, turn_for, position_at, with_coming, coming_by}
use Rattle.tase_conn.specs.Answering.{closed_said, progress_closed, aborted}
use Rattle.conn_service.specs.Courses.Serving.{SaysOpen, SaysClosed, owed}
use Rattle.conn_service.proofs.OfCourses.AskedCalls.{input_calls}
use Rattle.conn_service.proofs.OfCourses.Seats.{at_seat, opened_here, seat_opened, close_closes}
use Rattle.conn_service.proofs.OfCourses.Texts.{IsFixed, fixed_over, text_turns}
use Rattle.conn_service.proofs.OfCourses.TurnLists.{silent, input_follows}

-- ---- the open

-- what comes behind the offer
behind_first : (rows : CentreRows) (items more : List Item) (answered : List Turn)
    (title : Option (List ℕ)) (rest : List Turn) → list_any (is_last rows) answered ≡ false
    → asks_behind rows [] answered ≡ [] → IsLinkInput (items ++ more)
    → turns_of (items ++ more) ≡ answered ++ offers title ∷ rest
    → (talk_of (reading_of (text_given (items ++ more))) (link_has_ended (items ++ more))).turns
    ≡ without_pauses rest
behind_first rows items more answered title rest l e i t =
    let alone : without_pauses answered ≡ [] =
    silent rows [] answered (offers title ∷ rest) refl l
    (input_follows items more answered (offers title ∷ rest) i t) e in
    ap (λ (ts : List Turn). behind_offer ts)
    (sym (text_turns (items ++ more) i) ∙ ap (λ (ts : List Turn). without_pauses ts) t
    ∙ without-append answered (offers title ∷ rest)
    ∙ ap (λ (ts : List Turn). ts ++ offers title ∷ without_pauses rest) alone)

opening_is : (told : List Arrival) (offered : Initiate) (v : Course) (text : List ℕ) (ended : Bool)
    → IsFixed told v (reading_of text) → IsGranted told offered
    → (talk_of (reading_of text) ended).opening
    ≡ answers_to called told ++ wire v.setup.size (accept_tsdu v.setup offered)
opening_is told offered v text ended x g =
    let r = reading_of text in
    let front = answers_to called told in
    ap (λ (os : List ℕ). os
    ++ accept_wire (setup_after r.told) (first_in connect_in r.told)) x.answered
    ∙ ap (λ (s : AssociationSetup). front ++ accept_wire s (first_in connect_in r.told)) x.setup
    ∙ ap (λ (c : Option Connecting). front ++ accept_wire (setup_after told) c)
    (x.first ∙ g.first)
    ∙ ap (λ (o : Initiate). front
    ++ wire (setup_after told).size (accept_tsdu (setup_after told) o)) (sym g.is)
    ∙ ap (λ (s : AssociationSetup). front ++ wire s.size (accept_tsdu s offered)) (sym x.course_setup)

pub opened_says : (rows : CentreRows) (past : Past) (who : ℕ) (items : List Item)
    (told : List Arrival) (answered : List Turn) (title : Option (List ℕ)) (peer : ℕ)
    (offered : Initiate) (octets : List ℕ) (v : Course)
    → CourseStands called (text_given items) told v → is_some (first_in connect_in told) ≡ true
    → IsGranted told offered → list_any (is_last rows) answered ≡ false
    → asks_behind rows [] answered ≡ [] → octets ≡ answers_to called told
    → SaysOpen rows (with_event who (events.Open peer) past) who items
    (answered ++ offers title ∷ []) (octets ++ wire v.setup.size (accept_tsdu v.setup offered))
opened_says rows past who items told answered title peer offered octets v s connect g l e o =
    let key = next_key past peer in
    let now = with_event who (events.Open peer) past in
    let yet : opens_in past peer ≤ opens_in past peer = omega arith in
    record {
      key = key;
      seat = at_seat (events.Open peer) past who;
      octets = λ more i rest t.
          let text = text_given (items ++ more) in
          let ended = link_has_ended (items ++ more) in
          let talk = talk_of (reading_of text) ended in
          let table = own_tables rows peer in
          let accept = wire v.setup.size (accept_tsdu v.setup offered) in
          let x = fixed_over items more told v s connect in
          let joined : turns_of (items ++ more) ≡ answered ++ offers title ∷ rest =
          t ∙ append_assoc answered (offers title ∷ []) rest in (
            ap (λ (os : List ℕ). os ++ accept) o
                ∙ sym (open_adds rows table talk key who peer past refl
                ∙ ap (λ (os : List ℕ). os ++ talk.opening) (none_sent rows table talk key past yet)
                ∙ opening_is told offered v text ended x g),
            ap (λ m. turns_behind talk.turns m)
                (quiet_event rows key who (events.Open peer) past tt refl)
                ∙ all_left rows talk.turns key past yet
                ∙ behind_first rows items more answered title rest l e i joined,
          );
    }

-- ---- a request

abbrev pub answer_octets : CentreRows → Past → Key → Course → ℤ → ℕ → CallKind → List ℕ
answer_octets rows past key v detail invoke call = said v.setup (within detail invoke (pdu_of_reply invoke
    (reply_to (own_tables rows key.peer) (view_of rows key.peer past) key.ordinal call)))

reply_is : (told : List Arrival) (detail : ℤ) (v : Course) (text : List ℕ) (ended : Bool)
    (invoke : ℕ) (reply : ReplyKind) → IsFixed told v (reading_of text)
    → detail ≡ detail_of (first_in connect_in told)
    → said v.setup (within detail invoke (pdu_of_reply invoke reply))
    ≡ reply_octets (talk_of (reading_of text) ended) invoke reply
reply_is told detail v text ended invoke reply x d =
    let r = reading_of text in
    ap (λ (s : AssociationSetup). said s (within detail invoke (pdu_of_reply invoke reply)))
    (x.course_setup ∙ sym x.setup)
    ∙ ap (λ (z : ℤ). said (setup_after r.told) (within z invoke (pdu_of_reply invoke reply)))
    (d ∙ ap (λ (c : Option Connecting). detail_of c) (sym x.first))

pub requested_says : (rows : CentreRows) (past : Past) (who : ℕ) (items : List Item)
    (told : List Arrival) (answered : List Turn) (invoke : ℕ) (call : CallKind) (detail : ℤ)
    (octets : List ℕ) (v : Course) → CourseStands called (text_given items) told v
    → is_some (first_in connect_in told) ≡ true → detail ≡ detail_of (first_in connect_in told)
    → (o : SaysOpen rows past who items answered octets)
    → SaysOpen rows (with_event who (events.Request call) past) who items
    (answered ++ asks invoke call ∷ [])
    (octets ++ answer_octets rows past o.key v detail invoke call)
requested_says rows past who items told answered invoke call detail octets v s connect d o =
    let key = o.key in
    record {
      key = key;
      seat = at_seat (events.Request call) past who ∙ o.seat;
      octets = λ more i rest t.
          let text = text_given (items ++ more) in
          let ended = link_has_ended (items ++ more) in
          let talk = talk_of (reading_of text) ended in
          let table = own_tables rows key.peer in
          let x = fixed_over items more told v s connect in
          let joined : turns_of (items ++ more) ≡ answered ++ asks invoke call ∷ rest =
          t ∙ append_assoc answered (asks invoke call ∷ []) rest in
          let before = o.octets more i (asks invoke call ∷ rest) joined in
          let lawful = input_calls (items ++ more) answered invoke call rest i joined in (
            ap (λ (os : List ℕ). os ++ answer_octets rows past key v detail invoke call) before.0
                ∙ ap (λ (os : List ℕ). association_octets rows past key text ended ++ os)
                (reply_is told detail v text ended invoke (reply_to table
                (view_of rows key.peer past) key.ordinal call) x d)
                ∙ sym (asked_adds rows table talk key who past invoke call (without_pauses rest)
                lawful o.seat before.1),
            left_asked rows talk.turns key who invoke call (without_pauses rest) past lawful o.seat
                before.1,
          );
    }

-- ---- a take

abbrev pub reports_octets : CentreRows → Past → Key → Course → ℤ → List ℕ
reports_octets rows past key v detail = reports_said v.setup detail
    (reports_pending (own_tables rows key.peer) (view_of rows key.peer past) key.ordinal)

reports_are : (told : List Arrival) (detail : ℤ) (v : Course) (text : List ℕ) (ended : Bool)
    (reports : List ReportKind) → IsFixed told v (reading_of text)
    → detail ≡ detail_of (first_in connect_in told)
    → reports_said v.setup detail reports
    ≡ reports_said (talk_of (reading_of text) ended).setup (talk_of (reading_of text) ended).detail
    reports
reports_are told detail v text ended reports x d =
    ap (λ (s : AssociationSetup). reports_said s detail reports) (x.course_setup ∙ sym x.setup)
    ∙ ap (λ (z : ℤ). reports_said (setup_after (reading_of text).told) z reports)
    (d ∙ ap (λ (c : Option Connecting). detail_of c) (sym x.first))

pub taken_says : (rows : CentreRows) (past : Past) (who : ℕ) (items : List Item)
    (told : List Arrival) (answered : List Turn) (detail : ℤ) (octets : List ℕ) (v : Course)
    → CourseStands called (text_given items) told v → is_some (first_in connect_in told) ≡ true
    → detail ≡ detail_of (first_in connect_in told)
    → (o : SaysOpen rows past who items answered octets)
    → SaysOpen rows (with_event who events.Take past) who items (answered ++ pauses ∷ [])
    (octets ++ reports_octets rows past o.key v detail)
taken_says rows past who items told answered detail octets v s connect d o =
    let key = o.key in
    record {
      key = key;
      seat = at_seat events.Take past who ∙ o.seat;
      octets = λ more i rest t.
          let text = text_given (items ++ more) in
          let ended = link_has_ended (items ++ more) in
          let talk = talk_of (reading_of text) ended in
          let table = own_tables rows key.peer in
          let x = fixed_over items more told v s connect in
          let before = o.octets more i (pauses ∷ rest)
          (t ∙ append_assoc answered (pauses ∷ []) rest) in (
            ap (λ (os : List ℕ). os ++ reports_octets rows past key v detail) before.0
                ∙ ap (λ (os : List ℕ). association_octets rows past key text ended ++ os)
                (reports_are told detail v text ended
                (reports_pending table (view_of rows key.peer past) key.ordinal) x d)
                ∙ sym (take_adds rows table talk key who past o.seat),
            ap (λ m. turns_behind talk.turns m)
                (quiet_event rows key who events.Take past tt o.seat) ∙ before.1,
          );
    }

-- ---- a close

-- how the end of an open association stands behind what ends it
abbrev pub standing_by : Cause → EndState
standing_by cause = (with_coming (coming_by cause) (position_at (stages.Open 0 (pos 0)))).standing

-- the octets of an end by this cause
closed_octets : (cause : Cause) (v : Course) (setup : AssociationSetup) (rest : List Turn)
    → v.standing ≡ standing_by cause → v.setup ≡ setup
    → closed_said v cause ++ owed (progress_closed cause) setup rest
    ≡ close_octets setup (turn_for cause ∷ rest)
closed_octets causes.Concluded v setup rest a e =
    ap (λ (s : AssociationSetup). said s pdus.Concluded ++ concluded_octets setup rest) e
closed_octets causes.Released v setup rest a e =
    append-nil (release_wire v.setup) ∙ ap (λ (s : AssociationSetup). release_wire s) e
closed_octets causes.Aborted v setup rest a e = refl
closed_octets causes.LinkEnd v setup rest a e = refl
closed_octets (causes.Broken fault) v setup rest a e =
    append-nil (aborted v)
    ∙ ap (λ (s : EndState). if is_accepted s then abort_wire v.setup else []) a
    ∙ ap (λ (s : AssociationSetup). abort_wire s) e

turn_kept : (cause : Cause) (rest : List Turn)
    → without_pauses (turn_for cause ∷ rest) ≡ turn_for cause ∷ without_pauses rest
turn_kept causes.Concluded rest = refl
turn_kept causes.Released rest = refl
turn_kept causes.Aborted rest = refl
turn_kept causes.LinkEnd rest = refl
turn_kept (causes.Broken fault) rest = refl

pub closed_says : (rows : CentreRows) (past : Past) (who : ℕ) (items : List Item)
    (told : List Arrival) (answered : List Turn) (cause : Cause) (octets : List ℕ) (v : Course)
    → CourseStands called (text_given items) told v → is_some (first_in connect_in told) ≡ true
    → v.standing ≡ standing_by cause
    → SaysOpen rows past who items answered octets
    → SaysClosed (progress_closed cause) rows (with_event who events.Close past) who items
    (answered ++ turn_for cause ∷ []) (octets ++ closed_said v cause)
closed_says rows past who items told answered cause octets v s connect a o =
    let key = o.key in
    record {
      key = key;
      opened = opened_here events.Close past who ∙ seat_opened past who key o.seat;
      closed = close_closes past who key o.seat;
      octets = λ more i rest t.
          let text = text_given (items ++ more) in
          let ended = link_has_ended (items ++ more) in
          let talk = talk_of (reading_of text) ended in
          let x = fixed_over items more told v s connect in
          let before = o.octets more i (turn_for cause ∷ rest)
          (t ∙ append_assoc answered (turn_for cause ∷ []) rest) in
          let close = close_octets talk.setup (turn_for cause ∷ without_pauses rest) in
          append_assoc octets (closed_said v cause)
          (owed (progress_closed cause) talk.setup (without_pauses rest))
          ∙ ap (λ (os : List ℕ). octets ++ os)
          (closed_octets cause v talk.setup (without_pauses rest) a
          (x.course_setup ∙ sym x.setup))
          ∙ ap (λ (os : List ℕ). os ++ close) before.0
          ∙ ap (λ (ts : List Turn). association_octets rows past key text ended ++ close_octets talk.setup ts)
          (sym (before.1 ∙ turn_kept cause rest))
          ∙ sym (close_adds rows (own_tables rows key.peer) talk key who past o.seat);
    }
