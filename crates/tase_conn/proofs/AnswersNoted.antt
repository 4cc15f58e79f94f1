-- Where a connection stands behind the node's answers.
use Rattle.std.proofs.Common.{◌≡◌, ℕ, Bool, true, false, List, [], ◌++◌}
use Rattle.std.proofs.Common.{ℤ, ◌≤ℤ◌, Option, Some, None, Result, Ok, Err, MatchOption, MatchBool}
use Rattle.std.proofs.Common.{refl, sym, ap, subst, ◌∙◌, append_assoc, arith}
use Rattle.std.specs.Prelude.{Vec, if◌then◌else◌, IfSome, OnOk, OnErr, bytes_eq, option_map}
use Rattle.std.specs.Option.{option_eq}
use Rattle.std.specs.Int.{int_min}
use Rattle.std.specs.declared.alloc.Global.{Global}
use Rattle.std.proofs.lemmas.Bool.{false≢true}
use Rattle.std.proofs.lemmas.Int.{ints, int_min_is}
use Rattle.std.proofs.lemmas.List.{append-nil}
use Rattle.std.proofs.lemmas.List.Quantifiers.{position-Some}
use Rattle.tpkt_cotp.specs.Written.{wire}
use Rattle.bilateral.specs.Rows.{CentreRows, no_table}
use Rattle.bilateral.specs.declared.rows.Table.{Table}
use Rattle.mms_services.specs.declared.initiate.Initiate.{Initiate}
use Rattle.mms_services.specs.declared.initiate.TheConstants.{MOST_DETAIL}
use Rattle.mms_services.specs.declared.pdu.MmsPdu.{MmsPdu}
use Rattle.mms_services.specs.declared.pdu.MmsPdu.TheVariants as pdus
use Rattle.mms_services.specs.Initiates.{IsFullInitiate}
use Rattle.mms_services.specs.Negotiations.{granted_of}
use Rattle.stack_assoc.specs.declared.messages.fault.StackFault.{StackFault}
use Rattle.stack_assoc.specs.declared.messages.expecting.Side.{Side}
use Rattle.stack_assoc.specs.declared.messages.expecting.Side.TheVariants as sides
use Rattle.stack_assoc.specs.declared.messages.heard.Connecting.{Connecting}
use Rattle.stack_assoc.specs.Wire.Tsdus.{accept_tsdu}
use Rattle.stack_assoc.specs.declared.input.StackState.TheVariants as states
use Rattle.stack_assoc.specs.declared.end_state.EndState.TheVariants as standings
use Rattle.stack_assoc.specs.Arrivals.{Arrival, Role, called, first_in, connect_in}
use Rattle.stack_assoc.specs.Tellings.{StopsTelling}
use Rattle.stack_assoc.specs.Courses.{Course, CourseStands, ReadsMessages, stack_state_of, state_with}
use Rattle.stack_assoc.specs.Saying.{with_standing, with_said, role_by, says_conclude, may_leave}
use Rattle.stack_assoc.specs.Saying.{leaving}
use Rattle.stack_assoc.proofs.SaidMore.{stands_standing, stands_said}
use Rattle.tase_views.specs.declared.reply.Answer.{Answer}
use Rattle.tase_views.specs.declared.reply.Answer.TheVariants as answers
use Rattle.tase_views.specs.declared.fault.StepFault.{StepFault}
use Rattle.tase_conn.specs.Map.Inputs.{Item, text_given}
use Rattle.tase_conn.specs.Map.Readings.{Reading, reading_of}
use Rattle.tase_conn.specs.Map.Turns.{Turn, turns_of}
use Rattle.tase_conn.specs.Map.Asks.{is_last}
use Rattle.tase_conn.specs.Map.Replied.{pdu_of_reply}
use Rattle.tase_conn.specs.Map.Out.{said, within, release_wire, detail_of, reports_said, first_too_long}
use Rattle.tase_conn.proofs.OfMap.ReadingLaws.{reading_only}
use Rattle.tase_conn.specs.declared.stage.ConnEnd.{ConnEnd}
use Rattle.tase_conn.specs.declared.stage.ConnEnd.TheVariants as conn_ends
use Rattle.tase_conn.specs.declared.stage.Stage.{Stage}
use Rattle.tase_conn.specs.declared.stage.Stage.TheVariants as stages
use Rattle.tase_conn.specs.declared.stage.Behind.{Behind}
use Rattle.tase_conn.specs.declared.stage.Behind.TheVariants as behinds
use Rattle.tase_conn.specs.declared.stage.Coming.{Coming}
use Rattle.tase_conn.specs.declared.stage.Cause.{Cause}
use Rattle.tase_conn.specs.declared.stage.Cause.TheVariants as causes
use Rattle.tase_conn.specs.declared.stage.PendingEvent.{PendingEvent}
use Rattle.tase_conn.specs.declared.stage.PendingEvent.TheVariants as askeds
use Rattle.tase_conn.specs.declared.stage.Progress.{Progress}
use Rattle.tase_conn.specs.declared.stage.Progress.TheVariants as progresses
use Rattle.tase_conn.specs.PeerEnd.{end_at}
use Rattle.tase_conn.specs.Talking.{Talking, pending_of, is_open_stage, stage_peer, is_leaving}
use Rattle.tase_conn.specs.Places.{turns_held, BeginsTurns, Position, IsAgreed, is_ending}
use Rattle.tase_conn.specs.Places.{IsAskedAt, turn_for, Runs, IsReadToEnd, GoesBy}
use Rattle.tase_conn.specs.Places.{IsPeer, HasAbortRoom, RoomBy, ConnStandsAt, IsPlaced}
use Rattle.tase_conn.specs.Wanting.{IsLeaving}
use Rattle.tase_conn.specs.Answering.{IsAnswerTo, IsAnswerFor, detail_in, stage_closed, stage_told}
use Rattle.tase_conn.specs.Answering.{end_of_fault, progress_closed, progress_by, progress_told, parting_octets}
use Rattle.tase_conn.specs.Answering.{closed_said, unnoted}
use Rattle.tase_conn.specs.Answering.{detail_at, answer_said, told_said}
use Rattle.tase_conn.specs.Answering.{progress_reported}
use Rattle.tase_conn.specs.Leaving.{finished, Parts, IsLeft, MayAnswer, AddsAnswer, EndsFor}
use Rattle.tase_conn.specs.Noting.{with_nothing_waiting, with_open, answered, NotesAsked, NotesAnswer}
use Rattle.tase_conn.proofs.LastTurns.{BringsEnd, brought_end, brought_whole}
use Rattle.tase_conn.proofs.SeenTurns.{seen_front}
use Rattle.tase_conn.proofs.ToldAll.{told_open}
use Rattle.tase_conn.proofs.Known.{opening_position, served_position, asked_connected}
use Rattle.tase_conn.proofs.Placing.{talking, reads_moved, parted_stands}

-- ---- what may be said of an event that waits

-- the first of these
abbrev pub Waits : PendingEvent → Talking → Type 0
Waits asked v = (rows : CentreRows) × (items : List Item) × (told : List Arrival)
    × (turns : List Turn) × Runs rows items told turns asked v

waits_by : (progress : Progress) (asked : PendingEvent) (rows : CentreRows) (items : List Item)
    (told : List Arrival) (turns : List Turn) (v : Talking) → progress ≡ progresses.Running asked
    → GoesBy progress rows items told turns v → Runs rows items told turns asked v
waits_by progress asked rows items told turns v e g =
    subst (λ (p : Progress). GoesBy p rows items told turns v) e g

pub waiting : (asked : PendingEvent) (v : Talking) → IsPlaced v → v.progress ≡ progresses.Running asked
    → Waits asked v
waiting asked v p e = (
  p.rows,
  p.items,
  p.told,
  p.turns,
  waits_by v.progress asked p.rows p.items p.told p.turns v e p.stands.goes,
)

-- an offer stands unanswered while its open waits
pub opening_offered : (peer : ℕ) (granted : Initiate) (v : Talking)
    → Waits (askeds.Opening peer granted) v → v.course.standing ≡ standings.Offered
opening_offered peer granted v w = ap (λ (p : Position). p.standing) (opening_position w.4)

full_so : (told : List Arrival) (peer : ℕ) (granted : Initiate) (stage : Stage)
    (held : Option Coming) → IsAskedAt (askeds.Opening peer granted) stage held
    → IsAgreed told stage (askeds.Opening peer granted) → IsFullInitiate granted
full_so told peer offered stages.Early None w g =
    subst IsFullInitiate (sym g.is) (record { version = refl; detail = refl; nesting = refl })
full_so told peer offered stages.Early (Some coming) w g = absurd w
full_so told peer offered (stages.Open other detail) held w g = absurd w
full_so told peer offered (stages.Closed other) held w g = absurd w

-- and what is granted may be written
pub opening_full : (peer : ℕ) (granted : Initiate) (v : Talking)
    → Waits (askeds.Opening peer granted) v → IsFullInitiate granted
opening_full peer granted v w = full_so w.2 peer granted v.stage v.held w.4.waits w.4.agreed

-- the association stands while a request waits
pub requesting_accepted : (invoke : ℕ) (v : Talking) → Waits (askeds.Requesting invoke) v
    → stack_state_of v.course ≡ states.Accepted
requesting_accepted invoke v w = ap (λ (p : Position). state_with p.fault p.standing)
    (served_position w.4 tt)

min_few : (a b : ℤ) → int_min a b ≤ℤ b
min_few a b = omega (arith, ints, int_min_is a b)

granted_few : (offered : Option ℤ) → granted_of MOST_DETAIL offered ≤ℤ MOST_DETAIL
granted_few None = omega (arith, ints)
granted_few (Some number) = min_few number MOST_DETAIL

detail_few : (o : Option Connecting) → detail_of o ≤ℤ MOST_DETAIL
detail_few None = omega (arith, ints)
detail_few (Some c) = granted_few c.initiate.detail

detail_so : (told : List Arrival) (asked : PendingEvent) (stage : Stage)
    → IsAgreed told stage asked → detail_at stage ≤ℤ MOST_DETAIL
detail_so told asked (stages.Open peer detail) g =
    subst (λ (d : ℤ). d ≤ℤ MOST_DETAIL) (sym g) (detail_few (first_in connect_in told))
detail_so told asked stages.Early g = omega (arith, ints)
detail_so told asked (stages.Closed peer) g = omega (arith, ints)

-- no more octets were agreed on than may be said
pub requesting_detail : (invoke : ℕ) (v : Talking) → Waits (askeds.Requesting invoke) v
    → detail_at v.stage ≤ℤ MOST_DETAIL
requesting_detail invoke v w =
    detail_so w.2 (askeds.Requesting invoke) v.stage w.4.agreed

-- the association stands, and is open, while a take waits
pub taking_accepted : (v : Talking) → Waits askeds.Taking v
    → stack_state_of v.course ≡ states.Accepted
taking_accepted v w = ap (λ (p : Position). state_with p.fault p.standing)
    (served_position w.4 tt)

pub taking_detail : (v : Talking) → Waits askeds.Taking v → detail_at v.stage ≤ℤ MOST_DETAIL
taking_detail v w = detail_so w.2 askeds.Taking v.stage w.4.agreed

taking_at : (stage : Stage) (held : Option Coming) → IsAskedAt askeds.Taking stage held
    → is_open_stage stage ≡ true
taking_at (stages.Open peer detail) None w = refl
taking_at (stages.Open peer detail) (Some coming) w = absurd w
taking_at stages.Early held w = absurd w
taking_at (stages.Closed peer) held w = absurd w

pub taking_open : (v : Talking) → Waits askeds.Taking v → is_open_stage v.stage ≡ true
taking_open v w = taking_at v.stage v.held w.4.waits

-- what asked for the close may be answered
pub closing_may : (cause : Cause) (v : Talking) → Waits (askeds.Closing cause) v
    → MayAnswer cause v.course
closing_may causes.Concluded v w = ap (λ (p : Position). state_with p.fault p.standing)
    (served_position w.4 tt)
closing_may causes.Released v w = (
  w.4.stands.knows.side,
  ap (λ (x : Side). may_leave x v.course.standing v.course.fault) w.4.stands.knows.side
      ∙ ap (λ (p : Position). may_leave sides.Called p.standing p.fault)
      (served_position w.4 tt),
)
closing_may causes.Aborted v w = tt
closing_may causes.LinkEnd v w = tt
closing_may (causes.Broken fault) v w = tt

-- ---- an open is answered

opening_noted : (rows : CentreRows) (items : List Item) (told : List Arrival) (turns : List Turn)
    (peer : ℕ) (granted : Initiate) (centre : CentreRows) (course : Course)
    (held : Option Coming) (behind : Behind) (stage : Stage) (out : List ℕ)
    (farewell : Vec ℕ Global) (new : Talking) → ConnStandsAt rows items told turns
    (talking centre course held behind stage (progresses.Running (askeds.Opening peer granted)) out
    farewell) → new ≡ with_open peer granted (talking centre course held behind stage
    (progresses.Running (askeds.Opening peer granted)) out farewell)
    → ConnStandsAt rows items told turns new
opening_noted rows items told turns peer granted centre course None behind stages.Early out
    farewell new s e =
    let old : Talking = talking centre course None behind stages.Early
    (progresses.Running (askeds.Opening peer granted)) out farewell in
    let g = s.goes.agreed in
    subst (λ (v : Talking). ConnStandsAt rows items told turns v) (sym e) (record {
      rows_are = s.rows_are;
      peer = (position-Some (λ (table : Table). option_eq bytes_eq table.title s.goes.last.0)
          rows.tables peer no_table s.goes.last.2).0;
      goes = record {
        stands = stands_standing called (text_given items) told course
            (with_standing standings.Accepted course) standings.Accepted s.goes.stands refl;
        reads = reads_moved course.fault behind items told (turns ++ []) old
            (with_open peer granted old) (λ x. x) refl s.goes.reads;
        due = tt;
        passed = tt;
        at = ap (λ (p : Position). record p { standing = standings.Accepted }) s.goes.at;
        reached = s.goes.reached;
        agreed = ap detail_in g.is ∙ sym (ap detail_of g.first);
        waits = tt;
        last = tt;
      };
      room = record { room = s.room.room; unsaid = s.room.unsaid };
    })
opening_noted rows items told turns peer granted centre course (Some coming) behind stages.Early
    out farewell new s e = absurd s.goes.waits
opening_noted rows items told turns peer granted centre course held behind
    (stages.Open other detail) out farewell new s e = absurd s.goes.waits
opening_noted rows items told turns peer granted centre course held behind (stages.Closed other)
    out farewell new s e = absurd s.goes.waits

-- ---- a request is answered

role_called : (b : Bool) (told : List Arrival) → role_by b called told ≡ called
role_called true told = refl
role_called false told = refl

-- the called end has said it, and stands where it stood
pub said_stands : (octets : List ℕ) (told : List Arrival) (course : Course) (pdu : MmsPdu)
    → course.fault ≡ None → CourseStands called octets told course
    → CourseStands called octets told (with_said pdu course)
said_stands octets told course pdu clear s =
    subst (λ (role : Role). CourseStands role octets told (with_said pdu course))
    (role_called (says_conclude pdu) told)
    (stands_said called octets told course (with_said pdu course) pdu clear s refl)

requesting_noted : (rows : CentreRows) (items : List Item) (told : List Arrival) (turns : List Turn)
    (invoke : ℕ) (pdu : MmsPdu) (centre : CentreRows) (course : Course)
    (held : Option Coming) (behind : Behind) (stage : Stage) (out : List ℕ)
    (farewell : Vec ℕ Global) (new : Talking) → ConnStandsAt rows items told turns
    (talking centre course held behind stage (progresses.Running (askeds.Requesting invoke)) out
    farewell) → new ≡ answered pdu (talking centre course held behind stage
    (progresses.Running (askeds.Requesting invoke)) out farewell)
    → ConnStandsAt rows items told turns new
requesting_noted rows items told turns invoke pdu centre course None behind
    (stages.Open peer detail) out farewell new s e =
    let old : Talking = talking centre course None behind (stages.Open peer detail)
    (progresses.Running (askeds.Requesting invoke)) out farewell in
    subst (λ (v : Talking). ConnStandsAt rows items told turns v) (sym e) (record {
      rows_are = s.rows_are;
      peer = s.peer;
      goes = record {
        stands = said_stands (text_given items) told course pdu
            (ap (λ (p : Position). p.fault) s.goes.at) s.goes.stands;
        reads = reads_moved course.fault behind items told (turns ++ []) old (answered pdu old)
            (λ x. x) refl s.goes.reads;
        due = tt;
        passed = tt;
        at = s.goes.at;
        reached = s.goes.reached;
        agreed = s.goes.agreed;
        waits = tt;
        last = tt;
      };
      room = record { room = s.room.room; unsaid = s.room.unsaid };
    })
requesting_noted rows items told turns invoke pdu centre course (Some coming) behind
    (stages.Open peer detail) out farewell new s e = absurd s.goes.waits
requesting_noted rows items told turns invoke pdu centre course held behind stages.Early out
    farewell new s e = absurd s.goes.waits
requesting_noted rows items told turns invoke pdu centre course held behind (stages.Closed peer)
    out farewell new s e = absurd s.goes.waits

-- ---- a take is answered

-- these octets were said, and one report was too long, or none
abbrev with_octets : Option ℕ → List ℕ → Talking → Talking
with_octets long octets v = record v {
  progress = progress_reported v.stage long;
  out = v.out ++ octets;
}

taking_noted : (long : Option ℕ) (octets : List ℕ) (rows : CentreRows) (items : List Item)
    (told : List Arrival) (turns : List Turn)
    (centre : CentreRows) (course : Course) (held : Option Coming) (behind : Behind)
    (stage : Stage) (out : List ℕ) (farewell : Vec ℕ Global) (new : Talking)
    → ConnStandsAt rows items told turns
    (talking centre course held behind stage (progresses.Running askeds.Taking) out farewell)
    → new ≡ with_octets long octets
    (talking centre course held behind stage (progresses.Running askeds.Taking) out farewell)
    → ConnStandsAt rows items told turns new
taking_noted (Some len) octets rows items told turns centre course None behind
    (stages.Open peer detail) out farewell new s e =
    subst (λ (v : Talking). ConnStandsAt rows items told turns v) (sym e) (record {
      rows_are = s.rows_are;
      peer = s.peer;
      goes = refl;
      room = record { room = s.room.room; unsaid = s.room.unsaid };
    })
taking_noted None octets rows items told turns centre course None behind
    (stages.Open peer detail) out farewell new s e =
    let old : Talking = talking centre course None behind (stages.Open peer detail)
    (progresses.Running askeds.Taking) out farewell in
    subst (λ (v : Talking). ConnStandsAt rows items told turns v) (sym e) (record {
      rows_are = s.rows_are;
      peer = s.peer;
      goes = record {
        stands = s.goes.stands;
        reads = reads_moved course.fault behind items told (turns ++ []) old
            (with_octets None octets old) (λ x. x) refl s.goes.reads;
        due = tt;
        passed = tt;
        at = s.goes.at;
        reached = s.goes.reached;
        agreed = s.goes.agreed;
        waits = tt;
        last = tt;
      };
      room = record { room = s.room.room; unsaid = s.room.unsaid };
    })
taking_noted long octets rows items told turns centre course (Some coming) behind
    (stages.Open peer detail) out farewell new s e = absurd s.goes.waits
taking_noted long octets rows items told turns centre course held behind stages.Early out farewell
    new s e = absurd s.goes.waits
taking_noted long octets rows items told turns centre course held behind (stages.Closed peer) out
    farewell new s e = absurd s.goes.waits

-- ---- a close is answered

last_for : (rows : CentreRows) (cause : Cause) → is_ending cause ≡ true
    → is_last rows (turn_for cause) ≡ true
last_for rows causes.Concluded e = absurd cc
last_for rows causes.Released e = refl
last_for rows causes.Aborted e = refl
last_for rows causes.LinkEnd e = refl
last_for rows (causes.Broken fault) e = refl

broken_so : (items : List Item) (told : List Arrival) (course : Course) (f : Option StackFault)
    (fault : StackFault) → f ≡ Some fault → MatchOption f (ReadsMessages called (text_given items) told course)
    (λ g. StopsTelling called (text_given items) told g)
    → (reading_of (text_given items)).broken ≡ Some fault
broken_so items told course None fault e r = absurd cc
broken_so items told course (Some g) fault e r =
    ap (λ (x : Reading). x.broken) (reading_only (text_given items) told (Some g) r) ∙ e

-- the end that a close brings
pub closed_ends : (rows : CentreRows) (items : List Item) (told : List Arrival) (turns : List Turn)
    (cause : Cause) (end : ConnEnd) (v : Talking) → v.held ≡ None
    → Runs rows items told turns (askeds.Closing cause) v
    → is_ending cause ≡ true
    → end_at (reading_of (text_given items)).broken (turn_for cause) ≡ Some end
    → IsReadToEnd rows items told turns end
closed_ends rows items told turns cause end v none r e c =
    let f = subst (λ (held : Option Coming). BeginsTurns (turns ++ turns_held held) (turns_of items))
    none (seen_front rows items told turns (askeds.Closing cause) v r) in
    let t = told_open rows items told turns (askeds.Closing cause) v r (asked_connected r tt) in
    let b : BringsEnd rows items turns end = record {
      last = turn_for cause;
      ends = r.last.0;
      is = last_for rows cause e;
      cause = c;
      rest = f.0;
      all = f.1 ∙ ap (λ (ts : List Turn). ts ++ f.0) (append-nil turns);
    } in
    record {
      done = items;
      dropped = [];
      items_are = sym (append-nil items);
      by_peer = brought_end rows items turns end b;
      whole = brought_whole rows items turns end b;
      answered = t.answered;
      fixed = λ declined. t.fixed;
    }

ended_stands : (rows : CentreRows) (items : List Item) (told : List Arrival) (turns : List Turn)
    (end : ConnEnd) (centre : CentreRows) (stage : Stage) (course : Course) (out : List ℕ)
    (farewell : Vec ℕ Global) (new : Talking) → centre ≡ rows
    → IfSome (stage_peer stage) (IsPeer rows) → IsReadToEnd rows items told turns end
    → new ≡ talking centre course None behinds.Nothing stage (progresses.Ended end) out farewell
    → ConnStandsAt rows items told turns new
ended_stands rows items told turns end centre stage course out farewell new rows_are peer ends e =
    subst (λ (x : Talking). ConnStandsAt rows items told turns x) (sym e) (record {
      rows_are = rows_are;
      peer = peer;
      goes = (ends, record { read = refl; acted = refl });
      room = tt;
    })

concluded_noted : (rows : CentreRows) (items : List Item) (told : List Arrival) (turns : List Turn)
    (centre : CentreRows) (course : Course) (behind : Behind) (peer : ℕ) (detail : ℤ)
    (out : List ℕ) (farewell : Vec ℕ Global) (new : Talking) → ConnStandsAt rows items told turns
    (talking centre course None behind (stages.Open peer detail)
    (progresses.Running (askeds.Closing causes.Concluded)) out farewell)
    → new ≡ talking centre (with_said pdus.Concluded course) None behind (stages.Closed peer)
    (progresses.Running askeds.Nothing) new.out farewell → ConnStandsAt rows items told turns new
concluded_noted rows items told turns centre course behind peer detail out farewell new s e =
    let old : Talking = talking centre course None behind (stages.Open peer detail)
    (progresses.Running (askeds.Closing causes.Concluded)) out farewell in
    let to : Talking = talking centre (with_said pdus.Concluded course) None behind
    (stages.Closed peer) (progresses.Running askeds.Nothing) new.out farewell in
    subst (λ (v : Talking). ConnStandsAt rows items told turns v) (sym e) (record {
      rows_are = s.rows_are;
      peer = s.peer;
      goes = record {
        stands = said_stands (text_given items) told course pdus.Concluded
            (ap (λ (p : Position). p.fault) s.goes.at) s.goes.stands;
        reads = reads_moved course.fault behind items told (turns ++ []) old to (λ x. x) refl
            s.goes.reads;
        due = tt;
        passed = tt;
        at = s.goes.at;
        reached = s.goes.reached;
        agreed = tt;
        waits = tt;
        last = tt;
      };
      room = record { room = s.room.room; unsaid = s.room.unsaid };
    })

closing_noted : (cause : Cause) (rows : CentreRows) (items : List Item) (told : List Arrival)
    (turns : List Turn) (centre : CentreRows) (course : Course) (held : Option Coming)
    (behind : Behind) (stage : Stage) (out : List ℕ) (farewell : Vec ℕ Global) (new : Talking)
    → ConnStandsAt rows items told turns
    (talking centre course held behind stage (progresses.Running (askeds.Closing cause)) out
    farewell)
    → EndsFor cause (talking centre course held behind (stage_closed stage)
    (progresses.Running (askeds.Closing cause)) out farewell) new
    → ConnStandsAt rows items told turns new
closing_noted causes.Concluded rows items told turns centre course None behind
    (stages.Open peer detail) out farewell new s n =
    concluded_noted rows items told turns centre course behind peer detail out farewell new s
    (n.0.is ∙ ap (λ (c : Course). talking centre c None behind (stages.Closed peer)
    (progresses.Running askeds.Nothing) new.out farewell) n.1)
closing_noted causes.Released rows items told turns centre course None behind
    (stages.Open peer detail) out farewell new s n =
    ended_stands rows items told turns conn_ends.Finished centre (stages.Closed peer) new.course
    new.out farewell new s.rows_are s.peer
    (closed_ends rows items told turns causes.Released conn_ends.Finished
    (talking centre course None behind (stages.Open peer detail)
    (progresses.Running (askeds.Closing causes.Released)) out farewell) refl s.goes refl refl) n.is
closing_noted causes.Aborted rows items told turns centre course None behind
    (stages.Open peer detail) out farewell new s n =
    ended_stands rows items told turns conn_ends.PeerEnd centre (stages.Closed peer) course out
    farewell new s.rows_are s.peer
    (closed_ends rows items told turns causes.Aborted conn_ends.PeerEnd
    (talking centre course None behind (stages.Open peer detail)
    (progresses.Running (askeds.Closing causes.Aborted)) out farewell) refl s.goes refl refl)
    n
closing_noted causes.LinkEnd rows items told turns centre course None behind
    (stages.Open peer detail) out farewell new s n =
    ended_stands rows items told turns conn_ends.PeerEnd centre (stages.Closed peer) course out
    farewell new s.rows_are s.peer
    (closed_ends rows items told turns causes.LinkEnd conn_ends.PeerEnd
    (talking centre course None behind (stages.Open peer detail)
    (progresses.Running (askeds.Closing causes.LinkEnd)) out farewell) refl s.goes refl refl)
    n
closing_noted (causes.Broken fault) rows items told turns centre course None behind
    (stages.Open peer detail) out farewell new s n =
    ended_stands rows items told turns (conn_ends.Refused fault) centre (stages.Closed peer)
    new.course out new.farewell new s.rows_are s.peer
    (closed_ends rows items told turns (causes.Broken fault) (conn_ends.Refused fault)
    (talking centre course None behind (stages.Open peer detail)
    (progresses.Running (askeds.Closing (causes.Broken fault))) out farewell) refl s.goes refl
    (ap (λ (b : Option StackFault). option_map conn_ends.Refused b)
    (broken_so items told course course.fault fault (ap (λ (p : Position). p.fault) s.goes.at)
    s.goes.stands.reads))) n.is
closing_noted cause rows items told turns centre course (Some coming) behind
    (stages.Open peer detail) out farewell new s n = absurd s.goes.waits
closing_noted cause rows items told turns centre course held behind stages.Early out farewell new s
    n = absurd s.goes.waits
closing_noted cause rows items told turns centre course held behind (stages.Closed peer) out
    farewell new s n = absurd s.goes.waits

-- ---- any answer

noted_asked : (asked : PendingEvent) (answer : Answer) (rows : CentreRows) (items : List Item)
    (told : List Arrival) (turns : List Turn) (centre : CentreRows) (course : Course)
    (held : Option Coming) (behind : Behind) (stage : Stage) (out : List ℕ)
    (farewell : Vec ℕ Global) (new : Talking) → ConnStandsAt rows items told turns
    (talking centre course held behind stage (progresses.Running asked) out farewell)
    → IsAnswerTo asked (Ok answer) → NotesAsked asked answer
    (talking centre course held behind stage (progresses.Running asked) out farewell) new
    → ConnStandsAt rows items told turns new
noted_asked (askeds.Opening peer granted) answer rows items told turns centre course held behind
    stage out farewell new s right n =
    opening_noted rows items told turns peer granted centre course held behind stage out farewell
    new s n
noted_asked (askeds.Requesting invoke) (answers.Reply reply) rows items told turns centre course
    held behind stage out farewell new s right n =
    requesting_noted rows items told turns invoke
    (within (detail_at stage) invoke (pdu_of_reply invoke reply)) centre course held behind stage out
    farewell new s n
noted_asked (askeds.Requesting invoke) (answers.Opened key) rows items told turns centre course
    held behind stage out farewell new s right n = absurd right
noted_asked (askeds.Requesting invoke) (answers.Reports reports) rows items told turns centre
    course held behind stage out farewell new s right n = absurd right
noted_asked (askeds.Requesting invoke) answers.Closed rows items told turns centre course held
    behind stage out farewell new s right n = absurd right
noted_asked (askeds.Requesting invoke) answers.Noted rows items told turns centre course held
    behind stage out farewell new s right n = absurd right
noted_asked (askeds.Requesting invoke) (answers.Orders orders) rows items told turns centre course
    held behind stage out farewell new s right n = absurd right
noted_asked askeds.Taking (answers.Reports reports) rows items told turns centre course held behind
    stage out farewell new s right n =
    taking_noted (first_too_long (detail_at stage) reports)
    (reports_said course.setup (detail_at stage) reports) rows items told turns centre course held
    behind stage out farewell new s n
noted_asked askeds.Taking (answers.Opened key) rows items told turns centre course held behind stage
    out farewell new s right n = absurd right
noted_asked askeds.Taking (answers.Reply reply) rows items told turns centre course held behind
    stage out farewell new s right n = absurd right
noted_asked askeds.Taking answers.Closed rows items told turns centre course held behind stage out
    farewell new s right n = absurd right
noted_asked askeds.Taking answers.Noted rows items told turns centre course held behind stage out
    farewell new s right n = absurd right
noted_asked askeds.Taking (answers.Orders orders) rows items told turns centre course held behind
    stage out farewell new s right n = absurd right
noted_asked (askeds.Closing cause) answer rows items told turns centre course held behind stage
    out farewell new s right n =
    closing_noted cause rows items told turns centre course held behind stage out farewell new s n
noted_asked askeds.Nothing answer rows items told turns centre course held behind stage out
    farewell new s right n = absurd right

peer_closed : (rows : CentreRows) (stage : Stage) → IfSome (stage_peer stage) (IsPeer rows)
    → IfSome (stage_peer (stage_closed stage)) (IsPeer rows)
peer_closed rows stages.Early p = p
peer_closed rows (stages.Open peer detail) p = p
peer_closed rows (stages.Closed peer) p = p

noted_by : (progress : Progress) (answer : Answer) (rows : CentreRows) (items : List Item)
    (told : List Arrival) (turns : List Turn) (centre : CentreRows) (course : Course)
    (held : Option Coming) (behind : Behind) (stage : Stage) (out : List ℕ)
    (farewell : Vec ℕ Global) (new : Talking) → ConnStandsAt rows items told turns
    (talking centre course held behind stage progress out farewell)
    → IsAnswerFor progress (Ok answer) → NotesAnswer progress answer
    (talking centre course held behind stage progress out farewell) new
    → ConnStandsAt rows items told turns new
noted_by (progresses.Running asked) answer rows items told turns centre course held behind stage
    out farewell new s right n =
    noted_asked asked answer rows items told turns centre course held behind stage out farewell new
    s right n
noted_by progresses.Refused answer rows items told turns centre course held behind stage out
    farewell new s right n = absurd right
noted_by (progresses.Leaving end asked) answer rows items told turns centre course held behind
    stage out farewell new s right n =
    parted_stands rows items told turns end (parting_octets course end)
    (talking centre course held behind (stage_closed stage) (progresses.Leaving end asked) out farewell)
    new n s.rows_are (peer_closed rows stage s.peer)
noted_by (progresses.Ended end) answer rows items told turns centre course held behind stage out
    farewell new s right n = absurd right
noted_by (progresses.Cut end) answer rows items told turns centre course held behind stage out
    farewell new s right n = absurd right

-- it stands where it stood
pub noted_stands : (answer : Answer) (rows : CentreRows) (items : List Item) (told : List Arrival)
    (turns : List Turn) (old new : Talking) → IsAnswerFor old.progress (Ok answer)
    → NotesAnswer old.progress answer old new → ConnStandsAt rows items told turns old
    → ConnStandsAt rows items told turns new
noted_stands answer rows items told turns old new right n s =
    noted_by old.progress answer rows items told turns old.rows old.course old.held old.behind
    old.stage old.out old.farewell new s right n

-- ---- what is said of it

behind_none : (out octets rest : List ℕ) → rest ≡ []
    → (out ++ octets) ++ rest ≡ (out ++ rest) ++ octets
behind_none out octets rest e =
    ap (λ (r : List ℕ). (out ++ octets) ++ r) e ∙ append-nil (out ++ octets)
    ∙ ap (λ (o : List ℕ). o ++ octets) (sym (append-nil out))
    ∙ ap (λ (r : List ℕ). (out ++ r) ++ octets) (sym e)

pub adds_said : (octets : List ℕ) (old new : Talking) → old.farewell.items ≡ []
    → AddsAnswer octets old new → pending_of new ≡ pending_of old ++ octets
adds_said octets old new none a = ap (λ (v : Talking). pending_of v) a.is
    ∙ ap (λ (o : List ℕ). o ++ old.farewell.items) a.said_is
    ∙ behind_none old.out octets old.farewell.items none

pub parts_said : (progress : Progress) (octets : List ℕ) (old new : Talking)
    → Parts progress octets old new → pending_of new ≡ pending_of old ++ octets
parts_said progress octets old new p = ap (λ (v : Talking). pending_of v) p.is
    ∙ ap (λ (f : List ℕ). old.out ++ f) p.said_is
    ∙ sym (append_assoc old.out old.farewell.items octets)

closed_said_so : (cause : Cause) (old new : Talking) → old.farewell.items ≡ []
    → EndsFor cause old new → pending_of new ≡ pending_of old ++ closed_said old.course cause
closed_said_so causes.Concluded old new none n =
    adds_said (said old.course.setup pdus.Concluded) (with_nothing_waiting old) new none n.0
closed_said_so causes.Released old new none n =
    adds_said (release_wire old.course.setup) (finished (progresses.Ended conn_ends.Finished) old)
    new none n
closed_said_so causes.Aborted old new none n =
    ap (λ (v : Talking). pending_of v) n ∙ sym (append-nil (pending_of old))
closed_said_so causes.LinkEnd old new none n =
    ap (λ (v : Talking). pending_of v) n ∙ sym (append-nil (pending_of old))
closed_said_so (causes.Broken fault) old new none n =
    parts_said (progresses.Ended (conn_ends.Refused fault))
    (parting_octets old.course (conn_ends.Refused fault)) old new n

asked_said : (asked : PendingEvent) (answer : Answer) (old new : Talking) → old.farewell.items ≡ []
    → IsAnswerTo asked (Ok answer) → NotesAsked asked answer old new
    → pending_of new ≡ pending_of old ++ answer_said old.course old.stage asked answer
asked_said (askeds.Opening peer granted) (answers.Opened key) old new none right n =
    ap (λ (v : Talking). pending_of v) n
    ∙ behind_none old.out (wire old.course.setup.size (accept_tsdu old.course.setup granted))
    old.farewell.items none
asked_said (askeds.Opening peer granted) (answers.Reply reply) old new none right n = absurd right
asked_said (askeds.Opening peer granted) (answers.Reports reports) old new none right n =
    absurd right
asked_said (askeds.Opening peer granted) answers.Closed old new none right n = absurd right
asked_said (askeds.Opening peer granted) answers.Noted old new none right n = absurd right
asked_said (askeds.Opening peer granted) (answers.Orders orders) old new none right n = absurd right
asked_said (askeds.Requesting invoke) (answers.Reply reply) old new none right n =
    ap (λ (v : Talking). pending_of v) n
    ∙ behind_none old.out
    (said old.course.setup (within (detail_at old.stage) invoke (pdu_of_reply invoke reply)))
    old.farewell.items none
asked_said (askeds.Requesting invoke) (answers.Opened key) old new none right n = absurd right
asked_said (askeds.Requesting invoke) (answers.Reports reports) old new none right n =
    absurd right
asked_said (askeds.Requesting invoke) answers.Closed old new none right n = absurd right
asked_said (askeds.Requesting invoke) answers.Noted old new none right n = absurd right
asked_said (askeds.Requesting invoke) (answers.Orders orders) old new none right n = absurd right
asked_said askeds.Taking (answers.Reports reports) old new none right n =
    ap (λ (v : Talking). pending_of v) n
    ∙ behind_none old.out (reports_said old.course.setup (detail_at old.stage) reports)
    old.farewell.items none
asked_said askeds.Taking (answers.Opened key) old new none right n = absurd right
asked_said askeds.Taking (answers.Reply reply) old new none right n = absurd right
asked_said askeds.Taking answers.Closed old new none right n = absurd right
asked_said askeds.Taking answers.Noted old new none right n = absurd right
asked_said askeds.Taking (answers.Orders orders) old new none right n = absurd right
asked_said (askeds.Closing cause) answers.Closed old new none right n =
    closed_said_so cause (record old { stage = stage_closed old.stage }) new none n
asked_said (askeds.Closing cause) (answers.Opened key) old new none right n = absurd right
asked_said (askeds.Closing cause) (answers.Reply reply) old new none right n = absurd right
asked_said (askeds.Closing cause) (answers.Reports reports) old new none right n = absurd right
asked_said (askeds.Closing cause) answers.Noted old new none right n = absurd right
asked_said (askeds.Closing cause) (answers.Orders orders) old new none right n = absurd right
asked_said askeds.Nothing answer old new none right n = absurd right

-- what the peer is answered stands behind all that is still to be sent
pub noted_said : (progress : Progress) (answer : Answer) (old new : Talking)
    → old.farewell.items ≡ [] → IsAnswerFor progress (Ok answer) → NotesAnswer progress answer old new
    → pending_of new ≡ pending_of old ++ told_said progress old.stage old.course (Ok answer)
noted_said (progresses.Running asked) answer old new none right n =
    asked_said asked answer old new none right n
noted_said progresses.Refused answer old new none right n = absurd right
noted_said (progresses.Leaving end asked) answer old new none right n =
    parts_said (progresses.Cut end) (parting_octets old.course end)
    (record old { stage = stage_closed old.stage }) new n
noted_said (progresses.Ended end) answer old new none right n = absurd right
noted_said (progresses.Cut end) answer old new none right n = absurd right

-- ---- how it goes on

closed_progress : (cause : Cause) (old new : Talking) → EndsFor cause old new
    → new.progress ≡ progress_closed cause
closed_progress causes.Concluded old new n = ap (λ (v : Talking). v.progress) n.0.is
closed_progress causes.Released old new n = ap (λ (v : Talking). v.progress) n.is
closed_progress causes.Aborted old new n = ap (λ (v : Talking). v.progress) n
closed_progress causes.LinkEnd old new n = ap (λ (v : Talking). v.progress) n
closed_progress (causes.Broken fault) old new n = ap (λ (v : Talking). v.progress) n.is

asked_progress : (asked : PendingEvent) (answer : Answer) (old new : Talking)
    → IsAnswerTo asked (Ok answer) → NotesAsked asked answer old new
    → new.progress ≡ progress_by old.stage asked answer
asked_progress (askeds.Opening peer granted) answer old new right n =
    ap (λ (v : Talking). v.progress) n
asked_progress (askeds.Requesting invoke) (answers.Reply reply) old new right n =
    ap (λ (v : Talking). v.progress) n
asked_progress (askeds.Requesting invoke) (answers.Opened key) old new right n = absurd right
asked_progress (askeds.Requesting invoke) (answers.Reports reports) old new right n = absurd right
asked_progress (askeds.Requesting invoke) answers.Closed old new right n = absurd right
asked_progress (askeds.Requesting invoke) answers.Noted old new right n = absurd right
asked_progress (askeds.Requesting invoke) (answers.Orders orders) old new right n = absurd right
asked_progress askeds.Taking (answers.Reports reports) old new right n =
    ap (λ (v : Talking). v.progress) n
asked_progress askeds.Taking (answers.Opened key) old new right n = absurd right
asked_progress askeds.Taking (answers.Reply reply) old new right n = absurd right
asked_progress askeds.Taking answers.Closed old new right n = absurd right
asked_progress askeds.Taking answers.Noted old new right n = absurd right
asked_progress askeds.Taking (answers.Orders orders) old new right n = absurd right
asked_progress (askeds.Closing cause) answer old new right n =
    closed_progress cause (record old { stage = stage_closed old.stage }) new n
asked_progress askeds.Nothing answer old new right n = absurd right

pub noted_progress : (progress : Progress) (answer : Answer) (old new : Talking)
    → IsAnswerFor progress (Ok answer) → NotesAnswer progress answer old new
    → new.progress ≡ progress_told progress old.stage (Ok answer)
noted_progress (progresses.Running asked) answer old new right n =
    asked_progress asked answer old new right n
noted_progress progresses.Refused answer old new right n = absurd right
noted_progress (progresses.Leaving end asked) answer old new right n =
    ap (λ (v : Talking). v.progress) n.is
noted_progress (progresses.Ended end) answer old new right n = absurd right
noted_progress (progresses.Cut end) answer old new right n = absurd right

-- ---- how its association stands

going_on : (p q : Progress) → p ≡ q → is_leaving q ≡ false → is_leaving p ≡ true → ⊥
going_on p q e goes left = false≢true (sym goes ∙ ap (λ (x : Progress). is_leaving x) (sym e) ∙ left)

closed_goes : (cause : Cause) → is_leaving (progress_closed cause) ≡ false
closed_goes causes.Concluded = refl
closed_goes causes.Released = refl
closed_goes causes.Aborted = refl
closed_goes causes.LinkEnd = refl
closed_goes (causes.Broken fault) = refl

asked_course : (asked : PendingEvent) (answer : Answer) (old new : Talking)
    → IsAnswerTo asked (Ok answer) → NotesAsked asked answer old new
    → new.progress ≡ progress_by old.stage asked answer → is_leaving new.progress ≡ true
    → new.course ≡ old.course
asked_course (askeds.Opening peer granted) answer old new right n p left =
    absurd (going_on new.progress (progresses.Running askeds.Nothing) p refl left)
asked_course (askeds.Requesting invoke) answer old new right n p left =
    absurd (going_on new.progress (progresses.Running askeds.Nothing) p refl left)
asked_course askeds.Taking (answers.Reports reports) old new right n p left =
    ap (λ (v : Talking). v.course) n
asked_course askeds.Taking (answers.Opened key) old new right n p left = absurd right
asked_course askeds.Taking (answers.Reply reply) old new right n p left = absurd right
asked_course askeds.Taking answers.Closed old new right n p left = absurd right
asked_course askeds.Taking answers.Noted old new right n p left = absurd right
asked_course askeds.Taking (answers.Orders orders) old new right n p left = absurd right
asked_course (askeds.Closing cause) answer old new right n p left =
    absurd (going_on new.progress (progress_closed cause) p (closed_goes cause) left)
asked_course askeds.Nothing answer old new right n p left = absurd right

pub noted_course : (progress : Progress) (answer : Answer) (old new : Talking)
    → IsAnswerFor progress (Ok answer) → NotesAnswer progress answer old new
    → new.progress ≡ progress_told progress old.stage (Ok answer) → is_leaving new.progress ≡ true
    → new.course ≡ old.course
noted_course (progresses.Running asked) answer old new right n p left =
    asked_course asked answer old new right n p left
noted_course progresses.Refused answer old new right n p left = absurd right
noted_course (progresses.Leaving end asked) answer old new right n p left =
    absurd (going_on new.progress (progresses.Cut end) p refl left)
noted_course (progresses.Ended end) answer old new right n p left = absurd right
noted_course (progresses.Cut end) answer old new right n p left = absurd right

-- ---- where the node refused

left_course : (b : Bool) (end : ConnEnd) (old new : Talking)
    → MatchBool b (new ≡ record old { progress = progresses.Leaving end false })
    (Parts (progresses.Cut end) (parting_octets old.course end) old new)
    → is_leaving new.progress ≡ true → new.course ≡ old.course
left_course true end old new l left = ap (λ (v : Talking). v.course) l
left_course false end old new l left =
    absurd (going_on new.progress (progresses.Cut end) (ap (λ (v : Talking). v.progress) l.is) refl
    left)

left_said : (b : Bool) (end : ConnEnd) (old new : Talking)
    → MatchBool b (new ≡ record old { progress = progresses.Leaving end false })
    (Parts (progresses.Cut end) (parting_octets old.course end) old new)
    → pending_of new ≡ pending_of old ++ (if b then [] else parting_octets old.course end)
left_said true end old new l =
    ap (λ (v : Talking). pending_of v) l ∙ sym (append-nil (pending_of old))
left_said false end old new l =
    parts_said (progresses.Cut end) (parting_octets old.course end) old new l

left_progress : (b : Bool) (end : ConnEnd) (old new : Talking)
    → MatchBool b (new ≡ record old { progress = progresses.Leaving end false })
    (Parts (progresses.Cut end) (parting_octets old.course end) old new)
    → new.progress ≡ (if b then progresses.Leaving end false else progresses.Cut end)
left_progress true end old new l = ap (λ (v : Talking). v.progress) l
left_progress false end old new l = ap (λ (v : Talking). v.progress) l.is

left_stage : (b : Bool) (end : ConnEnd) (old new : Talking)
    → MatchBool b (new ≡ record old { progress = progresses.Leaving end false })
    (Parts (progresses.Cut end) (parting_octets old.course end) old new)
    → new.stage ≡ old.stage
left_stage true end old new l = ap (λ (v : Talking). v.stage) l
left_stage false end old new l = ap (λ (v : Talking). v.stage) l.is

pub refused_said : (progress : Progress) (fault : StepFault) (old new : Talking)
    → IsAnswerFor progress (Err fault) → IsLeft (end_of_fault fault) old new
    → pending_of new ≡ pending_of old ++ told_said progress old.stage old.course (Err fault)
refused_said (progresses.Running asked) fault old new right l =
    left_said (is_open_stage old.stage) (end_of_fault fault) old new l
refused_said progresses.Refused fault old new right l = absurd right
refused_said (progresses.Leaving end true) fault old new right l = absurd right
refused_said (progresses.Leaving end false) fault old new right l = absurd right
refused_said (progresses.Ended end) fault old new right l = absurd right
refused_said (progresses.Cut end) fault old new right l = absurd right

pub refused_progress : (progress : Progress) (fault : StepFault) (old new : Talking)
    → IsAnswerFor progress (Err fault) → IsLeft (end_of_fault fault) old new
    → new.progress ≡ progress_told progress old.stage (Err fault)
refused_progress (progresses.Running asked) fault old new right l =
    left_progress (is_open_stage old.stage) (end_of_fault fault) old new l
refused_progress progresses.Refused fault old new right l = absurd right
refused_progress (progresses.Leaving end true) fault old new right l = absurd right
refused_progress (progresses.Leaving end false) fault old new right l = absurd right
refused_progress (progresses.Ended end) fault old new right l = absurd right
refused_progress (progresses.Cut end) fault old new right l = absurd right

pub refused_stage : (progress : Progress) (fault : StepFault) (old new : Talking)
    → IsAnswerFor progress (Err fault) → IsLeft (end_of_fault fault) old new
    → new.stage ≡ stage_told progress (Err fault) old.stage
refused_stage (progresses.Running asked) fault old new right l =
    left_stage (is_open_stage old.stage) (end_of_fault fault) old new l
refused_stage progresses.Refused fault old new right l = absurd right
refused_stage (progresses.Leaving end true) fault old new right l = absurd right
refused_stage (progresses.Leaving end false) fault old new right l = absurd right
refused_stage (progresses.Ended end) fault old new right l = absurd right
refused_stage (progresses.Cut end) fault old new right l = absurd right

room_answered : (progress : Progress) (told : Result Answer StepFault) (v : Talking)
    → IsAnswerFor progress told → RoomBy progress v → HasAbortRoom v
room_answered (progresses.Running asked) told v right r = r
room_answered progresses.Refused told v right r = r
room_answered (progresses.Leaving end asked) told v right r = r
room_answered (progresses.Ended end) told v right r = absurd right
room_answered (progresses.Cut end) told v right r = absurd right

-- where an answer may be told there is room for the octets of an abort
pub answer_room : (told : Result Answer StepFault) (v : Talking) → IsAnswerFor v.progress told
    → IsPlaced v → HasAbortRoom v
answer_room told v right p = room_answered v.progress told v right p.stands.room

leaving_right : (progress : Progress) (end : ConnEnd) (asked : Bool) (answer : Answer)
    → progress ≡ progresses.Leaving end asked → IsAnswerFor progress (Ok answer)
    → IsAnswerFor (progresses.Leaving end asked) (Ok answer)
leaving_right progress end asked answer e right =
    subst (λ (p : Progress). IsAnswerFor p (Ok answer)) e right

-- ---- what a call ensures on its answer

pub on_ok : (T E P Q : Type 0) (result : Result T E) → (P → Q) → OnOk result P → OnOk result Q
on_ok T E P Q (Ok x) f p = f p
on_ok T E P Q (Err e) f p = tt

-- an answer was told
pub told_stands : (told : Result Answer StepFault) (answer : Answer) (rows : CentreRows)
    (items : List Item) (heard : List Arrival) (turns : List Turn) (old new : Talking)
    → told ≡ Ok answer → IsAnswerFor old.progress told → NotesAnswer old.progress answer old new
    → ConnStandsAt rows items heard turns old → ConnStandsAt rows items heard turns new
told_stands told answer rows items heard turns old new e right n s =
    noted_stands answer rows items heard turns old new
    (subst (λ (t : Result Answer StepFault). IsAnswerFor old.progress t) e right) n s

pub told_octets : (told : Result Answer StepFault) (answer : Answer) (old new : Talking)
    → told ≡ Ok answer → IsAnswerFor old.progress told → IsPlaced old
    → NotesAnswer old.progress answer old new → pending_of new
    ≡ pending_of old ++ told_said old.progress old.stage old.course told
told_octets told answer old new e right p n =
    noted_said old.progress answer old new (answer_room told old right p).unsaid
    (subst (λ (t : Result Answer StepFault). IsAnswerFor old.progress t) e right) n
    ∙ ap (λ (t : Result Answer StepFault). pending_of old
    ++ told_said old.progress old.stage old.course t) (sym e)

pub told_goes : (told : Result Answer StepFault) (answer : Answer) (old new : Talking)
    → told ≡ Ok answer → IsAnswerFor old.progress told → NotesAnswer old.progress answer old new
    → new.progress ≡ progress_told old.progress old.stage told
told_goes told answer old new e right n =
    noted_progress old.progress answer old new
    (subst (λ (t : Result Answer StepFault). IsAnswerFor old.progress t) e right) n
    ∙ ap (λ (t : Result Answer StepFault). progress_told old.progress old.stage t) (sym e)

pub told_course : (told : Result Answer StepFault) (answer : Answer) (old new : Talking)
    → told ≡ Ok answer → IsAnswerFor old.progress told → NotesAnswer old.progress answer old new
    → is_leaving new.progress ≡ true → new.course ≡ old.course
told_course told answer old new e right n left =
    let r = subst (λ (t : Result Answer StepFault). IsAnswerFor old.progress t) e right in
    noted_course old.progress answer old new r n (noted_progress old.progress answer old new r n) left

-- a refusal was told
abbrev pub Refuses : Result Answer StepFault → StepFault → ConnEnd → Talking → Talking → Type 0
Refuses told fault end old new = (told ≡ Err fault) × (end ≡ end_of_fault fault)
    × IsAnswerFor old.progress told × IsLeft end old new

pub refused_octets : (told : Result Answer StepFault) (fault : StepFault) (end : ConnEnd)
    (old new : Talking) → Refuses told fault end old new → pending_of new
    ≡ pending_of old ++ told_said old.progress old.stage old.course told
refused_octets told fault end old new r =
    refused_said old.progress fault old new
    (subst (λ (t : Result Answer StepFault). IsAnswerFor old.progress t) r.0 r.2)
    (subst (λ (e : ConnEnd). IsLeft e old new) r.1 r.3)
    ∙ ap (λ (t : Result Answer StepFault). pending_of old
    ++ told_said old.progress old.stage old.course t) (sym r.0)

pub refused_goes : (told : Result Answer StepFault) (fault : StepFault) (end : ConnEnd)
    (old new : Talking) → Refuses told fault end old new
    → new.progress ≡ progress_told old.progress old.stage told
refused_goes told fault end old new r =
    refused_progress old.progress fault old new
    (subst (λ (t : Result Answer StepFault). IsAnswerFor old.progress t) r.0 r.2)
    (subst (λ (e : ConnEnd). IsLeft e old new) r.1 r.3)
    ∙ ap (λ (t : Result Answer StepFault). progress_told old.progress old.stage t) (sym r.0)

pub refused_stays : (told : Result Answer StepFault) (fault : StepFault) (end : ConnEnd)
    (old new : Talking) → Refuses told fault end old new
    → new.stage ≡ stage_told old.progress told old.stage
refused_stays told fault end old new r =
    refused_stage old.progress fault old new
    (subst (λ (t : Result Answer StepFault). IsAnswerFor old.progress t) r.0 r.2)
    (subst (λ (e : ConnEnd). IsLeft e old new) r.1 r.3)
    ∙ ap (λ (t : Result Answer StepFault). stage_told old.progress t old.stage) (sym r.0)

pub refused_course : (told : Result Answer StepFault) (fault : StepFault) (end : ConnEnd)
    (old new : Talking) → Refuses told fault end old new → is_leaving new.progress ≡ true
    → new.course ≡ old.course
refused_course told fault end old new r left =
    left_course (is_open_stage old.stage) end old new r.3 left

pub not_left : (progress : Progress) (fault : StepFault) → IsAnswerFor progress (Err fault)
    → IsLeaving progress → ⊥
not_left (progresses.Running asked) fault right l = l
not_left progresses.Refused fault right l = l
not_left (progresses.Leaving end true) fault right l = right
not_left (progresses.Leaving end false) fault right l = right
not_left (progresses.Ended end) fault right l = l
not_left (progresses.Cut end) fault right l = l

-- ---- the release is answered

pub release_adds : (progress : Progress) (view old new : Talking) (course : Course)
    (out : List ℕ) → view ≡ old → old.course.known.side ≡ sides.Called
    → new ≡ finished progress (record view { course = course; out = out })
    → out ≡ view.out
    ++ wire view.course.setup.size (leaving view.course.known.side view.course.setup.acse)
    → AddsAnswer (release_wire old.course.setup) (finished progress old) new
release_adds progress view old new course out e side is o =
    subst (λ (v : Talking). v.course.known.side ≡ sides.Called
    → AddsAnswer (release_wire v.course.setup) (finished progress v) new) e
    (λ called. subst (λ (n : Talking). AddsAnswer (release_wire view.course.setup)
    (finished progress view) n) (sym is)
    (record {
      is = refl;
      said_is = o ∙ ap (λ (s : Side). view.out
          ++ wire view.course.setup.size (leaving s view.course.setup.acse)) called;
    })) side

pub told_stage : (told : Result Answer StepFault) (answer : Answer) (old new : Talking)
    → told ≡ Ok answer → new.stage ≡ stage_told old.progress (Ok answer) old.stage
    → new.stage ≡ stage_told old.progress told old.stage
told_stage told answer old new e s = s
    ∙ ap (λ (t : Result Answer StepFault). stage_told old.progress t old.stage) (sym e)

-- ---- after want of memory

peer_told : (progress : Progress) (told : Result Answer StepFault) (rows : CentreRows)
    (items : List Item) (heard : List Arrival) (turns : List Turn) (v : Talking)
    → GoesBy progress rows items heard turns v → IsAnswerFor progress told
    → IfSome (stage_peer v.stage) (IsPeer rows)
    → IfSome (stage_peer (stage_told progress told v.stage)) (IsPeer rows)
peer_told (progresses.Running askeds.Nothing) (Ok answer) rows items heard turns v g right p = p
peer_told (progresses.Running (askeds.Opening peer granted)) (Ok answer) rows items heard turns v g
    right p =
    (position-Some (λ (table : Table). option_eq bytes_eq table.title g.last.0) rows.tables peer
    no_table g.last.2).0
peer_told (progresses.Running (askeds.Requesting invoke)) (Ok answer) rows items heard turns v g
    right p = p
peer_told (progresses.Running askeds.Taking) (Ok answer) rows items heard turns v g right p = p
peer_told (progresses.Running (askeds.Closing cause)) (Ok answer) rows items heard turns v g right
    p = peer_closed rows v.stage p
peer_told (progresses.Running asked) (Err fault) rows items heard turns v g right p = p
peer_told progresses.Refused told rows items heard turns v g right p = absurd right
peer_told (progresses.Leaving end asked) (Ok answer) rows items heard turns v g right p =
    peer_closed rows v.stage p
peer_told (progresses.Leaving end asked) (Err fault) rows items heard turns v g right p = p
peer_told (progresses.Ended end) told rows items heard turns v g right p = absurd right
peer_told (progresses.Cut end) told rows items heard turns v g right p = absurd right

-- where memory is wanting for an answer the connection may be given up
pub refused_stands : (told : Result Answer StepFault) (rows : CentreRows) (items : List Item)
    (heard : List Arrival) (turns : List Turn) (old new : Talking) → IsAnswerFor old.progress told
    → new ≡ unnoted told old → ConnStandsAt rows items heard turns old
    → ConnStandsAt rows items heard turns new
refused_stands told rows items heard turns old new right e s =
    let room = room_answered old.progress told old right s.room in
    subst (λ (v : Talking). ConnStandsAt rows items heard turns v) (sym e) (record {
      rows_are = s.rows_are;
      peer = peer_told old.progress told rows items heard turns old s.goes right s.peer;
      goes = tt;
      room = record { room = room.room; unsaid = room.unsaid };
    })

abbrev fault_or : StepFault → Result Answer StepFault → StepFault
fault_or other (Ok answer) = other
fault_or other (Err fault) = fault

pub answered_no_fault : (told : Result Answer StepFault) (answer : Answer) (fault : StepFault)
    → told ≡ Ok answer → told ≡ Err fault → ⊥
answered_no_fault told answer fault e f = ok_no_err (sym e ∙ f)
  where
    ok_no_err : (let a : Result Answer StepFault = Ok answer in a) ≡ Err fault → ⊥
    ok_no_err e = absurd cc

pub refused_left : (told : Result Answer StepFault) (fault other : StepFault) (end : ConnEnd)
    (old new : Talking) → told ≡ Err fault → told ≡ Err other → end ≡ end_of_fault fault
    → IsLeft end old new → IsLeft (end_of_fault other) old new
refused_left told fault other end old new e f is l =
    subst (λ (x : ConnEnd). IsLeft x old new)
    (is ∙ ap (λ (x : StepFault). end_of_fault x) (ap (λ (r : Result Answer StepFault).
    fault_or fault r) (sym e ∙ f))) l

pub on_both : (T E P Q R : Type 0) (result : Result T E) → (P → R) → (Q → R) → OnOk result P
    → OnErr result Q → R
on_both T E P Q R (Ok x) f g p q = f p
on_both T E P Q R (Err e) f g p q = g q
