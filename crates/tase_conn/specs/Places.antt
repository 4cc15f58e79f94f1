-- Where a connection stands in what its link has given.
use Rattle.std.specs.Prelude.{◌≡◌, ℕ, ◌+◌, ◌≤◌, ◌<◌, Bool, true, false, ◌||◌}
use Rattle.std.specs.Prelude.{List, [], ◌∷◌, ◌++◌, length, filter_map, vec_len, vec_capacity}
use Rattle.std.specs.Prelude.{Option, Some, None, MatchOption, IfSome, is_some}
use Rattle.std.specs.List.{list_any}
use Rattle.bilateral.specs.Rows.{CentreRows, place_of_title}
use Rattle.mms_services.specs.Lawful.{IsLawfulPdu}
use Rattle.mms_services.specs.Negotiations.{granted}
use Rattle.mms_services.specs.declared.initiate.Initiate.{Initiate}
use Rattle.mms_services.specs.declared.pdu.MmsPdu.{MmsPdu}
use Rattle.mms_services.specs.declared.pdu.MmsPdu.TheVariants as pdus
use Rattle.stack_assoc.specs.declared.messages.fault.StackFault.{StackFault}
use Rattle.stack_assoc.specs.declared.messages.heard.Connecting.{Connecting}
use Rattle.stack_assoc.specs.declared.input.StackIn.{StackIn}
use Rattle.stack_assoc.specs.declared.input.StackIn.TheVariants as inputs
use Rattle.stack_assoc.specs.declared.end_state.EndState.{EndState}
use Rattle.stack_assoc.specs.declared.end_state.EndState.TheVariants as standings
use Rattle.stack_assoc.specs.declared.messages.heard.Heard.TheVariants as heards
use Rattle.stack_assoc.specs.Arrivals.{Arrival, heard, called, first_in, connect_in, is_conclude}
use Rattle.stack_assoc.specs.Expectations.{setup_after}
use Rattle.stack_assoc.specs.Handing.{answers_to, handed_out, is_too_little}
use Rattle.stack_assoc.specs.Courses.{Course, CourseStands, IsCourseSettled, finishing}
use Rattle.tase_views.specs.declared.call.CallKind.{CallKind}
use Rattle.tase_conn.specs.Map.Inputs.{Item, piece, idle, ended, text_given}
use Rattle.tase_conn.specs.Map.Readings.{reading_of}
use Rattle.tase_conn.specs.Map.Turns.{Turn, offers, asks, concludes, releases, aborts}
use Rattle.tase_conn.specs.Map.Turns.{breaks, ends, pauses, turns_of, turn_in, turn_of_pdu}
use Rattle.tase_conn.specs.Map.Asks.{begins, finishes, is_last, up_to_last}
use Rattle.tase_conn.specs.Map.Out.{detail_of}
use Rattle.tase_conn.specs.declared.stage.ConnEnd.{ConnEnd}
use Rattle.tase_conn.specs.declared.stage.ConnEnd.TheVariants as conn_ends
use Rattle.tase_conn.specs.declared.stage.Stage.{Stage}
use Rattle.tase_conn.specs.declared.stage.Stage.TheVariants as stages
use Rattle.tase_conn.specs.declared.stage.Behind.{Behind}
use Rattle.tase_conn.specs.declared.stage.Behind.TheVariants as behinds
use Rattle.tase_conn.specs.declared.stage.Coming.{Coming}
use Rattle.tase_conn.specs.declared.stage.Coming.TheVariants as comings
use Rattle.tase_conn.specs.declared.stage.Cause.{Cause}
use Rattle.tase_conn.specs.declared.stage.Cause.TheVariants as causes
use Rattle.tase_conn.specs.declared.stage.PendingEvent.{PendingEvent}
use Rattle.tase_conn.specs.declared.stage.PendingEvent.TheVariants as askeds
use Rattle.tase_conn.specs.declared.stage.Progress.{Progress}
use Rattle.tase_conn.specs.declared.stage.Progress.TheVariants as progresses
use Rattle.tase_conn.specs.PeerEnd.{peer_end}
use Rattle.tase_conn.specs.Talking.{Talking, is_open_stage, stage_peer}

-- ---- what was read

-- what is told by what was read and is to be acted on next
abbrev pub turn_coming : Coming → Option Turn
turn_coming (comings.Input input) = turn_in input
turn_coming (comings.Fault fault) = Some breaks
turn_coming comings.Pause = Some pauses
turn_coming comings.End = Some ends

abbrev pub turn_listed : Option Turn → List Turn
turn_listed None = []
turn_listed (Some turn) = turn ∷ []

abbrev pub turns_held : Option Coming → List Turn
turns_held None = []
turns_held (Some coming) = turn_listed (turn_coming coming)

-- some turns, and then others
abbrev pub BeginsTurns : List Turn → List Turn → Type 0
BeginsTurns front whole = (others : List Turn) × (whole ≡ front ++ others)

-- all that the items tell was read
pub record IsDone (items : List Item) (told : List Arrival) (seen : List Turn) (v : Talking) :
    Type 0 where
  pub told_is : told ≡ (reading_of (text_given items)).told
  pub unbroken : (reading_of (text_given items)).broken ≡ None
  pub seen_is : seen ≡ turns_of items
  pub settled : IsCourseSettled v.course

-- what comes behind the messages of an item
abbrev pub behind_of : Item → Behind
behind_of (piece octets) = behinds.Pause
behind_of idle = behinds.Pause
behind_of ended = behinds.End

-- the last item is being read: all that those before it tell was, and then these messages of it
pub record IsWithin (items : List Item) (told : List Arrival) (seen : List Turn) (v : Talking) :
    Type 0 where
  pub done : List Item
  pub item : Item
  pub is : items ≡ done ++ item ∷ []
  pub behind : v.behind ≡ behind_of item
  pub later : List Arrival
  pub told_is : told ≡ (reading_of (text_given done)).told ++ later
  pub unbroken : (reading_of (text_given done)).broken ≡ None
  pub seen_is : seen ≡ turns_of done ++ filter_map turn_in (handed_out later)

abbrev pub ReadsBy : Behind → List Item → List Arrival → List Turn → Talking → Type 0
ReadsBy behinds.Nothing items told seen v = IsDone items told seen v
ReadsBy behinds.Pause items told seen v = IsWithin items told seen v
ReadsBy behinds.End items told seen v = IsWithin items told seen v

-- or a rule was broken, behind which nothing is acted on
abbrev pub HasRead : List Item → List Arrival → List Turn → Talking → Type 0
HasRead items told seen v = MatchOption v.course.fault (ReadsBy v.behind items told seen v)
    (λ fault. BeginsTurns seen (turns_of items))

-- ---- what comes next, by how far the association has come

-- an offer is that of the first connect, and enough is offered
pub record IsOfferOf (told : List Arrival) (title : Option (List ℕ)) (initiate : Initiate) :
    Type 0 where
  pub connect : Connecting
  pub first : first_in connect_in told ≡ Some connect
  pub title_is : connect.title ≡ title
  pub initiate_is : connect.initiate ≡ initiate
  pub enough : is_too_little initiate ≡ false

-- a PDU asks for something where the association is open alone
abbrev pub PduIsDue : Stage → MmsPdu → Type 0
PduIsDue (stages.Open peer detail) pdu = IsLawfulPdu pdu
PduIsDue _ pdu = turn_of_pdu pdu ≡ None

abbrev pub InputIsDue : List Arrival → Stage → StackIn → Type 0
InputIsDue told stages.Early (inputs.Offer title initiate) = IsOfferOf told title initiate
InputIsDue told stages.Early inputs.BadOffer = Unit {0}
InputIsDue told stage (inputs.Pdu pdu) = PduIsDue stage pdu
InputIsDue told (stages.Open peer detail) (inputs.BadRequest invoke) = Unit {0}
InputIsDue told (stages.Open peer detail) inputs.Released = Unit {0}
InputIsDue told (stages.Closed peer) inputs.Released = Unit {0}
InputIsDue told stage inputs.Aborted = 1 ≤ length told
InputIsDue told stage _ = ⊥

abbrev pub IsDue : List Arrival → Stage → Coming → Type 0
IsDue told stage (comings.Input input) = InputIsDue told stage input
IsDue told stage _ = Unit {0}

-- where all messages were read nothing is left of what was taken in, nor where a take waits, which
-- comes behind them
abbrev pub IsPassed : Option Coming → Behind → PendingEvent → Type 0
IsPassed (Some comings.Pause) behind asked = behind ≡ behinds.Nothing
IsPassed (Some comings.End) behind asked = behind ≡ behinds.Nothing
IsPassed None behind askeds.Taking = behind ≡ behinds.Nothing
IsPassed held behind asked = Unit {0}

-- ---- the association

-- what is known of it by what was read: the rule that was broken, how the stack's end stands, and
-- whether a connect and a conclude were told
pub record Position : Type 0 where
  pub fault : Option StackFault
  pub standing : EndState
  pub connected : Bool
  pub concluded : Bool

abbrev pub position_of : List Arrival → Course → Position
position_of told course = record {
  fault = course.fault;
  standing = course.standing;
  connected = is_some (first_in connect_in told);
  concluded = list_any is_conclude told;
}

-- and by what was acted on: whether an association has begun, whether it has finished, and whether
-- nothing follows
pub record Reach : Type 0 where
  pub begun : Bool
  pub finished : Bool
  pub ending : Bool

abbrev pub reach_of : CentreRows → List Turn → Reach
reach_of rows turns = record {
  begun = list_any (begins rows) turns;
  finished = list_any finishes turns;
  ending = list_any (is_last rows) turns;
}

-- where nothing is to be acted on and no event waits
abbrev pub has_begun : Stage → Bool
has_begun stages.Early = false
has_begun _ = true

abbrev pub has_finished : Stage → Bool
has_finished (stages.Closed peer) = true
has_finished _ = false

abbrev pub standing_at : Stage → EndState
standing_at stages.Early = standings.Waiting
standing_at _ = standings.Accepted

abbrev pub position_at : Stage → Position
position_at stage = record {
  fault = None;
  standing = standing_at stage;
  connected = has_begun stage;
  concluded = has_finished stage;
}

abbrev pub reach_at : Stage → Reach
reach_at stage =
    record { begun = has_begun stage; finished = has_finished stage; ending = false }

-- what changes with what was read
abbrev pub with_coming : Coming → Position → Position
with_coming (comings.Input (inputs.Offer title initiate)) p =
    record p { standing = standings.Offered; connected = true }
with_coming (comings.Input inputs.BadOffer) p =
    record p { standing = standings.BadlyOffered; connected = true }
with_coming (comings.Input (inputs.Pdu pdu)) p =
    record p { concluded = p.concluded || is_conclude (heard (heards.Pdu pdu)) }
with_coming (comings.Input inputs.Released) p = record p { standing = finishing p.standing }
with_coming (comings.Input inputs.Aborted) p = record p { standing = standings.Closed }
with_coming (comings.Fault fault) p = record p { fault = Some fault }
with_coming _ p = p

-- what an end of the association comes by
abbrev pub coming_by : Cause → Coming
coming_by causes.Concluded = comings.Input (inputs.Pdu pdus.Conclude)
coming_by causes.Released = comings.Input inputs.Released
coming_by causes.Aborted = comings.Input inputs.Aborted
coming_by causes.LinkEnd = comings.End
coming_by (causes.Broken fault) = comings.Fault fault

-- where an event waits what asked for it was read
abbrev pub with_asked : PendingEvent → Position → Position
with_asked (askeds.Opening peer offered) p =
    record p { standing = standings.Offered; connected = true }
with_asked (askeds.Closing cause) p = with_coming (coming_by cause) p
with_asked _ p = p

abbrev pub position_by : Stage → PendingEvent → Option Coming → Position
position_by stage asked None = with_asked asked (position_at stage)
position_by stage asked (Some coming) = with_coming coming (position_at stage)

-- and was acted on
abbrev pub is_ending : Cause → Bool
is_ending causes.Concluded = false
is_ending _ = true

abbrev pub reach_by : Stage → PendingEvent → Reach
reach_by stage (askeds.Opening peer offered) = record (reach_at stage) { begun = true }
reach_by stage (askeds.Closing cause) =
    record (reach_at stage) { finished = true; ending = is_ending cause }
reach_by stage _ = reach_at stage

-- what of its offer is granted
pub record IsGranted (told : List Arrival) (offered : Initiate) : Type 0 where
  pub connect : Connecting
  pub first : first_in connect_in told ≡ Some connect
  pub is : offered ≡ granted connect.initiate

-- it, and then the most octets of a PDU, are those of the first connect
abbrev pub IsAgreed : List Arrival → Stage → PendingEvent → Type 0
IsAgreed told stages.Early (askeds.Opening peer offered) = IsGranted told offered
IsAgreed told (stages.Open peer detail) asked = detail ≡ detail_of (first_in connect_in told)
IsAgreed told stage asked = Unit {0}

-- where an event waits nothing more was read: an open before the association, each other while it
-- is open
abbrev pub IsAskedAt : PendingEvent → Stage → Option Coming → Type 0
IsAskedAt askeds.Nothing stage held = Unit {0}
IsAskedAt (askeds.Opening peer offered) stages.Early None = Unit {0}
IsAskedAt (askeds.Requesting invoke) (stages.Open peer detail) None = Unit {0}
IsAskedAt askeds.Taking (stages.Open peer detail) None = Unit {0}
IsAskedAt (askeds.Closing cause) (stages.Open peer detail) None = Unit {0}
IsAskedAt _ _ _ = ⊥

-- ---- what was acted on last

abbrev pub turn_for : Cause → Turn
turn_for causes.Concluded = concludes
turn_for causes.Released = releases
turn_for causes.Aborted = aborts
turn_for causes.LinkEnd = ends
turn_for (causes.Broken fault) = breaks

-- this was the last, and something followed each before it
pub record EndsWithTurn (rows : CentreRows) (turns : List Turn) (last : Turn) : Type 0 where
  pub front : List Turn
  pub is : turns ≡ front ++ last ∷ []
  pub goes : list_any (is_last rows) front ≡ false

-- what asks for the event that waits was the last
abbrev pub IsAskedBy : CentreRows → List Turn → PendingEvent → Type 0
IsAskedBy rows turns askeds.Nothing = Unit {0}
IsAskedBy rows turns (askeds.Opening peer offered) = (title : Option (List ℕ))
    × EndsWithTurn rows turns (offers title) × (place_of_title rows title ≡ Some peer)
IsAskedBy rows turns (askeds.Requesting invoke) =
    (call : CallKind) × EndsWithTurn rows turns (asks invoke call)
IsAskedBy rows turns askeds.Taking = EndsWithTurn rows turns pauses
IsAskedBy rows turns (askeds.Closing cause) =
    (e : EndsWithTurn rows turns (turn_for cause)) × (list_any finishes e.front ≡ false)

-- ---- how far it has come

-- it reads on: what was read, and how that and its association stand
pub record Runs (rows : CentreRows) (items : List Item) (told : List Arrival) (turns : List Turn)
    (asked : PendingEvent) (v : Talking) : Type 0 where
  pub stands : CourseStands called (text_given items) told v.course
  pub reads : HasRead items told (turns ++ turns_held v.held) v
  pub due : IfSome v.held (IsDue told v.stage)
  pub passed : IsPassed v.held v.behind asked
  pub at : position_of told v.course ≡ position_by v.stage asked v.held
  pub reached : reach_of rows turns ≡ reach_by v.stage asked
  pub agreed : IsAgreed told v.stage asked
  pub waits : IsAskedAt asked v.stage v.held
  pub last : IsAskedBy rows turns asked

-- all that these items tell, up to the first behind which nothing follows, was acted on, and by that
-- the peer has ended it so; what the link gave behind them was dropped. All messages that are
-- answered at once were told, and an offer that was declined
pub record IsReadToEnd (rows : CentreRows) (items : List Item) (told : List Arrival)
    (turns : List Turn) (end : ConnEnd) : Type 0 where
  pub done : List Item
  pub dropped : List Item
  pub items_are : items ≡ done ++ dropped
  pub by_peer : peer_end rows done ≡ Some end
  pub whole : up_to_last rows (turns_of done) ≡ turns
  pub answered : answers_to called told ≡ answers_to called (reading_of (text_given done)).told
  pub fixed : end ≡ conn_ends.Declined
      → (setup_after told ≡ setup_after (reading_of (text_given done)).told)
      × (is_some (first_in connect_in (reading_of (text_given done)).told) ≡ true)

-- nothing is read any more
pub record ReadsNoMore (v : Talking) : Type 0 where
  pub read : v.behind ≡ behinds.Nothing
  pub acted : v.held ≡ None

abbrev pub GoesBy : Progress → CentreRows → List Item → List Arrival → List Turn → Talking → Type 0
GoesBy (progresses.Running asked) rows items told turns v = Runs rows items told turns asked v
GoesBy progresses.Refused rows items told turns v = Unit {0}
GoesBy (progresses.Leaving end asked) rows items told turns v = is_open_stage v.stage ≡ true
GoesBy (progresses.Ended end) rows items told turns v = IsReadToEnd rows items told turns end
    × ReadsNoMore v
GoesBy (progresses.Cut end) rows items told turns v = ReadsNoMore v

abbrev pub IsPeer : CentreRows → ℕ → Type 0
IsPeer rows peer = peer < length rows.tables

-- until it ends there is room for the octets of an abort, and none were said
pub record HasAbortRoom (v : Talking) : Type 0 where
  pub room : vec_len v.farewell + 64 ≤ vec_capacity v.farewell
  pub unsaid : v.farewell.items ≡ []

abbrev pub RoomBy : Progress → Talking → Type 0
RoomBy (progresses.Ended end) v = Unit {0}
RoomBy (progresses.Cut end) v = Unit {0}
RoomBy _ v = HasAbortRoom v

-- a connection at one of the peers of this centre, whose link has given these items, of which these
-- messages were told, and what these turns tell was acted on
pub record ConnStandsAt (rows : CentreRows) (items : List Item) (told : List Arrival)
    (turns : List Turn) (v : Talking) : Type 0 where
  pub rows_are : v.rows ≡ rows
  pub peer : IfSome (stage_peer v.stage) (IsPeer rows)
  pub goes : GoesBy v.progress rows items told turns v
  pub room : RoomBy v.progress v

-- wherever it stood, it stands there still
abbrev pub KeepsPlace : Talking → Talking → Type 0
KeepsPlace old new = (rows : CentreRows) (items : List Item) (told : List Arrival)
    (turns : List Turn) → ConnStandsAt rows items told turns old
    → ConnStandsAt rows items told turns new

-- wherever it stood, it stands there with this item more
abbrev pub GainsItem : Item → Talking → Talking → Type 0
GainsItem item old new = (rows : CentreRows) (items : List Item) (told : List Arrival)
    (turns : List Turn) → ConnStandsAt rows items told turns old
    → ConnStandsAt rows (items ++ item ∷ []) told turns new

-- it stands somewhere
pub record IsPlaced (v : Talking) : Type 0 where
  pub rows : CentreRows
  pub items : List Item
  pub told : List Arrival
  pub turns : List Turn
  pub stands : ConnStandsAt rows items told turns v
