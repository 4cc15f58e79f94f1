-- What comes of a connection that a node attends to, with no other seat between.
use Rattle.std.specs.Prelude.{◌≡◌, ℕ, ◌+◌, ◌-◌, ◌*◌, Bool, true, false, ◌⊎◌, if◌then◌else◌, List}
use Rattle.std.specs.Prelude.{[], ◌++◌, reverse, Option, Some, None, is_some}
use Rattle.stack_assoc.specs.declared.end_state.EndState.{EndState}
use Rattle.bilateral.specs.Rows.{CentreRows}
use Rattle.sbo_device.specs.declared.key.Key.{Key}
use Rattle.tase_views.specs.Setup.{Setup}
use Rattle.tase_views.specs.Weights.{weight_of}
use Rattle.tase_views.specs.History.{Past, association_in}
use Rattle.tase_views.specs.Outcomes.{refusal_of, answer_of}
use Rattle.tase_views.specs.declared.event.EventKind.{EventKind}
use Rattle.tase_views.specs.declared.event.EventKind.TheVariants as events
use Rattle.tase_conn.specs.Map.Inputs.{Item}
use Rattle.tase_conn.specs.Map.Asks.{asks_of}
use Rattle.tase_conn.specs.Map.Sent.{events_by, with_event}
use Rattle.tase_conn.specs.declared.stage.ConnEnd.{ConnEnd}
use Rattle.tase_conn.specs.declared.stage.ConnEnd.TheVariants as conn_ends
use Rattle.tase_conn.specs.declared.stage.Progress.TheVariants as progresses
use Rattle.tase_conn.specs.Talking.{Talking, pending_of, conn_end_in, IsResting, is_leaving}
use Rattle.tase_conn.specs.Answering.{parting_octets}
use Rattle.conn_service.specs.Courses.Serving.{Serves}
use Rattle.conn_service.specs.Courses.Cutting.{HasLeft}
use Rattle.conn_service.specs.Courses.AnswerEnd.{end_answered}
use Rattle.tase_conn.specs.Map.Linked.{link_octets}
use Rattle.tase_conn.specs.PeerEnd.{peer_end}
use Rattle.conn_service.specs.Served.{served, with_closed}
use Rattle.conn_service.specs.Sends.{Sends, IsCutFor, IsSaidByEnd, first_refused}

-- a connection is served by a seat over this past, and no event waits
abbrev pub IsServed : CentreRows → Past → ℕ → Talking → Type 0
IsServed rows past who v =
    (items : List Item) × (said : List ℕ) × Serves rows past who items said None v

-- and this event waits
abbrev pub IsAsking : CentreRows → Past → ℕ → EventKind → Talking → Type 0
IsAsking rows past who event v = (items : List Item) × (said : List ℕ)
    × Serves rows past who items said (Some event) v

-- these octets more are to be sent
pub record AddsPending (old new : Talking) : Type 0 where
  pub added : List ℕ
  pub pending : pending_of new ≡ pending_of old ++ added

-- ---- a connection that is cut

-- a connection was left, and its association is closed next, if it is open
abbrev pub IsParting : CentreRows → Past → ℕ → Talking → Type 0
IsParting rows past who v = (items : List Item) × (said : List ℕ) × (whole : Bool)
    × (end : ConnEnd) × (standing : EndState)
    × HasLeft whole end standing rows past who items said None v

-- the octets of an abort, where it is open
abbrev pub closing_said : Talking → ConnEnd → List ℕ
closing_said v end = if is_leaving v.progress then parting_octets v.course end else []

-- the association of a connection that was left is closed, if it was open, and the connection has
-- ended
pub record ClosesLeft (whole : Bool) (end : ConnEnd) (standing : EndState) (rows : CentreRows)
    (past : Past) (who : ℕ) (items : List Item) (said : List ℕ) (old : Talking) (after : Past)
    (new : Talking) : Type 0 where
  pub after_is : after ≡ with_closed who past
  pub pending : pending_of new ≡ pending_of old ++ closing_said old end
  pub left : HasLeft whole end standing rows after who items (said ++ closing_said old end) None new
  pub ended : new.progress ≡ progresses.Cut end

-- what a connection is that asks for the close of its association
pub record AsksClose (whole : Bool) (end : ConnEnd) (standing : EndState) (rows : CentreRows)
    (past : Past) (who : ℕ) (items : List Item) (said : List ℕ) (event : EventKind)
    (old new : Talking) : Type 0 where
  pub event_is : event ≡ events.Close
  pub leaving : is_leaving old.progress ≡ true
  pub progress : new.progress ≡ progresses.Leaving end true
  pub pending : pending_of new ≡ pending_of old
  pub course : new.course ≡ old.course
  pub seat : is_some (association_in past who) ≡ true
  pub left : HasLeft whole end standing rows past who items said (Some event) new

abbrev pub IsAskingClose : CentreRows → Past → ℕ → EventKind → Talking → Type 0
IsAskingClose rows past who event v = (whole : Bool) × (end : ConnEnd) × (standing : EndState)
    × (items : List Item) × (said : List ℕ) × (first : Talking)
    × AsksClose whole end standing rows past who items said event first v

-- an end that a node brings
abbrev pub IsNodesEnd : ConnEnd → Type 0
IsNodesEnd (conn_ends.TooLong len detail) = Unit {0}
IsNodesEnd conn_ends.Stopped = Unit {0}
IsNodesEnd (conn_ends.Full weight limit) = Unit {0}
IsNodesEnd conn_ends.Memory = Unit {0}
IsNodesEnd end = ⊥

-- over this past, which holds the first of the events that its link asks, a connection was cut: its
-- association was closed, if it was open, and it has ended
pub record IsCut (setup : Setup) (past : Past) (who : ℕ) (items : List Item) (said : List ℕ)
    (old : Talking) (after : Past) (new : Talking) : Type 0 where
  pub adds : AddsPending old new
  pub end : ConnEnd
  pub by_node : IsNodesEnd end
  pub ended : new.progress ≡ progresses.Cut end
  pub others : List EventKind
  pub asks_are : asks_of setup.centre items ≡ reverse (events_by who past) ++ others
  pub cause : IsCutFor setup past who items end (first_refused setup past who others)
  pub after_is : after ≡ with_closed who past
  pub none_open : association_in after who ≡ None
  pub said_is : IsSaidByEnd items (Some end) (said ++ adds.added)
      (link_octets setup.centre after who items)

-- the end that the last answer brings is the one for which it is cut, and where it is refused none;
-- where memory was wanting it may be that for what is said of a report that is too long
abbrev pub IsBrought : ConnEnd → Option ConnEnd → Type 0
IsBrought (conn_ends.TooLong len detail) brought = brought ≡ Some (conn_ends.TooLong len detail)
IsBrought conn_ends.Memory brought = Unit {0}
IsBrought end brought = brought ≡ None

-- behind an answer that brings this end, if it brings one
abbrev pub CutsOff : Setup → Past → ℕ → List Item → List ℕ → Talking → Option ConnEnd → Past
    → Talking → Type 0
CutsOff setup past who items said old brought after new =
    (c : IsCut setup past who items said old after new) × IsBrought c.end brought

-- ---- all that its link gave

-- a node takes these events of a seat, and refuses none, and the answer to the last of them brings
-- this end, if it brings one
abbrev pub TakesTo : Option ConnEnd → Setup → ℕ → List Item → Past → List EventKind → Past → Type 0
TakesTo brought setup who items past taken after = served setup who items past taken
    ≡ record { taken = taken; past = after; refusal = None; end = brought }

abbrev pub TakesEvents : Setup → ℕ → List Item → Past → List EventKind → Past → Type 0
TakesEvents setup who items past taken after = TakesTo None setup who items past taken after

-- all that the link asks was taken: it goes on, with nothing left of what the link gave, or the peer
-- has ended it
pub record IsAllServed (setup : Setup) (past : Past) (who : ℕ) (items : List Item)
    (said : List ℕ) (old : Talking) (after : Past) (new : Talking) : Type 0 where
  pub adds : AddsPending old new
  pub taken : List EventKind
  pub takes : TakesEvents setup who items past taken after
  pub asks_are : asks_of setup.centre items ≡ reverse (events_by who past) ++ taken
  pub serves : Serves setup.centre after who items (said ++ adds.added) None new
  pub resting : IsResting new
  pub octets : said ++ adds.added ≡ link_octets setup.centre after who items
  pub end : conn_end_in new.progress ≡ peer_end setup.centre items

-- some of the events were taken, and then it was cut
pub record IsServedTo (setup : Setup) (past : Past) (who : ℕ) (items : List Item)
    (said : List ℕ) (old : Talking) (after : Past) (new : Talking) : Type 0 where
  pub taken : List EventKind
  pub between : Past
  pub brought : Option ConnEnd
  pub takes : TakesTo brought setup who items past taken between
  pub cut : IsCut setup between who items said old after new
  pub brings : IsBrought cut.end brought

-- one of both
abbrev pub Attends : Setup → Past → ℕ → List Item → List ℕ → Talking → Past → Talking → Type 0
Attends setup past who items said old after new =
    IsAllServed setup past who items said old after new
    ⊎ IsServedTo setup past who items said old after new

-- what is owed to the peer stands
pub record SendsOn (setup : Setup) (who : ℕ) (items : List Item) (said : List ℕ) (old : Talking)
    (after : Past) (new : Talking) : Type 0 where
  pub adds : AddsPending old new
  pub sends : Sends setup after who items (conn_end_in new.progress) (said ++ adds.added)

-- ---- one event

-- nothing is left of what the link gave
pub record IsAtRest (setup : Setup) (past : Past) (who : ℕ) (items : List Item)
    (said : List ℕ) (old : Talking) (after : Past) (new : Talking) : Type 0 where
  pub after_is : after ≡ past
  pub adds : AddsPending old new
  pub serves : Serves setup.centre past who items (said ++ adds.added) None new
  pub resting : IsResting new

-- an event is wanted, and waits; or none is, since nothing is left, or memory was wanting, so that
-- the connection was cut
abbrev pub IsWanted : Setup → Past → ℕ → List Item → List ℕ → Talking → Option EventKind → Past
    → Talking → Type 0
IsWanted setup past who items said old (Some event) after new = (after ≡ past)
    × (a : AddsPending old new)
    × Serves setup.centre past who items (said ++ a.added) (Some event) new
IsWanted setup past who items said old None after new =
    IsAtRest setup past who items said old after new
    ⊎ CutsOff setup past who items said old None after new

-- the event that waited was answered; or it was refused, and the connection cut; or that was cut
-- behind it, since a report is too long, or memory was wanting for what is said
abbrev pub AnswersEvent : Setup → Past → ℕ → List Item → List ℕ → EventKind → Talking → Bool → Past
    → Talking → Type 0
AnswersEvent setup past who items said event old true after new =
    (refusal_of setup past who event ≡ None) × (after ≡ with_event who event past)
    × (a : AddsPending old new) × Serves setup.centre after who items (said ++ a.added) None new
    × (end_answered items (answer_of setup past who event) ≡ None)
AnswersEvent setup past who items said event old false after new =
    CutsOff setup past who items said old None after new
    ⊎ ((refusal_of setup past who event ≡ None)
    × CutsOff setup (with_event who event past) who items said old
    (end_answered items (answer_of setup past who event)) after new)

-- a connection that was told an answer goes on as it is; or it was left by that, and then its
-- association is closed
abbrev pub GoesOrCloses : Bool → CentreRows → Past → ℕ → Talking → Past → Talking → Type 0
GoesOrCloses true rows past who old after new =
    (is_leaving old.progress ≡ false) × (after ≡ past) × (new ≡ old)
GoesOrCloses false rows past who old after new = (is_leaving old.progress ≡ true)
    × ((whole : Bool) (end : ConnEnd) (standing : EndState) (items : List Item) (said : List ℕ)
    → HasLeft whole end standing rows past who items said None old
    → ClosesLeft whole end standing rows past who items said old after new)

-- ---- how long it goes on

-- how many events may still be taken, at most: each but a close makes the history heavier, up to
-- its limit, and a close ends an association
abbrev pub seat_count : Option Key → ℕ
seat_count None = 0
seat_count (Some key) = 1

abbrev pub remaining : Setup → Past → ℕ → ℕ
remaining setup past who =
    2 * (setup.limit - weight_of past) + seat_count (association_in past who)
