-- What comes of a connection that a shared node attends to by one of its seats. Between two calls
-- of the seat entries of other seats may have come.
use Rattle.std.specs.Prelude.{◌≡◌, ℕ, ◌<◌, ◌⊎◌, Bool, true, false, if◌then◌else◌, List, [], ◌∷◌}
use Rattle.std.specs.Prelude.{◌++◌, reverse, Option, Some, None, is_some}
use Rattle.stack_assoc.specs.declared.end_state.EndState.{EndState}
use Rattle.bilateral.specs.Rows.{CentreRows}
use Rattle.tase_views.specs.Setup.{Setup}
use Rattle.tase_views.specs.History.{Past, association_in}
use Rattle.tase_views.specs.Outcomes.{refusal_of, answer_of}
use Rattle.tase_views.specs.declared.event.EventKind.{EventKind}
use Rattle.tase_views.specs.declared.event.EventKind.TheVariants as events
use Rattle.tase_conn.specs.Map.Inputs.{Item}
use Rattle.tase_conn.specs.Map.Asks.{asks_of}
use Rattle.tase_conn.specs.Map.Sent.{events_by, with_event}
use Rattle.tase_conn.specs.Map.Linked.{link_octets}
use Rattle.tase_conn.specs.declared.stage.ConnEnd.{ConnEnd}
use Rattle.tase_conn.specs.declared.stage.ConnEnd.TheVariants as conn_ends
use Rattle.tase_conn.specs.declared.stage.Progress.TheVariants as progresses
use Rattle.tase_conn.specs.Talking.{Talking, conn_end_in, IsResting, is_leaving}
use Rattle.tase_conn.specs.PeerEnd.{peer_end}
use Rattle.conn_service.specs.Courses.Serving.{Serves, AreOthers}
use Rattle.conn_service.specs.Courses.Cutting.{HasLeft}
use Rattle.conn_service.specs.Courses.AnswerEnd.{end_answered}
use Rattle.conn_service.specs.Served.{with_closed}
use Rattle.conn_service.specs.Sends.{IsCutOff, IsSaidByEnd}
use Rattle.conn_service.specs.Attending.{AddsPending, IsNodesEnd, ClosesLeft, AnswersEvent}
use Rattle.conn_service.specs.Attending.{IsAtRest, AsksClose, IsBrought}
use Rattle.node_server.specs.declared.turn.turn_node.NodeSetup.{NodeSetup}

abbrev pub shared_setup : NodeSetup → Setup
shared_setup setup = record { centre = setup.centre; limit = setup.limit }

-- ---- what comes of it

-- all that the link asks was taken: it goes on, with nothing left of what the link gave, or the
-- peer has ended it
pub record RestsServed (setup : Setup) (who : ℕ) (items : List Item) (said : List ℕ)
    (old : Talking) (after : Past) (new : Talking) : Type 0 where
  pub adds : AddsPending old new
  pub events : reverse (events_by who after) ≡ asks_of setup.centre items
  pub serves : Serves setup.centre after who items (said ++ adds.added) None new
  pub resting : IsResting new
  pub octets : said ++ adds.added ≡ link_octets setup.centre after who items
  pub end : conn_end_in new.progress ≡ peer_end setup.centre items

-- the first of the events that its link asks were taken, and then it was cut for this end: its
-- association was closed, if it was open, and it has ended
pub record IsCutBySeat (setup : Setup) (who : ℕ) (items : List Item) (said : List ℕ)
    (end : ConnEnd) (old : Talking) (after : Past) (new : Talking) : Type 0 where
  pub adds : AddsPending old new
  pub ended : new.progress ≡ progresses.Cut end
  pub off : IsCutOff setup after who items end
  pub said_is : IsSaidByEnd items (Some end) (said ++ adds.added)
      (link_octets setup.centre after who items)

-- and that for an end which the node brings
abbrev pub IsCutByNode : Setup → ℕ → List Item → List ℕ → Talking → Past → Talking → Type 0
IsCutByNode setup who items said old after new = (end : ConnEnd) × IsNodesEnd end
    × IsCutBySeat setup who items said end old after new

-- one of both
abbrev pub SeatAttends : Setup → ℕ → List Item → List ℕ → Talking → Past → Talking → Type 0
SeatAttends setup who items said old after new =
    RestsServed setup who items said old after new
    ⊎ IsCutByNode setup who items said old after new

-- ---- the close

-- a seat's association was closed, where it had one: behind entries of other seats
pub record IsShut (who : ℕ) (past after : Past) : Type 0 where
  pub others : Past
  pub apart : AreOthers who others
  pub after_is : after ≡ (if is_some (association_in past who)
      then with_event who events.Close (others ++ past) else past)

-- ---- which events were taken

-- one after another, each behind entries of other seats: none is refused, and no answer brings an
-- end
abbrev pub TakesBehind : Setup → ℕ → List Item → Past → List EventKind → Past → Type 0
TakesBehind setup who items past [] after = after ≡ past
TakesBehind setup who items past (event ∷ events) after = (others : Past) × AreOthers who others
    × (refusal_of setup (others ++ past) who event ≡ None)
    × (end_answered items (answer_of setup (others ++ past) who event) ≡ None)
    × TakesBehind setup who items (with_event who event (others ++ past)) events after

-- behind these nothing came; or the connection was cut: at once, by no answer, or behind one event
-- more, whose answer may have brought that end
abbrev pub EndsTaking : Setup → ℕ → List Item → Past → Past → Option ConnEnd → Type 0
EndsTaking setup who items between after end = (after ≡ between)
    ⊎ ((cut : ConnEnd) × (end ≡ Some cut) × (others : Past) × AreOthers who others
    × ((IsBrought cut None × IsShut who (others ++ between) after)
    ⊎ ((event : EventKind) × (refusal_of setup (others ++ between) who event ≡ None)
    × IsBrought cut (end_answered items (answer_of setup (others ++ between) who event))
    × IsShut who (with_event who event (others ++ between)) after)))

-- the events that a seat took for a connection that has this end, if it has one
pub record SeatTakes (setup : Setup) (past : Past) (who : ℕ) (items : List Item) (after : Past)
    (end : Option ConnEnd) : Type 0 where
  pub taken : List EventKind
  pub between : Past
  pub takes : TakesBehind setup who items past taken between
  pub ends : EndsTaking setup who items between after end

-- an end for which whoever serves a connection gives it up: its link has failed or takes too little
-- of what is sent, or memory was wanting
abbrev pub IsServersEnd : ConnEnd → Type 0
IsServersEnd conn_ends.LinkFault = Unit {0}
IsServersEnd (conn_ends.Overflow pending limit) = limit < pending
IsServersEnd conn_ends.Memory = Unit {0}
IsServersEnd conn_ends.Stopped = ⊥
IsServersEnd (conn_ends.Full weight limit) = ⊥
IsServersEnd (conn_ends.TooLong len detail) = ⊥
IsServersEnd conn_ends.Finished = ⊥
IsServersEnd conn_ends.PeerEnd = ⊥
IsServersEnd conn_ends.Declined = ⊥
IsServersEnd (conn_ends.Refused fault) = ⊥

-- a connection that is given up for its link has acted on all that the link gave
abbrev pub RestsFor : ConnEnd → Talking → Type 0
RestsFor conn_ends.LinkFault v = IsResting v
RestsFor (conn_ends.Overflow pending limit) v = IsResting v
RestsFor end v = Unit {0}

-- ---- its steps

-- over every past over which the connection was left: it has ended, as behind the close of its
-- association
abbrev pub ClosesOverAll : CentreRows → ℕ → Talking → Talking → Type 0
ClosesOverAll rows who old new = (past : Past) (whole : Bool) (end : ConnEnd)
    (standing : EndState) (items : List Item) (said : List ℕ)
    → HasLeft whole end standing rows past who items said None old
    → ClosesLeft whole end standing rows past who items said old (with_closed who past) new

-- and so behind that for whose close it has asked
abbrev pub ClosesAsked : CentreRows → ℕ → EventKind → Talking → Talking → Type 0
ClosesAsked rows who event asked new = (past : Past) (whole : Bool) (end : ConnEnd)
    (standing : EndState) (items : List Item) (said : List ℕ) (first : Talking)
    → AsksClose whole end standing rows past who items said event first asked
    → ClosesLeft whole end standing rows past who items said first (with_closed who past) new

-- before any event more, or at one that was refused, the connection was cut, by no answer; entries
-- of other seats had come
abbrev pub CutsBefore : Setup → Past → ℕ → List Item → List ℕ → Talking → Past → Talking → Type 0
CutsBefore setup past who items said old after new =
    (c : IsCutByNode setup who items said old after new) × (others : Past)
    × AreOthers who others × IsBrought c.0 None × IsShut who (others ++ past) after

-- or behind this event, which was taken: the answer may have brought the end
abbrev pub CutsBehind : Setup → Past → ℕ → List Item → List ℕ → EventKind → Talking → Past
    → Talking → Type 0
CutsBehind setup past who items said event old after new =
    (c : IsCutByNode setup who items said old after new) × (others : Past)
    × AreOthers who others × (refusal_of setup (others ++ past) who event ≡ None)
    × IsBrought c.0 (end_answered items (answer_of setup (others ++ past) who event))
    × IsShut who (with_event who event (others ++ past)) after

-- an event is wanted, and waits; or none is, since nothing is left, or memory was wanting, so that
-- the connection was cut
abbrev pub WantsOfSeat : Setup → Past → ℕ → List Item → List ℕ → Talking → Option EventKind → Past
    → Talking → Type 0
WantsOfSeat setup past who items said old (Some event) after new = (after ≡ past)
    × (a : AddsPending old new)
    × Serves setup.centre past who items (said ++ a.added) (Some event) new
WantsOfSeat setup past who items said old None after new =
    IsAtRest setup past who items said old after new
    ⊎ CutsBefore setup past who items said old after new

-- the event that waited was answered, behind entries of other seats; or the connection was cut
abbrev pub AnswersOfSeat : Setup → Past → ℕ → List Item → List ℕ → EventKind → Talking → Bool
    → Past → Talking → Type 0
AnswersOfSeat setup past who items said event old true after new = (others : Past)
    × AreOthers who others
    × AnswersEvent setup (others ++ past) who items said event old true after new
AnswersOfSeat setup past who items said event old false after new =
    CutsBefore setup past who items said old after new
    ⊎ CutsBehind setup past who items said event old after new

-- a connection that was told an answer goes on as it is; or it was left by that, and then its
-- association is closed
abbrev pub GoesOrShuts : Bool → CentreRows → ℕ → Past → Talking → Past → Talking → Type 0
GoesOrShuts true rows who past old after new =
    (is_leaving old.progress ≡ false) × (after ≡ past) × (new ≡ old)
GoesOrShuts false rows who past old after new = (is_leaving old.progress ≡ true)
    × IsShut who past after × ClosesOverAll rows who old new
