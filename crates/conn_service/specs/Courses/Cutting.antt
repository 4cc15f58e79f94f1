-- A connection that was left before the peer brought its end: the node refused an event, or it was
-- given up.
use Rattle.std.specs.Prelude.{◌≡◌, ℕ, Bool, true, false, if◌then◌else◌, ◌⊎◌, List, [], ◌∷◌, ◌++◌}
use Rattle.std.specs.Prelude.{reverse, Ok, Option, Some, None}
use Rattle.stack_assoc.specs.declared.wire.setup.AssociationSetup.{AssociationSetup}
use Rattle.stack_assoc.specs.declared.end_state.EndState.{EndState}
use Rattle.stack_assoc.specs.Courses.{Course, is_accepted}
use Rattle.stack_assoc.specs.Arrivals.{Arrival}
use Rattle.bilateral.specs.Rows.{CentreRows}
use Rattle.sbo_device.specs.declared.key.Key.{Key}
use Rattle.tase_views.specs.Setup.{Setup}
use Rattle.tase_views.specs.declared.event.EventKind.{EventKind}
use Rattle.tase_views.specs.declared.event.EventKind.TheVariants as events
use Rattle.tase_views.specs.declared.reply.Answer.{Answer}
use Rattle.tase_views.specs.History.{Past, association_in}
use Rattle.tase_conn.specs.Map.Inputs.{Item, IsLinkInput, text_given, link_has_ended}
use Rattle.tase_conn.specs.Map.Readings.{reading_of}
use Rattle.tase_conn.specs.Map.Turns.{Turn, asks, turns_of}
use Rattle.tase_conn.specs.Map.Asks.{up_to_last, asks_behind, asks_of}
use Rattle.tase_conn.specs.Map.Out.{talk_of, abort_wire, close_octets, early_octets}
use Rattle.tase_conn.specs.Map.Closed.{is_closed}
use Rattle.tase_conn.specs.Map.Sent.{events_by, with_event, association_octets, turns_left}
use Rattle.tase_conn.specs.Map.Linked.{opened_in, link_octets}
use Rattle.tase_conn.specs.declared.stage.ConnEnd.{ConnEnd}
use Rattle.tase_conn.specs.declared.stage.Stage.{Stage}
use Rattle.tase_conn.specs.declared.stage.Stage.TheVariants as stages
use Rattle.tase_conn.specs.declared.stage.Progress.{Progress}
use Rattle.tase_conn.specs.declared.stage.Progress.TheVariants as progresses
use Rattle.tase_conn.specs.Talking.{Talking, is_open_stage, is_leaving}
use Rattle.tase_conn.specs.Places.{ConnStandsAt, BeginsTurns}
use Rattle.tase_conn.specs.Answering.{aborts, parting_octets, told_said}
use Rattle.conn_service.specs.Courses.Serving.{HoldsOfAllInput}

-- which event waits of a connection that was left for this end: none, or once it was asked the
-- close of its association
abbrev pub IsClosingFor : Progress → Option EventKind → ConnEnd → Type 0
IsClosingFor (progresses.Leaving end false) None left = end ≡ left
IsClosingFor (progresses.Leaving end true) (Some events.Close) left = end ≡ left
IsClosingFor (progresses.Cut end) None left = end ≡ left
IsClosingFor _ _ left = ⊥

-- the octets with which a connection is left, by how its association stood: those of an abort,
-- unless the link can't take them
abbrev pub parting : ConnEnd → EndState → AssociationSetup → List ℕ
parting end standing setup =
    if aborts end then (if is_accepted standing then abort_wire setup else []) else []

-- what is said when it is left: while its association is open nothing yet
abbrev pub left_said : Stage → Course → ConnEnd → List ℕ
left_said stage course end = if is_open_stage stage then [] else parting_octets course end

-- what its connect fixed is what the connect of its text fixes
abbrev pub HasSetupOf : Course → List ℕ → Bool → List Turn → Type 0
HasSetupOf course text ended rest = course.setup ≡ (talk_of (reading_of text) ended).setup

-- no more than a connection without an association is sent
abbrev pub IsSaidEarly : CentreRows → List ℕ → List ℕ → Bool → List Turn → Type 0
IsSaidEarly rows said text ended rest =
    (others : List ℕ) × (early_octets rows text ≡ said ++ others)

-- before an open
pub record LeftEarly (rows : CentreRows) (past : Past) (who : ℕ) (items : List Item)
    (answered : List Turn) (said : List ℕ) : Type 0 where
  pub none : events_by who past ≡ []
  pub asked : reverse (events_by who past) ≡ asks_behind rows [] answered
  pub octets : HoldsOfAllInput items answered (IsSaidEarly rows said)

-- all that an association is sent, but for what is missing: nothing where what was said is whole
abbrev pub IsSaidButMissing : Bool → CentreRows → Past → Key → List ℕ → List ℕ → Bool → List Turn
    → Type 0
IsSaidButMissing whole rows past key said text ended rest = (missing : List ℕ)
    × (association_octets rows past key text ended ≡ said ++ missing)
    × (turns_left rows past key text ended ≡ rest) × (whole ≡ true → missing ≡ [])

-- its association is still open: all that it is sent was said, or where memory was wanting for the
-- last answer, all but that
pub record LeftOpen (whole : Bool) (standing : EndState) (course : Course) (rows : CentreRows)
    (past : Past) (who : ℕ) (items : List Item) (answered : List Turn) (said : List ℕ) :
    Type 0 where
  pub key : Key
  pub seat : association_in past who ≡ Some key
  pub asked : reverse (events_by who past) ≡ asks_behind rows [] answered
  pub stood : course.standing ≡ standing
  pub setup : HoldsOfAllInput items answered (HasSetupOf course)
  pub octets : HoldsOfAllInput items answered (IsSaidButMissing whole rows past key said)

-- what it was sent before its close, but for what is missing, and then the parting
abbrev pub IsSaidToClose : Bool → ConnEnd → EndState → CentreRows → Past → Key → List ℕ → List ℕ
    → List ℕ → Bool → List Turn → Type 0
IsSaidToClose whole end standing rows past key before said text ended rest =
    (said ≡ before ++ parting end standing (talk_of (reading_of text) ended).setup)
    × (missing : List ℕ) × (association_octets rows past key text ended
    ≡ (before ++ missing) ++ close_octets (talk_of (reading_of text) ended).setup rest)
    × (whole ≡ true → missing ≡ [])

-- it was closed then: all that it was sent before that close was said, and the parting
pub record LeftClosed (whole : Bool) (end : ConnEnd) (standing : EndState) (rows : CentreRows)
    (past : Past) (who : ℕ) (items : List Item) (answered : List Turn) (said : List ℕ) :
    Type 0 where
  pub key : Key
  pub opened : opened_in past who ≡ Some key
  pub closed : is_closed key past ≡ true
  pub asked : reverse (events_by who past) ≡ asks_behind rows [] answered ++ events.Close ∷ []
  pub before : List ℕ
  pub octets : HoldsOfAllInput items answered
      (IsSaidToClose whole end standing rows past key before said)

-- no more than it is sent, and then the parting
abbrev pub IsSaidAndParted : ConnEnd → EndState → CentreRows → Past → Key → List ℕ → List ℕ
    → List ℕ → Bool → List Turn → Type 0
IsSaidAndParted end standing rows past key before said text ended rest =
    (said ≡ before ++ parting end standing (talk_of (reading_of text) ended).setup)
    × (others : List ℕ) × (association_octets rows past key text ended ≡ before ++ others)

-- it was closed before, at the peer's asking: no more than it is sent was said, and the parting
pub record LeftConcluded (end : ConnEnd) (standing : EndState) (rows : CentreRows) (past : Past)
    (who : ℕ) (items : List Item) (answered : List Turn) (said : List ℕ) : Type 0 where
  pub key : Key
  pub opened : opened_in past who ≡ Some key
  pub closed : is_closed key past ≡ true
  pub asked : reverse (events_by who past) ≡ asks_behind rows [] answered
  pub before : List ℕ
  pub octets : HoldsOfAllInput items answered
      (IsSaidAndParted end standing rows past key before said)

abbrev pub LeftBy : Bool → Stage → ConnEnd → EndState → Course → CentreRows → Past → ℕ → List Item
    → List Turn → List ℕ → Type 0
LeftBy whole stages.Early end standing course rows past who items answered said =
    LeftEarly rows past who items answered said
LeftBy whole (stages.Open peer detail) end standing course rows past who items answered said =
    LeftOpen whole standing course rows past who items answered said
LeftBy whole (stages.Closed peer) end standing course rows past who items answered said =
    LeftClosed whole end standing rows past who items answered said
    ⊎ LeftConcluded end standing rows past who items answered said

-- a connection that was left for this end while its association stood so; the turns whose events
-- were answered begin those that the items tell
pub record HasLeft (whole : Bool) (end : ConnEnd) (standing : EndState) (rows : CentreRows)
    (past : Past) (who : ℕ) (items : List Item) (said : List ℕ) (waiting : Option EventKind)
    (v : Talking) : Type 0 where
  pub told : List Arrival
  pub turns : List Turn
  pub input : IsLinkInput items
  pub stands : ConnStandsAt rows items told turns v
  pub waits : IsClosingFor v.progress waiting end
  pub owes : is_open_stage v.stage ≡ is_leaving v.progress
  pub answered : List Turn
  pub read : BeginsTurns answered (up_to_last rows (turns_of items))
  pub says : LeftBy whole v.stage end standing v.course rows past who items answered said

-- the answer to a take brings a connection this end: it is left, and once its association is closed,
-- and aborted, all was said that its peer is sent
pub record LeavesTooLong (setup : Setup) (past : Past) (who : ℕ) (items : List Item)
    (said : List ℕ) (event : EventKind) (answer : Answer) (end : ConnEnd) (old new : Talking) :
    Type 0 where
  pub progress : new.progress ≡ progresses.Leaving end false
  pub event_is : event ≡ events.Take
  pub left : HasLeft true end old.course.standing setup.centre (with_event who event past) who items
      (said ++ told_said old.progress old.stage old.course (Ok answer)) None new
  pub whole : (said ++ told_said old.progress old.stage old.course (Ok answer))
      ++ parting_octets new.course end
      ≡ link_octets setup.centre (with_event who events.Close (with_event who event past)) who items

-- ---- what that means

-- where the text tells nothing more, or a request, a close has no cause in it
abbrev pub IsUnexplained : List Turn → Type 0
IsUnexplained [] = Unit {0}
IsUnexplained (asks invoke call ∷ turns) = Unit {0}
IsUnexplained (turn ∷ turns) = ⊥

-- the association that a seat has opened last is closed
abbrev pub HasShut : Past → ℕ → Type 0
HasShut past who =
    (key : Key) × (opened_in past who ≡ Some key) × (is_closed key past ≡ true)

-- no more than is sent was said, and then the parting, once the association is closed; or without
-- one no parting
pub record HasSaidSome (end : ConnEnd) (standing : EndState) (rows : CentreRows) (past : Past)
    (who : ℕ) (items : List Item) (said : List ℕ) : Type 0 where
  pub before : List ℕ
  pub others : List ℕ
  pub sent : link_octets rows past who items ≡ before ++ others
  pub parted : (HasShut past who × (said ≡ before ++ parting end standing
      (talk_of (reading_of (text_given items)) (link_has_ended items)).setup))
      ⊎ ((events_by who past ≡ []) × (said ≡ before))

-- the seat has had the first of the events that the input asks, and then the close of an
-- association that was open
pub record WasLeft (end : ConnEnd) (standing : EndState) (rows : CentreRows) (past : Past)
    (who : ℕ) (items : List Item) (said : List ℕ) : Type 0 where
  pub asked : List EventKind
  pub others : List EventKind
  pub asks_are : asks_of rows items ≡ asked ++ others
  pub events_are : (reverse (events_by who past) ≡ asked)
      ⊎ (reverse (events_by who past) ≡ asked ++ events.Close ∷ [])
  pub octets : HasSaidSome end standing rows past who items said
