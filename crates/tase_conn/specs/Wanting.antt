-- What a connection wants of the node.
use Rattle.std.specs.Prelude.{◌≡◌, ℕ, true, if◌then◌else◌, List, [], ◌∷◌}
use Rattle.std.specs.Prelude.{◌++◌}
use Rattle.std.specs.Prelude.{Option, Some, None}
use Rattle.std.specs.List.{list_any}
use Rattle.tpkt_cotp.specs.Written.{wire}
use Rattle.bilateral.specs.Rows.{CentreRows}
use Rattle.stack_assoc.specs.declared.wire.setup.AssociationSetup.{AssociationSetup}
use Rattle.stack_assoc.specs.Wire.Tsdus.{refusal_tsdu}
use Rattle.stack_assoc.specs.Arrivals.{Arrival, called}
use Rattle.stack_assoc.specs.Expectations.{setup_after}
use Rattle.stack_assoc.specs.Handing.{answers_to}
use Rattle.tase_views.specs.declared.event.EventKind.{EventKind}
use Rattle.tase_views.specs.declared.event.EventKind.TheVariants as events
use Rattle.tase_conn.specs.Map.Inputs.{Item}
use Rattle.tase_conn.specs.Map.Turns.{Turn, offers, offers_badly, asks, concludes, releases, aborts}
use Rattle.tase_conn.specs.Map.Turns.{breaks, ends, pauses, turns_of}
use Rattle.tase_conn.specs.Map.Asks.{is_peers, begins, is_open_behind, asks_behind, up_to_last}
use Rattle.tase_conn.specs.Map.Out.{release_wire, abort_wire}
use Rattle.tase_conn.specs.declared.stage.PendingEvent.TheVariants as askeds
use Rattle.tase_conn.specs.declared.stage.Progress.{Progress}
use Rattle.tase_conn.specs.declared.stage.Progress.TheVariants as progresses
use Rattle.tase_conn.specs.Talking.{Talking, pending_of, IsResting}
use Rattle.tase_conn.specs.Places.{ConnStandsAt}

-- ---- what is said of what asks for no event

abbrev pub refusal_said : AssociationSetup → List ℕ
refusal_said setup = wire setup.size (refusal_tsdu setup.acse)

-- what follows a conclude, whose association is closed: a release is answered, a fault aborts
abbrev pub behind_close : CentreRows → List Turn → List ℕ → List ℕ
behind_close rows before octets = if is_open_behind rows before then [] else
    (if list_any (begins rows) before then octets else [])

-- at one turn, behind these: an offer is refused that can't be accepted
abbrev pub quiet_at : CentreRows → AssociationSetup → List Turn → Turn → List ℕ
quiet_at rows setup before (offers title) =
    if is_peers rows title then [] else refusal_said setup
quiet_at rows setup before offers_badly = refusal_said setup
quiet_at rows setup before (asks invoke call) = []
quiet_at rows setup before concludes = []
quiet_at rows setup before releases = behind_close rows before (release_wire setup)
quiet_at rows setup before aborts = []
quiet_at rows setup before breaks = behind_close rows before (abort_wire setup)
quiet_at rows setup before ends = []
quiet_at rows setup before pauses = []

abbrev pub quiet_behind : CentreRows → AssociationSetup → List Turn → List Turn → List ℕ
quiet_behind rows setup before [] = []
quiet_behind rows setup before (turn ∷ turns) = quiet_at rows setup before turn
    ++ quiet_behind rows setup (before ++ turn ∷ []) turns

-- ---- how it goes on

-- these messages and turns more were acted on; they ask for these events, and these octets were
-- said
pub record ReadsOn (rows : CentreRows) (items : List Item) (told : List Arrival) (turns : List Turn)
    (asked : List EventKind) (old new : Talking) : Type 0 where
  pub later : List Arrival
  pub more : List Turn
  pub stands : ConnStandsAt rows items (told ++ later) (turns ++ more) new
  pub asks_are : asks_behind rows turns more ≡ asked
  pub said : pending_of new ≡ pending_of old ++ (answers_to called later
      ++ quiet_behind rows (setup_after (told ++ later)) turns more)

-- all that the items tell was acted on, up to the first behind which nothing follows: the
-- connection runs, or the peer has brought its end
abbrev pub AreAllTurns : CentreRows → List Item → List Turn → Progress → Type 0
AreAllTurns rows items turns (progresses.Running asked) = up_to_last rows (turns_of items) ≡ turns
AreAllTurns rows items turns (progresses.Ended end) = up_to_last rows (turns_of items) ≡ turns
AreAllTurns rows items turns progress = ⊥

pub record IsAllActedOn (rows : CentreRows) (items : List Item) (told : List Arrival)
    (turns : List Turn) (old new : Talking) : Type 0 where
  pub goes : ReadsOn rows items told turns [] old new
  pub resting : IsResting new
  pub whole : AreAllTurns rows items (turns ++ goes.more) new.progress

-- the event that waits
abbrev pub WaitsFor : Progress → EventKind → Type 0
WaitsFor (progresses.Running (askeds.Opening peer granted)) (events.Open opened) = peer ≡ opened
WaitsFor (progresses.Running (askeds.Requesting invoke)) (events.Request call) = Unit {0}
WaitsFor (progresses.Running askeds.Taking) events.Take = Unit {0}
WaitsFor (progresses.Running (askeds.Closing cause)) events.Close = Unit {0}
WaitsFor _ _ = ⊥

-- an event is the next that is asked; none where nothing is left
abbrev pub ReadsNext : CentreRows → List Item → List Arrival → List Turn → Option EventKind
    → Talking
    → Talking → Type 0
ReadsNext rows items told turns (Some event) old new = WaitsFor new.progress event
    × ReadsOn rows items told turns (event ∷ []) old new
ReadsNext rows items told turns None old new = IsAllActedOn rows items told turns old new

-- it was left, and its association is still to be closed
abbrev pub IsLeaving : Progress → Type 0
IsLeaving (progresses.Leaving end asked) = Unit {0}
IsLeaving _ = ⊥

-- where it was left nothing is acted on, and the association is closed
abbrev pub progress_closing : Talking → Progress → Talking
progress_closing v (progresses.Leaving end asked) =
    record v { progress = progresses.Leaving end true }
progress_closing v progress = v

pub record WantsClose (event : Option EventKind) (old new : Talking) : Type 0 where
  pub event_is : event ≡ Some events.Close
  pub is : new ≡ progress_closing old old.progress

-- where it has ended nothing is wanted any more
pub record StaysEnded (event : Option EventKind) (old new : Talking) : Type 0 where
  pub none : event ≡ None
  pub is : new ≡ old

abbrev pub WantsBy : Progress → CentreRows → List Item → List Arrival → List Turn
    → Option EventKind → Talking → Talking → Type 0
WantsBy (progresses.Leaving end asked) rows items told turns event old new =
    WantsClose event old new × ConnStandsAt rows items told turns new
WantsBy (progresses.Ended end) rows items told turns event old new = StaysEnded event old new
WantsBy (progresses.Cut end) rows items told turns event old new = StaysEnded event old new
WantsBy progress rows items told turns event old new = ReadsNext rows items told turns event old new

abbrev pub Wants : CentreRows → List Item → List Arrival → List Turn → Option EventKind → Talking
    → Talking → Type 0
Wants rows items told turns event old new =
    WantsBy old.progress rows items told turns event old new

-- ---- where memory is wanting

-- it goes on, and neither asks for an event nor says anything but what answers these messages
pub record Passes (rows : CentreRows) (items : List Item) (told : List Arrival) (turns : List Turn)
    (old new : Talking) : Type 0 where
  pub later : List Arrival
  pub more : List Turn
  pub stands : ConnStandsAt rows items (told ++ later) (turns ++ more) new
  pub asks_are : asks_behind rows turns more ≡ []
  pub quiet : (setup : AssociationSetup) → quiet_behind rows setup turns more ≡ []
  pub said : pending_of new ≡ pending_of old ++ answers_to called later

-- it goes on with nothing waiting
abbrev pub IsIdle : Progress → Type 0
IsIdle progress = progress ≡ progresses.Running askeds.Nothing

-- ---- wherever it stood, from there

-- this event is the next that is asked, or none
abbrev pub ReadsSo : Option EventKind → Talking → Talking → Type 0
ReadsSo event old new = (rows : CentreRows) (items : List Item) (told : List Arrival)
    (turns : List Turn) → ConnStandsAt rows items told turns old
    → ReadsNext rows items told turns event old new

-- this event is wanted, or none
abbrev pub WantsSo : Option EventKind → Talking → Talking → Type 0
WantsSo event old new = (rows : CentreRows) (items : List Item) (told : List Arrival)
    (turns : List Turn) → ConnStandsAt rows items told turns old
    → Wants rows items told turns event old new

-- it goes on, and asks for no event
abbrev pub PassesSo : Talking → Talking → Type 0
PassesSo old new = (rows : CentreRows) (items : List Item) (told : List Arrival)
    (turns : List Turn) → ConnStandsAt rows items told turns old
    → Passes rows items told turns old new
