-- A connection as a seat of a node over its history: which events of the seat have come of what the
-- link gave, and which octets were said.
use Rattle.std.specs.Prelude.{◌≡◌, ℕ, Bool, true, List, [], ◌∷◌, ◌++◌, reverse, Option, Some}
use Rattle.std.specs.Prelude.{None, Result}
use Rattle.stack_assoc.specs.declared.wire.setup.AssociationSetup.{AssociationSetup}
use Rattle.stack_assoc.specs.Arrivals.{Arrival, called}
use Rattle.stack_assoc.specs.Handing.{answers_to}
use Rattle.bilateral.specs.Rows.{CentreRows}
use Rattle.sbo_device.specs.declared.key.Key.{Key}
use Rattle.tase_views.specs.declared.event.EventKind.{EventKind}
use Rattle.tase_views.specs.declared.fault.StepFault.{StepFault}
use Rattle.tase_views.specs.declared.reply.Answer.{Answer}
use Rattle.tase_views.specs.History.{Past, association_in}
use Rattle.tase_conn.specs.Map.Inputs.{Item, IsLinkInput, text_given, link_has_ended}
use Rattle.tase_conn.specs.Map.Readings.{reading_of}
use Rattle.tase_conn.specs.Map.Turns.{Turn, turns_of}
use Rattle.tase_conn.specs.Map.Asks.{asks_at, asks_behind, asks_of, without_pauses}
use Rattle.tase_conn.specs.Map.Out.{talk_of, concluded_octets, early_octets}
use Rattle.tase_conn.specs.Map.Closed.{is_closed}
use Rattle.tase_conn.specs.Map.Sent.{events_by, association_octets, turns_left}
use Rattle.tase_conn.specs.Map.Linked.{opened_in, link_octets}
use Rattle.tase_conn.specs.declared.stage.Stage.{Stage}
use Rattle.tase_conn.specs.declared.stage.Stage.TheVariants as stages
use Rattle.tase_conn.specs.declared.stage.PendingEvent.TheVariants as askeds
use Rattle.tase_conn.specs.declared.stage.Progress.{Progress}
use Rattle.tase_conn.specs.declared.stage.Progress.TheVariants as progresses
use Rattle.tase_conn.specs.Talking.{Talking, is_leaving}
use Rattle.tase_conn.specs.Places.{ConnStandsAt}
use Rattle.tase_conn.specs.Wanting.{WaitsFor}
use Rattle.tase_conn.specs.Answering.{progress_told, stage_told}

-- ---- the history of a seat

-- none of these entries is of this seat
abbrev pub AreOthers : ℕ → Past → Type 0
AreOthers who [] = Unit {0}
AreOthers who (entry ∷ others) = (entry.who ≡ who → ⊥) × AreOthers who others

-- ---- what was answered

-- the last turn that was acted on asks for the event that waits
pub record AsksLast (rows : CentreRows) (event : EventKind) (answered turns : List Turn) :
    Type 0 where
  pub last : Turn
  pub is : turns ≡ answered ++ last ∷ []
  pub asks : asks_at rows answered last ≡ event ∷ []

-- of the turns that were acted on, those that are answered: all, or all but that which asks for the
-- event that waits
abbrev pub AreAnswered : CentreRows → Option EventKind → List Turn → List Turn → Type 0
AreAnswered rows None answered turns = turns ≡ answered
AreAnswered rows (Some event) answered turns = AsksLast rows event answered turns

-- which event waits, of a connection that goes on, or that the peer has ended
abbrev pub IsWaiting : Progress → Option EventKind → Type 0
IsWaiting (progresses.Running askeds.Nothing) None = Unit {0}
IsWaiting (progresses.Running asked) (Some event) = WaitsFor (progresses.Running asked) event
IsWaiting (progresses.Ended end) None = Unit {0}
IsWaiting _ _ = ⊥

-- ---- what was said

-- whatever else the link gives: this holds of the whole text, of whether it has ended, and of
-- what it tells behind the turns that are answered
abbrev pub HoldsOfAllInput : List Item → List Turn → (List ℕ → Bool → List Turn → Type 0) → Type 0
HoldsOfAllInput items answered Holds = (more : List Item) → IsLinkInput (items ++ more)
    → (rest : List Turn) → turns_of (items ++ more) ≡ answered ++ rest
    → Holds (text_given (items ++ more)) (link_has_ended (items ++ more)) (without_pauses rest)

-- before an open: what answers the messages that were read; in the end, all that a connection
-- without one is sent
abbrev pub SaysEarly : Progress → CentreRows → List Item → List Arrival → List Turn → List ℕ
    → Type 0
SaysEarly (progresses.Running asked) rows items told answered said = said ≡ answers_to called told
SaysEarly (progresses.Ended end) rows items told answered said =
    HoldsOfAllInput items answered (λ text ended rest. said ≡ early_octets rows text)
SaysEarly _ rows items told answered said = ⊥

-- all that an association is sent over its text, which has this behind the requests that were made
abbrev pub IsAllSaid : CentreRows → Past → Key → List ℕ → List ℕ → Bool → List Turn → Type 0
IsAllSaid rows past key said text ended rest = (said ≡ association_octets rows past key text ended)
    × (turns_left rows past key text ended ≡ rest)

-- while its association is open: all that it is sent
pub record SaysOpen (rows : CentreRows) (past : Past) (who : ℕ) (items : List Item)
    (answered : List Turn) (said : List ℕ) : Type 0 where
  pub key : Key
  pub seat : association_in past who ≡ Some key
  pub octets : HoldsOfAllInput items answered (IsAllSaid rows past key said)

-- what is still owed behind the response to conclude
abbrev pub owed : Progress → AssociationSetup → List Turn → List ℕ
owed (progresses.Running asked) setup rest = concluded_octets setup rest
owed _ setup rest = []

-- all that it is sent, but for what is owed
abbrev pub IsSaidButOwed : Progress → CentreRows → Past → Key → List ℕ → List ℕ → Bool → List Turn
    → Type 0
IsSaidButOwed progress rows past key said text ended rest =
    said ++ owed progress (talk_of (reading_of text) ended).setup rest
    ≡ association_octets rows past key text ended

-- once it is closed
pub record SaysClosed (progress : Progress) (rows : CentreRows) (past : Past) (who : ℕ)
    (items : List Item) (answered : List Turn) (said : List ℕ) : Type 0 where
  pub key : Key
  pub opened : opened_in past who ≡ Some key
  pub closed : is_closed key past ≡ true
  pub octets : HoldsOfAllInput items answered (IsSaidButOwed progress rows past key said)

abbrev pub SaysBy : Stage → Progress → CentreRows → Past → ℕ → List Item → List Arrival → List Turn
    → List ℕ → Type 0
SaysBy stages.Early progress rows past who items told answered said =
    (events_by who past ≡ []) × SaysEarly progress rows items told answered said
SaysBy (stages.Open peer detail) progress rows past who items told answered said =
    SaysOpen rows past who items answered said
SaysBy (stages.Closed peer) progress rows past who items told answered said =
    SaysClosed progress rows past who items answered said

-- ---- a connection that wasn't cut

-- a connection, whose link gave these items, is served by this seat of a node with this history,
-- has said these octets in all, and waits for the answer to this event, if to one
pub record Serves (rows : CentreRows) (past : Past) (who : ℕ) (items : List Item)
    (said : List ℕ) (waiting : Option EventKind) (v : Talking) : Type 0 where
  pub told : List Arrival
  pub turns : List Turn
  pub input : IsLinkInput items
  pub stands : ConnStandsAt rows items told turns v
  pub waits : IsWaiting v.progress waiting
  pub answered : List Turn
  pub are : AreAnswered rows waiting answered turns
  pub asked : reverse (events_by who past) ≡ asks_behind rows [] answered
  pub says : SaysBy v.stage v.progress rows past who items told answered said

-- where the connection stands behind an answer, or a refusal, that it was told
pub record HasTold (rows : CentreRows) (items : List Item) (told : List Arrival) (turns : List Turn)
    (outcome : Result Answer StepFault) (old new : Talking) : Type 0 where
  pub stands : ConnStandsAt rows items told turns new
  pub progress : new.progress ≡ progress_told old.progress old.stage outcome
  pub stage : new.stage ≡ stage_told old.progress outcome old.stage
  -- where it is left, its association stands as it stood
  pub course : is_leaving new.progress ≡ true → new.course ≡ old.course

-- ---- what that means

-- the seat has had all events that the input asks, and all octets were said
pub record HasServed (rows : CentreRows) (past : Past) (who : ℕ) (items : List Item)
    (said : List ℕ) : Type 0 where
  pub asked : reverse (events_by who past) ≡ asks_of rows items
  pub octets : said ≡ link_octets rows past who items
