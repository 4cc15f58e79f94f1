-- One step of a connection: what comes next is read, or acted on.
use Rattle.std.specs.Prelude.{◌≡◌, ℕ, ◌+◌, ◌*◌, ◌<◌, Bool, true, false, List, [], ◌∷◌, ◌++◌}
use Rattle.std.specs.Prelude.{Option, Some, None}
use Rattle.bilateral.specs.Rows.{CentreRows}
use Rattle.mms_services.specs.declared.pdu.MmsPdu.TheVariants as pdus
use Rattle.stack_assoc.specs.declared.messages.fault.StackFault.{StackFault}
use Rattle.stack_assoc.specs.declared.input.StackIn.TheVariants as inputs
use Rattle.stack_assoc.specs.Arrivals.{Arrival}
use Rattle.stack_assoc.specs.Courses.{Course}
use Rattle.stack_assoc.specs.Steps.{left_of}
use Rattle.stack_assoc.specs.Expectations.{setup_after}
use Rattle.tase_views.specs.declared.event.EventKind.{EventKind}
use Rattle.tase_conn.specs.Map.Inputs.{Item}
use Rattle.tase_conn.specs.Map.Turns.{Turn}
use Rattle.tase_conn.specs.Map.Asks.{asks_behind}
use Rattle.tase_conn.specs.declared.stage.Behind.{Behind}
use Rattle.tase_conn.specs.declared.stage.Behind.TheVariants as behinds
use Rattle.tase_conn.specs.declared.stage.Coming.{Coming}
use Rattle.tase_conn.specs.declared.stage.Coming.TheVariants as comings
use Rattle.tase_conn.specs.declared.stage.Cause.{Cause}
use Rattle.tase_conn.specs.declared.stage.Cause.TheVariants as causes
use Rattle.tase_conn.specs.declared.stage.Progress.{Progress}
use Rattle.tase_conn.specs.declared.stage.Progress.TheVariants as progresses
use Rattle.tase_conn.specs.declared.stage.Step.{Step}
use Rattle.tase_conn.specs.declared.stage.Step.TheVariants as steps
use Rattle.tase_conn.specs.Talking.{Talking, pending_of}
use Rattle.tase_conn.specs.Places.{ConnStandsAt}
use Rattle.tase_conn.specs.Wanting.{Passes, IsIdle, WaitsFor, quiet_behind}

-- ---- what comes next

abbrev pub holding : Coming → Talking → Talking
holding coming v = record v { held = Some coming }

-- what comes behind all messages
abbrev pub coming_behind : Behind → Coming
coming_behind behinds.End = comings.End
coming_behind _ = comings.Pause

abbrev pub holding_behind : Talking → Talking
holding_behind v = record v { held = Some (coming_behind v.behind); behind = behinds.Nothing }

abbrev pub holding_fault : StackFault → Talking → Talking
holding_fault fault v = record v { held = Some (comings.Fault fault); behind = behinds.Nothing }

-- whether something is left of what was taken in
abbrev pub is_left : Option Coming → Behind → Bool
is_left None behinds.Nothing = false
is_left held behind = true

abbrev pub has_more : Talking → Bool
has_more v = is_left v.held v.behind

-- ---- one step

-- what was read was acted on
pub record ActsOnTurns (rows : CentreRows) (items : List Item) (told : List Arrival)
    (turns : List Turn)
    (asked : List EventKind) (old new : Talking) : Type 0 where
  pub more : List Turn
  pub stands : ConnStandsAt rows items told (turns ++ more) new
  pub asks_are : asks_behind rows turns more ≡ asked
  pub said : pending_of new ≡ pending_of old ++ quiet_behind rows (setup_after told) turns more

-- it has ended, by the peer
abbrev pub HasEnded : Progress → Type 0
HasEnded (progresses.Ended end) = Unit {0}
HasEnded _ = ⊥

-- a step asks for an event, or goes on, or ends the connection
abbrev pub StepsBy : CentreRows → List Item → List Arrival → List Turn → Step → Talking → Talking
    → Type 0
StepsBy rows items told turns (steps.Asks event) old new = WaitsFor new.progress event
    × ActsOnTurns rows items told turns (event ∷ []) old new
StepsBy rows items told turns steps.GoesOn old new = Passes rows items told turns old new
StepsBy rows items told turns steps.Ends old new = HasEnded new.progress
    × ActsOnTurns rows items told turns [] old new

-- behind a step that goes on nothing waits
abbrev pub StaysIdle : Step → Progress → Type 0
StaysIdle steps.GoesOn progress = IsIdle progress
StaysIdle _ progress = Unit {0}

-- ---- how much is left

abbrev pub weight_held : Option Coming → ℕ
weight_held None = 0
weight_held (Some coming) = 1

abbrev pub weight_behind : Behind → Course → ℕ
weight_behind behinds.Nothing course = 0
weight_behind _ course = 1 + left_of course

-- how many steps may still be made, at most
abbrev pub steps_left : Talking → ℕ
steps_left v = 2 * weight_behind v.behind v.course + weight_held v.held

abbrev pub GoesDown : Step → ℕ → ℕ → Type 0
GoesDown steps.GoesOn before after = after < before
GoesDown _ before after = Unit {0}

-- ---- acting

-- wherever it stood, it has gone a step from there
abbrev pub StepsSo : Step → Talking → Talking → Type 0
StepsSo step old new = (rows : CentreRows) (items : List Item) (told : List Arrival)
    (turns : List Turn) → ConnStandsAt rows items told turns old
    → StepsBy rows items told turns step old new

-- wherever it stood with this to be acted on
abbrev pub ActsOn : Coming → Talking → Step → Talking → Type 0
ActsOn coming old step new = StepsSo step (holding coming old) new

-- a step that goes on changes nothing
abbrev pub StaysSo : Step → Talking → Talking → Type 0
StaysSo steps.GoesOn old new = new ≡ old
StaysSo _ old new = Unit {0}
