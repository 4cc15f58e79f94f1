-- Which of the events that a link asks a node takes, and why it refuses the next, or by which of its
-- answers the connection is left.
use Rattle.std.specs.Prelude.{ℕ, if◌then◌else◌, List, [], ◌∷◌, Option, Some, None, is_some}
use Rattle.tase_views.specs.Setup.{Setup}
use Rattle.tase_views.specs.History.{Past, association_in}
use Rattle.tase_views.specs.Outcomes.{refusal_of, answer_of}
use Rattle.tase_views.specs.declared.event.EventKind.{EventKind}
use Rattle.tase_views.specs.declared.event.EventKind.TheVariants as events
use Rattle.tase_views.specs.declared.fault.StepFault.{StepFault}
use Rattle.tase_conn.specs.Map.Inputs.{Item}
use Rattle.tase_conn.specs.Map.Sent.{with_event}
use Rattle.tase_conn.specs.declared.stage.ConnEnd.{ConnEnd}
use Rattle.conn_service.specs.Courses.AnswerEnd.{end_answered}

-- the events of a seat that a node takes, the history behind them, why it refuses the next, if it
-- does, and the end that the answer to the last of them brings, if it brings one
pub record Served : Type 0 where
  pub taken : List EventKind
  pub past : Past
  pub refusal : Option StepFault
  pub end : Option ConnEnd

-- none of the others, behind an event that was taken and whose answer brings this end
abbrev pub ended_by : Past → EventKind → ConnEnd → Served
ended_by after event end =
    record { taken = event ∷ []; past = after; refusal = None; end = Some end }

-- an event that isn't refused is taken, and then the others, unless its answer brings an end
abbrev pub served_by : Past → Past → EventKind → Option StepFault → Option ConnEnd → Served → Served
served_by past after event None None others = record others { taken = event ∷ others.taken }
served_by past after event None (Some end) others = ended_by after event end
served_by past after event (Some fault) long others =
    record { taken = []; past = past; refusal = Some fault; end = None }

-- these events of a seat whose link gave these items, one after another, up to the first that is
-- refused, or whose answer brings an end
abbrev pub served : Setup → ℕ → List Item → Past → List EventKind → Served
served setup who items past [] = record { taken = []; past = past; refusal = None; end = None }
served setup who items past (event ∷ events) =
    served_by past (with_event who event past) event (refusal_of setup past who event)
    (end_answered items (answer_of setup past who event))
    (served setup who items (with_event who event past) events)

-- the history with the close of a seat's association, where it has one
abbrev pub with_closed : ℕ → Past → Past
with_closed who past =
    if is_some (association_in past who) then with_event who events.Close past else past
