-- A node's history as the one history of a shared object.
use Rattle.std.specs.Prelude.{ℕ, List, map, reverse, Result}
use Rattle.tase_views.specs.declared.event.Entry.{Entry}
use Rattle.tase_views.specs.declared.event.EventKind.{EventKind}
use Rattle.tase_views.specs.declared.fault.StepFault.{StepFault}
use Rattle.tase_views.specs.declared.reply.Answer.{Answer}
use Rattle.tase_views.specs.Setup.{Setup}
use Rattle.tase_views.specs.History.{Past}
use Rattle.tase_views.specs.Outcomes.{IsRightOutcome}
use Rattle.node_server.specs.declared.turn.turn_node.NodeSetup.{NodeSetup}

abbrev pub turn_setup : Setup → NodeSetup
turn_setup setup = record { centre = setup.centre; limit = setup.limit }

-- the entries of a history as pairs of a seat's number and an event
abbrev pub turn_log : List Entry → List (ℕ × EventKind)
turn_log history = map (λ e. (e.who, e.event)) history

-- the entry that such a pair is
abbrev pub logged_entry : ℕ × EventKind → Entry
logged_entry e = record { who = e.0; event = e.1 }

-- the past, the newest entry first, that a log of such pairs is
abbrev pub past_in : List (ℕ × EventKind) → Past
past_in log = reverse (map logged_entry log)

-- the outcome is the node's right one over the history that was shared
abbrev pub IsRightTurn : NodeSetup → List (ℕ × EventKind) → ℕ → EventKind → Result Answer StepFault
    → Type 0
IsRightTurn setup log who event outcome =
    IsRightOutcome (record { centre = setup.centre; limit = setup.limit }) (past_in log) who event
    outcome
