-- Histories that a node takes.
use Rattle.std.specs.Prelude.{◌≡◌, ℕ, [], ◌∷◌, Option, None}
use Rattle.bilateral.specs.Rows.{CentreRows}
use Rattle.tase_views.specs.declared.event.EventKind.{EventKind}
use Rattle.tase_views.specs.declared.fault.StepFault.{StepFault}
use Rattle.tase_views.specs.History.{Past}
use Rattle.tase_views.specs.Outcomes.{stop_refusal, own_refusal, clock_refusal, first_refusal}

-- why an event is refused, if it is, whatever the history weighs
abbrev pub unweighed_refusal : CentreRows → Past → ℕ → EventKind → Option StepFault
unweighed_refusal rows past who event =
    first_refusal
    (stop_refusal past event ∷ own_refusal rows past who event ∷ clock_refusal past event ∷ [])

-- a history each entry of which a node takes, whatever it weighs
abbrev pub IsLived : CentreRows → Past → Type 0
IsLived rows [] = Unit {0}
IsLived rows (entry ∷ past) =
    (unweighed_refusal rows past entry.who entry.event ≡ None) × IsLived rows past
