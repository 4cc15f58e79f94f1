-- What a node that takes a snapshot is left with.
use Rattle.std.specs.Prelude.{◌≡◌, List, ◌∷◌, ◌++◌, reverse, Option, Some}
use Rattle.tase_views.specs.declared.event.Entry.{Entry}
use Rattle.tase_views.specs.declared.fault.StepFault.{StepFault}
use Rattle.tase_views.specs.declared.fault.StepFault.TheVariants.{Memory, Stopped, HistoryFull}
use Rattle.tase_views.specs.declared.fault.StepFault.TheVariants.{NoAssociation, Already}
use Rattle.tase_views.specs.declared.fault.StepFault.TheVariants.{UnknownName, ClockRange, Backward}
use Rattle.tase_views.specs.Outcomes.{refusal_of}
use Rattle.node_core.specs.NodeState.{NodeState}

-- a fault is want of memory, or what the event is refused for
abbrev pub IsCause : Option StepFault → StepFault → Type 0
IsCause refusal Memory = Unit {0}
IsCause refusal fault = refusal ≡ Some fault

-- a fault is want of memory, or that the history is full, where the event is refused for that
abbrev pub IsCutFor : Option StepFault → StepFault → Type 0
IsCutFor refusal Memory = Unit {0}
IsCutFor refusal (HistoryFull weight limit) = refusal ≡ Some (HistoryFull weight limit)
IsCutFor refusal (Stopped place) = ⊥
IsCutFor refusal NoAssociation = ⊥
IsCutFor refusal Already = ⊥
IsCutFor refusal UnknownName = ⊥
IsCutFor refusal ClockRange = ⊥
IsCutFor refusal (Backward last) = ⊥

-- a node was to take entries, and those before one that it doesn't take for this fault are its
-- history
pub record IsCut (old new : NodeState) (entries : List Entry) (fault : StepFault) : Type 0 where
  pub taken : List Entry
  pub refused : Entry
  pub rest : List Entry
  pub parts : entries ≡ taken ++ refused ∷ rest
  pub history : new ≡ record old { history = taken }
  pub cause : IsCutFor (refusal_of old.setup (reverse taken) refused.who refused.event) fault
