-- What was heard so far.
use Rattle.std.proofs.Common.{ℕ, List, Option, true}
use Rattle.stack_assoc.specs.Steps.{left_of}
use Rattle.asking_end.specs.Agendas.{Becomes}
use Rattle.asking_end.specs.Askers.{AskerStep}
use Rattle.asking_end.specs.Callers.{Hears, IsHearing, HeardOn}
use Rattle.asking_end.proofs.calling.CallingEnd+A+A+End.hear_on.Given as goal

abbrev pub invariant-loop : goal.invariant-loop
invariant-loop g l = record {
  hearing : IsHearing g.A.Agenda.acts l.self;
  heard : (title : Option (List ℕ)) (agenda : g.row.A.Denot) (octets : List ℕ)
      (step : AskerStep g.row.A.Denot g.row.A-End.Denot g.row.A-Item.Denot)
      → Hears g.A.Agenda.acts title agenda octets step l.initial.self
      → HeardOn true g.A.Agenda.acts title agenda octets step l.initial.out.items l.out.items
      l.initial.shown.items l.shown.items l.self;
  become : Becomes g.A.Agenda.acts l.initial.self.asker.agenda l.self.asker.agenda;
}

abbrev pub decreases-loop : goal.decreases-loop
decreases-loop g l = left_of l.self.stack
