-- An asking end before anything was sent and received.
use Rattle.std.specs.Prelude.{◌≡◌, ℕ, List, [], Option}
use Rattle.asking_end.specs.declared.service.talking.Talk.{Talk}
use Rattle.asking_end.specs.Agendas.{AgendaActs}
use Rattle.asking_end.specs.Askers.{asker_of}
use Rattle.asking_end.specs.Callers.{AskerStands}

-- one that calls by this title to ask this agenda, before anything has come: what it says then
-- waits, and it has shown nothing
pub record IsTalk {A E : Type 0} (acts : AgendaActs A E ℕ) (title : Option (List ℕ)) (agenda : A)
    (talk : Talk A ℕ E) : Type 0 where
  pub stands : AskerStands acts title agenda [] talk.asking
  pub said : (asker_of acts title agenda []).said ≡ talk.out.items
  pub shown : (asker_of acts title agenda []).shown ≡ talk.shown.items
