-- A run as it begins.
use Rattle.std.proofs.Common.{◌≡◌, ℕ, List, [], ◌++◌, Option, None, Some, ap, refl, sym, ◌∙◌}
use Rattle.std.specs.Prelude.{option_map}
use Rattle.std.proofs.lemmas.List.{append-nil}
use Rattle.std.proofs.lemmas.List.Elements.{All-nil}
use Rattle.outside.specs.Sink.{SinkTold}
use Rattle.outside.proofs.Writing.{Appends-none}
use Rattle.outside.specs.Links.LinkAnswers.{LinkAnswers}
use Rattle.node_server.specs.Links.LinkUses.{HasHeard}
use Rattle.node_server.proofs.OfLinks.Uses.{uses_none}
use Rattle.asking_end.specs.Agendas.{AgendaActs}
use Rattle.asking_end.specs.Askers.{AskerStep}
use Rattle.asking_end.specs.Service.Runs.{LeavesMore}
use Rattle.asking_end.specs.Service.Talking.{RunStart, TalksSoFar}
use Rattle.asking_end.specs.Service.Talks.{IsTalk}
use Rattle.asking_end.specs.Service.Terminals.{TerminalTold}
use Rattle.asking_end.specs.declared.service.talking.Talk.{Talk}
use Rattle.asking_end.proofs.StepsOn.{nothing_behind}

abbrev pub start_of : {A : Type 0} → Option (List ℕ) → A → TerminalTold → LinkAnswers → RunStart A
start_of title agenda terminal first =
    record { title = title; agenda = agenda; terminal = terminal; heard = first }

none_more : (o : Option (List SinkTold)) → o ≡ option_map (λ (l : List SinkTold). l ++ []) o
none_more None = refl
none_more (Some l) = ap (λ (k : List SinkTold). Some k) (sym (append-nil l))

pub begun : {A E : Type 0} (acts : AgendaActs A E ℕ) (title : Option (List ℕ)) (agenda : A)
    (terminal : TerminalTold) (first : LinkAnswers)
    (talk : Talk A ℕ E) → (t : IsTalk acts title agenda talk) → HasHeard terminal.link first
    → TalksSoFar acts (start_of title agenda terminal first) terminal talk
begun acts title agenda terminal first talk t heard = record {
  now = first;
  given = [];
  taken = [];
  lines = [];
  uses = uses_none terminal.link first heard;
  appends = Appends-none terminal.sink;
  timely = tt;
  moments = [];
  told = none_more terminal.moments;
  written = tt;
  goes = All-nil LeavesMore;
  stands = t.stands;
  said = t.said;
  shown = t.shown;
}

-- the client hasn't ended
pub begun_lasts : {A E : Type 0} (acts : AgendaActs A E ℕ) (title : Option (List ℕ)) (agenda : A)
    (talk : Talk A ℕ E) → IsTalk acts title agenda talk
    → talk.asking.end ≡ None
begun_lasts {A = A} {E = E} acts title agenda talk t =
    t.stands.end ∙ ap (λ (r : AskerStep A E ℕ). r.state.end) (nothing_behind acts title agenda)
