-- An asking end that is run, turn by turn.
use Rattle.std.specs.Prelude.{◌≡◌, ℕ, true, false, List, [], ◌++◌, ◌⊎◌, Option, Some, None}
use Rattle.std.specs.Prelude.{option_map}
use Rattle.std.specs.List.{All}
use Rattle.outside.specs.Sink.{SinkTold, AppendsAll}
use Rattle.outside.specs.Links.LinkAnswers.{LinkAnswer, LinkAnswers}
use Rattle.node_server.specs.Links.LinkUses.{UsesLink}
use Rattle.asking_end.specs.declared.end.AskEnd.TheVariants.{Memory}
use Rattle.asking_end.specs.declared.service.run_end.RunEnd.{RunEnd}
use Rattle.asking_end.specs.declared.service.run_end.RunEnd.TheVariants.{Ended}
use Rattle.asking_end.specs.declared.service.talking.Talk.{Talk}
use Rattle.asking_end.specs.declared.service.running.Intake.{Intake}
use Rattle.asking_end.specs.declared.service.running.Intake.TheVariants.{GoesOn, Ends, Fails}
use Rattle.asking_end.specs.Agendas.{AgendaActs}
use Rattle.asking_end.specs.Askers.{asker_of}
use Rattle.asking_end.specs.Callers.{AskerStands, TakesPiece}
use Rattle.asking_end.specs.Service.LinkOctets.{octets_given}
use Rattle.asking_end.specs.Service.Sends.{IsLastRefused}
use Rattle.asking_end.specs.Service.Runs.{LeavesMore, AreTimely, AreShown, TalksOver}
use Rattle.asking_end.specs.Service.Terminals.{TerminalTold}

-- what is run: a title that is called by, and an agenda; and what a terminal told as it began
pub record RunStart (A : Type 0) : Type 0 where
  pub title : Option (List ℕ)
  pub agenda : A
  pub terminal : TerminalTold
  pub heard : LinkAnswers

-- so it was run so far: what the asking end said was sent but for what waits, and what it showed
-- was written but for what waits
pub record TalksSoFar {A E : Type 0} (acts : AgendaActs A E ℕ) (start : RunStart A)
    (terminal : TerminalTold) (talk : Talk A ℕ E) : Type 0 where
  pub now : LinkAnswers
  pub given : List LinkAnswer
  pub taken : List ℕ
  pub lines : List ℕ
  pub uses : UsesLink start.terminal.link terminal.link start.heard now given taken false
  pub appends : AppendsAll start.terminal.sink terminal.sink lines
  pub timely : AreTimely acts start.title start.agenda start.heard.sent [] given
  pub moments : List SinkTold
  pub told : terminal.moments ≡ option_map (λ told. told ++ moments) start.terminal.moments
  pub written : AreShown acts start.title start.agenda start.terminal.sink [] given moments
  pub goes : All LeavesMore given
  pub stands : AskerStands acts start.title start.agenda (octets_given given) talk.asking
  pub said : (asker_of acts start.title start.agenda (octets_given given)).said
      ≡ taken ++ talk.out.items
  pub shown : (asker_of acts start.title start.agenda (octets_given given)).shown
      ≡ lines ++ talk.shown.items

-- what waited was sent, unless the last send took nothing, and written
pub record IsFlushed {A E : Type 0} (acts : AgendaActs A E ℕ) (start : RunStart A)
    (terminal : TerminalTold) (talk : Talk A ℕ E) : Type 0 where
  pub so_far : TalksSoFar acts start terminal talk
  pub sent : (talk.out.items ≡ [])
      ⊎ (IsLastRefused terminal.link × (so_far.now.after_nothing ≡ true))
  pub written : talk.shown.items ≡ []

-- it has ended so, where the terminal tells this
abbrev pub EndsOver : {A E : Type 0} → AgendaActs A E ℕ → RunStart A → TerminalTold → RunEnd E
    → Talk A ℕ E → Type 0
EndsOver acts start terminal end talk = TalksOver acts start.title start.agenda start.terminal
    terminal start.heard end talk.asking

-- what waited went out; or the run has ended
abbrev pub FlushedBy : {A E : Type 0} → AgendaActs A E ℕ → Option (RunEnd E) → RunStart A
    → TerminalTold → Talk A ℕ E → Type 0
FlushedBy acts None start terminal talk = IsFlushed acts start terminal talk
FlushedBy acts (Some end) start terminal talk = EndsOver acts start terminal end talk

-- one that goes on after a recv; one that has ended, and what it said and showed last waits; or the
-- run has ended
abbrev pub TakenBy : {A E : Type 0} → AgendaActs A E ℕ → Intake E → RunStart A → TerminalTold
    → Talk A ℕ E → Type 0
TakenBy acts GoesOn start terminal talk =
    TalksSoFar acts start terminal talk × (talk.asking.end ≡ None)
TakenBy acts (Ends end) start terminal talk =
    TalksSoFar acts start terminal talk × (talk.asking.end ≡ Some end)
TakenBy acts (Fails end) start terminal talk = EndsOver acts start terminal end talk

-- a turn was made, and it goes on; or the run has ended
abbrev pub TalkedBy : {A E : Type 0} → AgendaActs A E ℕ → Option (RunEnd E) → RunStart A
    → TerminalTold → Talk A ℕ E → Type 0
TalkedBy acts None start terminal talk =
    TalksSoFar acts start terminal talk × (talk.asking.end ≡ None)
TalkedBy acts (Some end) start terminal talk = EndsOver acts start terminal end talk

-- a piece is taken, wherever it stands: what is said and shown of it waits
abbrev pub TakesOn : {A E : Type 0} → AgendaActs A E ℕ → List ℕ → Talk A ℕ E → Talk A ℕ E → Type 0
TakesOn {A = A} acts piece old new = (title : Option (List ℕ)) (agenda : A) (octets : List ℕ)
    → AskerStands acts title agenda octets old.asking
    → TakesPiece acts title agenda octets piece old.out.items new.out.items
    old.shown.items new.shown.items new.asking

-- a piece is heard, and it goes on or has ended; or memory was wanting
abbrev pub HearsPiece : {A E : Type 0} → AgendaActs A E ℕ → Intake E → List ℕ → Talk A ℕ E
    → Talk A ℕ E → Type 0
HearsPiece acts GoesOn piece old new = TakesOn acts piece old new × (new.asking.end ≡ None)
HearsPiece acts (Ends end) piece old new =
    TakesOn acts piece old new × (new.asking.end ≡ Some end)
HearsPiece acts (Fails end) piece old new = end ≡ Ended Memory
