-- A client that is run over a terminal: a link, and a sink for what it shows.
use Rattle.std.specs.Prelude.{◌≡◌, ◌++◌, ℕ, List}
use Rattle.outside.specs.Links.LinkAnswers.{LinkAnswers}
use Rattle.bilateral.specs.Rows.{CentreRows}
use Rattle.asking_end.specs.declared.service.run_end.RunEnd.{RunEnd}
use Rattle.asking_end.specs.declared.service.talking.Talk.{Talk}
use Rattle.asking_end.specs.Service.LinkOctets.{octets_given}
use Rattle.asking_end.specs.Service.Runs.{TalksOver}
use Rattle.asking_end.specs.Service.Talks.{IsTalk}
use Rattle.asking_end.specs.Service.Terminals.{TerminalTold}
use Rattle.centre_client.specs.declared.play.Checkback.{Checkback}
use Rattle.centre_client.specs.declared.script.Script.{Script}
use Rattle.centre_client.specs.Checkbacks.{SaysChecked}
use Rattle.centre_client.specs.Clients.{Caller}
use Rattle.centre_client.specs.Scripted.{Scripted, script_acts, scripted, title_of}
use Rattle.centre_client.specs.Scripts.{SpellsScript}

-- a client of these tables that is to play the script which this text spells, before anything has
-- come: what it says then waits, and it has shown nothing
pub record IsClientTalk (rows : CentreRows) (text : List ℕ) (talk : Talk Scripted ℕ Checkback) :
    Type 0 where
  pub script : Script
  pub spelled : SpellsScript rows text script
  pub rows_are : talk.asking.asker.agenda.rows ≡ rows
  pub stands : IsTalk script_acts (title_of rows script) (scripted rows script) talk

-- a client that plays a script is run over a terminal, up to this end
abbrev pub PlaysOver : CentreRows → Script → TerminalTold → TerminalTold → LinkAnswers
    → RunEnd Checkback → Caller → Type 0
PlaysOver rows script before after first end c =
    TalksOver script_acts (title_of rows script) (scripted rows script) before after first end c

-- the same of the script that a text spells; of all that it says no device that is to be selected
-- before is written but behind its checkback
pub record PlaysText (rows : CentreRows) (text : List ℕ) (before after : TerminalTold)
    (first : LinkAnswers) (end : RunEnd Checkback) (c : Caller) : Type 0 where
  pub script : Script
  pub spelled : SpellsScript rows text script
  pub plays : PlaysOver rows script before after first end c
  pub checked : SaysChecked rows script (octets_given plays.given) (plays.taken ++ plays.unsaid)
