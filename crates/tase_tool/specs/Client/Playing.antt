-- What a client's command leaves outside, and the status that it answers.
use Rattle.std.specs.Prelude.{◌≡◌, ◌≢◌, ◌⊎◌, ℕ, List, [], ◌∷◌, Result, Ok, Err, None, Vec, codes}
use Rattle.std.specs.declared.alloc.Global.{Global}
use Rattle.outside.specs.Sink.{SinkTold}
use Rattle.outside.specs.Links.LinkAnswers.{LinkAnswers}
use Rattle.outside.specs.Links.Links.{LinkTold}
use Rattle.outside.specs.Names.Outside.{OutsideTold, ClosesOut}
use Rattle.server_main.specs.NodeServer.Links.LinkUses.{HasHeard}
use Rattle.bilateral.specs.Rows.{CentreRows}
use Rattle.centre_client.specs.declared.script.Script.{Script}
use Rattle.centre_client.specs.declared.fault.ScriptFault.{ScriptFault}
use Rattle.centre_client.specs.Scripts.{HasScriptFault, SpellsScript, IsScriptText}
use Rattle.centre_client.specs.declared.play.Checkback.{Checkback}
use Rattle.centre_client.specs.Clients.{Caller}
use Rattle.centre_client.specs.Runs.{PlaysText}
use Rattle.tase_discover.specs.AskingEnd.declared.end.AskEnd.TheVariants as ends
use Rattle.tase_discover.specs.AskingEnd.declared.service.run_end.RunEnd.{RunEnd}
use Rattle.tase_discover.specs.AskingEnd.declared.service.run_end.RunEnd.TheVariants as runs
use Rattle.tase_discover.specs.AskingEnd.Service.Terminals.{link_terminal}
use Rattle.commands.specs.declared.io.status.Status.{Status}
use Rattle.commands.specs.declared.io.status.Status.TheVariants as statuses
use Rattle.commands.specs.declared.io.input.TheConstants.{TEXT_LIMIT}
use Rattle.commands.specs.declared.io.input.InputEnd.{InputEnd}
use Rattle.commands.specs.declared.io.input.InputEnd.TheVariants.{Refused, Memory}
use Rattle.commands.specs.declared.io.input.Refusal.TheVariants.{BadLine}
use Rattle.commands.specs.Io.Inputs.{ReadsInput}
use Rattle.commands.specs.Io.OutsideUse.{Rises}
use Rattle.commands.specs.Io.Runs.{EndsUnread}
use Rattle.commands.specs.Io.Plans.{ReadsValue}
use Rattle.commands.specs.Words.Words.{ClientTask}
use Rattle.commands.specs.Files.Tables.{tables_in}
use Rattle.tase_tool.specs.Asking.Opening.{OpensEach, OpensBoth, LeavesLink}
use Rattle.tase_tool.specs.Asking.Parts.{HasFaultyObject, HasCleanObjects}
use Rattle.tase_tool.specs.Client.Ending.{TellsRunEnd}

-- a client plays the script that a text spells over a link and standard output, and writes no
-- device that is to be selected before but behind its checkback; the link is closed, and behind
-- what the client showed is told how it ended
pub record PlaysOpened (rows : CentreRows) (text : List ℕ) (link : LinkTold) (sink : SinkTold)
    (before after : OutsideTold) (status : Status) : Type 0 where
  pub gone : LinkTold
  pub shown : SinkTold
  pub end : RunEnd Checkback
  pub client : Caller
  pub plays : (first : LinkAnswers) → HasHeard link first
      → PlaysText rows text (link_terminal link sink) (link_terminal gone shown) first end client
  pub mid : OutsideTold
  pub leaves : LeavesLink before mid gone
  pub told : SinkTold
  pub tells : TellsRunEnd end shown told status
  pub closes : ClosesOut mid after told

-- the same, where the link and standard output are opened before
pub record PlaysAtNode (task : ClientTask) (rows : CentreRows) (text : List ℕ)
    (before after : OutsideTold) (status : Status) : Type 0 where
  pub link : LinkTold
  pub sink : SinkTold
  pub opened : OutsideTold
  pub opens : OpensEach task.address before opened link sink
  pub plays : PlaysOpened rows text link sink opened after status

-- one of them isn't handed out
pub record IsUnconnected (task : ClientTask) (rows : CentreRows) (text : List ℕ)
    (before after : OutsideTold) (status : Status) : Type 0 where
  pub script : Script
  pub spelled : SpellsScript rows text script
  pub answers : status ≡ statuses.Outside
  pub unopened : OpensBoth task.address before after None

-- the client of a script connects to its node
abbrev pub MeetsNode : ClientTask → CentreRows → List ℕ → OutsideTold → OutsideTold → Status
    → Type 0
MeetsNode task rows text before after status = PlaysAtNode task rows text before after status
    ⊎ IsUnconnected task rows text before after status

-- a text is no script: its first bad line is told, and nothing is connected to
pub record RefusesScript (rows : CentreRows) (text : List ℕ) (before after : OutsideTold)
    (status : Status) : Type 0 where
  pub fault : ScriptFault
  pub has : HasScriptFault rows text fault
  pub told : EndsUnread (codes "script") (Refused (BadLine fault.line)) before after status

-- what a text that is to be a script comes to; or memory is wanting, and nothing is touched: then
-- no line of it is bad
abbrev pub PlaysScript : ClientTask → CentreRows → List ℕ → OutsideTold → OutsideTold → Status
    → Type 0
PlaysScript task rows text before after status = MeetsNode task rows text before after status
    ⊎ (RefusesScript rows text before after status
    ⊎ ((status ≡ statuses.Memory) × (after ≡ before) × IsScriptText rows text))

-- what the command does behind its script, which was read to this
abbrev pub GoesBehindScript : ClientTask → CentreRows → Result (Vec ℕ Global) InputEnd
    → OutsideTold → OutsideTold → Status → Type 0
GoesBehindScript task rows (Ok text) before after status =
    PlaysScript task rows text.items before after status
GoesBehindScript task rows (Err end) before after status =
    EndsUnread (codes "script") end before after status

-- it reads its script, and goes on
pub record ReadsScript (task : ClientTask) (rows : CentreRows) (before after : OutsideTold)
    (status : Status) : Type 0 where
  pub read : Result (Vec ℕ Global) InputEnd
  pub mid : OutsideTold
  pub reads : ReadsInput before mid task.script TEXT_LIMIT read
  pub goes : GoesBehindScript task rows read mid after status

-- tables that were read to this are shared, or memory is wanting for that
abbrev pub IsShared : Result CentreRows InputEnd → Result CentreRows InputEnd → Type 0
IsShared (Ok rows) shared = (shared ≡ Ok rows) ⊎ (shared ≡ Err Memory)
IsShared (Err end) shared = shared ≡ Err end

-- what the command does behind its tables, which were read to this
abbrev pub GoesBehindTables : ClientTask → Result CentreRows InputEnd → OutsideTold → OutsideTold
    → Status → Type 0
GoesBehindTables task (Ok rows) before after status = ReadsScript task rows before after status
GoesBehindTables task (Err end) before after status =
    EndsUnread (codes "tables") end before after status

-- under one of the names or at the address of the command nothing stood at first, or what stood
-- there has a fault now, where that is told
abbrev pub HasFaultyPart : ClientTask → OutsideTold → OutsideTold → Type 0
HasFaultyPart task before after =
    HasFaultyObject (task.tables ∷ task.script ∷ []) task.address before after

-- no object under the names and at the address of the command has a fault, where that is told
abbrev pub HasCleanParts : ClientTask → OutsideTold → Type 0
HasCleanParts task before =
    HasCleanObjects (task.tables ∷ task.script ∷ []) task.address before

-- The tables and the script were read, and the client played the script to its end and its release
-- was answered.
pub record IsScriptDone (task : ClientTask) (before after : OutsideTold) : Type 0 where
  pub rows : CentreRows
  pub text : Vec ℕ Global
  pub mid : OutsideTold
  pub last : OutsideTold
  pub tables : ReadsValue tables_in task.tables TEXT_LIMIT (Ok rows) before mid
  pub reads : ReadsInput mid last task.script TEXT_LIMIT (Ok text)
  pub plays : PlaysAtNode task rows text.items last after statuses.Done
  pub finished : plays.plays.end ≡ runs.Ended ends.Finished

-- a run of `client`: what it leaves outside, and the status that it answers
pub record ClientCommand (task : ClientTask) (before after : OutsideTold) (status : Status)
    : Type 0 where
  pub read : Result CentreRows InputEnd
  pub mid : OutsideTold
  pub tables : ReadsValue tables_in task.tables TEXT_LIMIT read before mid
  pub goes : GoesBehindTables task read mid after status
  -- it answers no other words
  pub words : status ≢ statuses.Usage
  -- a failure is answered only where the outside's count of faults rose
  pub outside : status ≡ statuses.Outside → Rises before.faults after.faults
  -- and only where one of the objects outside is missing or has failed
  pub reason : status ≡ statuses.Outside → HasFaultyPart task before after
  -- where no object has an older fault, the count rises only where a failure is answered
  pub exact : HasCleanParts task before → status ≢ statuses.Outside
      → after.faults ≡ before.faults
  -- it is called done only where the script was played to its end
  pub done : status ≡ statuses.Done → IsScriptDone task before after
