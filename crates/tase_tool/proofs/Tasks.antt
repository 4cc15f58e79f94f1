-- What a run comes to by what its texts or a command that waits come to.
use Rattle.std.proofs.Common.{ℕ, true, List, Option, Some, None, is_some, ◌≡◌, refl, sym, inr}
use Rattle.std.proofs.Common.{Ok, true≢false}
use Rattle.outside.specs.Names.Outside.{OutsideTold}
use Rattle.commands.specs.declared.io.status.Status.{Status}
use Rattle.commands.specs.declared.io.status.Status.TheVariants.{Memory}
use Rattle.commands.specs.Io.Saying.{Text}
use Rattle.commands.proofs.OfIo.Plans.{RunsPlan-idle}
use Rattle.commands.specs.Words.Words.{Task, serves, plays_client, discovers}
use Rattle.tase_tool.specs.Saying.{plan_of}
use Rattle.tase_tool.specs.Running.{RunsTask, RunsTexts, waits_for}
use Rattle.tase_tool.specs.Sent.{SendsBy}
use Rattle.tase_tool.specs.declared.running.Waiting.{Waiting}
use Rattle.tase_tool.specs.declared.running.Waiting.TheVariants.{Serve, Client, Discover}

pub RunsTexts-idle : (task : Option Task) (before : OutsideTold)
    → is_some task ≡ true → RunsTexts task before before (Ok Memory)
RunsTexts-idle None before asks = absurd (true≢false (sym asks))
RunsTexts-idle (Some (serves task)) before asks = (refl, refl)
RunsTexts-idle (Some (plays_client task)) before asks = (refl, refl)
RunsTexts-idle (Some (discovers task)) before asks = (refl, refl)
RunsTexts-idle (Some task) before asks = RunsPlan-idle (plan_of task) before

-- what was run by its texts is run
pub RunsTask-texts : (task : Option Task) (before after : OutsideTold) (refused : ℕ)
    (status : Status) → RunsTexts task before after (Ok status)
    → RunsTask task before after refused refused status
RunsTask-texts None before after refused status runs = (runs, refl)
RunsTask-texts (Some (serves task)) before after refused status runs = inr (runs, refl)
RunsTask-texts (Some (plays_client task)) before after refused status runs = (inr runs, refl)
RunsTask-texts (Some (discovers task)) before after refused status runs = (inr runs, refl)
RunsTask-texts (Some task) before after refused status runs = (runs, refl)

-- a command that waits prints for no link
pub waits-send : (waiting : Waiting) (texts : List ℕ → Text) (status : Status)
    (before after : Option (List ℕ))
    → SendsBy (Some (waits_for waiting)) texts status before after
waits-send (Serve words) texts status before after = tt
waits-send (Client words) texts status before after = tt
waits-send (Discover words) texts status before after = tt
