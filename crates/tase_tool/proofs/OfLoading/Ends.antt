-- How a load ends.
use Rattle.std.proofs.Common.{◌≡◌, ◌≤◌, ℕ, List, Option, Some, None, sym, ap, ◌∙◌}
use Rattle.outside.specs.Names.Outside.{OutsideTold}
use Rattle.commands.specs.declared.io.status.Status.{Status}
use Rattle.commands.specs.declared.io.status.Status.TheVariants.{Done, Usage, Input, Outside, Full}
use Rattle.commands.specs.declared.io.status.Status.TheVariants.{Differs, Memory, Peer}
use Rattle.commands.specs.declared.load.scenario.TheConstants.{MOST_ROUNDS}
use Rattle.commands.specs.declared.words.words.Command.TheVariants.{Load}
use Rattle.commands.specs.Io.Statuses.{OnWhole}
use Rattle.commands.specs.Load.Generated.{load_scenario}
use Rattle.commands.specs.Words.Words.{Task, loads, task_in}
use Rattle.commands.proofs.OfLoad.WrittenRows.{load_tables-read}
use Rattle.commands.proofs.OfWords.Limited.{asked_limited}
use Rattle.tase_replay.specs.Play.{scenario_of}
use Rattle.tase_tool.specs.LoadEnds.{IsLoadEnd, EndsLoad}
use Rattle.tase_tool.specs.Running.{RunsTask}
use Rattle.tase_tool.specs.Saying.{counted_at, load_over, load_said}
use Rattle.tase_tool.proofs.OfLoading.Loaded.{load_setup, scenario_done}

-- what is said of a load is what is counted of it
pub load_done : (rounds : ℕ) → rounds ≤ MOST_ROUNDS → (load_said rounds).status ≡ Done
load_done rounds few =
    ap (λ read. (load_over rounds read).status) load_tables-read
    ∙ ap (λ end. (counted_at (scenario_of load_setup (load_scenario rounds)) end).status)
    (scenario_done rounds few)

ends_so : (said status : Status) → said ≡ Done → OnWhole status (said ≡ status) → IsLoadEnd status
ends_so said Done done answered = tt
ends_so said Usage done answered = absurd cc
ends_so said Input done answered = absurd cc
ends_so said Outside done answered = tt
ends_so said Full done answered = absurd cc
ends_so said Differs done answered = absurd cc
ends_so said Peer done answered = absurd cc
ends_so said Memory done answered = tt

-- so a run of words that ask for one ends, whatever it leaves outside
pub load_ends : (words : List (List ℕ)) (task : Option Task) → task_in words ≡ task
    → (before after : OutsideTold) (refused refused_after : ℕ) (status : Status)
    → RunsTask task before after refused refused_after status → EndsLoad task status
load_ends words None asks before after refused refused_after status runs = tt
load_ends words (Some (loads rounds)) asks before after refused refused_after status runs =
    ends_so (load_said rounds).status status
    (load_done rounds (asked_limited (Some (Load rounds)) words (sym asks)))
    runs.0.said.answered
load_ends words (Some task) asks before after refused refused_after status runs = tt
