-- What a run of the program's words leaves outside, by the command that they ask for.
use Rattle.std.specs.Prelude.{◌≡◌, ◌⊎◌, ℕ, false, Option, Some, None, Result, Ok, Err}
use Rattle.outside.specs.Names.Outside.{OutsideTold}
use Rattle.commands.specs.declared.io.status.Status.{Status}
use Rattle.commands.specs.declared.io.status.Status.TheVariants.{Memory}
use Rattle.commands.specs.Io.Saying.{duty_to_say}
use Rattle.commands.specs.Io.Runs.{IsRun}
use Rattle.commands.specs.Io.Plans.{RunsPlan}
use Rattle.commands.specs.Words.Words.{ServeTask, ClientTask, Task, serves, plays_client}
use Rattle.commands.specs.Words.Words.{serve_seen, client_seen, IsServed}
use Rattle.commands.specs.Words.Words.{DiscoverTask, discovers, discover_seen}
use Rattle.tase_tool.specs.declared.running.Waiting.{Waiting}
use Rattle.tase_tool.specs.declared.running.Waiting.TheVariants.{Serve, Client, Discover}
use Rattle.tase_tool.specs.Client.Playing.{ClientCommand}
use Rattle.tase_tool.specs.Discover.Discovering.{DiscoverCommand}
use Rattle.tase_tool.specs.Server.Serving.{ServesCommand}
use Rattle.tase_tool.specs.Saying.{usage, plan_of}

-- memory ran out before anything was done
abbrev pub LacksMemory : OutsideTold → OutsideTold → Status → Type 0
LacksMemory before after status = (status ≡ Memory) × (after ≡ before)

-- a command goes by its plan, and words that ask for none are told so
abbrev pub RunsOwed : Option Task → OutsideTold → OutsideTold → Status → Type 0
RunsOwed None before after status = IsRun (duty_to_say false usage) before after status
RunsOwed (Some task) before after status = RunsPlan (plan_of task) before after status

-- a server is run; it alone starts jobs, whose refused starts are counted
abbrev pub RunsServe : ServeTask → OutsideTold → OutsideTold → ℕ → ℕ → Status → Type 0
RunsServe task before after refused refused_after status =
    ServesCommand task before after refused refused_after status
    ⊎ (LacksMemory before after status × (refused_after ≡ refused))

-- a client is run
abbrev pub RunsClient : ClientTask → OutsideTold → OutsideTold → Status → Type 0
RunsClient task before after status =
    ClientCommand task before after status ⊎ LacksMemory before after status

-- what a node offers is listed
abbrev pub RunsDiscover : DiscoverTask → OutsideTold → OutsideTold → Status → Type 0
RunsDiscover task before after status =
    DiscoverCommand task before after status ⊎ LacksMemory before after status

-- what a run of the words that ask for this leaves outside, the count of refused starts before and
-- after, and the status that it answers: a server, a client and a listing do as they are told from
-- outside; every other command, and words that ask for none, say what they owe by the texts that
-- they read
abbrev pub RunsTask : Option Task → OutsideTold → OutsideTold → ℕ → ℕ → Status → Type 0
RunsTask (Some (serves task)) before after refused refused_after status =
    RunsServe task before after refused refused_after status
RunsTask (Some (plays_client task)) before after refused refused_after status =
    RunsClient task before after status × (refused_after ≡ refused)
RunsTask (Some (discovers task)) before after refused refused_after status =
    RunsDiscover task before after status × (refused_after ≡ refused)
RunsTask task before after refused refused_after status =
    RunsOwed task before after status × (refused_after ≡ refused)

-- what a command that waits asks for
abbrev pub waits_for : Waiting → Task
waits_for (Serve words) = serves (serve_seen words)
waits_for (Client words) = plays_client (client_seen words)
waits_for (Discover words) = discovers (discover_seen words)

abbrev pub IsWaitLimited : Waiting → Type 0
IsWaitLimited (Serve words) = IsServed (serve_seen words)
IsWaitLimited (Client words) = Unit {0}
IsWaitLimited (Discover words) = Unit {0}

-- what a run of words that waits for nothing leaves: a command that waits is handed back, with
-- nothing done; every other, and words that ask for none, say what they owe; memory may run out
-- before that is told
abbrev pub RunsTexts : Option Task → OutsideTold → OutsideTold → Result Status Waiting → Type 0
RunsTexts task before after (Err waiting) =
    (task ≡ Some (waits_for waiting)) × (after ≡ before)
RunsTexts (Some (serves task)) before after (Ok status) = LacksMemory before after status
RunsTexts (Some (plays_client task)) before after (Ok status) = LacksMemory before after status
RunsTexts (Some (discovers task)) before after (Ok status) = LacksMemory before after status
RunsTexts task before after (Ok status) = RunsOwed task before after status
