-- What a command that serves leaves outside, and the status that it answers.
use Rattle.std.specs.Prelude.{◌≡◌, ◌⊎◌, ℕ, List, Option, Some, None, option_map, IfSome, codes}
use Rattle.std.specs.Prelude.{Result, [], ◌∷◌}
use Rattle.outside.specs.Sink.{SinkTold}
use Rattle.outside.specs.Links.Clocks.{ClockTold}
use Rattle.outside.specs.Links.Listeners.{ListenerTold}
use Rattle.outside.specs.Names.Outside.{OutsideTold, ClosesIn, ClosesOut, ClosesListener}
use Rattle.outside.specs.Names.Outside.{ClosesClock}
use Rattle.bilateral.specs.Rows.{CentreRows}
use Rattle.node_core.specs.NodeState.{NodeState}
use Rattle.server_main.specs.NodeServer.declared.turn.turn_node.NodeSetup.{NodeSetup}
use Rattle.server_main.specs.NodeServer.Turn.Logged.{turn_setup, turn_log}
use Rattle.texts.specs.Journal.Journals.{journal_text}
use Rattle.commands.specs.declared.io.status.Status.{Status}
use Rattle.commands.specs.declared.io.status.Status.TheVariants as statuses
use Rattle.commands.specs.declared.io.input.TheConstants.{TEXT_LIMIT}
use Rattle.commands.specs.declared.io.input.InputEnd.{InputEnd}
use Rattle.commands.specs.declared.io.input.InputEnd.TheVariants as inputs
use Rattle.commands.specs.declared.io.input.Refusal.TheVariants as refusals
use Rattle.commands.specs.Io.OutsideUse.{Rises, SomeOf, FaultyAt, source_faults, sink_faults}
use Rattle.commands.specs.Io.Saying.{prints, refusal_text, full_text}
use Rattle.commands.specs.Io.Runs.{output_name, TellsSaid, EndsUnread, WritesFile}
use Rattle.commands.specs.Io.Runs.{status_behind}
use Rattle.commands.specs.Io.Plans.{ReadsValue}
use Rattle.commands.specs.Words.Words.{ServeTask, served_limit}
use Rattle.commands.specs.Files.Tables.{tables_in}
use Rattle.server_main.specs.declared.serve_end.ServeEnd.{ServeEnd}
use Rattle.server_main.specs.declared.serve_end.ServeEnd.TheVariants as ends
use Rattle.server_main.specs.Serving.{IsServed, IsUnstarted}
use Rattle.tase_tool.specs.Server.Opening.{input_name, WorkTold, OpensAll}
use Rattle.tase_tool.specs.Server.Courses.{ServerRun, ServeCourse, unread, unshared, unopened, served}
use Rattle.tase_tool.specs.Server.Courses.{tables_read, work_of}

-- the listener, the feed and the clock are closed, as the server left them
pub record ClosesInputs (before after : OutsideTold) (left : WorkTold) : Type 0 where
  pub unlistening : OutsideTold
  pub unfed : OutsideTold
  pub listener : ClosesListener before unlistening left.0
  pub feed : ClosesIn unlistening unfed left.1.0
  pub clock : ClosesClock unfed after left.1.1.0

-- a bad line of the feed and a full history are told, whether memory is left or not; each other end
-- is answered as it is
abbrev pub TellsEnd : ServeEnd → SinkTold → SinkTold → Status → Type 0
TellsEnd ends.Done before after status = (status ≡ statuses.Done) × (after ≡ before)
TellsEnd (ends.BadFeed line) before after status =
    TellsSaid (prints statuses.Input (refusal_text (codes "feed") (refusals.BadLine line)))
    before after status × ((status ≡ statuses.Input) ⊎ (status ≡ statuses.Outside))
TellsEnd ends.Outside before after status = (status ≡ statuses.Outside) × (after ≡ before)
TellsEnd (ends.Full weight limit) before after status =
    TellsSaid (prints statuses.Full (full_text weight limit)) before after status
    × ((status ≡ statuses.Full) ⊎ (status ≡ statuses.Outside))
TellsEnd ends.Memory before after status = (status ≡ statuses.Memory) × (after ≡ before)

-- what a server worked on is closed; behind its lines the plant is told how it ended
pub record ClosesServer (before after : OutsideTold) (left : WorkTold) (end : ServeEnd)
    (status : Status) : Type 0 where
  pub mid : OutsideTold
  pub inputs : ClosesInputs before mid left
  pub plant : SinkTold
  pub tells : TellsEnd end left.1.1.1 plant status
  pub output : ClosesOut mid after plant

-- The journal of a node is written to the file of this name, whatever the status was, and the
-- writing ends so. Without a node nothing is touched.
abbrev pub KeepsNode : List ℕ → Option NodeState → Option Status → Status → OutsideTold
    → OutsideTold → Status → Type 0
KeepsNode name None None status before after result = (result ≡ status) × (after ≡ before)
KeepsNode name None (Some written) status before after result = ⊥
KeepsNode name (Some node) None status before after result = ⊥
KeepsNode name (Some node) (Some written) status before after result =
    WritesFile name (journal_text node.history) before after written
    × (result ≡ status_behind status written)

-- the same, however the writing ends
abbrev pub KeepsJournal : List ℕ → Option NodeState → Status → OutsideTold → OutsideTold → Status
    → Type 0
KeepsJournal name node status before after result =
    (written : Option Status) × KeepsNode name node written status before after result

-- the tables that a server serves, and the octets that its history may weigh
abbrev pub served_setup : ServeTask → ServerRun → NodeSetup
served_setup task run = record { centre = run.centre; limit = served_limit task }

-- what was opened is served and closed again, and then the node's journal is written
pub record RunsOpened (task : ServeTask) (before after : OutsideTold) (run : ServerRun)
    (status : Status) : Type 0 where
  pub serves : IsServed (served_setup task run) run.before run.after
      (option_map (λ node. turn_log node.history) run.node) run.seats run.end
  -- its node is of these tables, and has this limit
  pub of : IfSome run.node (λ node. turn_setup node.setup ≡ served_setup task run)
  pub closed : OutsideTold
  pub ended : Status
  pub closes : ClosesServer before closed (work_of run.after) run.end ended
  pub keeps : KeepsNode task.journal run.node run.written ended closed after status

-- all that the server works on is opened before
pub record RunsServer (task : ServeTask) (before after : OutsideTold) (run : ServerRun)
    (status : Status) : Type 0 where
  pub opened : OutsideTold
  pub opens : OpensAll task.address before opened (Some (work_of run.before))
  pub runs : RunsOpened task opened after run status

-- what the command does behind its tables
abbrev pub ServesBehindTables : ServeTask → ServeCourse → OutsideTold → OutsideTold → Status
    → Type 0
ServesBehindTables task (unread end) before after status =
    EndsUnread (codes "tables") end before after status
ServesBehindTables task (unshared centre) before after status =
    (status ≡ statuses.Memory) × (after ≡ before)
ServesBehindTables task (unopened centre) before after status =
    (status ≡ statuses.Outside) × OpensAll task.address before after None
ServesBehindTables task (served run) before after status = RunsServer task before after run status

-- the spawner's count of faults before and after: a server alone starts jobs
abbrev pub CountsStarts : ServeCourse → ℕ → ℕ → Type 0
CountsStarts (unread end) before after = after ≡ before
CountsStarts (unshared centre) before after = after ≡ before
CountsStarts (unopened centre) before after = after ≡ before
CountsStarts (served run) before after =
    (run.before.starts_refused ≡ before) × (run.after.starts_refused ≡ after)

-- a run of a server of this centre that works on what was opened so
pub record ServesOpened (task : ServeTask) (centre : CentreRows) (opened : WorkTold)
    (before after : OutsideTold) (refused refused_after : ℕ) (status : Status) : Type 0 where
  pub run : ServerRun
  pub of : run.centre ≡ centre
  pub work : work_of run.before ≡ opened
  pub starts : CountsStarts (served run) refused refused_after
  pub runs : RunsOpened task before after run status

-- the course of the command behind tables that were read to this
pub record TakesCourse (task : ServeTask) (read : Result CentreRows InputEnd)
    (before after : OutsideTold) (refused refused_after : ℕ) (status : Status) : Type 0 where
  pub course : ServeCourse
  pub tables : tables_read course ≡ read
  pub goes : ServesBehindTables task course before after status
  pub starts : CountsStarts course refused refused_after

-- the job of the feed or of the clock was refused, which the spawner counted
abbrev pub IsJobRefused : ServeCourse → Type 0
IsJobRefused (unread end) = ⊥
IsJobRefused (unshared centre) = ⊥
IsJobRefused (unopened centre) = ⊥
IsJobRefused (served run) = IsUnstarted run.before run.after run.seats

abbrev pub listener_faults : ListenerTold → ℕ
listener_faults listener = listener.faults

abbrev pub clock_faults : ClockTold → ℕ
clock_faults clock = clock.faults

-- under one of the names or at the address of the command nothing stood at first, or what stood
-- there has a fault now, where that is told
abbrev pub HasFaultyName : ServeTask → OutsideTold → OutsideTold → Type 0
HasFaultyName task before after = SomeOf (task.tables ∷ input_name ∷ [])
    (λ name. FaultyAt source_faults (before.sources name) (after.sources name))
    ⊎ (SomeOf (output_name ∷ task.journal ∷ [])
    (λ name. FaultyAt sink_faults (before.sinks name) (after.sinks name))
    ⊎ (FaultyAt listener_faults (before.network.listeners task.address)
    (after.network.listeners task.address)
    ⊎ FaultyAt clock_faults before.network.clock after.network.clock))

-- Memory was wanting, and for what: for the tables, for what the threads of a server share, for the
-- server, which then left something undone, or for the journal.
abbrev pub LacksMemoryAt : ServeCourse → Type 0
LacksMemoryAt (unread end) = end ≡ inputs.Memory
LacksMemoryAt (unshared centre) = Unit {0}
LacksMemoryAt (unopened centre) = ⊥
LacksMemoryAt (served run) = (run.end ≡ ends.Memory) ⊎ (run.written ≡ Some statuses.Memory)

-- the server came to its end, and the whole journal of its node was written
abbrev pub IsServedToEnd : ServeCourse → Type 0
IsServedToEnd (unread end) = ⊥
IsServedToEnd (unshared centre) = ⊥
IsServedToEnd (unopened centre) = ⊥
IsServedToEnd (served run) = (run.end ≡ ends.Done) × (run.written ≡ Some statuses.Done)

-- a status that the command may answer: its words are a command, and nothing is compared
abbrev pub IsServeStatus : Status → Type 0
IsServeStatus statuses.Done = Unit {0}
IsServeStatus statuses.Input = Unit {0}
IsServeStatus statuses.Outside = Unit {0}
IsServeStatus statuses.Full = Unit {0}
IsServeStatus statuses.Memory = Unit {0}
IsServeStatus status = ⊥

-- a run of `serve`: what it leaves outside, the spawner's count of faults before and after, and the
-- status that it answers
pub record ServesCommand (task : ServeTask) (before after : OutsideTold)
    (refused refused_after : ℕ) (status : Status) : Type 0 where
  pub course : ServeCourse
  pub told : OutsideTold
  pub tables : ReadsValue tables_in task.tables TEXT_LIMIT (tables_read course) before told
  pub goes : ServesBehindTables task course told after status
  pub starts : CountsStarts course refused refused_after
  pub answers : IsServeStatus status
  -- a failure is answered only where the outside's count of faults rose, or a job was refused
  pub outside : status ≡ statuses.Outside
      → Rises before.faults after.faults ⊎ IsJobRefused course
  -- and only where one of the objects outside is missing or has failed, or a job was refused
  pub reason : status ≡ statuses.Outside
      → HasFaultyName task before after ⊎ IsJobRefused course
  -- want of memory is answered only where something was left undone for it
  pub memory : status ≡ statuses.Memory → LacksMemoryAt course
  -- it is called done only where all is
  pub done : status ≡ statuses.Done → IsServedToEnd course
