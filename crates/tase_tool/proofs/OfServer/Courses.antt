-- What the course of a command that serves says of its status.
use Rattle.std.proofs.Common.{◌≡◌, ◌⊎◌, ℕ, List, Option, Some, None, Result, Ok, Err, refl, sym}
use Rattle.std.proofs.Common.{◌∙◌}
use Rattle.std.proofs.Common.{ap, subst, inl, inr, true, [], ◌∷◌}
use Rattle.std.specs.Prelude.{option_map, Vec, codes}
use Rattle.std.specs.declared.alloc.Global.{Global}
use Rattle.outside.specs.Sink.{SinkTold}
use Rattle.outside.specs.Names.Outside.{OutsideTold}
use Rattle.bilateral.specs.Rows.{CentreRows}
use Rattle.node_core.specs.NodeState.{NodeState}
use Rattle.server_main.specs.NodeServer.declared.turn.turn_node.NodeSetup.{NodeSetup}
use Rattle.server_main.specs.NodeServer.Turn.Logged.{turn_log}
use Rattle.commands.specs.declared.io.status.Status.{Status}
use Rattle.commands.specs.declared.io.status.Status.TheVariants as statuses
use Rattle.commands.specs.declared.io.input.TheConstants.{TEXT_LIMIT}
use Rattle.commands.specs.declared.io.input.InputEnd.{InputEnd}
use Rattle.commands.specs.declared.io.input.InputEnd.TheVariants as inputs
use Rattle.commands.specs.Io.OutsideUse.{Grows, Rises, source_faults, sink_faults}
use Rattle.commands.specs.Io.Statuses.{is_outside}
use Rattle.commands.specs.Io.Inputs.{is_lost}
use Rattle.commands.specs.Io.Runs.{output_name, EndsUnread, IsFileEnd, status_behind}
use Rattle.commands.specs.Io.Plans.{IsValue, ReadsValue}
use Rattle.commands.proofs.OfIo.Leaving.{Rises-after, Rises-before, Rises-grows, Grows-same}
use Rattle.commands.proofs.OfIo.Entries.{failed_faulty, IsKept, kept_all, kept_used}
use Rattle.commands.specs.Words.Words.{ServeTask}
use Rattle.commands.specs.Files.Tables.{tables_in}
use Rattle.server_main.specs.declared.run.seats.Seats.{Seats}
use Rattle.server_main.specs.declared.serve_end.ServeEnd.{ServeEnd}
use Rattle.server_main.specs.declared.serve_end.ServeEnd.TheVariants as ends
use Rattle.server_main.specs.Serving.{ServerTold, IsServed, IsUnstarted}
use Rattle.tase_tool.specs.Server.Courses.{ServerRun, ServeCourse, unread, unshared, unopened, served}
use Rattle.tase_tool.specs.Server.Courses.{tables_read, work_of}
use Rattle.tase_tool.specs.Server.Serving.{TellsEnd, KeepsNode, ClosesServer, RunsOpened}
use Rattle.tase_tool.specs.Server.Serving.{ServesBehindTables, TakesCourse, IsServeStatus, HasFaultyName}
use Rattle.tase_tool.specs.Server.Serving.{IsJobRefused, LacksMemoryAt, IsServedToEnd}
use Rattle.tase_tool.specs.Server.Serving.{ServesCommand}
use Rattle.tase_tool.proofs.OfServer.Counted.{all-rises, all-same}
use Rattle.tase_tool.proofs.OfServer.Ends.{ended_done, kept_outside, kept_done, closed_outside}
use Rattle.tase_tool.proofs.OfServer.Ends.{closed_grows, kept_memory}
use Rattle.tase_tool.proofs.OfServer.Entries.{faulty_between}
use Rattle.tase_tool.proofs.OfServer.Reasons.{unopened_faulty, runs_reason}

-- ---- the tables

lost_value : (spelled : List ℕ → Result CentreRows ℕ) (read : Result (Vec ℕ Global) InputEnd)
    (result : Result CentreRows InputEnd) → IsValue spelled read result
    → result ≡ Err inputs.Outside → is_lost read ≡ true
lost_value spelled (Ok text) result value lost =
    absurd (subst (λ (r : Result CentreRows InputEnd). IsValue spelled (Ok text) r) lost value)
lost_value spelled (Err end) result value lost =
    let same : end ≡ inputs.Outside = cc in
    ap (λ (e : InputEnd). let r : Result (Vec ℕ Global) InputEnd = Err e in is_lost r) same

-- tables that are lost were counted
tables_rise : (b m : OutsideTold) (name : List ℕ) (result : Result CentreRows InputEnd)
    → ReadsValue tables_in name TEXT_LIMIT result b m → result ≡ Err inputs.Outside
    → Rises b.faults m.faults
tables_rise b m name result reads lost =
    reads.1.opens.uses.counted.cause (lost_value tables_in reads.0 result reads.2 lost)

tables_grow : (b m : OutsideTold) (name : List ℕ) (result : Result CentreRows InputEnd)
    → ReadsValue tables_in name TEXT_LIMIT result b m → Grows b.faults m.faults
tables_grow b m name result reads =
    elim reads.1.opens.uses.counted.kept [
      | inl same ↦ Grows-same b.faults m.faults same
      | inr risen ↦ Rises-grows b.faults m.faults risen.0
    ]

-- ---- a fault outside

unread_outside : (end : InputEnd) (m a : OutsideTold) (status : Status)
    → EndsUnread (codes "tables") end m a status → status ≡ statuses.Outside
    → Rises m.faults a.faults ⊎ ((end ≡ inputs.Outside) × (a ≡ m))
unread_outside (inputs.Refused refusal) m a status ends_so same =
    inl (ends_so.0.uses.counted.cause (ap is_outside same))
unread_outside inputs.Outside m a status ends_so same = inr (refl, ends_so.1)
unread_outside inputs.Memory m a status ends_so same =
    absurd (let e : statuses.Memory ≡ statuses.Outside = sym ends_so.0 ∙ same in cc)

runs_outside : (task : ServeTask) (m a : OutsideTold) (run : ServerRun) (status : Status)
    → RunsOpened task m a run status → status ≡ statuses.Outside
    → Rises m.faults a.faults ⊎ IsUnstarted run.before run.after run.seats
runs_outside task m a run status runs same =
    let cause = closed_outside (IsUnstarted run.before run.after run.seats) run.before run.after m
    runs.closed runs.ended run.end runs.closes runs.serves.outside_cause in
    elim (kept_outside task.journal run.node run.written runs.ended status runs.closed a runs.keeps
    same) [
      | inl before ↦ elim (cause before.0) [
        | inl risen ↦ inl (Rises-before m.faults runs.closed.faults a.faults risen before.1)
        | inr refused ↦ inr refused
      ]
      | inr risen ↦ inl (Rises-after m.faults runs.closed.faults a.faults
          (closed_grows m runs.closed (work_of run.after) run.end runs.ended runs.closes) risen)
    ]

goes_outside : (task : ServeTask) (course : ServeCourse) (b m a : OutsideTold) (status : Status)
    → ReadsValue tables_in task.tables TEXT_LIMIT (tables_read course) b m
    → ServesBehindTables task course m a status → status ≡ statuses.Outside
    → Rises b.faults a.faults ⊎ IsJobRefused course
goes_outside task (unread end) b m a status reads goes same =
    inl (elim (unread_outside end m a status goes same) [
      | inl risen ↦ Rises-after b.faults m.faults a.faults
          (tables_grow b m task.tables (Err end) reads) risen
      | inr lost ↦ subst (λ (o : OutsideTold). Rises b.faults o.faults) (sym lost.1)
          (tables_rise b m task.tables (Err end) reads
          (ap (λ (e : InputEnd). let r : Result CentreRows InputEnd = Err e in r) lost.0))
    ])
goes_outside task (unshared centre) b m a status reads goes same =
    absurd (let e : statuses.Memory ≡ statuses.Outside = sym goes.0 ∙ same in cc)
goes_outside task (unopened centre) b m a status reads goes same =
    inl (Rises-after b.faults m.faults a.faults
    (tables_grow b m task.tables (Ok centre) reads) (all-rises task.address m a goes.1))
goes_outside task (served run) b m a status reads goes same =
    elim (runs_outside task goes.opened a run status goes.runs same) [
      | inl risen ↦ inl (Rises-after b.faults m.faults a.faults
          (tables_grow b m task.tables (Ok run.centre) reads)
          (subst (λ n. Rises n a.faults)
          (all-same task.address m goes.opened (work_of run.before) goes.opens) risen))
      | inr refused ↦ inr refused
    ]

-- ---- its reason

tables_kept : (b m : OutsideTold) (name : List ℕ) (result : Result CentreRows InputEnd)
    → ReadsValue tables_in name TEXT_LIMIT result b m → IsKept b m
tables_kept b m name result reads =
    kept_used (name ∷ []) [] (is_lost reads.0) b m reads.1.opens.uses

tables_reason : (task : ServeTask) (b m : OutsideTold) (result : Result CentreRows InputEnd)
    → ReadsValue tables_in task.tables TEXT_LIMIT result b m → result ≡ Err inputs.Outside
    → HasFaultyName task b m
tables_reason task b m result reads lost =
    elim (reads.1.opens.uses.counted.reason (lost_value tables_in reads.0 result reads.2 lost)) [
      | inl some ↦ elim some [
        | inl failed ↦ inl (inl (failed_faulty source_faults (b.sources task.tables)
            (m.sources task.tables) failed))
        | inr none ↦ absurd none
      ]
      | inr none ↦ absurd none
    ]

unread_reason : (task : ServeTask) (end : InputEnd) (m a : OutsideTold) (status : Status)
    → EndsUnread (codes "tables") end m a status → status ≡ statuses.Outside
    → HasFaultyName task m a ⊎ ((end ≡ inputs.Outside) × (a ≡ m))
unread_reason task (inputs.Refused refusal) m a status ends_so same =
    elim (ends_so.0.uses.counted.reason (ap is_outside same)) [
      | inl none ↦ absurd none
      | inr some ↦ elim some [
        | inl failed ↦ inl (inr (inl (inl (failed_faulty sink_faults (m.sinks output_name)
            (a.sinks output_name) failed))))
        | inr none ↦ absurd none
      ]
    ]
unread_reason task inputs.Outside m a status ends_so same = inr (refl, ends_so.1)
unread_reason task inputs.Memory m a status ends_so same =
    absurd (let e : statuses.Memory ≡ statuses.Outside = sym ends_so.0 ∙ same in cc)

goes_reason : (task : ServeTask) (course : ServeCourse) (b m a : OutsideTold) (status : Status)
    → ReadsValue tables_in task.tables TEXT_LIMIT (tables_read course) b m
    → ServesBehindTables task course m a status → status ≡ statuses.Outside
    → HasFaultyName task b a ⊎ IsJobRefused course
goes_reason task (unread end) b m a status reads goes same =
    inl (elim (unread_reason task end m a status goes same) [
      | inl faulty ↦ faulty_between task b m a a
          (tables_kept b m task.tables (Err end) reads) (kept_all a) faulty
      | inr lost ↦ subst (λ (o : OutsideTold). HasFaultyName task b o) (sym lost.1)
          (tables_reason task b m (Err end) reads
          (ap (λ (e : InputEnd). let r : Result CentreRows InputEnd = Err e in r) lost.0))
    ])
goes_reason task (unshared centre) b m a status reads goes same =
    absurd (let e : statuses.Memory ≡ statuses.Outside = sym goes.0 ∙ same in cc)
goes_reason task (unopened centre) b m a status reads goes same =
    inl (faulty_between task b m a a (tables_kept b m task.tables (Ok centre) reads)
    (kept_all a) (unopened_faulty task m a goes.1))
goes_reason task (served run) b m a status reads goes same =
    elim (runs_reason task m a run status goes same) [
      | inl faulty ↦ inl (faulty_between task b m a a
          (tables_kept b m task.tables (Ok run.centre) reads) (kept_all a) faulty)
      | inr refused ↦ inr refused
    ]

-- ---- all is done

unread_done : {P : Type 0} (end : InputEnd) (m a : OutsideTold)
    → EndsUnread (codes "tables") end m a statuses.Done → P
unread_done {P} (inputs.Refused refusal) m a ends_so =
    elim ends_so.1 [ inl same ↦ absurd cc | inr same ↦ absurd cc ]
unread_done {P} inputs.Outside m a ends_so =
    absurd (let e : statuses.Done ≡ statuses.Outside = ends_so.0 in cc)
unread_done {P} inputs.Memory m a ends_so =
    absurd (let e : statuses.Done ≡ statuses.Memory = ends_so.0 in cc)

runs_done : (name : List ℕ) (node : Option NodeState) (written : Option Status)
    (setup : NodeSetup) (before after : ServerTold) (seats : Seats) (end : ServeEnd)
    (ended : Status) (b m a : OutsideTold)
    → IsServed setup before after (option_map (λ n. turn_log n.history) node) seats end
    → ClosesServer b m (work_of after) end ended
    → KeepsNode name node written ended m a statuses.Done
    → (end ≡ ends.Done) × (written ≡ Some statuses.Done)
runs_done name None (Some written) setup before after seats end ended b m a serves closes keeps =
    absurd keeps
runs_done name None None setup before after seats end ended b m a serves closes keeps =
    let is_done : end ≡ ends.Done = ended_done end after.plant closes.plant
    (subst (λ s. TellsEnd end after.plant closes.plant s) (sym keeps.0) closes.tells) in
    let is_memory : end ≡ ends.Memory = serves.comes.memory in absurd cc
runs_done name (Some node) written setup before after seats end ended b m a serves closes keeps =
    let both = kept_done name node written ended m a keeps in (
      ended_done end after.plant closes.plant
          (subst (λ s. TellsEnd end after.plant closes.plant s) both.0 closes.tells),
      both.1,
    )

goes_done : (task : ServeTask) (course : ServeCourse) (m a : OutsideTold)
    → ServesBehindTables task course m a statuses.Done → IsServedToEnd course
goes_done task (unread end) m a goes = unread_done end m a goes
goes_done task (unshared centre) m a goes =
    absurd (let e : statuses.Done ≡ statuses.Memory = goes.0 in cc)
goes_done task (unopened centre) m a goes =
    absurd (let e : statuses.Done ≡ statuses.Outside = goes.0 in cc)
goes_done task (served run) m a goes =
    runs_done task.journal run.node run.written _ run.before run.after run.seats run.end
    goes.runs.ended goes.opened goes.runs.closed a goes.runs.serves goes.runs.closes goes.runs.keeps

-- ---- want of memory

unread_memory : (end : InputEnd) (m a : OutsideTold)
    → EndsUnread (codes "tables") end m a statuses.Memory → end ≡ inputs.Memory
unread_memory (inputs.Refused refusal) m a ends_so =
    absurd (elim ends_so.1 [ inl same ↦ cc | inr same ↦ cc ])
unread_memory inputs.Outside m a ends_so =
    absurd (let e : statuses.Memory ≡ statuses.Outside = ends_so.0 in cc)
unread_memory inputs.Memory m a ends_so = refl

goes_memory : (task : ServeTask) (course : ServeCourse) (m a : OutsideTold)
    → ServesBehindTables task course m a statuses.Memory → LacksMemoryAt course
goes_memory task (unread end) m a goes = unread_memory end m a goes
goes_memory task (unshared centre) m a goes = tt
goes_memory task (unopened centre) m a goes =
    absurd (let e : statuses.Memory ≡ statuses.Outside = goes.0 in cc)
goes_memory task (served run) m a goes =
    kept_memory task.journal run.node run.written run.end run.after.plant goes.runs.closes.plant
    goes.runs.ended goes.runs.closed a goes.runs.closes.tells goes.runs.keeps

-- ---- the status

is_one_of : (one other status : Status) → IsServeStatus one → IsServeStatus other
    → (status ≡ one) ⊎ (status ≡ other) → IsServeStatus status
is_one_of one other status first next (inl same) =
    subst (λ s. IsServeStatus s) (sym same) first
is_one_of one other status first next (inr same) =
    subst (λ s. IsServeStatus s) (sym same) next

unread_answers : (end : InputEnd) (m a : OutsideTold) (status : Status)
    → EndsUnread (codes "tables") end m a status → IsServeStatus status
unread_answers (inputs.Refused refusal) m a status ends_so =
    is_one_of statuses.Input statuses.Outside status tt tt ends_so.1
unread_answers inputs.Outside m a status ends_so =
    subst (λ s. IsServeStatus s) (sym ends_so.0) tt
unread_answers inputs.Memory m a status ends_so =
    subst (λ s. IsServeStatus s) (sym ends_so.0) tt

ended_answers : (end : ServeEnd) (k l : SinkTold) (status : Status) → TellsEnd end k l status
    → IsServeStatus status
ended_answers ends.Done k l status tells = subst (λ s. IsServeStatus s) (sym tells.0) tt
ended_answers (ends.BadFeed line) k l status tells =
    is_one_of statuses.Input statuses.Outside status tt tt tells.1
ended_answers ends.Outside k l status tells = subst (λ s. IsServeStatus s) (sym tells.0) tt
ended_answers (ends.Full weight limit) k l status tells =
    is_one_of statuses.Full statuses.Outside status tt tt tells.1
ended_answers ends.Memory k l status tells = subst (λ s. IsServeStatus s) (sym tells.0) tt

written_answers : (written ended : Status) → IsFileEnd written → IsServeStatus ended
    → IsServeStatus (status_behind ended written)
written_answers statuses.Done ended file answers = answers
written_answers statuses.Outside ended file answers = tt
written_answers statuses.Memory ended file answers = tt
written_answers other ended file answers = absurd file

kept_answers : (name : List ℕ) (node : Option NodeState) (written : Option Status)
    (ended status : Status) (m a : OutsideTold) → KeepsNode name node written ended m a status
    → IsServeStatus ended → IsServeStatus status
kept_answers name None None ended status m a keeps answers =
    subst (λ s. IsServeStatus s) (sym keeps.0) answers
kept_answers name None (Some written) ended status m a keeps answers = absurd keeps
kept_answers name (Some node) None ended status m a keeps answers = absurd keeps
kept_answers name (Some node) (Some written) ended status m a keeps answers =
    subst (λ s. IsServeStatus s) (sym keeps.1)
    (written_answers written ended keeps.0.ends answers)

goes_answers : (task : ServeTask) (course : ServeCourse) (m a : OutsideTold) (status : Status)
    → ServesBehindTables task course m a status → IsServeStatus status
goes_answers task (unread end) m a status goes = unread_answers end m a status goes
goes_answers task (unshared centre) m a status goes =
    subst (λ s. IsServeStatus s) (sym goes.0) tt
goes_answers task (unopened centre) m a status goes =
    subst (λ s. IsServeStatus s) (sym goes.0) tt
goes_answers task (served run) m a status goes =
    kept_answers task.journal run.node run.written goes.runs.ended status goes.runs.closed a
    goes.runs.keeps
    (ended_answers run.end run.after.plant goes.runs.closes.plant goes.runs.ended
    goes.runs.closes.tells)

-- ---- the whole

pub serves-command : (task : ServeTask) (read : Result CentreRows InputEnd)
    (b m a : OutsideTold) (refused later : ℕ) (status : Status)
    → ReadsValue tables_in task.tables TEXT_LIMIT read b m
    → TakesCourse task read m a refused later status → ServesCommand task b a refused later status
serves-command task read b m a refused later status reads goes =
    let tables : ReadsValue tables_in task.tables TEXT_LIMIT (tables_read goes.course) b m =
    subst (λ (r : Result CentreRows InputEnd). ReadsValue tables_in task.tables TEXT_LIMIT r b m)
    (sym goes.tables) reads in record {
      course = goes.course;
      told = m;
      tables = tables;
      goes = goes.goes;
      starts = goes.starts;
      answers = goes_answers task goes.course m a status goes.goes;
      outside = λ same. goes_outside task goes.course b m a status tables goes.goes same;
      reason = λ same. goes_reason task goes.course b m a status tables goes.goes same;
      memory = λ same. goes_memory task goes.course m a
          (subst (λ s. ServesBehindTables task goes.course m a s) same goes.goes);
      done = λ same. goes_done task goes.course m a
          (subst (λ s. ServesBehindTables task goes.course m a s) same goes.goes);
    }
