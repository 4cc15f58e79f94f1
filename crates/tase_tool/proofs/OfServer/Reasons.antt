-- Which object outside is the reason of a failure of a command that serves.
use Rattle.std.proofs.Common.{◌≡◌, ◌⊎◌, ℕ, ◌<◌, List, [], ◌∷◌, Option, Some, None, sym, ◌∙◌, ap}
use Rattle.std.proofs.Common.{subst, inl, inr}
use Rattle.std.specs.Prelude.{codes}
use Rattle.outside.specs.Sink.{SinkTold}
use Rattle.outside.specs.Names.Outside.{OutsideTold, NetworkTold}
use Rattle.node_core.specs.NodeState.{NodeState}
use Rattle.commands.specs.declared.io.status.Status.{Status}
use Rattle.commands.specs.declared.io.status.Status.TheVariants as statuses
use Rattle.commands.specs.declared.io.input.Refusal.TheVariants as refusals
use Rattle.commands.specs.Io.Statuses.{is_outside}
use Rattle.commands.specs.Io.OutsideUse.{FaultyAt, source_faults, sink_faults}
use Rattle.commands.specs.Io.Saying.{Said, prints, refusal_text, full_text}
use Rattle.commands.specs.Io.Runs.{output_name, TellsSaid}
use Rattle.commands.proofs.OfIo.Entries.{IsLater, lifted, failed_faulty, unhanded, handed_faulty}
use Rattle.commands.proofs.OfIo.Entries.{handed_later, IsKept, kept_all, kept_used}
use Rattle.commands.specs.Words.Words.{ServeTask}
use Rattle.server_main.specs.declared.serve_end.ServeEnd.{ServeEnd}
use Rattle.server_main.specs.declared.serve_end.ServeEnd.TheVariants as ends
use Rattle.server_main.specs.Serving.{ServerTold, KeepsNames, HasFailed, IsUnstarted}
use Rattle.tase_tool.specs.Server.Opening.{input_name, WorkTold, OpensTimed, OpensFed, OpensAll}
use Rattle.tase_tool.specs.Server.Courses.{ServerRun, work_of}
use Rattle.tase_tool.specs.Server.Serving.{TellsEnd, ClosesServer, KeepsNode, RunsServer}
use Rattle.tase_tool.specs.Server.Serving.{listener_faults, clock_faults, HasFaultyName}
use Rattle.tase_tool.proofs.OfServer.Ends.{ended_outside, written_outside, risen_positive}
use Rattle.tase_tool.proofs.OfServer.Entries.{clock_unhanded, clock_faulty, faulty_between}

-- ---- what isn't handed out

untimed_faulty : (task : ServeTask) (t f p a : OutsideTold) → f.sinks ≡ t.sinks
    → f.network.clock ≡ t.network.clock → OpensTimed f p None → HasFaultyName task t a
untimed_faulty task t f p a sinks clock (inl none) =
    inr (inr (inr (subst (λ k. FaultyAt clock_faults k a.network.clock) clock
    (clock_unhanded f.network.clock a.network.clock none.clock))))
untimed_faulty task t f p a sinks clock (inr timed) =
    let same : timed.1.sinks ≡ t.sinks =
    ap (λ (x : OutsideTold). x.sinks) timed.3.rest ∙ sinks in
    inr (inl (inl (subst (λ k. FaultyAt sink_faults (k output_name) (a.sinks output_name)) same
    (unhanded sink_faults (λ sink. sink.name) timed.1.sinks output_name
    (timed.1.sinks output_name) (a.sinks output_name) timed.4.sink))))

unfed_faulty : (task : ServeTask) (t l o a : OutsideTold) → l.sources ≡ t.sources
    → l.sinks ≡ t.sinks → l.network.clock ≡ t.network.clock → OpensFed l o None
    → HasFaultyName task t a
unfed_faulty task t l o a sources sinks clock (inl none) =
    inl (inr (inl (subst (λ k. FaultyAt source_faults (k input_name) (a.sources input_name))
    sources (unhanded source_faults (λ source. source.name) l.sources input_name
    (l.sources input_name) (a.sources input_name) none.source))))
unfed_faulty task t l o a sources sinks clock (inr fed) =
    untimed_faulty task t fed.1 fed.2 a (fed.3.sinks ∙ sinks)
    (ap (λ (n : NetworkTold). n.clock) fed.3.network ∙ clock) fed.4

pub unopened_faulty : (task : ServeTask) (t a : OutsideTold) → OpensAll task.address t a None
    → HasFaultyName task t a
unopened_faulty task t a (inl none) =
    inr (inr (inl (unhanded listener_faults (λ listener. listener.name) t.network.listeners
    task.address (t.network.listeners task.address) (a.network.listeners task.address)
    none.listener)))
unopened_faulty task t a (inr some) =
    unfed_faulty task t some.1 some.2 a (ap (λ (x : OutsideTold). x.sources) some.3.rest)
    (ap (λ (x : OutsideTold). x.sinks) some.3.rest)
    (ap (λ (x : OutsideTold). x.network.clock) some.3.rest) some.4

-- ---- the plant keeps its name

said_name : (said : Said) (one : Status) (k l : SinkTold) (status : Status)
    → (TellsSaid said k l one → l.name ≡ k.name)
    → (status ≡ one) ⊎ (status ≡ statuses.Outside) → TellsSaid said k l status
    → l.name ≡ k.name
said_name said one k l status named (inl same) tells =
    named (subst (λ s. TellsSaid said k l s) same tells)
said_name said one k l status named (inr same) tells =
    let part : TellsSaid said k l statuses.Outside =
    subst (λ s. TellsSaid said k l s) same tells in part.1.name

ended_name : (end : ServeEnd) (k l : SinkTold) (status : Status) → TellsEnd end k l status
    → l.name ≡ k.name
ended_name ends.Done k l status tells = ap (λ (s : SinkTold). s.name) tells.1
ended_name (ends.BadFeed line) k l status tells =
    said_name (prints statuses.Input (refusal_text (codes "feed") (refusals.BadLine line)))
    statuses.Input k l status (λ all. all.1.name) tells.1 tells.0
ended_name ends.Outside k l status tells = ap (λ (s : SinkTold). s.name) tells.1
ended_name (ends.Full weight limit) k l status tells =
    said_name (prints statuses.Full (full_text weight limit)) statuses.Full k l status
    (λ all. all.1.name) tells.1 tells.0
ended_name ends.Memory k l status tells = ap (λ (s : SinkTold). s.name) tells.1

-- ---- what failed while it was handed out

module _ (task : ServeTask) (t o d : OutsideTold) (w left : WorkTold) (end : ServeEnd)
    (status : Status) (opens : OpensAll task.address t o (Some w))
    (closes : ClosesServer o d left end status) where
  listener_failed : left.0.name ≡ w.0.name → 0 < left.0.faults → HasFaultyName task t d
  listener_failed named positive =
      let fed : OpensFed opens.0 o (Some w.1) = opens.2 in
      let timed : OpensTimed fed.0 o (Some w.1.1) = fed.2 in
      let opened : o.network.listeners ≡ opens.0.network.listeners =
      ap (λ (n : NetworkTold). n.listeners) timed.2.network
      ∙ ap (λ (x : OutsideTold). x.network.listeners) timed.1.rest
      ∙ ap (λ (n : NetworkTold). n.listeners) fed.1.network in
      let closed : d.network.listeners ≡ closes.inputs.unlistening.network.listeners =
      ap (λ (n : NetworkTold). n.listeners) closes.output.network
      ∙ ap (λ (x : OutsideTold). x.network.listeners) closes.inputs.clock.rest
      ∙ ap (λ (n : NetworkTold). n.listeners) closes.inputs.feed.network in
      inr (inr (inl (subst (λ k. FaultyAt listener_faults (t.network.listeners task.address)
      (k task.address)) (sym closed)
      (handed_faulty listener_faults (λ listener. listener.name) task.address
      t.network.listeners opens.0.network.listeners o.network.listeners
      closes.inputs.unlistening.network.listeners w.0 left.0 opens.1.listener
      opens.1.listeners opened named closes.inputs.listener.listeners positive))))

  feed_failed : left.1.0.name ≡ w.1.0.name → 0 < left.1.0.faults → HasFaultyName task t d
  feed_failed named positive =
      let fed : OpensFed opens.0 o (Some w.1) = opens.2 in
      let timed : OpensTimed fed.0 o (Some w.1.1) = fed.2 in
      let first : opens.0.sources ≡ t.sources =
      ap (λ (x : OutsideTold). x.sources) opens.1.rest in
      let opened : closes.inputs.unlistening.sources ≡ fed.0.sources =
      ap (λ (x : OutsideTold). x.sources) closes.inputs.listener.rest ∙ timed.2.sources
      ∙ ap (λ (x : OutsideTold). x.sources) timed.1.rest in
      let closed : d.sources ≡ closes.inputs.unfed.sources =
      closes.output.sources ∙ ap (λ (x : OutsideTold). x.sources) closes.inputs.clock.rest in
      inl (inr (inl (subst (λ k. FaultyAt source_faults (t.sources input_name) (k input_name))
      (sym closed)
      (subst (λ k. FaultyAt source_faults (k input_name)
      (closes.inputs.unfed.sources input_name)) first
      (handed_faulty source_faults (λ source. source.name) input_name opens.0.sources
      fed.0.sources closes.inputs.unlistening.sources closes.inputs.unfed.sources w.1.0
      left.1.0 fed.1.source fed.1.sources opened named closes.inputs.feed.sources
      positive)))))

  clock_failed : 0 < left.1.1.0.faults → HasFaultyName task t d
  clock_failed positive =
      let fed : OpensFed opens.0 o (Some w.1) = opens.2 in
      let timed : OpensTimed fed.0 o (Some w.1.1) = fed.2 in
      let first : fed.0.network.clock ≡ t.network.clock =
      ap (λ (n : NetworkTold). n.clock) fed.1.network
      ∙ ap (λ (x : OutsideTold). x.network.clock) opens.1.rest in
      let opened : closes.inputs.unfed.network.clock ≡ timed.0.network.clock =
      ap (λ (n : NetworkTold). n.clock) closes.inputs.feed.network
      ∙ ap (λ (x : OutsideTold). x.network.clock) closes.inputs.listener.rest
      ∙ ap (λ (n : NetworkTold). n.clock) timed.2.network in
      inr (inr (inr (subst (λ k. FaultyAt clock_faults k d.network.clock) first
      (clock_faulty fed.0.network.clock timed.0.network.clock
      closes.inputs.unfed.network.clock d.network.clock w.1.1.0 left.1.1.0 timed.1.clock
      timed.1.lent opened
      (ap (λ (n : NetworkTold). n.clock) closes.output.network ∙ closes.inputs.clock.back)
      positive))))

  plant_failed : left.1.1.1.name ≡ w.1.1.1.name → 0 < closes.plant.faults
      → HasFaultyName task t d
  plant_failed named positive =
      let fed : OpensFed opens.0 o (Some w.1) = opens.2 in
      let timed : OpensTimed fed.0 o (Some w.1.1) = fed.2 in
      let first : timed.0.sinks ≡ t.sinks =
      ap (λ (x : OutsideTold). x.sinks) timed.1.rest ∙ fed.1.sinks
      ∙ ap (λ (x : OutsideTold). x.sinks) opens.1.rest in
      let opened : closes.mid.sinks ≡ o.sinks =
      ap (λ (x : OutsideTold). x.sinks) closes.inputs.clock.rest ∙ closes.inputs.feed.sinks
      ∙ ap (λ (x : OutsideTold). x.sinks) closes.inputs.listener.rest in
      inr (inl (inl (subst (λ k. FaultyAt sink_faults (k output_name) (d.sinks output_name))
      first
      (handed_faulty sink_faults (λ sink. sink.name) output_name timed.0.sinks o.sinks
      closes.mid.sinks d.sinks w.1.1.1 closes.plant timed.2.sink timed.2.sinks opened
      (ended_name end left.1.1.1 closes.plant status closes.tells ∙ named)
      closes.output.sinks positive))))

  -- each sink is as it was, or stands there again
  sinks_later : left.1.1.1.name ≡ w.1.1.1.name → (name : List ℕ)
      → IsLater (t.sinks name) (d.sinks name)
  sinks_later named name =
      let fed : OpensFed opens.0 o (Some w.1) = opens.2 in
      let timed : OpensTimed fed.0 o (Some w.1.1) = fed.2 in
      let first : timed.0.sinks ≡ t.sinks =
      ap (λ (x : OutsideTold). x.sinks) timed.1.rest ∙ fed.1.sinks
      ∙ ap (λ (x : OutsideTold). x.sinks) opens.1.rest in
      let opened : closes.mid.sinks ≡ o.sinks =
      ap (λ (x : OutsideTold). x.sinks) closes.inputs.clock.rest ∙ closes.inputs.feed.sinks
      ∙ ap (λ (x : OutsideTold). x.sinks) closes.inputs.listener.rest in
      subst (λ k. IsLater (k name) (d.sinks name)) first
      (handed_later sink_faults (λ sink. sink.name) output_name timed.0.sinks o.sinks
      closes.mid.sinks d.sinks w.1.1.1 closes.plant timed.2.sink timed.2.sinks opened
      (ended_name end left.1.1.1 closes.plant status closes.tells ∙ named)
      closes.output.sinks name)

-- ---- a run of a server

failed_reason : (task : ServeTask) (t o d : OutsideTold) (before after : ServerTold)
    (end : ServeEnd) (status : Status) → OpensAll task.address t o (Some (work_of before))
    → (closes : ClosesServer o d (work_of after) end status) → KeepsNames before after
    → closes.plant ≡ after.plant → HasFailed before after → HasFaultyName task t d
failed_reason task t o d before after end status opens closes names same (inl listener) =
    listener_failed task t o d (work_of before) (work_of after) end status opens closes
    names.listener (risen_positive before.listener.faults after.listener.faults listener)
failed_reason task t o d before after end status opens closes names same (inr (inl plant)) =
    plant_failed task t o d (work_of before) (work_of after) end status opens closes
    names.plant (subst (λ (k : SinkTold). 0 < k.faults) (sym same)
    (risen_positive before.plant.faults after.plant.faults plant))
failed_reason task t o d before after end status opens closes names same (inr (inr (inl feed))) =
    feed_failed task t o d (work_of before) (work_of after) end status opens closes
    names.feed (risen_positive before.feed.faults after.feed.faults feed)
failed_reason task t o d before after end status opens closes names same (inr (inr (inr clock))) =
    clock_failed task t o d (work_of before) (work_of after) end status opens closes
    (risen_positive before.clock.faults after.clock.faults clock)

kept_node : (name : List ℕ) (node : Option NodeState) (written : Option Status)
    (ended status : Status) (d a : OutsideTold) → KeepsNode name node written ended d a status
    → IsKept d a
kept_node name None None ended status d a keeps =
    subst (λ (o : OutsideTold). IsKept d o) (sym keeps.1) (kept_all d)
kept_node name None (Some written) ended status d a keeps = absurd keeps
kept_node name (Some node) None ended status d a keeps = absurd keeps
kept_node name (Some node) (Some written) ended status d a keeps =
    kept_used [] (name ∷ []) (is_outside written) d a keeps.0.tells.uses

-- the journal failed, or the status was so before
journal_reason : (task : ServeTask) (t d a : OutsideTold) (node : Option NodeState)
    (written : Option Status) (ended status : Status)
    → KeepsNode task.journal node written ended d a status
    → status ≡ statuses.Outside
    → ((name : List ℕ) → IsLater (t.sinks name) (d.sinks name))
    → (ended ≡ statuses.Outside) ⊎ HasFaultyName task t a
journal_reason task t d a None None ended status keeps same later = inl (sym keeps.0 ∙ same)
journal_reason task t d a None (Some written) ended status keeps same later = absurd keeps
journal_reason task t d a (Some node) None ended status keeps same later = absurd keeps
journal_reason task t d a (Some node) (Some written) ended status keeps same later =
    elim (written_outside written ended keeps.0.ends (sym keeps.1 ∙ same)) [
      | inl before ↦ inl before
      | inr failed ↦ elim (keeps.0.tells.uses.counted.reason (ap is_outside failed)) [
        | inl none ↦ absurd none
        | inr some ↦ elim some [
          | inl journal ↦ inr (inr (inl (inr (inl (lifted sink_faults (t.sinks task.journal)
              (d.sinks task.journal) (a.sinks task.journal) (later task.journal)
              (failed_faulty sink_faults (d.sinks task.journal) (a.sinks task.journal) journal))))))
          | inr none ↦ absurd none
        ]
      ]
    ]

pub runs_reason : (task : ServeTask) (t a : OutsideTold) (run : ServerRun) (status : Status)
    → RunsServer task t a run status → status ≡ statuses.Outside
    → HasFaultyName task t a ⊎ IsUnstarted run.before run.after run.seats
runs_reason task t a run status goes same =
    let w = work_of run.before in
    let left = work_of run.after in
    let closes = goes.runs.closes in
    let names = goes.runs.serves.names in
    let kept = kept_node task.journal run.node run.written goes.runs.ended status goes.runs.closed a
    goes.runs.keeps in
    let wider = faulty_between task t t goes.runs.closed a (kept_all t) kept in
    let by_server = failed_reason task t goes.opened goes.runs.closed run.before run.after run.end
    goes.runs.ended goes.opens closes names in
    elim (journal_reason task t goes.runs.closed a run.node run.written goes.runs.ended
    status
    goes.runs.keeps same (sinks_later task t goes.opened goes.runs.closed w left run.end
    goes.runs.ended goes.opens closes names.plant)) [
      | inl before ↦ elim (ended_outside run.end run.after.plant closes.plant
          (subst (λ s. TellsEnd run.end run.after.plant closes.plant s) before closes.tells)) [
            | inl ended ↦ elim (goes.runs.serves.outside_cause ended.0) [
              | inl failed ↦ inl (wider (by_server ended.1 failed))
              | inr refused ↦ inr refused
            ]
            | inr positive ↦ inl (wider (plant_failed task t goes.opened goes.runs.closed w left
                run.end goes.runs.ended goes.opens closes names.plant positive))
          ]
      | inr faulty ↦ inl faulty
    ]
