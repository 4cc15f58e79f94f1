use Rattle.std.proofs.Common.{refl, sym, subst, Some}
use Rattle.std.specs.Prelude.{map, string_bytes}
use Rattle.commands.specs.Io.Saying.{texts_of}
use Rattle.commands.specs.Words.Words.{task_in}
use Rattle.outside.specs.Names.Outside.{OutsideTold}
use Rattle.tase_tool.specs.Running.{RunsTask, waits_for}
use Rattle.tase_tool.specs.Sent.{SendsBy}
use Rattle.tase_tool.specs.Lacking.{LacksFor}
use Rattle.tase_tool.proofs.Lacking.{waits_lack}
use Rattle.tase_tool.proofs.OfLoading.Ends.{load_ends}
use Rattle.tase_tool.proofs.Sending.{output_of}
use Rattle.tase_tool.proofs.Tasks.{RunsTask-texts, waits-send}
use Rattle.tase_tool.proofs.running.run.Goals as goal

pub returns-in-Ok-clause-runs : goal.returns-in-Ok-clause-runs
returns-in-Ok-clause-runs g c =
    RunsTask-texts (task_in (map string_bytes c.args.words.now))
    (g.O.Outside.told c.args.outside.now) (g.O.Outside.told c.run_texts.new.outside)
    c.args.spawner.now.told.faults c.in-Ok.status c.in-Ok.ensures.runs

pub returns-in-Err-clause-runs : goal.returns-in-Err-clause-runs
returns-in-Err-clause-runs g c =
    let after = g.O.Outside.told c.run_waiting.new.outside in
    subst (λ task. RunsTask task (g.O.Outside.told c.args.outside.now) after
    c.args.spawner.now.told.faults c.run_waiting.new.spawner.told.faults c.run_waiting.result)
    (sym c.in-Err.ensures.runs.0)
    (subst (λ (o : OutsideTold). RunsTask (Some (waits_for c.in-Err.waiting)) o after
    c.args.spawner.now.told.faults c.run_waiting.new.spawner.told.faults c.run_waiting.result)
    c.in-Err.ensures.runs.1 c.run_waiting.ensures.runs)

pub returns-in-Ok-clause-load : goal.returns-in-Ok-clause-load
returns-in-Ok-clause-load g c =
    load_ends (map string_bytes c.args.words.now) (task_in (map string_bytes c.args.words.now)) refl
    (g.O.Outside.told c.args.outside.now) (g.O.Outside.told c.run_texts.new.outside)
    c.args.spawner.now.told.faults c.args.spawner.now.told.faults c.in-Ok.status
    (returns-in-Ok-clause-runs g c)

pub returns-in-Err-clause-load : goal.returns-in-Err-clause-load
returns-in-Err-clause-load g c =
    load_ends (map string_bytes c.args.words.now) (task_in (map string_bytes c.args.words.now)) refl
    (g.O.Outside.told c.args.outside.now) (g.O.Outside.told c.run_waiting.new.outside)
    c.args.spawner.now.told.faults c.run_waiting.new.spawner.told.faults c.run_waiting.result
    (returns-in-Err-clause-runs g c)

pub returns-in-Err-clause-sent : goal.returns-in-Err-clause-sent
returns-in-Err-clause-sent g c =
    subst (λ task. SendsBy task (texts_of (g.O.Outside.told c.args.outside.now))
    c.run_waiting.result (output_of (g.O.Outside.told c.args.outside.now).sinks)
    (output_of (g.O.Outside.told c.run_waiting.new.outside).sinks))
    (sym c.in-Err.ensures.runs.0)
    (waits-send c.in-Err.waiting (texts_of (g.O.Outside.told c.args.outside.now))
    c.run_waiting.result (output_of (g.O.Outside.told c.args.outside.now).sinks)
    (output_of (g.O.Outside.told c.run_waiting.new.outside).sinks))

pub returns-in-Ok-clause-memory : goal.returns-in-Ok-clause-memory
returns-in-Ok-clause-memory g c = c.in-Ok.ensures.memory

pub returns-in-Err-clause-memory : goal.returns-in-Err-clause-memory
returns-in-Err-clause-memory g c =
    let before = g.O.Outside.told c.args.outside.now in
    let after = g.O.Outside.told c.run_waiting.new.outside in
    λ lack. subst (λ task. LacksFor task before after) (sym c.in-Err.ensures.runs.0)
    (subst (λ (o : OutsideTold). LacksFor (Some (waits_for c.in-Err.waiting)) o after)
    c.in-Err.ensures.runs.1
    (waits_lack c.in-Err.waiting (g.O.Outside.told c.run_texts.new.outside) after
    c.args.spawner.now.told.faults c.run_waiting.new.spawner.told.faults c.run_waiting.result
    c.run_waiting.ensures.runs lack))
