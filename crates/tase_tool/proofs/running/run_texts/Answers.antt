use Rattle.std.proofs.Common.{◌≡◌, refl, subst}
use Rattle.std.specs.Prelude.{map, string_bytes, IfOk}
use Rattle.commands.specs.declared.io.status.Status.TheVariants.{Memory}
use Rattle.commands.specs.Io.Saying.{texts_of}
use Rattle.commands.specs.Words.Words.{task_in}
use Rattle.tase_tool.specs.Running.{RunsTexts}
use Rattle.tase_tool.specs.Sent.{SendsBy}
use Rattle.tase_tool.specs.Lacking.{LacksFor}
use Rattle.tase_tool.proofs.Lacking.{lacks_idle}
use Rattle.tase_tool.proofs.Sending.{output_of}
use Rattle.tase_tool.proofs.Duties.{SendsBy-still}
use Rattle.tase_tool.proofs.Tasks.{RunsTexts-idle}
use Rattle.tase_tool.proofs.running.run_texts.Goals as goal

pub returns-in-Ok-clause-runs : goal.returns-in-Ok-clause-runs
returns-in-Ok-clause-runs g c =
    subst (λ task. RunsTexts task (g.O.Outside.told c.args.outside.now)
    (g.O.Outside.told c.run_command.new.outside) c.run_command.result)
    c.in-Ok.ensures.asked c.run_command.ensures.runs

pub returns-in-Ok-clause-sent : goal.returns-in-Ok-clause-sent
returns-in-Ok-clause-sent g c =
    subst (λ task. IfOk c.run_command.result (λ status. SendsBy task
    (texts_of (g.O.Outside.told c.args.outside.now)) status
    (output_of (g.O.Outside.told c.args.outside.now).sinks)
    (output_of (g.O.Outside.told c.run_command.new.outside).sinks)))
    c.in-Ok.ensures.asked c.run_command.ensures.sent

pub returns-in-Err-clause-runs : goal.returns-in-Err-clause-runs
returns-in-Err-clause-runs g c =
    RunsTexts-idle (task_in (map string_bytes c.args.words.now))
    (g.O.Outside.told c.args.outside.now) c.in-Err.ensures.memory

pub returns-in-Err-clause-sent : goal.returns-in-Err-clause-sent
returns-in-Err-clause-sent g c =
    SendsBy-still (task_in (map string_bytes c.args.words.now))
    (texts_of (g.O.Outside.told c.args.outside.now)) Memory
    (output_of (g.O.Outside.told c.args.outside.now).sinks) refl

pub returns-in-Ok-clause-memory : goal.returns-in-Ok-clause-memory
returns-in-Ok-clause-memory g c =
    subst (λ task. IfOk c.run_command.result (λ status. status ≡ Memory
    → LacksFor task (g.O.Outside.told c.args.outside.now)
    (g.O.Outside.told c.run_command.new.outside)))
    c.in-Ok.ensures.asked c.run_command.ensures.memory

pub returns-in-Err-clause-memory : goal.returns-in-Err-clause-memory
returns-in-Err-clause-memory g c =
    λ lack. lacks_idle (task_in (map string_bytes c.args.words.now))
    (g.O.Outside.told c.args.outside.now)
