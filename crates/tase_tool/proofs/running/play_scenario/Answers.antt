use Rattle.std.proofs.Common.{refl, subst, true, option_map}
use Rattle.commands.specs.declared.io.status.Status.TheVariants.{Memory}
use Rattle.commands.specs.Io.Saying.{duty_to_say}
use Rattle.commands.specs.Io.Runs.{IsRun, Took}
use Rattle.commands.specs.Words.Words.{limit_of, options_seen}
use Rattle.commands.proofs.OfIo.Running.{IsRun-idle}
use Rattle.tase_tool.specs.Saying.{kept_said, scenario_said}
use Rattle.tase_tool.specs.Sent.{node_of, played_on, SendsSoFar}
use Rattle.tase_tool.proofs.Sending.{output_of, SendsSoFar-still}
use Rattle.tase_tool.proofs.running.play_scenario.Goals as goal

pub returns-in-Ok-clause-runs : goal.returns-in-Ok-clause-runs
returns-in-Ok-clause-runs g c =
    subst (λ node. IsRun (duty_to_say true
    (kept_said (option_map (λ name. name.now) c.args.options.journal)
    (played_on node c.args.scenario.now)))
    (g.O.Outside.told c.args.outside.now) (g.O.Outside.told c.play_and_keep.new.outside)
    c.play_and_keep.result) (rw c.limit.ensures at c.in-Ok.ensures) c.play_and_keep.ensures.runs

pub returns-in-Ok-clause-sent : goal.returns-in-Ok-clause-sent
returns-in-Ok-clause-sent g c =
    subst (λ node. SendsSoFar node c.args.scenario.now c.play_and_keep.result
    (Took c.play_and_keep.result
    (output_of (g.O.Outside.told c.args.outside.now).sinks)
    (output_of (g.O.Outside.told c.play_and_keep.new.outside).sinks)))
    (rw c.limit.ensures at c.in-Ok.ensures) c.play_and_keep.ensures.sent

pub returns-in-Err-clause-runs : goal.returns-in-Err-clause-runs
returns-in-Err-clause-runs g c =
    IsRun-idle (duty_to_say true
    (scenario_said c.args.centre (options_seen c.args.options) c.args.scenario.now))
    (g.O.Outside.told c.args.outside.now) refl

pub returns-in-Err-clause-sent : goal.returns-in-Err-clause-sent
returns-in-Err-clause-sent g c =
    SendsSoFar-still (node_of c.args.centre (limit_of (options_seen c.args.options)))
    c.args.scenario.now Memory
    (output_of (g.O.Outside.told c.args.outside.now).sinks)
    (output_of (g.O.Outside.told c.args.outside.now).sinks) refl refl
