use Rattle.std.proofs.Common.{true, subst}
use Rattle.commands.specs.Io.Runs.{IsRun, Took}
use Rattle.commands.specs.Io.Saying.{duty_to_say}
use Rattle.commands.specs.Words.Words.{limit_of, options_seen}
use Rattle.tase_tool.specs.Saying.{scenario_said}
use Rattle.tase_tool.specs.Sent.{node_of, SendsSoFar}
use Rattle.tase_tool.proofs.Sending.{output_of}
use Rattle.tase_tool.proofs.running.play_read.Goals as goal

pub returns-in-Ok-clause-runs : goal.returns-in-Ok-clause-runs
returns-in-Ok-clause-runs g c =
    rw c.in-Ok.is
    (subst (λ octets. IsRun
    (duty_to_say true (scenario_said c.args.centre (options_seen c.args.options) octets))
    (g.O.Outside.told c.args.outside.now) (g.O.Outside.told c.play_scenario.new.outside)
    c.play_scenario.result)
    c.deref.ensures.value c.play_scenario.ensures.runs)

pub returns-in-Ok-clause-sent : goal.returns-in-Ok-clause-sent
returns-in-Ok-clause-sent g c =
    rw c.in-Ok.is (subst (λ octets. SendsSoFar
    (node_of c.args.centre (limit_of (options_seen c.args.options))) octets
    c.play_scenario.result (Took c.play_scenario.result
    (output_of (g.O.Outside.told c.args.outside.now).sinks)
    (output_of (g.O.Outside.told c.play_scenario.new.outside).sinks)))
    c.deref.ensures.value c.play_scenario.ensures.sent)
