use Rattle.std.specs.Prelude.{Vec, ℕ, codes}
use Rattle.std.specs.declared.alloc.Global.{Global}
use Rattle.commands.specs.Io.Plans.{says, octets_of}
use Rattle.commands.proofs.OfIo.Plans.{IsRun-reads}
use Rattle.commands.specs.Words.Words.{limit_of, options_seen}
use Rattle.tase_tool.specs.Saying.{scenario_said, text_asked}
use Rattle.tase_tool.specs.Sent.{node_of}
use Rattle.tase_tool.proofs.Duties.{SendsOn-read}
use Rattle.tase_tool.proofs.running.run_scenario.Goals as goal

pub returns-clause-runs : goal.returns-clause-runs
returns-clause-runs g c =
    let options = options_seen c.args.options in
    IsRun-reads (g.O.Outside.told c.args.outside.now)
    (g.O.Outside.told c.read_input-read.new.outside) (g.O.Outside.told c.play_read.new.outside)
    (text_asked (codes "scenario") c.args.scenario.now)
    (λ octets. says (scenario_said c.args.centre options octets)) c.read_input-read.result c.play_read.result
    c.read_input-read.ensures c.play_read.ensures.runs

pub returns-clause-sent : goal.returns-clause-sent
returns-clause-sent g c =
    let options = options_seen c.args.options in
    SendsOn-read (g.O.Outside.told c.args.outside.now)
    (g.O.Outside.told c.read_input-read.new.outside) (g.O.Outside.told c.play_read.new.outside)
    c.play_read.result (node_of c.args.centre (limit_of options)) c.args.scenario.now
    (λ (text : Vec ℕ Global). says (scenario_said c.args.centre options (octets_of text)))
    c.read_input-read.result c.read_input-read.ensures c.play_read.ensures.runs
    c.play_read.ensures.sent
