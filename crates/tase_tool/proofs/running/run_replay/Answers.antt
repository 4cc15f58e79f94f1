use Rattle.std.proofs.Common.{codes}
use Rattle.commands.proofs.OfIo.Plans.{IsRun-value}
use Rattle.commands.specs.Words.Words.{options_seen}
use Rattle.commands.specs.Files.Tables.{tables_in}
use Rattle.tase_tool.specs.Saying.{text_asked, scenario_plan}
use Rattle.tase_tool.proofs.Duties.{SendsBy-read}
use Rattle.tase_tool.proofs.running.run_replay.Goals as goal

pub returns-clause-runs : goal.returns-clause-runs
returns-clause-runs g c =
    let options = options_seen c.args.options in
    IsRun-value (g.O.Outside.told c.args.outside.now)
    (g.O.Outside.told c.read_tables-read.new.outside) (g.O.Outside.told c.run_over.new.outside)
    (text_asked (codes "tables") c.args.tables.now) tables_in
    (λ rows. scenario_plan rows options c.args.scenario.now)
    c.read_tables-read.result c.run_over.result
    c.read_tables-read.ensures c.run_over.ensures.runs

pub returns-clause-sent : goal.returns-clause-sent
returns-clause-sent g c =
    let options = options_seen c.args.options in
    SendsBy-read (g.O.Outside.told c.args.outside.now)
    (g.O.Outside.told c.read_tables-read.new.outside) (g.O.Outside.told c.run_over.new.outside)
    c.run_over.result c.args.tables.now c.args.scenario.now options
    (λ rows. scenario_plan rows options c.args.scenario.now) c.read_tables-read.result
    c.read_tables-read.ensures c.run_over.ensures.runs c.run_over.ensures.sent
