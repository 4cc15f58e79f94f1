use Rattle.commands.specs.Words.Words.{serve_seen}
use Rattle.tase_tool.proofs.OfServer.Courses.{serves-command}
use Rattle.tase_tool.proofs.server.serving.run_serve.Goals as goal

pub returns-clause-serves : goal.returns-clause-serves
returns-clause-serves g c =
    serves-command (serve_seen c.args.words) c.read_tables-read.result
    (g.O.Outside.told c.args.outside.now) (g.O.Outside.told c.read_tables-read.new.outside)
    (g.O.Outside.told c.serve_read.new.outside) c.args.spawner.now.told.faults
    c.serve_read.new.spawner.told.faults c.serve_read.result c.read_tables-read.ensures
    c.serve_read.ensures.goes
