use Rattle.std.proofs.Common.{Ok, refl, subst}
use Rattle.commands.specs.Words.Words.{serve_seen}
use Rattle.tase_tool.specs.Server.Courses.{unshared}
use Rattle.tase_tool.specs.Server.Serving.{TakesCourse}
use Rattle.tase_tool.proofs.server.serving.ServeCommand.serve_centre.Goals as goal

pub returns-in-Ok-clause-goes : goal.returns-in-Ok-clause-goes
returns-in-Ok-clause-goes g c =
    subst (λ rows. TakesCourse (serve_seen c.args.self.now.words) (Ok rows)
    (g.O.Outside.told c.args.outside.now) (g.O.Outside.told c.serve_shared.new.outside)
    c.args.spawner.now.told.faults c.serve_shared.new.spawner.told.faults c.serve_shared.result)
    c.in-Ok.ensures c.serve_shared.ensures.goes

pub returns-in-Err-clause-goes : goal.returns-in-Err-clause-goes
returns-in-Err-clause-goes g c = record {
  course = unshared c.args.centre;
  tables = refl;
  goes = (refl, refl);
  starts = refl;
}
