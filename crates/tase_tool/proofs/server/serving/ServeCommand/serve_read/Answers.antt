use Rattle.std.proofs.Common.{refl, sym}
use Rattle.tase_tool.specs.Server.Courses.{unread}
use Rattle.tase_tool.proofs.server.serving.ServeCommand.serve_read.Goals as goal

pub returns-in-Err-clause-goes : goal.returns-in-Err-clause-goes
returns-in-Err-clause-goes g c = record {
  course = unread c.in-Err.end;
  tables = sym c.in-Err.is;
  goes = c.end_unread.ensures;
  starts = refl;
}
