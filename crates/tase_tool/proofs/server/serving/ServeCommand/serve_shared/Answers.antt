use Rattle.std.proofs.Common.{Ok, Some, refl, sym, ap, subst}
use Rattle.std.specs.Arc.{arc_value}
use Rattle.tase_tool.specs.Server.Opening.{OpensAll}
use Rattle.tase_tool.specs.Server.Courses.{unopened, served}
use Rattle.tase_tool.proofs.server.serving.ServeCommand.serve_shared.Goals as goal

pub returns-in-Some-clause-goes : goal.returns-in-Some-clause-goes
returns-in-Some-clause-goes g c = record {
  course = served c.serve_opened.ensures.serves.run;
  tables = ap (λ rows. Ok rows) c.serve_opened.ensures.serves.of;
  goes = record {
    opened = g.O.Outside.told c.open_all.new.outside;
    opens = subst (λ work. OpensAll c.args.self.now.words.address.now
        (g.O.Outside.told c.args.outside.now) (g.O.Outside.told c.open_all.new.outside)
        (Some work)) (sym c.serve_opened.ensures.serves.work) c.in-Some.ensures;
    runs = c.serve_opened.ensures.serves.runs;
  };
  starts = c.serve_opened.ensures.serves.starts;
}

pub returns-in-None-clause-goes : goal.returns-in-None-clause-goes
returns-in-None-clause-goes g c = record {
  course = unopened (arc_value c.args.centre.now);
  tables = refl;
  goes = (refl, c.in-None.ensures);
  starts = refl;
}
