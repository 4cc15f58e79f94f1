use Rattle.tase_conn.specs.contracts.conn.Conn.{the_view}
use Rattle.tase_conn.specs.declared.stage.ConnEnd.TheVariants as conn_ends
use Rattle.tase_conn.specs.declared.stage.Progress.TheVariants as progresses
use Rattle.tase_conn.proofs.AnswersNoted.{release_adds}
use Rattle.tase_conn.proofs.conn.Conn.answer_release.Goals as goal

pub returns-clause-ok : goal.returns-clause-ok
returns-clause-ok c =
    release_adds (progresses.Ended conn_ends.Finished) (the_view c.self.inside) c.args.self.now
    c.finish.new.self c.release.new.self c.release.new.out.items c.self.view_is c.requires.may.0
    c.finish.ensures c.in_ok-release.ensures.out
