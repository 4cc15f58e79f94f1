use Rattle.tase_conn.proofs.Stepping.{goes_down}
use Rattle.tase_conn.proofs.conn.Conn.act.Goals as goal

pub returns-in-Ok-clause-shorter : goal.returns-in-Ok-clause-shorter
returns-in-Ok-clause-shorter c =
    goes_down c.in-Ok.step c.args.coming c.args.self.now c.act_on.new.self c.requires.empty
    c.in-Ok.ensures.more
