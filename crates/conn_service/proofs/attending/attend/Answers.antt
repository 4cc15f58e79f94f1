use Rattle.std.proofs.Common.{reverse}
use Rattle.conn_service.proofs.Attended.{attends_sends}
use Rattle.conn_service.proofs.attending.attend.Goals as goal

pub returns-clause-sends : goal.returns-clause-sends
returns-clause-sends c = λ items said s.
    attends_sends c.args.node.now.setup (reverse c.args.node.now.history) c.args.who items said
    c.args.conn.now (reverse c.attend_all.new.node.history) c.attend_all.new.conn
    (c.attend_all.ensures.attended items said s)
