use Rattle.std.proofs.Common.{reverse}
use Rattle.conn_service.proofs.Going.{close_told, close_placed, closed_on}
use Rattle.conn_service.proofs.Going.{told_ok, close_leaves}
use Rattle.conn_service.proofs.Told.{close_right}
use Rattle.conn_service.proofs.attending.take_close.Goals as goal

pub tell-told-requires-clause-right : goal.tell-told-requires-clause-right
tell-told-requires-clause-right c =
    let a = c.requires.asks.6 in
    close_told c.args.node.now.setup (reverse c.args.node.now.history) c.args.who c.args.event
    c.in-Ok.answer c.requires.asks.1 c.args.conn.now a.event_is a.seat a.progress
    c.in-Ok.ensures.right

pub tell-told-requires-clause-placed : goal.tell-told-requires-clause-placed
tell-told-requires-clause-placed c = close_placed c.requires.asks.6

pub returns-in-Ok-clause-closes : goal.returns-in-Ok-clause-closes
returns-in-Ok-clause-closes c = λ whole end standing items said first a.
    let ok = c.tell-told.ensures.left (close_leaves c.args.conn.now end a.progress) in
    closed_on c.args.node.now c.step.new.self whole end standing c.args.who items said c.args.event
    c.in-Ok.answer first c.args.conn.now c.tell-told.new.self a c.in-Ok.ensures.ok
    c.tell-told.ensures.stands (told_ok _ c.tell-told.result ok c.tell-told.ensures.told)

pub returns-in-Err-clause-closes : goal.returns-in-Err-clause-closes
returns-in-Err-clause-closes c = λ whole end standing items said first a.
    absurd (close_right c.args.node.now.setup (reverse c.args.node.now.history) c.args.who
    c.args.event c.in-Err.field-0 a.event_is a.seat c.in-Err.ensures.right)
