use Rattle.std.specs.Arc.{arc_value}
use Rattle.tase_tool.proofs.Verified.{answers_read, answers_unread}
use Rattle.tase_tool.proofs.verifying.read_answered.Goals as goal

pub returns-in-Ok : goal.returns-in-Ok
returns-in-Ok g c =
    answers_read (arc_value c.args.centre.now) c.args.key c.args.name.now
    (g.O.Outside.told c.args.outside.now) (g.O.Outside.told c.read_input.new.outside)
    c.in-Ok.text c.deref.result.now c.answered_from.result c.deref.ensures.value
    (rw c.in-Ok.is at c.read_input.ensures) c.answered_from.ensures

pub returns-in-Err : goal.returns-in-Err
returns-in-Err g c =
    answers_unread (arc_value c.args.centre.now) c.args.key c.args.name.now
    (g.O.Outside.told c.args.outside.now) (g.O.Outside.told c.read_input.new.outside)
    c.in-Err.end (rw c.in-Err.is at c.read_input.ensures)
