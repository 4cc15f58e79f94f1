use Rattle.tase_resume.proofs.LinesTaken.{event_stepped}
use Rattle.tase_resume.proofs.reading.take_event.Goals as goal

pub returns : goal.returns
returns c =
    event_stepped c.args.node.now c.requires.limit c.args.event c.args.before c.step.new.node
    c.in_ok-taken.taken c.standing_behind-defined.result c.standing_behind-other.result
    c.next_of.result c.in_ok-taken.ensures c.standing_behind-defined.ensures
    c.standing_behind-other.ensures c.next_of.ensures
