use Rattle.std.proofs.Common.{◌∙◌}
use Rattle.plain_text.specs.Words.{words}
use Rattle.tase_replay.proofs.CallRead.{call_in-read, call_in-none}
use Rattle.tase_replay.proofs.entries.read_said.Goals as goal

pub returns-in-Ok : goal.returns-in-Ok
returns-in-Ok c =
    c.unless_odd.ensures
    ∙ call_in-read (words c.args.text.now) c.in-Ok.call
    (rw c.in-Ok.is at c.in_ok-call.ensures.found)

pub returns-in-Err : goal.returns-in-Err
returns-in-Err c =
    let breaks = (c.in_ok-call.ensures.fault c.in-Err.field-0).0 c.in-Err.is in
    call_in-none (words c.args.text.now) breaks.unspelled
