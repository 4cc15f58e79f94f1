use Rattle.std.proofs.Common.{ap, sym}
use Rattle.plain_text.specs.Words.{words}
use Rattle.texts.proofs.OfJournal.CallRead as whole
use Rattle.centre_client.specs.SketchFaults.{judged_step}
use Rattle.centre_client.proofs.steps.read_judged_call.Goals as goal

pub returns-in-Ok : goal.returns-in-Ok
returns-in-Ok c =
    sym (ap judged_step (whole.call_in-words (words c.args.text.now) c.in-Ok.call
    (rw c.in-Ok.is at c.in_ok-call.ensures.found)))

pub returns-in-Err : goal.returns-in-Err
returns-in-Err c =
    let breaks = (c.in_ok-call.ensures.fault c.in-Err.field-0).0 c.in-Err.is in
    sym (ap judged_step (whole.call_in-none (words c.args.text.now) breaks.unspelled))
