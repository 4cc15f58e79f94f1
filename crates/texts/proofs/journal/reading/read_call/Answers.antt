use Rattle.std.proofs.Common.{sym}
use Rattle.plain_text.specs.Words.{words}
use Rattle.texts.proofs.OfJournal.CallRead.{call_in-words, call_in-none}
use Rattle.texts.proofs.journal.reading.read_call.Goals as goal

pub returns-in-Ok : goal.returns-in-Ok
returns-in-Ok c =
    sym (call_in-words (words c.args.text.now) c.in-Ok.call
    (rw c.in-Ok.is at c.in_ok-call.ensures.found))

pub returns-in-Err : goal.returns-in-Err
returns-in-Err c =
    let breaks = (c.in_ok-call.ensures.fault c.in-Err.field-0).0 c.in-Err.is in
    sym (call_in-none (words c.args.text.now) breaks.unspelled)
