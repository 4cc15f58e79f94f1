use Rattle.std.proofs.Common.{◌≡◌, Ok, Err, ap, subst}
use Rattle.plain_text.specs.Words.{words}
use Rattle.texts.specs.Events.CallWords.{AreCallWords}
use Rattle.texts.specs.Events.Breaks.{Breaks}
use Rattle.texts.proofs.OfEvents.Breaking.{one_break}
use Rattle.texts.proofs.OfEvents.OneCall.{one_call}
use Rattle.texts.proofs.events.reading.read_call_words.Goals as goal

pub returns-in-Ok-clause-only : goal.returns-in-Ok-clause-only
returns-in-Ok-clause-only c call s =
    ap Ok (one_call (words c.args.text.now) c.in-Ok.call call c.in-Ok.ensures.found s)

pub returns-in-Err-Bad-clause-fault : goal.returns-in-Err-Bad-clause-fault
returns-in-Err-Bad-clause-fault c count =
    let ws = words c.args.text.now in
    let here = c.in-Err-Bad.count in
    let whole = rw c.in-Err-Bad.field-0-is at c.in-Err-Bad.ensures in
    let b : Breaks AreCallWords ws here = whole.fault in (
      λ e. let same : here ≡ count = cc in subst (λ k. Breaks AreCallWords ws k) same b,
      λ k. ap Err (one_break AreCallWords ws here count b k),
    )
