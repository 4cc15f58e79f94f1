use Rattle.std.proofs.Common.{◌≡◌, true, arith}
use Rattle.std.proofs.lemmas.Grind.{common_steps}
use Rattle.plain_text.specs.Words.{is_spaced}
use Rattle.texts.proofs.OfEvents.CallPlace.{place-fault}
use Rattle.texts.proofs.events.reading.read_call.Goals as goal

pub returns-in-Err-clause-fault : goal.returns-in-Err-clause-fault
returns-in-Err-clause-fault c place =
    let text = c.args.text.now in
    let spaced : is_spaced text ≡ true = grind (arith, common_steps) in
    let count = c.in-Err.count in
    place-fault text count c.word_place.result place spaced c.word_place.ensures
    ((c.in_ok-call.ensures.fault count).0 c.in-Err.is)
