use Rattle.std.proofs.Common.{◌≡◌, false, sym, ◌∙◌, arith}
use Rattle.std.proofs.lemmas.Grind.{common_steps}
use Rattle.plain_text.specs.Words.{words}
use Rattle.texts.proofs.OfEvents.Wrong.{no_code, bad_code}
use Rattle.texts.proofs.events.reading.lists.read_code.Goals as goal

pub returns-in_default-clause-fault : goal.returns-in_default-clause-fault
returns-in_default-clause-fault c = rw c.in_default.ensures.none no_code

pub returns-then-not-is_one-clause-fault : goal.returns-then-not-is_one-clause-fault
returns-then-not-is_one-clause-fault c =
    let other : c.is_one.result ≡ false = grind (arith, common_steps) in
    rw c.in-Some.ensures.some (bad_code c.in-Some.word.now (words c.in-Some.rest.now)
    (sym c.is_one.ensures ∙ other))
