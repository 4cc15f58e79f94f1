use Rattle.std.proofs.Common.{arith}
use Rattle.std.proofs.lemmas.Grind.{common_steps}
use Rattle.plain_text.proofs.Parts.{words-found, words-last}
use Rattle.plain_text.proofs.words.next_word.Goals as goal

pub returns-in-Some-clause-some : goal.returns-in-Some-clause-some
returns-in-Some-clause-some c =
    let text = c.without_spaces-text.result.now in
    let e = words-found text c.in-Some.end (grind (arith, common_steps))
    c.without_spaces-text.ensures.bare c.in-Some.ensures in
    grind (arith, common_steps)

pub returns-in-None-clause-some : goal.returns-in-None-clause-some
returns-in-None-clause-some c =
    let e = words-last c.without_spaces-text.result.now in grind (arith, common_steps)
