use Rattle.std.proofs.Common.{◌≡◌, ◌∷◌, None, Some, sym, ◌∙◌, rules}
use Rattle.plain_text.specs.Words.{words}
use Rattle.mms_data.specs.Text.NameIn.{identifier_in}
use Rattle.mms_data.proofs.OfText.ReadName.{identifier_in-found}
use Rattle.texts.specs.Events.Verbs.{IsAfterWord}
use Rattle.texts.proofs.OfEvents.Wrong.{bad_after, one_too_many}
use Rattle.texts.proofs.events.reading.lists.read_after.Goals as goal

pub returns-in_default-2-clause-fault : goal.returns-in_default-2-clause-fault
returns-in_default-2-clause-fault c =
    let word = c.in-Some.word.now in
    let none : None ≡ identifier_in word = search rules in
    rw c.in-Some.ensures.some (bad_after word (words c.in-Some.rest.now) none)

pub returns-in-Some-next_word-clause-fault : goal.returns-in-Some-next_word-clause-fault
returns-in-Some-next_word-clause-fault c =
    let word = c.in-Some.word.now in
    let after = c.in-Some-2.after in
    let found : Some after ≡ identifier_in word = search rules in
    let s = identifier_in-found word after (sym found) in
    let next = c.in-Some-next_word.field-0 in
    rw (c.in-Some.ensures.some, c.in-Some-next_word.ensures.some) (one_too_many IsAfterWord word
    next.0.now (words next.1.now) (record { after = after; spelled = s.0; named = s.1 }))

pub returns-in-None-clause-found : goal.returns-in-None-clause-found
returns-in-None-clause-found c =
    let word = c.in-Some.word.now in
    let after = c.in-Some-2.after in
    let found : Some after ≡ identifier_in word = search rules in
    let s = identifier_in-found word after (sym found) in
    c.in-Some.ensures.some ∙ (λ i. s.0 i ∷ c.in-None.ensures.none i)
