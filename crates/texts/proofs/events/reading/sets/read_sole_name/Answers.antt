use Rattle.std.proofs.Common.{◌≡◌, ◌∷◌, None, ◌∙◌, rules}
use Rattle.plain_text.specs.Words.{words}
use Rattle.mms_data.specs.ObjectName.{IsName}
use Rattle.mms_data.specs.Text.NameIn.{name_in}
use Rattle.mms_data.specs.Text.Texts.{name_text}
use Rattle.texts.specs.Events.Verbs.{IsNameWord}
use Rattle.texts.proofs.OfEvents.SetWords.{no_name, bad_name, behind_sole}
use Rattle.texts.proofs.events.reading.sets.read_sole_name.Goals as goal

pub returns-in_default-clause-fault : goal.returns-in_default-clause-fault
returns-in_default-clause-fault c = rw c.in_default.ensures.none no_name

pub returns-in_default-2-clause-fault : goal.returns-in_default-2-clause-fault
returns-in_default-2-clause-fault c =
    let word = c.in-Some.word.now in
    let none : None ≡ name_in word = search rules in
    rw c.in-Some.ensures.some (bad_name word (words c.in-Some.rest.now) none)

pub returns-in-Some-next_word-clause-fault : goal.returns-in-Some-next_word-clause-fault
returns-in-Some-next_word-clause-fault c =
    let word = c.in-Some.word.now in
    let name = c.in-Some-2.name in
    let s : (word ≡ name_text name) × IsName name =
    rw c.in-Some-2.is at c.in_ok-name.ensures.found in
    let next = c.in-Some-next_word.field-0 in
    rw (c.in-Some.ensures.some, c.in-Some-next_word.ensures.some) (behind_sole IsNameWord word
    next.0.now (words next.1.now) (record { name = name; spelled = s.0; named = s.1 }))

pub returns-in-None-clause-found : goal.returns-in-None-clause-found
returns-in-None-clause-found c =
    let word = c.in-Some.word.now in
    let name = c.in-Some-2.name in
    let s : (word ≡ name_text name) × IsName name =
    rw c.in-Some-2.is at c.in_ok-name.ensures.found in
    c.in-Some.ensures.some ∙ (λ i. s.0 i ∷ c.in-None.ensures.none i)
