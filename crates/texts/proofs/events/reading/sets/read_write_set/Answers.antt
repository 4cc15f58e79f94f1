use Rattle.std.proofs.Common.{◌≡◌, ◌∷◌, None, codes, ◌∙◌, rules}
use Rattle.plain_text.specs.Words.{words}
use Rattle.mms_data.specs.ObjectName.{IsName}
use Rattle.mms_data.specs.Text.NameIn.{name_in}
use Rattle.mms_data.specs.Text.Texts.{name_text}
use Rattle.texts.specs.Events.Verbs.{IsNameWord, IsValueWord, OneOrMore}
use Rattle.texts.proofs.OfEvents.SetWords.{no_written, bad_written}
use Rattle.texts.proofs.OfEvents.Wrong.{then-halts}
use Rattle.texts.proofs.events.reading.sets.read_write_set.Goals as goal

pub returns-in_default-clause-fault : goal.returns-in_default-clause-fault
returns-in_default-clause-fault c = rw c.in_default.ensures.none no_written

pub returns-in_default-2-clause-fault : goal.returns-in_default-2-clause-fault
returns-in_default-2-clause-fault c =
    let word = c.in-Some.word.now in
    let none : None ≡ name_in word = search rules in
    rw c.in-Some.ensures.some (bad_written word (words c.in-Some.rest.now) none)

pub returns-in-Ok-clause-found : goal.returns-in-Ok-clause-found
returns-in-Ok-clause-found c =
    let word = c.in-Some.word.now in
    let set = c.in-Some-2.set in
    let s : (word ≡ name_text set) × IsName set = rw c.in-Some-2.is at c.in_ok-set.ensures.found in
    rw c.new.ensures (record {
      spelled = λ i. codes "writeset"
          ∷ (c.in-Some.ensures.some ∙ (λ j. s.0 j ∷ c.in-Ok.ensures.found j)) i;
      lawful = (c.in-Ok.ensures.some, c.in-Ok.ensures.lawful);
      textual = (s.1, c.in-Ok.ensures.textual);
    })

pub returns-in-Err-clause-fault : goal.returns-in-Err-clause-fault
returns-in-Err-clause-fault c =
    let word = c.in-Some.word.now in
    let set = c.in-Some-2.set in
    let s : (word ≡ name_text set) × IsName set = rw c.in-Some-2.is at c.in_ok-set.ensures.found in
    rw (c.in-Some.ensures.some, c.one_more.ensures) (then-halts IsNameWord (OneOrMore IsValueWord)
    word (words c.in-Some.rest.now) c.in-Err.halt
    (record { name = set; spelled = s.0; named = s.1 }) c.in-Err.ensures.fault)
