use Rattle.std.proofs.Common.{◌≡◌, ◌∷◌, None, Some, sym, ◌∙◌, rules}
use Rattle.plain_text.specs.Words.{words}
use Rattle.texts.specs.Events.Verbs.{scope_word_in, AtMostOne, IsScopeWord, IsAfterWord}
use Rattle.texts.proofs.OfEvents.WordsRead.{scope_in-found}
use Rattle.texts.proofs.OfEvents.Wrong.{no_scope, bad_scope, then-halts}
use Rattle.texts.proofs.events.reading.lists.read_scope_after.Goals as goal

pub returns-in_default-clause-fault : goal.returns-in_default-clause-fault
returns-in_default-clause-fault c = rw c.in_default.ensures.none no_scope

pub returns-in_default-2-clause-fault : goal.returns-in_default-2-clause-fault
returns-in_default-2-clause-fault c =
    let word = c.in-Some.word.now in
    let none : None ≡ scope_word_in word = search rules in
    rw c.in-Some.ensures.some (bad_scope word (words c.in-Some.rest.now) none)

pub returns-in-Ok-clause-found : goal.returns-in-Ok-clause-found
returns-in-Ok-clause-found c =
    let word = c.in-Some.word.now in
    let found : Some c.in-Some-2.scope ≡ scope_word_in word = search rules in
    let s = scope_in-found word c.in-Some-2.scope (sym found) in
    record {
      spelled = c.in-Some.ensures.some
          ∙ (λ i. s.0 i ∷ c.in-Ok.ensures.found i);
      named = s.1;
      after_named = c.in-Ok.ensures.named;
    }

pub returns-in-Err-clause-fault : goal.returns-in-Err-clause-fault
returns-in-Err-clause-fault c =
    let word = c.in-Some.word.now in
    let found : Some c.in-Some-2.scope ≡ scope_word_in word = search rules in
    let s = scope_in-found word c.in-Some-2.scope (sym found) in
    rw (c.in-Some.ensures.some, c.one_more.ensures) (then-halts IsScopeWord (AtMostOne IsAfterWord)
    word (words c.in-Some.rest.now) c.in-Err.halt
    (record { scope = c.in-Some-2.scope; spelled = s.0; named = s.1 }) c.in-Err.ensures.fault)
