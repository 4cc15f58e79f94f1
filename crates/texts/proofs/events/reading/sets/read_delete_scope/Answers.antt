use Rattle.std.proofs.Common.{◌≡◌, ◌∷◌, None, Some, codes, sym, ◌∙◌, rules}
use Rattle.plain_text.specs.Words.{words}
use Rattle.std.specs.Int.{w64}
use Rattle.std.proofs.lemmas.Int.{to_z-of_z}
use Rattle.texts.specs.Events.Verbs.{IsDeletionWord, deletion_in}
use Rattle.texts.proofs.OfEvents.SetWords.{no_deletion, bad_deletion, behind_sole, deletion-found}
use Rattle.texts.proofs.events.reading.sets.read_delete_scope.Goals as goal

pub returns-in_default-clause-fault : goal.returns-in_default-clause-fault
returns-in_default-clause-fault c = rw c.in_default.ensures.none no_deletion

pub returns-in_default-read_deletion-clause-fault :
    goal.returns-in_default-read_deletion-clause-fault
returns-in_default-read_deletion-clause-fault c =
    let word = c.in-Some.word.now in
    let none : None ≡ deletion_in word = search rules in
    rw c.in-Some.ensures.some (bad_deletion word (words c.in-Some.rest.now) none)

pub returns-in-Some-next_word-clause-fault : goal.returns-in-Some-next_word-clause-fault
returns-in-Some-next_word-clause-fault c =
    let word = c.in-Some.word.now in
    let scope = c.in-Some-read_deletion.scope in
    let found : Some scope ≡ deletion_in word = search rules in
    let s = deletion-found word scope (sym found) in
    let next = c.in-Some-next_word.field-0 in
    rw (c.in-Some.ensures.some, c.in-Some-next_word.ensures.some) (behind_sole IsDeletionWord word
    next.0.now (words next.1.now)
    (record {
      scope = scope;
      spelled = s.0;
      fits = s.1;
      other = s.2;
    }))

pub returns-in-None-clause-found : goal.returns-in-None-clause-found
returns-in-None-clause-found c =
    let word = c.in-Some.word.now in
    let scope = c.in-Some-read_deletion.scope in
    let found : Some scope ≡ deletion_in word = search rules in
    let s = deletion-found word scope (sym found) in
    rw (c.new.ensures, to_z-of_z w64 scope s.1) (record {
      spelled = λ i. codes "deletescope"
          ∷ (c.in-Some.ensures.some ∙ (λ j. s.0 j ∷ c.in-None.ensures.none j)) i;
      lawful = s.2;
      textual = s.1;
    })
