use Rattle.std.proofs.Common.{◌≡◌, ◌∷◌, None, Some, codes, sym, ◌∙◌, rules}
use Rattle.std.specs.Int.{w64}
use Rattle.std.proofs.lemmas.Int.{to_z-of_z}
use Rattle.plain_text.specs.Words.{words}
use Rattle.texts.specs.Events.Verbs.{class_in, Then, AtMostOne, IsClassWord, IsScopeWord, IsAfterWord}
use Rattle.texts.proofs.OfEvents.WordsRead.{class_in-found}
use Rattle.texts.proofs.OfEvents.Wrong.{no_class, bad_class, then-halts}
use Rattle.texts.proofs.events.reading.lists.read_name_list.Goals as goal

pub returns-in_default-clause-fault : goal.returns-in_default-clause-fault
returns-in_default-clause-fault c = rw c.in_default.ensures.none no_class

pub returns-in_default-read_class-clause-fault : goal.returns-in_default-read_class-clause-fault
returns-in_default-read_class-clause-fault c =
    let word = c.in-Some.word.now in
    let none : None ≡ class_in word = search rules in
    rw c.in-Some.ensures.some (bad_class word (words c.in-Some.rest.now) none)

pub returns-in-Ok-clause-found : goal.returns-in-Ok-clause-found
returns-in-Ok-clause-found c =
    let word = c.in-Some.word.now in
    let class = c.in-Some-read_class.class in
    let found : Some class ≡ class_in word = search rules in
    let s = class_in-found word class (sym found) in
    let f = c.in-Ok.ensures.found in
    rw (c.new.ensures, to_z-of_z w64 class s.1) (record {
      spelled = λ i. codes "names" ∷ (c.in-Some.ensures.some ∙ (λ j. s.0 j ∷ f.spelled j)) i;
      lawful = (f.named, f.after_named);
      textual = s.1;
    })

pub returns-in-Err-clause-fault : goal.returns-in-Err-clause-fault
returns-in-Err-clause-fault c =
    let word = c.in-Some.word.now in
    let class = c.in-Some-read_class.class in
    let found : Some class ≡ class_in word = search rules in
    let s = class_in-found word class (sym found) in
    rw (c.in-Some.ensures.some, c.one_more.ensures) (then-halts IsClassWord
    (Then IsScopeWord (AtMostOne IsAfterWord)) word (words c.in-Some.rest.now) c.in-Err.halt
    (record { class = class; spelled = s.0; fits = s.1 }) c.in-Err.ensures.fault)
