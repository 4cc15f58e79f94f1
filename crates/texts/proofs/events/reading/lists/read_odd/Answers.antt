use Rattle.std.proofs.Common.{◌≡◌, ◌∷◌, [], None, Some, codes, refl, sym, ◌∙◌, rules}
use Rattle.plain_text.specs.Words.{words}
use Rattle.texts.specs.Events.Verbs.{odd_kind_in, Then, NoWord, IsOddKind, IsOddCode}
use Rattle.texts.proofs.OfEvents.Behind.{one-is}
use Rattle.texts.proofs.OfEvents.Wrong.{no_kind, bad_kind, kind-found, then-halts}
use Rattle.texts.proofs.events.reading.lists.read_odd.Goals as goal

pub returns-in_default-clause-fault : goal.returns-in_default-clause-fault
returns-in_default-clause-fault c = rw c.in_default.ensures.none no_kind

pub returns-in_default-read_kind-clause-fault : goal.returns-in_default-read_kind-clause-fault
returns-in_default-read_kind-clause-fault c =
    let word = c.in-Some.word.now in
    let none : None ≡ odd_kind_in word = search rules in
    rw c.in-Some.ensures.some (bad_kind word (words c.in-Some.rest.now) none)

pub returns-in-Ok-clause-found : goal.returns-in-Ok-clause-found
returns-in-Ok-clause-found c =
    let word = c.in-Some.word.now in
    let kind = c.in-Some-read_kind.kind in
    let found : Some kind ≡ odd_kind_in word = search rules in
    let s = kind-found word kind (sym found) in
    let code : words c.in-Some.rest.now ≡ codes "1" ∷ [] = c.in-Ok.ensures.found in
    rw c.new.ensures (record {
      spelled = λ i. codes "odd"
          ∷ (c.in-Some.ensures.some ∙ (λ j. s.0 j ∷ (code ∙ (λ k. sym one-is k ∷ [])) j)) i;
      lawful = (s.1, refl);
      textual = tt;
    })

pub returns-in-Err-clause-fault : goal.returns-in-Err-clause-fault
returns-in-Err-clause-fault c =
    let word = c.in-Some.word.now in
    let kind = c.in-Some-read_kind.kind in
    let found : Some kind ≡ odd_kind_in word = search rules in
    let s = kind-found word kind (sym found) in
    rw (c.in-Some.ensures.some, c.one_more.ensures) (then-halts IsOddKind (Then IsOddCode NoWord)
    word (words c.in-Some.rest.now) c.in-Err.halt s.2 c.in-Err.ensures.fault)
