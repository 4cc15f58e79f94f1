use Rattle.std.proofs.Common.{◌≡◌, None, Some, sym, rules}
use Rattle.plain_text.specs.Words.{words}
use Rattle.texts.specs.Events.CallWords.{AreCallWords}
use Rattle.texts.specs.Events.Verbs.{verb_in}
use Rattle.texts.proofs.OfEvents.Breaking.{breaks-none, breaks-first}
use Rattle.texts.proofs.OfEvents.Behind.{some_call, no_words, no_verb, verb-halts}
use Rattle.texts.proofs.events.reading.whole.Goals as goal

pub returns-in_default-clause-fault : goal.returns-in_default-clause-fault
returns-in_default-clause-fault c =
    rw c.in_default.ensures.none (breaks-none AreCallWords _ some_call no_words)

pub returns-in_default-find_verb-clause-fault : goal.returns-in_default-find_verb-clause-fault
returns-in_default-find_verb-clause-fault c =
    let word = c.in-Some.word.now in
    let rest = words c.in-Some.rest.now in
    let none : None ≡ verb_in word = search rules in
    rw c.in-Some.ensures.some (breaks-first AreCallWords word rest _ some_call
    (λ more q. no_verb word more (sym none) q))

pub returns-in-Err-clause-fault : goal.returns-in-Err-clause-fault
returns-in-Err-clause-fault c =
    let word = c.in-Some.word.now in
    let verb = c.in-Some-find_verb.verb in
    let found : Some verb ≡ verb_in word = search rules in
    rw (c.in-Some.ensures.some, c.one_more.ensures) (verb-halts word (words c.in-Some.rest.now) verb
    c.in-Err.halt (sym found) c.in-Err.ensures.fault)
