use Rattle.std.proofs.Common.{◌≡◌, false, true, length, arith}
use Rattle.texts.proofs.OfEvents.SetWords.{values-more, values-break, values-empty, word-value}
use Rattle.texts.proofs.events.reading.sets.read_values.Goals as goal

pub returns-in_default-2-clause-fault : goal.returns-in_default-2-clause-fault
returns-in_default-2-clause-fault c =
    let word = c.in-Some.word.now in
    values-break c.args.text.now c.loop-word.rest.now c.in-Some.after.now word c.loop-word.values
    c.len.result c.loop-word.invariant c.in-Some.ensures.some c.len.ensures
    (λ w. let some = c.in_ok-value.ensures.only w.value (word-value word w) in
    let wrong : false ≡ true = rw c.in_default-2.is at some in absurd cc)

pub loop-word-preserved : goal.loop-word-preserved
loop-word-preserved c =
    rw c.in_ok-push.ensures.ok (values-more c.args.text.now c.loop-word.rest.now
    c.in-Some.after.now c.in-Some.word.now c.loop-word.values c.in-Some-2.value
    c.loop-word.invariant c.in-Some.ensures.some c.in-Some.ensures.shorter
    (rw c.in-Some-2.is at c.in_ok-value.ensures.found))

pub returns-then-len-eq0-clause-fault : goal.returns-then-len-eq0-clause-fault
returns-then-len-eq0-clause-fault c =
    let values = c.loop-word.values in
    let few : length values ≡ 0 = omega (arith, c.len-2.ensures, c.if-len-eq0.true) in
    values-empty c.args.text.now c.loop-word.rest.now values c.loop-word.invariant
    c.in_default.ensures.none few
