use Rattle.std.proofs.Common.{◌≡◌, false, true, length, arith}
use Rattle.texts.proofs.OfEvents.SoFar.{assigned-break, assigned-empty, assigned-more}
use Rattle.texts.proofs.OfEvents.Assigning.{assigned-word}
use Rattle.texts.proofs.events.reading.names.read_assignments.Goals as goal

pub returns-in_default-2-clause-fault : goal.returns-in_default-2-clause-fault
returns-in_default-2-clause-fault c =
    let word = c.in-Some.word.now in
    assigned-break c.args.text.now c.loop-word.rest.now c.in-Some.after.now word c.loop-word.names
    c.loop-word.values c.len.result c.loop-word.invariant c.in-Some.ensures.some c.len.ensures
    (λ w. let some = c.in_ok-assignment.ensures.only w.name w.value (assigned-word word w) in
    let wrong : false ≡ true = rw c.in_default-2.is at some in absurd cc)

pub loop-word-preserved : goal.loop-word-preserved
loop-word-preserved c =
    let a = c.in-Some-2.assignment in
    rw (c.in_ok-push.ensures.ok, c.in_ok-push-2.ensures.ok) (assigned-more c.args.text.now
    c.loop-word.rest.now c.in-Some.after.now c.in-Some.word.now c.loop-word.names
    c.loop-word.values a.name a.value c.loop-word.invariant c.in-Some.ensures.some
    c.in-Some.ensures.shorter (rw c.in-Some-2.is at c.in_ok-assignment.ensures.found))

pub returns-then-len-eq0-clause-fault : goal.returns-then-len-eq0-clause-fault
returns-then-len-eq0-clause-fault c =
    let names = c.loop-word.names in
    let few : length names ≡ 0 = omega (arith, c.len-2.ensures, c.if-len-eq0.true) in
    assigned-empty c.args.text.now c.loop-word.rest.now names c.loop-word.values
    c.loop-word.invariant c.in_default.ensures.none few
