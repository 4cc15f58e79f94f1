use Rattle.std.proofs.Common.{◌≡◌, ◌++◌, None, length, map, ap, ◌∙◌, arith, rules}
use Rattle.plain_text.specs.Words.{words}
use Rattle.mms_data.specs.Text.NameIn.{name_in}
use Rattle.mms_data.specs.Text.Texts.{name_text}
use Rattle.texts.proofs.OfEvents.Wrong.{names-break, names-none, names-more}
use Rattle.texts.proofs.events.reading.names.read_names.Goals as goal

pub returns-in_default-2-clause-fault : goal.returns-in_default-2-clause-fault
returns-in_default-2-clause-fault c =
    let names = c.loop-word.names in
    let word = c.in-Some.word.now in
    let none : None ≡ name_in word = search rules in
    let s = c.loop-word.invariant in
    names-break (words c.args.text.now) names word (words c.in-Some.after.now) c.len.result
    (s.0 ∙ ap (λ t. map name_text names ++ t) c.in-Some.ensures.some) c.len.ensures s.1 none

pub loop-word-preserved : goal.loop-word-preserved
loop-word-preserved c =
    let s = c.loop-word.invariant in
    let name = c.in-Some-2.name in
    rw c.in_ok-push.ensures.ok (names-more (words c.args.text.now) (words c.loop-word.rest.now)
    (words c.in-Some.after.now) c.loop-word.names name c.in-Some.word.now
    (length c.loop-word.rest.now) (length c.in-Some.after.now) (length c.args.text.now)
    s.0 s.1 s.2 c.in-Some.ensures.some c.in-Some.ensures.shorter
    (rw c.in-Some-2.is at c.in_ok-name.ensures.found))

pub returns-then-len-eq0-clause-fault : goal.returns-then-len-eq0-clause-fault
returns-then-len-eq0-clause-fault c =
    let names = c.loop-word.names in
    let few : length names ≡ 0 = omega (arith, c.len-2.ensures, c.if-len-eq0.true) in
    names-none (words c.args.text.now) (words c.loop-word.rest.now) names c.loop-word.invariant.0
    c.in_default.ensures.none few
