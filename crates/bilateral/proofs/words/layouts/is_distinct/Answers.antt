use Rattle.std.proofs.Common.{sym}
use Rattle.bilateral.proofs.OfWords.Components.{is_distinct-at, is_distinct-take}
use Rattle.bilateral.proofs.words.layouts.is_distinct.Goals as goal

pub returns-then-contains : goal.returns-then-contains
returns-then-contains c =
    sym (is_distinct-at c.args.components.now c.loop-i.i _ c.loop-i-test.true
    (sym c.if-contains.ensures))

pub loop-i-preserved : goal.loop-i-preserved
loop-i-preserved c =
    is_distinct-take c.args.components.now c.loop-i.i _ c.loop-i-test.true c.loop-i.invariant
    (sym c.if-contains.ensures)
