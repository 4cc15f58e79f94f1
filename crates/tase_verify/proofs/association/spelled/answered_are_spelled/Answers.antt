use Rattle.tase_verify.specs.Association.Spelled.{IsToldSpelled}
use Rattle.texts.proofs.OfJournal.Kept.{one_more, all_kept}
use Rattle.tase_verify.proofs.association.spelled.answered_are_spelled.Goals as goal

pub loop-told-preserved : goal.loop-told-preserved
loop-told-preserved c =
    one_more IsToldSpelled c.args.answered.now c.loop-told.told-index c.told-item.result
    c.loop-told-test.true c.told-item.is c.events_have_texts.ensures c.loop-told.invariant

pub returns : goal.returns
returns c =
    all_kept IsToldSpelled c.args.answered.now c.loop-told.told-index c.loop-told-test.false
    c.loop-told.invariant
