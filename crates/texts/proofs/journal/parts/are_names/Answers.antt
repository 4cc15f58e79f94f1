use Rattle.mms_data.specs.ObjectName.{IsName}
use Rattle.texts.proofs.OfJournal.Kept.{one_more, all_kept}
use Rattle.texts.proofs.journal.parts.are_names.Goals as goal

pub loop-name-preserved : goal.loop-name-preserved
loop-name-preserved c =
    one_more IsName c.args.names.now c.loop-name.name-index c.name-item.result
    c.loop-name-test.true c.name-item.is c.is_name.ensures c.loop-name.invariant

pub returns : goal.returns
returns c =
    all_kept IsName c.args.names.now c.loop-name.name-index c.loop-name-test.false
    c.loop-name.invariant
