use Rattle.texts.specs.Journal.Entries.{IsEvent}
use Rattle.texts.proofs.OfJournal.Kept.{one_more, all_kept}
use Rattle.tase_verify.proofs.association.spelled.events_are_spelled.Goals as goal

pub loop-event-preserved : goal.loop-event-preserved
loop-event-preserved c =
    one_more IsEvent c.args.events.now c.loop-event.event-index c.event-item.result
    c.loop-event-test.true c.event-item.is c.events_have_texts.ensures c.loop-event.invariant

pub returns : goal.returns
returns c =
    all_kept IsEvent c.args.events.now c.loop-event.event-index c.loop-event-test.false
    c.loop-event.invariant
