use Rattle.std.proofs.Common.{◌∙◌, List, ap, sym, drop}
use Rattle.std.proofs.lemmas.List.{drop_all}
use Rattle.tase_conn.specs.Map.Asks.{without_takes}
use Rattle.tase_verify.specs.declared.association.spelled_event.SpelledEvent.{SpelledEvent}
use Rattle.tase_verify.specs.Association.Spelled.{events_spelled}
use Rattle.tase_verify.proofs.OfAssociation.StrayOn.{stray_at, some_missing}
use Rattle.tase_verify.proofs.association.stray.first_stray.Goals as goal

pub returns-then-done-asked : goal.returns-then-done-asked
returns-then-done-asked c =
    let rest = drop c.loop-event.done c.args.asked.now in
    sym (c.loop-event.invariant.ahead
    ∙ ap (λ (events : List SpelledEvent).
    stray_at c.loop-event.number (without_takes (events_spelled events)) (events_spelled rest))
    (drop_all c.loop-event.event-index c.args.events.now c.loop-event-test.false)
    ∙ some_missing c.loop-event.number c.args.asked.now c.loop-event.done c.if-number-eq0.false
    c.if-done-asked.true)
