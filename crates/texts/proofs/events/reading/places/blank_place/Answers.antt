use Rattle.std.proofs.Common.{length, sym, ◌∙◌}
use Rattle.texts.specs.Events.WordPlaces as own
use Rattle.texts.proofs.OfEvents.Places.{found-passed}
use Rattle.texts.proofs.events.reading.places.blank_place.Goals as goal

pub loop-place-preserved : goal.loop-place-preserved
loop-place-preserved c =
    let text = c.args.text.now in
    c.loop-place.invariant
    ∙ found-passed (own.is_stray_blank text) c.loop-place.place 0 (length text)
    c.loop-place-test.true (sym c.is_stray_blank.ensures ∙ c.if-is_stray_blank.false)
