use Rattle.std.proofs.Common.{length, sym, ◌∙◌, ◌<◌, arith}
use Rattle.texts.specs.Events.WordPlaces as own
use Rattle.texts.proofs.OfEvents.Places.{found-passed, found-later}
use Rattle.texts.proofs.events.reading.places.word_place.Goals as goal
use Rattle.texts.proofs.events.reading.places.word_place.Goals.{then-is_word_start+else-left-eq0}
use Rattle.texts.proofs.events.reading.places.word_place.Goals.{else-is_word_start}

pub loop-place-preserved : goal.loop-place-preserved
loop-place-preserved c =
    let text = c.args.text.now in
    let test = own.is_word_start text in
    let place = c.loop-place.place in
    let left = c.loop-place.left in
    elim c.if-is_word_start.branch [
      | then-is_word_start+else-left-eq0 w ↦
          let some : 0 < left = omega (arith, w.if-left-eq0.false) in
          rw w.left-is (c.loop-place.invariant
          ∙ found-later test place left (length text) c.loop-place-test.true
          (sym c.is_word_start.ensures ∙ w.if-is_word_start.true) some)
      | else-is_word_start w ↦
          rw w.left-is (c.loop-place.invariant
          ∙ found-passed test place left (length text) c.loop-place-test.true
          (sym c.is_word_start.ensures ∙ w.if-is_word_start.false))
    ]
