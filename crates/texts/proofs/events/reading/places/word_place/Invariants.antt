-- The places that are left have the word that is left to be found.
use Rattle.std.proofs.Common.{◌≡◌, ◌-◌, length}
use Rattle.texts.specs.Events.WordPlaces as own
use Rattle.texts.proofs.OfEvents.Places.{found_from}
use Rattle.texts.proofs.events.reading.places.word_place.Given as goal

abbrev pub invariant-loop-place : goal.invariant-loop-place
invariant-loop-place l =
    own.word_place l.text l.fn.number
    ≡ found_from (own.is_word_start l.text) l.place (length l.text - l.place) l.left
    (length l.text)
