-- The first stray blank is among the places that are left.
use Rattle.std.proofs.Common.{◌≡◌, ◌-◌, length}
use Rattle.texts.specs.Events.WordPlaces as own
use Rattle.texts.proofs.OfEvents.Places.{found_from}
use Rattle.texts.proofs.events.reading.places.blank_place.Given as goal

abbrev pub invariant-loop-place : goal.invariant-loop-place
invariant-loop-place l =
    own.blank_place l.text
    ≡ found_from (own.is_stray_blank l.text) l.place (length l.text - l.place) 0 (length l.text)
