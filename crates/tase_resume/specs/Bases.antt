-- The base of a history: what a node is left with that stops and is started again.
use Rattle.std.specs.Prelude.{ℕ, ◌==◌, nat_lt, not, if◌then◌else◌, List, [], ◌∷◌, ◌++◌, filter, map}
use Rattle.std.specs.Prelude.{reverse, is_some}
use Rattle.tase_views.specs.declared.event.EventKind.TheVariants.{Close}
use Rattle.tase_views.specs.declared.event.Entry.{Entry}
use Rattle.tase_views.specs.History.{Past, association_in, is_stop}

-- ascending seats and one more, at its place; the same where it is among them
abbrev pub with_seat : ℕ → List ℕ → List ℕ
with_seat who [] = who ∷ []
with_seat who (first ∷ seats) =
    if nat_lt who first then who ∷ first ∷ seats
    else if who == first then first ∷ seats else first ∷ with_seat who seats

-- the seats of a history, ascending, each once
abbrev pub seats_in : Past → List ℕ
seats_in [] = []
seats_in (entry ∷ past) = with_seat entry.who (seats_in past)

-- those that have an open association
abbrev pub open_seats : Past → List ℕ
open_seats past = filter (λ who. is_some (association_in past who)) (seats_in past)

-- the close of a seat's association
abbrev pub close_of : ℕ → Entry
close_of who = record { who = who; event = Close }

-- a history without its stops
abbrev pub without_stops : Past → Past
without_stops past = filter (λ entry. not (is_stop entry.event)) past

-- the base of a history: it has no stop, and behind it each association is closed that was open, in
-- the order of their seats
abbrev pub settled_past : Past → Past
settled_past past = reverse (map close_of (open_seats past)) ++ without_stops past
