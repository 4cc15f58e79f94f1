-- Four updates of two states: a first one, the same again at another time, one of the other point,
-- and one of the first. Slots that watch two points, begin to and end to.
use Rattle.std.proofs.Common.{◌≡◌, ℕ, List, [], ◌∷◌, refl}
use Rattle.tase_points.specs.declared.kind.Kind.{Kind}
use Rattle.tase_points.specs.declared.kind.Kind.TheVariants.{State as state_kind}
use Rattle.tase_points.specs.declared.body.Body.TheVariants.{State}
use Rattle.tase_points.specs.Sample.{Sample}
use Rattle.tase_points.specs.Values.{unknown_sample}
use Rattle.point_db.specs.Updates.{Updates, last_value, change_count, serial_of}
use Rattle.point_db.specs.Stored.{last_serial}
use Rattle.point_db.specs.WatchLists.{PointSlots, point_slots, with_watch, without_slot}

abbrev kinds : List Kind
kinds = state_kind ∷ state_kind ∷ []

abbrev on : ℕ → Sample
on second = record { body = State 2; flags = 0; seconds = second; millis = 0 }

abbrev off : Sample
off = record { body = State 1; flags = 0; seconds = 9; millis = 0 }

abbrev past : Updates
past = record { point = 0; value = off } ∷ record { point = 1; value = on 8 }
    ∷ record { point = 0; value = on 7 } ∷ record { point = 0; value = on 5 } ∷ []

before : last_value kinds [] 0 ≡ unknown_sample state_kind
before = refl

last : last_value kinds past 0 ≡ off
last = refl

-- the second value of the first point differs in its time alone
counted : change_count kinds past 0 ≡ 2
counted = refl

other : change_count kinds past 1 ≡ 1
other = refl

all : serial_of kinds past ≡ 3
all = refl

at_last : last_serial kinds past 0 ≡ 3
at_last = refl

at_other : last_serial kinds past 1 ≡ 2
at_other = refl

abbrev watch : List PointSlots
watch = record { slots = 2 ∷ 5 ∷ []; spare = 2 } ∷ record { slots = 5 ∷ []; spare = 0 } ∷ []

-- between two others, by one of the spare
added : with_watch watch 0 3
    ≡ record { slots = 2 ∷ 3 ∷ 5 ∷ []; spare = 1 } ∷ record { slots = 5 ∷ []; spare = 0 } ∷ []
added = refl

-- a slot that is there takes none
added_again : with_watch watch 1 5 ≡ watch
added_again = refl

added_behind : (point_slots (with_watch watch 0 7) 0).slots ≡ 2 ∷ 5 ∷ 7 ∷ []
added_behind = refl

removed : without_slot watch 5
    ≡ record { slots = 2 ∷ []; spare = 2 } ∷ record { slots = []; spare = 0 } ∷ []
removed = refl
