-- Which seat has an association, while a history grows.
use Rattle.std.specs.Prelude.{◌≡◌, ℕ, ◌==◌, Bool, false, ◌||◌, if◌then◌else◌, List, [], ◌∷◌}
use Rattle.std.specs.Prelude.{◌++◌, Option, Some, None}
use Rattle.sbo_device.specs.declared.key.Key.{Key}
use Rattle.tase_views.specs.declared.event.EventKind.{EventKind}
use Rattle.tase_views.specs.declared.reply.Answer.{Answer}
use Rattle.tase_views.specs.declared.reply.Answer.TheVariants.{Opened, Closed}
use Rattle.tase_views.specs.Setup.{Setup}
use Rattle.tase_views.specs.Moves.{EventSort, opening, sort_of}
use Rattle.tase_views.specs.History.{Past, is_key, association_in}
use Rattle.tase_verify.specs.declared.association.answered.AnsweredEvent.{AnsweredEvent}
use Rattle.tase_verify.specs.Verifying.{answered_for}

-- whether an association is the one that is meant
abbrev pub is_meant : Option Key → Option Key → Bool
is_meant None found = false
is_meant (Some key) found = is_key key found

-- whether this is the seat that is followed
abbrev pub is_followed : Option ℕ → ℕ → Bool
is_followed None who = false
is_followed (Some seat) who = seat == who

-- the seat that is followed is the one that has the association open that is meant
abbrev pub HoldsSeat : Option Key → Past → Option ℕ → Type 0
HoldsSeat key past seat =
    (who : ℕ) → is_meant key (association_in past who) ≡ is_followed seat who

-- of a history these are the seat and the events, with their answers, of the association that is
-- meant
pub record IsWatched (setup : Setup) (past : Past) (key : Option Key) (seat : Option ℕ)
    (answered : List AnsweredEvent) : Type 0 where
  pub holds : HoldsSeat key past seat
  pub events : answered ≡ answered_for setup key past

-- ---- how an event is judged by its answer

-- whether the peer of the association that is meant opens one
abbrev pub opens_by : Option Key → EventSort → Bool
opens_by (Some key) (opening peer) = peer == key.peer
opens_by key sort = false

abbrev pub opens_as : Option Key → EventKind → Bool
opens_as key event = opens_by key (sort_of event)

-- an event of a seat that may be of the association that is meant
abbrev pub kept_of : Option Key → Option ℕ → ℕ → EventKind → Option EventKind
kept_of key seat who event =
    if is_followed seat who || opens_as key event then Some event else None

-- whether the event of a seat that has this answer is of the association that is meant
abbrev pub is_told : Option Key → Option ℕ → ℕ → Answer → Bool
is_told key seat who (Opened found) = is_meant key (Some found)
is_told key seat who answer = is_followed seat who

-- the seat that is followed behind an event of the association that is meant
abbrev pub seat_behind : Option ℕ → ℕ → Answer → Option ℕ
seat_behind seat who (Opened found) = Some who
seat_behind seat who Closed = None
seat_behind seat who answer = seat

-- the events with one more, if there is one
abbrev pub with_event : List AnsweredEvent → Option EventKind → Answer → List AnsweredEvent
with_event answered None answer = answered
with_event answered (Some event) answer =
    answered ++ record { event = event; answer = answer } ∷ []

-- what is followed, and what is kept, behind the event of a seat that has this answer
abbrev pub seat_after : Option Key → Option ℕ → ℕ → Answer → Option ℕ
seat_after key seat who answer =
    if is_told key seat who answer then seat_behind seat who answer else seat

abbrev pub events_after : Option Key → Option ℕ → ℕ → List AnsweredEvent → Option EventKind
    → Answer → List AnsweredEvent
events_after key seat who answered kept answer =
    if is_told key seat who answer then with_event answered kept answer else answered
