-- What a seat has asked in a history, and what an association is sent over it.
use Rattle.std.specs.Prelude.{◌≡◌, ℕ, ◌==◌, if◌then◌else◌, Bool, true, List, [], ◌∷◌, ◌++◌}
use Rattle.std.specs.Prelude.{Option, Some, None}
use Rattle.std.specs.List.{filter_map}
use Rattle.bilateral.specs.Rows.{CentreRows}
use Rattle.sbo_device.specs.declared.key.Key.{Key}
use Rattle.tase_views.specs.declared.event.EventKind.{EventKind}
use Rattle.tase_views.specs.declared.event.EventKind.TheVariants as events
use Rattle.tase_views.specs.declared.event.Entry.{Entry}
use Rattle.tase_views.specs.Moves.{EventSort, taking_orders, feeding, sort_of}
use Rattle.tase_views.specs.History.{Past}
use Rattle.tase_views.specs.OwnTables.{own_tables}
use Rattle.tase_views.specs.View.{view_of}
use Rattle.tase_conn.specs.Map.Readings.{reading_of}
use Rattle.tase_conn.specs.Map.Turns.{Turn, concludes, ends}
use Rattle.tase_conn.specs.Map.Out.{talk_of, acts_made, turns_behind, octets_out}

-- the history with an event of a seat more
abbrev pub with_event : ℕ → EventKind → Past → Past
with_event who event past = record { who = who; event = event } ∷ past

-- the event of an entry, where it is of this seat
abbrev pub event_by : ℕ → Entry → Option EventKind
event_by who entry = if entry.who == who then Some entry.event else None

-- the events of a seat, the newest first
abbrev pub events_by : ℕ → Past → List EventKind
events_by who past = filter_map (event_by who) past

-- the octets that an association is sent over this past, where its link has given this text
abbrev pub association_octets : CentreRows → Past → Key → List ℕ → Bool → List ℕ
association_octets rows past key text ended =
    octets_out (own_tables rows key.peer) (view_of rows key.peer past) key.ordinal text ended

-- what its text has behind the requests that it has made so far
abbrev pub turns_left : CentreRows → Past → Key → List ℕ → Bool → List Turn
turns_left rows past key text ended = turns_behind (talk_of (reading_of text) ended).turns
    (acts_made key.ordinal (view_of rows key.peer past))

-- every request that it has made stands in its text: were the link to end there, the end would come
-- behind what is left
abbrev pub AreInText : CentreRows → Past → Key → List ℕ → Type 0
AreInText rows past key text =
    (rest : List Turn) × (turns_left rows past key text true ≡ rest ++ ends ∷ [])

-- what stands at the place of a close, and no text that comes changes what it is answered
abbrev pub IsFixed : List Turn → Type 0
IsFixed [] = ⊥
IsFixed (concludes ∷ []) = ⊥
IsFixed (turn ∷ turns) = Unit {0}

-- an event that asks for no service
abbrev pub AsksNoService : EventKind → Type 0
AsksNoService (events.Request call) = ⊥
AsksNoService event = Unit {0}

-- an event that is of no association's doing: a move of the centre's own, or the plant takes its
-- orders
abbrev pub IsFeeding : EventSort → Type 0
IsFeeding (feeding move) = Unit {0}
IsFeeding taking_orders = Unit {0}
IsFeeding _ = ⊥

abbrev pub IsNoted : EventKind → Type 0
IsNoted event = IsFeeding (sort_of event)
