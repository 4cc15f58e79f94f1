-- The history of a node, and the associations of its seats.
use Rattle.std.specs.Prelude.{ℕ, ◌+◌, ◌==◌, ◌&&◌, if◌then◌else◌, Bool, true, false, List, [], ◌∷◌}
use Rattle.std.specs.Prelude.{length, filter, Option, Some, None}
use Rattle.sbo_device.specs.declared.key.Key.{Key}
use Rattle.tase_views.specs.declared.event.EventKind.{EventKind}
use Rattle.tase_views.specs.declared.event.Entry.{Entry}
use Rattle.tase_views.specs.Moves.{EventSort, sort_of, opening, closing}
use Rattle.tase_views.specs.Moves.{feeding, ticks, stops}

-- the accepted events with their seats, the newest first
abbrev pub Past : Type 0
Past = List Entry

-- whether an event is an open by this peer, as a number
abbrev pub counts_opening : EventSort → ℕ → ℕ
counts_opening (opening opener) peer = if opener == peer then 1 else 0
counts_opening _ peer = 0

abbrev pub counts_open : EventKind → ℕ → ℕ
counts_open event peer = counts_opening (sort_of event) peer

-- how many associations a peer has opened
abbrev pub opens_in : Past → ℕ → ℕ
opens_in [] peer = 0
opens_in (entry ∷ past) peer = counts_open entry.event peer + opens_in past peer

-- the association that an open by this peer opens: the peer, and how many associations it had
-- opened before
abbrev pub next_key : Past → ℕ → Key
next_key past peer = record { peer = peer; ordinal = opens_in past peer }

-- the association of a seat after an event of it, if it had `before`
abbrev pub association_by : EventSort → Past → Option Key → Option Key
association_by (opening peer) past before = Some (next_key past peer)
association_by closing past before = None
association_by _ past before = before

abbrev pub association_after : EventKind → Past → Option Key → Option Key
association_after event past before = association_by (sort_of event) past before

-- the open association of a seat
abbrev pub association_in : Past → ℕ → Option Key
association_in [] who = None
association_in (entry ∷ past) who =
    if entry.who == who then association_after entry.event past (association_in past who)
    else association_in past who

-- the association that an event of a seat is of: that which it opens, or else the seat's before it
abbrev pub key_by : EventSort → Past → Option Key → Option Key
key_by (opening peer) past before = Some (next_key past peer)
key_by _ past before = before

abbrev pub key_at : EventKind → Past → ℕ → Option Key
key_at event past who = key_by (sort_of event) past (association_in past who)

-- the entries of a seat
abbrev pub entries_by : ℕ → Past → Past
entries_by who past = filter (λ entry. entry.who == who) past

-- whether an association is this one
abbrev pub is_key : Key → Option Key → Bool
is_key key None = false
is_key key (Some other) = (other.peer == key.peer) && (other.ordinal == key.ordinal)

-- the entries of an association, the newest first: its open, and the others of its seat up to its
-- close, which is one of them
abbrev pub entries_of : Key → Past → Past
entries_of key [] = []
entries_of key (entry ∷ past) =
    if is_key key (key_at entry.event past entry.who) then entry ∷ entries_of key past
    else entries_of key past

-- the moment behind an event, where it was `before` in front of it
abbrev pub moment_by : EventSort → ℕ → ℕ
moment_by (feeding (ticks now)) before = now
moment_by _ before = before

-- the moment of the last tick of a history, in milliseconds since 1970; before any, 0
abbrev pub last_tick : Past → ℕ
last_tick [] = 0
last_tick (entry ∷ past) = moment_by (sort_of entry.event) (last_tick past)

abbrev pub is_stopping : EventSort → Bool
is_stopping (feeding stops) = true
is_stopping _ = false

abbrev pub is_stop : EventKind → Bool
is_stop event = is_stopping (sort_of event)

-- the place of the stop of a history, if it has one; the oldest entry stands at 0
abbrev pub stop_in : Past → Option ℕ
stop_in [] = None
stop_in (entry ∷ past) = if is_stop entry.event then Some (length past) else stop_in past
