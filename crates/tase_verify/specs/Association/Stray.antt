-- Which event of an association its link doesn't account for.
use Rattle.std.specs.Prelude.{ℕ, ◌+◌, Bool, true, false, ◌&&◌, if◌then◌else◌, List, [], ◌∷◌}
use Rattle.std.specs.Prelude.{map, reverse, Option, Some, None, bytes_eq}
use Rattle.bilateral.specs.Rows.{CentreRows}
use Rattle.sbo_device.specs.declared.key.Key.{Key}
use Rattle.tase_views.specs.declared.event.EventKind.{EventKind}
use Rattle.tase_views.specs.declared.event.EventKind.TheVariants as events
use Rattle.tase_views.specs.EventTexts.{event_text}
use Rattle.tase_views.specs.History.{Past, entries_of}
use Rattle.tase_views.specs.Outcomes.{is_close}
use Rattle.tase_conn.specs.Map.Inputs.{Item, piece, ended}
use Rattle.tase_conn.specs.Map.Asks.{asks_of, without_takes}
use Rattle.tase_verify.specs.declared.association.answered.AnsweredEvent.{AnsweredEvent}

-- ---- what is compared

-- what a link gave: octets, and whether it ended behind them
abbrev pub given : List ℕ → Bool → List Item
given octets false = piece octets ∷ []
given octets true = piece octets ∷ ended ∷ []

-- what that asks of the node, but for takes
abbrev pub events_asked : CentreRows → List ℕ → Bool → List EventKind
events_asked rows octets has_ended = without_takes (asks_of rows (given octets has_ended))

-- the events of an association, the oldest first, but for its takes
abbrev pub events_entered : Key → Past → List EventKind
events_entered key past = without_takes (map (λ entry. entry.event) (reverse (entries_of key past)))

-- the same of events that have their answers
abbrev pub events_told : List AnsweredEvent → List EventKind
events_told answered = without_takes (map (λ (told : AnsweredEvent). told.event) answered)

-- ---- how

-- two events with one text
abbrev pub same_event : EventKind → EventKind → Bool
same_event one other = bytes_eq (event_text one) (event_text other)

abbrev pub is_request : EventKind → Bool
is_request (events.Request call) = true
is_request event = false

-- a close where a request is asked: the node closes by itself
abbrev pub is_own_close : EventKind → EventKind → Bool
is_own_close event next = is_close event && is_request next

-- what is asked behind an event, where what is asked accounts for it: it is the next of that; or it
-- is a close of the node's own, in the place of a request or behind all, and nothing is asked any
-- more
abbrev pub asked_behind : EventKind → List EventKind → Option (List EventKind)
asked_behind event [] = if is_close event then Some [] else None
asked_behind event (next ∷ others) =
    if is_own_close event next then Some []
    else (if same_event event next then Some others else None)

abbrev pub number_if : ℕ → List EventKind → Option ℕ
number_if number [] = None
number_if number (next ∷ others) = Some number

abbrev pub go_on : ℕ → (List EventKind → Option ℕ) → Option (List EventKind) → Option ℕ
go_on number others None = Some number
go_on number others (Some rest) = others rest

-- the number of the first event that isn't accounted for by what is asked, or is missing, where
-- this is the number of the first of all
abbrev pub stray_from : ℕ → List EventKind → List EventKind → Option ℕ
stray_from number [] rest = number_if number rest
stray_from number (event ∷ entered) rest =
    go_on number (λ others. stray_from (number + 1) entered others) (asked_behind event rest)

-- where there are no events there is no such association
abbrev pub first_stray : List EventKind → List EventKind → Option ℕ
first_stray [] rest = Some 0
first_stray (event ∷ entered) rest = stray_from 0 (event ∷ entered) rest
