-- The lines of a scenario: what each one asks of the node.
use Rattle.std.specs.Prelude.{ℕ, nat_le, if◌then◌else◌, List, [], ◌∷◌, Option}
use Rattle.std.specs.Prelude.{None, option_map, option_and_then, codes, bytes_eq}
use Rattle.plain_text.specs.Numbers.{if_passes, number_up_to}
use Rattle.plain_text.specs.Words.{words_in}
use Rattle.bilateral.specs.Rows.{CentreRows, place_of_peer}
use Rattle.tase_views.specs.declared.event.EventKind.{EventKind}
use Rattle.tase_views.specs.declared.event.EventKind.TheVariants.{Open, Request, Take, Close}
use Rattle.tase_views.specs.declared.event.Entry.{Entry}
use Rattle.texts.specs.Events.FeedLines.{centre_words_in}
use Rattle.tase_replay.specs.declared.entries.TheConstants.{SEAT_LIMIT}
use Rattle.tase_replay.specs.CallIn.{call_of_words}

-- a peer's seat, from 1 on
abbrev pub seat_in : List ℕ → Option ℕ
seat_in word = option_and_then (if_passes (λ n. nat_le 1 n)) (number_up_to SEAT_LIMIT word)

-- an event of a seat
abbrev pub entry_by : EventKind → ℕ → Entry
entry_by event who = record { who = who; event = event }

-- `open W KEY`, less its first word
abbrev pub open_in : CentreRows → List (List ℕ) → Option Entry
open_in rows (seat ∷ key ∷ []) =
    option_and_then (λ w. option_map (λ peer. entry_by (Open peer) w)
    (place_of_peer rows key)) (seat_in seat)
open_in rows words = None

-- `say W CALL`, less its first word
abbrev pub say_in : List (List ℕ) → Option Entry
say_in [] = None
say_in (seat ∷ call) =
    option_and_then (λ w. option_map (λ c. entry_by (Request c) w) (call_of_words call))
    (seat_in seat)

-- `take W` or `close W`, less its first word
abbrev pub seated_in : EventKind → List (List ℕ) → Option Entry
seated_in event (seat ∷ []) = option_map (entry_by event) (seat_in seat)
seated_in event words = None

-- the lines of the clock and of a feed are of seat 0
abbrev pub fed_in : CentreRows → List (List ℕ) → Option Entry
fed_in rows words = option_map (λ event. entry_by event 0) (centre_words_in rows words)

abbrev pub entry_of : CentreRows → List (List ℕ) → Option Entry
entry_of rows [] = None
entry_of rows (verb ∷ words) =
    if bytes_eq verb (codes "open") then open_in rows words
    else (if bytes_eq verb (codes "say") then say_in words
    else (if bytes_eq verb (codes "take") then seated_in Take words
    else (if bytes_eq verb (codes "close") then seated_in Close words
    else fed_in rows (verb ∷ words))))

-- the entry that a line asks for, where it is one of the forms and names what the centre has
abbrev pub entry_in : CentreRows → List ℕ → Option Entry
entry_in rows line = option_and_then (entry_of rows) (words_in line)
