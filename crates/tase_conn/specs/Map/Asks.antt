-- What an input asks of the node.
use Rattle.std.specs.Prelude.{◌≡◌, ◌<◌, ℕ, Bool, true, false, not, ◌&&◌, if◌then◌else◌, List, []}
use Rattle.std.specs.Prelude.{◌∷◌, ◌++◌, length}
use Rattle.std.specs.Prelude.{Option, Some, None, is_some, filter}
use Rattle.std.specs.List.{list_any}
use Rattle.bilateral.specs.Rows.{CentreRows, place_of_title}
use Rattle.tase_views.specs.declared.event.EventKind.{EventKind}
use Rattle.tase_views.specs.declared.event.EventKind.TheVariants as events
use Rattle.tase_conn.specs.Map.Inputs.{Item}
use Rattle.tase_conn.specs.Map.Turns.{Turn, offers, offers_badly, asks, concludes, releases, aborts}
use Rattle.tase_conn.specs.Map.Turns.{breaks, ends, pauses, turns_of}

-- whether an offer's title is a peer's, or it has none and there is a peer for such
abbrev pub is_peers : CentreRows → Option (List ℕ) → Bool
is_peers rows title = is_some (place_of_title rows title)

-- whether an association begins
abbrev pub begins : CentreRows → Turn → Bool
begins rows (offers title) = is_peers rows title
begins rows _ = false

-- whether an open association ends
abbrev pub finishes : Turn → Bool
finishes concludes = true
finishes releases = true
finishes aborts = true
finishes breaks = true
finishes ends = true
finishes _ = false

-- whether an association is open behind these
abbrev pub is_open_behind : CentreRows → List Turn → Bool
is_open_behind rows before = list_any (begins rows) before && not (list_any finishes before)

-- whether nothing follows: a declined offer, a release, an abort, a fault, the end
abbrev pub is_last : CentreRows → Turn → Bool
is_last rows (offers title) = not (is_peers rows title)
is_last rows offers_badly = true
is_last rows (asks invoke call) = false
is_last rows concludes = false
is_last rows releases = true
is_last rows aborts = true
is_last rows breaks = true
is_last rows ends = true
is_last rows pauses = false

-- up to the first behind which nothing follows
abbrev pub up_to_last : CentreRows → List Turn → List Turn
up_to_last rows [] = []
up_to_last rows (turn ∷ turns) =
    if is_last rows turn then turn ∷ [] else turn ∷ up_to_last rows turns

-- an event where it holds, else none
abbrev pub event_if : Bool → EventKind → List EventKind
event_if true event = event ∷ []
event_if false event = []

abbrev pub open_of : Option ℕ → List EventKind
open_of None = []
open_of (Some peer) = events.Open peer ∷ []

-- what is asked at one turn, behind these: an open, a request; while an association is open, a close
-- where it ends and a take behind all of a piece or an idle
abbrev pub asks_at : CentreRows → List Turn → Turn → List EventKind
asks_at rows before (offers title) = open_of (place_of_title rows title)
asks_at rows before offers_badly = []
asks_at rows before (asks invoke call) = events.Request call ∷ []
asks_at rows before pauses = event_if (is_open_behind rows before) events.Take
asks_at rows before _ = event_if (is_open_behind rows before) events.Close

abbrev pub asks_behind : CentreRows → List Turn → List Turn → List EventKind
asks_behind rows before [] = []
asks_behind rows before (turn ∷ turns) =
    asks_at rows before turn ++ asks_behind rows (before ++ turn ∷ []) turns

-- what an input asks of the node
abbrev pub asks_of : CentreRows → List Item → List EventKind
asks_of rows items = asks_behind rows [] (up_to_last rows (turns_of items))

-- ---- however a text is cut

abbrev pub is_pause : Turn → Bool
is_pause pauses = true
is_pause _ = false

abbrev pub without_pauses : List Turn → List Turn
without_pauses turns = filter (λ turn. not (is_pause turn)) turns

abbrev pub is_take : EventKind → Bool
is_take events.Take = true
is_take _ = false

abbrev pub without_takes : List EventKind → List EventKind
without_takes asked = filter (λ event. not (is_take event)) asked

-- ---- in turn

-- behind an open: requests and takes, and at last a close
abbrev pub AreServed : List EventKind → Type 0
AreServed [] = Unit {0}
AreServed (events.Request call ∷ asked) = AreServed asked
AreServed (events.Take ∷ asked) = AreServed asked
AreServed (events.Close ∷ asked) = asked ≡ []
AreServed (event ∷ asked) = ⊥

-- none, or first the open of a peer that there is: so that a node answers none of them that the seat
-- has no association, or has one already, or that there is no such peer
abbrev pub AreInTurn : CentreRows → List EventKind → Type 0
AreInTurn rows [] = Unit {0}
AreInTurn rows (events.Open peer ∷ asked) = (peer < length rows.tables) × AreServed asked
AreInTurn rows (event ∷ asked) = ⊥
