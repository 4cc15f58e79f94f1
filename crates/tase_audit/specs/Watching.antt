-- What is watched of a history for a peer: its own entries, each whole, and what it sees besides.
use Rattle.std.specs.Prelude.{ℕ, ◌==◌, if◌then◌else◌, List, [], ◌∷◌, ◌++◌, map, Option, Some, None}
use Rattle.bilateral.specs.Rows.{CentreRows}
use Rattle.sbo_device.specs.declared.key.Key.{Key}
use Rattle.tase_views.specs.declared.call.CallKind.{CallKind}
use Rattle.tase_views.specs.declared.event.Entry.{Entry}
use Rattle.tase_views.specs.Moves.{Act, opens, takes, closes, acts_of_call, EventSort, sort_of}
use Rattle.tase_views.specs.Moves.{opening, requesting, taking, closing, moves_of}
use Rattle.tase_views.specs.History.{Past, key_at}
use Rattle.tase_views.specs.OwnTables.{own_tables}
use Rattle.tase_views.specs.View.{moves_in, Seen, own, View, seen_in}

-- an entry of an association: its open, a call, a take of its reports, its close
pub data OwnEntry : Type 0 where
  open_entry : OwnEntry
  call_entry : CallKind → OwnEntry
  take_entry : OwnEntry
  close_entry : OwnEntry

-- an entry of the peer's own association with this ordinal; or what the peer sees besides
pub data WatchItem : Type 0 where
  own_item : ℕ → OwnEntry → WatchItem
  seen_item : Seen → WatchItem

-- what an event is as an entry of an association; what the centre does, and a take of the plant's
-- orders, are none
abbrev pub entry_as : EventSort → Option OwnEntry
entry_as (opening peer) = Some open_entry
entry_as (requesting call) = Some (call_entry call)
entry_as taking = Some take_entry
entry_as closing = Some close_entry
entry_as _ = None

-- an entry as the peer's own, if its association is one of the peer's
abbrev pub own_by : ℕ → Option Key → Option OwnEntry → Option WatchItem
own_by peer (Some key) (Some entry) =
    if key.peer == peer then Some (own_item key.ordinal entry) else None
own_by peer _ _ = None

-- an own entry alone, or else what is seen
abbrev pub items_or : Option WatchItem → View → List WatchItem
items_or (Some item) seen = item ∷ []
items_or None seen = map seen_item seen

-- what is watched of an event of this association behind a past, the newest first
abbrev pub items_by : CentreRows → ℕ → Past → Option Key → EventSort → List WatchItem
items_by rows peer past key sort =
    items_or (own_by peer key (entry_as sort))
    (seen_in rows (own_tables rows) peer (moves_in past) (moves_of sort key))

abbrev pub items_at : CentreRows → ℕ → Past → Entry → List WatchItem
items_at rows peer past entry =
    items_by rows peer past (key_at entry.event past entry.who) (sort_of entry.event)

-- what is watched of a history for a peer, the newest first
abbrev pub watch_of : CentreRows → ℕ → Past → List WatchItem
watch_of rows peer [] = []
watch_of rows peer (entry ∷ past) = items_at rows peer past entry ++ watch_of rows peer past

-- what an association does by an entry, the newest first
abbrev pub acts_of_entry : OwnEntry → List Act
acts_of_entry open_entry = opens ∷ []
acts_of_entry (call_entry call) = acts_of_call call
acts_of_entry take_entry = takes ∷ []
acts_of_entry close_entry = closes ∷ []

-- what an item shows, the newest first, and the view that items are
abbrev pub view_of_item : WatchItem → View
view_of_item (own_item ordinal entry) = map (own ordinal) (acts_of_entry entry)
view_of_item (seen_item seen) = seen ∷ []

abbrev pub view_of_items : List WatchItem → View
view_of_items [] = []
view_of_items (item ∷ items) = view_of_item item ++ view_of_items items
