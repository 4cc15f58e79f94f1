-- How many transfer sets an event concerns: a tick those of which something is due, an update those
-- that are enabled and whose data set names its point.
use Rattle.std.specs.Prelude.{ℕ, ◌≤◌, ◌+◌, ◌*◌, ◌==◌, ◌&&◌, not, Bool, List, length, filter}
use Rattle.std.specs.Prelude.{nat_lt}
use Rattle.std.specs.List.{range_with_len}
use Rattle.bilateral.specs.declared.rows.TheConstants.{SLOT_LIMIT}
use Rattle.bilateral.specs.Rows.{CentreRows, point_of}
use Rattle.tase_views.specs.declared.event.EventKind.{EventKind}
use Rattle.tase_views.specs.declared.event.EventKind.TheVariants.{Update, Tick}
use Rattle.tase_views.specs.History.{Past}
use Rattle.tase_views.specs.OwnTables.{OwnTables, own_tables}
use Rattle.tase_views.specs.View.{View, view_of, held}
use Rattle.tase_views.specs.Slots.{sets_in, slot_moves, members_told, places_told}
use Rattle.tase_views.specs.Reports.{slot_state, due_conditions}
use Rattle.node_core.specs.Feeds.Indexed.{over_peers}

-- how many of the transfer sets that a table may offer have a property
abbrev pub slots_with : (ℕ → Bool) → ℕ
slots_with has = length (filter has (range_with_len 0 SLOT_LIMIT))

-- how many transfer sets of a peer have something due at a tick to a moment, over its view
abbrev pub due_in : OwnTables → View → ℕ → ℕ
due_in tables view to = slots_with (λ s. not (due_conditions tables view s to == 0))

-- how many are enabled and have a data set that names a point, over its view
abbrev pub watching_in : OwnTables → View → List ℕ → ℕ
watching_in tables view name =
    slots_with (λ s. (slot_state tables view s).wish.status && nat_lt 0 (length
    (places_told (held tables view) (members_told (held tables view) (sets_in tables view)
    (slot_moves tables view s)) name)))

-- those of all peers behind a past
abbrev pub due_in_all : CentreRows → Past → ℕ → ℕ
due_in_all rows past to =
    over_peers (length rows.tables) (λ peer. due_in (own_tables rows peer)
    (view_of rows peer past) to)

abbrev pub watching_total : CentreRows → Past → ℕ → ℕ
watching_total rows past point =
    over_peers (length rows.tables) (λ peer. watching_in (own_tables rows peer)
    (view_of rows peer past) (point_of rows point).name)

-- By their numbers before and behind an event: a tick takes at most eight looks for each transfer
-- set of which something is due, an update at most eight for each that is enabled and whose data set
-- names its point. Of other events nothing is said.
abbrev pub HasFewLooks : CentreRows → Past → EventKind → ℕ → ℕ → Type 0
HasFewLooks rows past (Tick to) old new = new ≤ old + 8 * due_in_all rows past to
HasFewLooks rows past (Update point value) old new = new ≤ old + 8 * watching_total rows past point
HasFewLooks rows past event old new = Unit {0}
