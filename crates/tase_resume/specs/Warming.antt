-- The entries by which a node that begins anew comes to where another one left off: tables chosen,
-- last values, tags, the moment, data sets. No association, selection, transfer set and order is
-- carried over.
use Rattle.std.specs.Prelude.{ℕ, ◌==◌, ◌&&◌, if◌then◌else◌, List, [], ◌∷◌, ◌++◌, map, flat_map}
use Rattle.std.specs.Prelude.{length, reverse}
use Rattle.std.specs.List.{range_with_len}
use Rattle.std.specs.Option.{option_map_or}
use Rattle.tase_points.specs.Sample.{Sample}
use Rattle.data_sets.specs.declared.book.DataSet.{DataSet}
use Rattle.bilateral.specs.Rows.{CentreRows, device_of}
use Rattle.sbo_device.specs.Moves.{Tag}
use Rattle.sbo_device.specs.States.{tag_of}
use Rattle.point_db.specs.Updates.{last_given}
use Rattle.tase_views.specs.declared.call.CallKind.TheVariants.{Define}
use Rattle.tase_views.specs.declared.event.EventKind.{EventKind}
use Rattle.tase_views.specs.declared.event.EventKind.TheVariants.{Open, Request, Close, Update}
use Rattle.tase_views.specs.declared.event.EventKind.TheVariants.{Table, Tick}
use Rattle.tase_views.specs.declared.event.EventKind.TheVariants as events
use Rattle.tase_views.specs.declared.event.Entry.{Entry}
use Rattle.tase_views.specs.History.{Past, last_tick}
use Rattle.tase_views.specs.OwnTables.{OwnTable, own_tables, domain_name}
use Rattle.tase_views.specs.Devices.{device_moves}
use Rattle.tase_views.specs.View.{moves_in, view_of, steps_in, held}
use Rattle.tase_views.specs.Chosen.{chosen_in}
use Rattle.tase_views.specs.Listed.{sets_listed}
use Rattle.tase_views.specs.Given.{updates_of}
use Rattle.tase_resume.specs.Bases.{settled_past}

-- the numbers of the items of a list
abbrev pub places_of : {A : Type 0} → List A → List ℕ
places_of xs = range_with_len 0 (length xs)

-- a table other than the first is chosen anew
abbrev pub table_event : ℕ → ℕ → List EventKind
table_event peer variant = if variant == 0 then [] else Table peer variant ∷ []

-- a device is tagged anew, unless it has no tag and no reason
abbrev pub tag_event : ℕ → Tag → List EventKind
tag_event device tag =
    if (tag.tag == 0) && (length tag.reason == 0) then [] else events.Tag device tag ∷ []

-- the clock is set, unless it never stood anywhere
abbrev pub moment_event : ℕ → List EventKind
moment_event now = if now == 0 then [] else Tick now ∷ []

-- a data set is defined in the domain of a table
abbrev pub define_event : OwnTable → DataSet → EventKind
define_event table set = Request (Define (domain_name table set.name) set.members)

-- a peer defines its data sets, in an association of its own, unless it has none
abbrev pub set_events : ℕ → OwnTable → List DataSet → List EventKind
set_events peer table [] = []
set_events peer table (set ∷ sets) =
    Open peer ∷ map (define_event table) (set ∷ sets) ++ Close ∷ []

module _ (rows : CentreRows) (past : Past) where
  -- what the snapshot tells of a peer's table, of a point, of a device, and of a peer's data sets

  abbrev pub table_told : ℕ → List EventKind
  table_told peer = table_event peer (chosen_in (view_of rows peer past))

  abbrev pub value_told : ℕ → List EventKind
  value_told point =
      option_map_or (λ (value : Sample). Update point value ∷ [])
      (last_given (updates_of past) point) []

  abbrev pub tag_told : ℕ → List EventKind
  tag_told device =
      tag_event device
      (tag_of (device_moves (device_of rows device).name
      (steps_in rows (own_tables rows) (moves_in past))))

  abbrev pub sets_told : ℕ → List EventKind
  sets_told peer =
      set_events peer (held (own_tables rows peer) (view_of rows peer past))
      (sets_listed (own_tables rows peer) (view_of rows peer past))

  -- all of it
  abbrev pub warm_events : List EventKind
  warm_events =
      flat_map table_told (places_of rows.tables) ++ flat_map value_told (places_of rows.points)
      ++ flat_map tag_told (places_of rows.devices) ++ moment_event (last_tick past)
      ++ flat_map sets_told (places_of rows.tables)

-- an entry of the centre's own seat
abbrev pub of_centre : EventKind → Entry
of_centre event = record { who = 0; event = event }

-- the snapshot of a history, the oldest entry first
abbrev pub warm_entries : CentreRows → Past → List Entry
warm_entries rows past = map of_centre (warm_events rows (settled_past past))

-- the history of a node that has taken the snapshot of another one
abbrev pub warm_past : CentreRows → Past → Past
warm_past rows past = reverse (warm_entries rows past)
