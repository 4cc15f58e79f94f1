-- The updates of a history.
use Rattle.std.specs.Prelude.{Option, Some, None, filter_map}
use Rattle.point_db.specs.Updates.{Update, Updates}
use Rattle.tase_views.specs.Moves.{EventSort, sort_of, feeding, updates}
use Rattle.tase_views.specs.History.{Past}

-- the update that an event of this sort is, where it is one
abbrev pub update_by : EventSort → Option Update
update_by (feeding (updates point value)) = Some (record { point = point; value = value })
update_by _ = None

-- the updates of a history, the newest first
abbrev pub updates_of : Past → Updates
updates_of past = filter_map (λ entry. update_by (sort_of entry.event)) past
