-- The updates of a history, by which its points have their values.
use Rattle.std.specs.Prelude.{List, map, Option, Some, None, filter_map}
use Rattle.tase_points.specs.declared.kind.Kind.{Kind}
use Rattle.point_db.specs.Updates.{Update as PointUpdate, Updates}
use Rattle.bilateral.specs.Rows.{CentreRows}
use Rattle.tase_views.specs.declared.event.EventKind.{EventKind}
use Rattle.tase_views.specs.declared.event.EventKind.TheVariants.{Update}
use Rattle.tase_views.specs.History.{Past}

-- the update of a point that an event is, where it is one
abbrev pub update_in : EventKind → Option PointUpdate
update_in (Update point value) = Some (record { point = point; value = value })
update_in _ = None

-- the updates of a history, the newest first
abbrev pub updates_in : Past → Updates
updates_in past = filter_map (λ entry. update_in entry.event) past

-- the kinds of the centre's points
abbrev pub kinds_of : CentreRows → List Kind
kinds_of rows = map (λ row. row.kind) rows.points
