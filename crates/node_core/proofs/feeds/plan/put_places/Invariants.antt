use Rattle.std.proofs.Common.{◌≡◌, ◌++◌, drop}
use Rattle.bilateral.specs.Rows.{point_of}
use Rattle.tase_views.specs.Slots.{places_from, places_told}
use Rattle.node_core.specs.Objects.Found.{offered}
use Rattle.node_core.proofs.OfFeeds.Planned.{names_it}
use Rattle.node_core.proofs.feeds.plan.put_places.Given as goal

abbrev pub invariant-loop-place : goal.invariant-loop-place
invariant-loop-place l =
    let name = (point_of l.table.rows l.point).name in
    l.places.items
    ++ places_from l.place (names_it (offered l.table) name) (drop l.place l.members)
    ≡ l.initial.places.items ++ places_told (offered l.table) l.members name
