use Rattle.std.proofs.Common.{◌≡◌, ◌<◌, length, Some, is_some, true, ap, sym, ◌∙◌}
use Rattle.bilateral.specs.Rows.{point_of, place_of_see}
use Rattle.tase_views.specs.OwnTables.{own_point}
use Rattle.tase_views.specs.Objects.{indication_point, object_named}
use Rattle.tase_views.specs.Slots.{is_point}
use Rattle.node_core.specs.Objects.Found.{offered}
use Rattle.node_core.proofs.OfObjects.Known.{named_is_there, bytes_eq-names}
use Rattle.node_core.proofs.feeds.index.found_point.Goals.{In-Some-Point}
use Rattle.node_core.proofs.feeds.index.found_point.Goals as goal

shown : (c : In-Some-Point)
    → is_some (place_of_see c.args.table.now.table c.in-Some-Point.see.now.point) ≡ true
shown c = rw c.in-Some-Point.field-0-is at c.in-Some-Point.ensures.there

known : (c : In-Some-Point) → c.in-Some-Point.see.now.point < length c.args.table.now.rows.points
known c =
    named_is_there (length c.args.table.now.rows.points) c.args.table.now.table
    c.in-Some-Point.see.now.point c.table-lawful.ensures.lawful.known (shown c)

pub returns-in-Some-Point-clause-told : goal.returns-in-Some-Point-clause-told
returns-in-Some-Point-clause-told c = λ p there.
    let at = (goal.at.returns-in-Some-Point-clause-told c).In-Some-Point in
    let t = c.args.table.now in
    let see = c.in-Some-Point.see.now in
    let named : Some (indication_point (own_point t.rows see))
    ≡ object_named (offered t) c.args.name.now =
    rw c.in-Some-Point.field-0-is at c.in-Some-Point.ensures.named in
    ap (is_point (point_of t.rows p).name) (sym named)
    ∙ bytes_eq-names t.rows see.point p c.table-lawful.ensures.centre (known at) there

pub returns-in-Some-Point-clause-known : goal.returns-in-Some-Point-clause-known
returns-in-Some-Point-clause-known c =
    known (goal.at.returns-in-Some-Point-clause-known c).In-Some-Point

pub returns-in-Some-Point-clause-shown : goal.returns-in-Some-Point-clause-shown
returns-in-Some-Point-clause-shown c =
    shown (goal.at.returns-in-Some-Point-clause-shown c).In-Some-Point
