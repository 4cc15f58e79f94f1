use Rattle.std.proofs.Common.{Bool, eqb, length, ℕ, List, sym, subst}
use Rattle.bilateral.specs.Rows.{point_of}
use Rattle.point_db.specs.WatchLists.{PointSlots, AreAscending}
use Rattle.tase_views.specs.Objects.{object_named}
use Rattle.tase_views.specs.Slots.{is_point}
use Rattle.node_core.specs.Objects.Found.{offered}
use Rattle.node_core.specs.Feeds.Indexed.{HasWatched}
use Rattle.node_core.proofs.OfFeeds.Indexes.{watched-none, watched-as, watched-one, room_for}
use Rattle.node_core.proofs.feeds.index.watch_member.Goals as goal

pub add-requires-clause-room : goal.add-requires-clause-room
add-requires-clause-room c =
    let t = c.args.table.now in
    room_for (length t.rows.points) c.args.slot c.in-Some.point t.table c.args.watch.now
    c.requires.room
    (subst AreAscending c.slots-ascending.ensures.slots c.slots-ascending.ensures.ascending)
    c.in-Some.ensures.shown c.requires.slot

pub returns-in-Some : goal.returns-in-Some
returns-in-Some c =
    let t = c.args.table.now in
    let points = length t.rows.points in
    let place = c.in-Some.point in
    let old = c.args.watch.now in
    let names : ℕ → Bool = λ p. is_point (point_of t.rows p).name
    (object_named (offered t) c.args.name.now) in
    subst (λ (new : List PointSlots). HasWatched points c.args.slot names old new)
    (sym c.add.ensures)
    (watched-as points c.args.slot (λ p. eqb place p) names old _
    (λ p there. sym (c.in-Some.ensures.told p there))
    (watched-one points c.args.slot place old c.requires.room.many c.in-Some.ensures.known
    c.requires.slot))

pub returns-in_default : goal.returns-in_default
returns-in_default c =
    watched-none (length c.args.table.now.rows.points) c.args.slot _ c.args.watch.now
    c.in_default.ensures.told
