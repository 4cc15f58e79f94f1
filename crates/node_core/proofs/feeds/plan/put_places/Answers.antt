use Rattle.std.proofs.Common.{◌≡◌, ◌<◌, ◌≤◌, ◌++◌, ℕ, List, length, get_or, sym, ap, ◌∙◌}
use Rattle.std.proofs.Common.{subst, append-nil}
use Rattle.bilateral.specs.Rows.{point_of}
use Rattle.mms_data.specs.ObjectName.{ObjectName}
use Rattle.node_core.specs.Objects.Found.{offered}
use Rattle.node_core.proofs.OfFeeds.Planned.{names_it, place_put, place_passed, places_end}
use Rattle.node_core.proofs.feeds.plan.put_places.Goals as goal
use Rattle.node_core.proofs.feeds.plan.put_places.Goals.{then-names_point+in_ok-push}
use Rattle.node_core.proofs.feeds.plan.put_places.Goals.{else-names_point}

pub loop-place-preserved : goal.loop-place-preserved
loop-place-preserved c =
    let t = c.args.table.now in
    let names = c.args.members.now in
    let place = c.loop-place.place in
    let is = names_it (offered t) (point_of t.rows c.args.point).name in
    let name = c.index-names-place.result in
    let same = c.as_slice-names.ensures in
    let within : place < length names =
    subst (λ (l : List ObjectName). place < length l) same c.loop-place-test.true in
    let at : name ≡ get_or names place name =
    c.index-names-place.is ∙ ap (λ (l : List ObjectName). get_or l place name) same in
    elim c.if-names_point.branch [
      | then-names_point+in_ok-push w ↦ rw (w.places-is, w.in_ok-push.ensures.items)
          (place_put is names place c.loop-place.places.items name within at
          (sym c.names_point.ensures ∙ w.if-names_point.true) ∙ c.loop-place.invariant)
      | else-names_point w ↦ rw (w.places-is)
          (ap (λ (l : List ℕ). c.loop-place.places.items ++ l)
          (place_passed is names place name within at
          (sym c.names_point.ensures ∙ w.if-names_point.false)) ∙ c.loop-place.invariant)
    ]

pub returns : goal.returns
returns c =
    let t = c.args.table.now in
    let names = c.args.members.now in
    let place = c.loop-place.place in
    let is = names_it (offered t) (point_of t.rows c.args.point).name in
    let items = c.loop-place.places.items in
    sym (append-nil items)
    ∙ ap (λ (l : List ℕ). items ++ l) (sym (places_end is names place
    (subst (λ (l : List ObjectName). length l ≤ place) c.as_slice-names.ensures
    c.loop-place-test.false)))
    ∙ c.loop-place.invariant
