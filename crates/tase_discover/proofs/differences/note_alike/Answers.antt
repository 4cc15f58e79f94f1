use Rattle.std.proofs.Common.{◌≤◌, ◌<◌, ◌||◌, ℕ, List, Bool, bytes_eq, length}
use Rattle.std.proofs.Common.{sym, ap, ◌∙◌, arith, take_all}
use Rattle.std.specs.Prelude.{zip}
use Rattle.std.specs.List.{list_any}
use Rattle.mms_data.specs.ObjectName.{ObjectName}
use Rattle.tase_discover.specs.Listings.{came_alike, named_in}
use Rattle.tase_discover.specs.Noted.{is_noted}
use Rattle.std.proofs.lemmas.Slice.Zip.{length-zip}
use Rattle.tase_discover.proofs.Alike.{is_that, alike_noted, alike_passed}
use Rattle.tase_discover.proofs.differences.note_alike.Goals as goal
use Rattle.tase_discover.proofs.differences.note_alike.Goals.{then-is_alike_in+in_ok-note}
use Rattle.tase_discover.proofs.differences.note_alike.Goals.{else-is_alike_in}

pub loop-place-preserved : goal.loop-place-preserved
loop-place-preserved c = λ item.
    let names = c.as_slice-names.result.now in
    let judged = c.as_slice-judged.result.now in
    let place = c.loop-place.place in
    let here : place < length names = omega (arith, c.min-place-end.ensures) in
    let told : place < length judged = omega (arith, c.min-place-end.ensures) in
    let within : place < length (zip names judged) =
    omega (arith, length-zip names judged, here, told) in
    elim c.if-is_alike_in.branch [
      | then-is_alike_in+in_ok-note w ↦
          rw w.noted-is (alike_noted c.args.scope.now item names judged place
          c.index-names-place.result here told c.index-names-place.is
          (is_noted c.loop-place.noted item) (is_noted w.note.new.noted item) within
          (sym c.is_alike_in.ensures ∙ w.if-is_alike_in.true) (c.loop-place.invariant item)
          (w.in_ok-note.ensures item
          ∙ ap (λ (os : List ℕ). bytes_eq item os || is_noted c.loop-place.noted item)
          (w.as_slice.ensures.value ∙ w.item.ensures.value)))
      | else-is_alike_in w ↦
          rw w.noted-is (alike_passed c.args.scope.now item names judged place
          c.index-names-place.result here told c.index-names-place.is
          (is_noted c.loop-place.noted item) within
          (sym c.is_alike_in.ensures ∙ w.if-is_alike_in.false) (c.loop-place.invariant item))
    ]

pub returns : goal.returns
returns c = λ item.
    let names = c.as_slice-names.result.now in
    let judged = c.as_slice-judged.result.now in
    let place = c.loop-place.place in
    let all : length (zip names judged) ≤ place =
    omega (arith, length-zip names judged, c.min-place-end.ensures) in
    c.loop-place.invariant item
    ∙ ap (list_any (is_that c.args.scope.now item)) (take_all place (zip names judged) all)
    ∙ ap (λ (ns : List ObjectName). came_alike ns judged (named_in c.args.scope.now item))
    c.as_slice-names.ensures.value
    ∙ ap (λ (bs : List Bool). came_alike c.args.seen.now.names.items bs
    (named_in c.args.scope.now item)) c.as_slice-judged.ensures.value
