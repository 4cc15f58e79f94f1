use Rattle.std.proofs.Common.{◌≡◌, true, false, ℕ, List, get_or, take, refl, sym, ap, ◌∙◌}
use Rattle.mms_data.specs.ObjectName.{ObjectName}
use Rattle.tase_views.specs.View.{held}
use Rattle.tase_views.specs.Answers.{delete_replied}
use Rattle.node_core.specs.Slots.SetsKept.{is_in_book, left_by}
use Rattle.node_core.specs.Slots.SlotsKept.{is_kept}
use Rattle.node_core.proofs.OfSlots.Deletions.{deletion_in, counted-more, counted-all}
use Rattle.node_core.proofs.OfSlots.Deletions.{deletion_of-told}
use Rattle.node_core.proofs.slots.sets.delete_reply.Goals as goal
use Rattle.node_core.proofs.slots.sets.delete_reply.Goals.{then-is_left+then-not-is_kept}
use Rattle.node_core.proofs.slots.sets.delete_reply.Goals.{then-is_left+else-not-is_kept}
use Rattle.node_core.proofs.slots.sets.delete_reply.Goals.{else-is_left}

pub loop-place-preserved : goal.loop-place-preserved
loop-place-preserved c =
    let domain = c.args.domain.now in
    let kept = is_kept domain c.args.count c.args.slots.now in
    let names = c.as_slice-names.result.now in
    let place = c.loop-place.place in
    let name = c.index-names-place.result in
    let book = c.args.book.now in
    let left = left_by kept domain (take place names) book in
    let here : c.is_left.result ≡ is_in_book domain left (get_or names place name) =
    c.is_left.ensures ∙ ap (is_in_book domain left) c.index-names-place.is in
    let item = ap (λ (n : ObjectName). n.item) c.index-names-place.is in
    elim c.if-is_left.branch [
      | then-is_left+then-not-is_kept w ↦
          rw (w.matched-is, w.deleted-is)
          (counted-more kept domain names place name book true false c.loop-place.matched
          c.loop-place.deleted c.loop-place-test.true (sym here ∙ w.if-is_left.true)
          (sym (w.is_kept.ensures ∙ ap kept (w.item.ensures.value ∙ item))
          ∙ w.if-not-is_kept.true) c.loop-place.invariant)
      | then-is_left+else-not-is_kept w ↦
          rw (w.matched-is, w.deleted-is)
          (counted-more kept domain names place name book true true c.loop-place.matched
          c.loop-place.deleted c.loop-place-test.true (sym here ∙ w.if-is_left.true)
          (sym (w.is_kept.ensures ∙ ap kept (w.item.ensures.value ∙ item))
          ∙ w.if-not-is_kept.false) c.loop-place.invariant)
      | else-is_left w ↦
          rw (w.matched-is, w.deleted-is)
          (counted-more kept domain names place name book false
          (kept (get_or names place name).item) c.loop-place.matched c.loop-place.deleted
          c.loop-place-test.true (sym here ∙ w.if-is_left.false) refl c.loop-place.invariant)
    ]

pub returns-clause-value : goal.returns-clause-value
returns-clause-value c = λ tables view ordinal domain count b bank.
    let names = c.args.names.now in
    let book = c.args.book.now in
    let slots = c.args.slots.now in
    let counted : deletion_in (is_kept c.args.domain.now c.args.count slots) c.args.domain.now names
    book ≡ record { matched = c.loop-place.matched; deleted = c.loop-place.deleted } =
    ap (λ (those : List ObjectName). deletion_in (is_kept c.args.domain.now c.args.count slots)
    c.args.domain.now those book) (sym c.as_slice-names.ensures)
    ∙ counted-all (is_kept c.args.domain.now c.args.count slots) c.args.domain.now
    c.as_slice-names.result.now c.loop-place.place book c.loop-place.matched c.loop-place.deleted
    c.loop-place-test.false c.loop-place.invariant in
    sym (ap delete_replied (deletion_of-told tables view book slots ordinal names b bank
    ∙ ap (λ (d : List ℕ). deletion_in (is_kept d (held tables view).slots slots) d names book)
    domain
    ∙ ap (λ (n : ℕ). deletion_in (is_kept c.args.domain.now n slots) c.args.domain.now names book)
    count
    ∙ counted))
