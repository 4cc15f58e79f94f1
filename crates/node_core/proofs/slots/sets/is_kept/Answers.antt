use Rattle.std.proofs.Common.{◌≡◌, sym, ap, ◌∙◌}
use Rattle.transfer_sets.specs.Banks.{OwnedSlot}
use Rattle.node_core.proofs.OfSlots.Kept.{is_wish_for, is_kept_by, none_more, one_passes, none_pass}
use Rattle.node_core.proofs.slots.sets.is_kept.Goals as goal

pub loop-slot-preserved : goal.loop-slot-preserved
loop-slot-preserved c =
    let domain = c.args.domain.now in
    let set = c.args.set.now in
    let here : c.is_wish_for.result ≡ is_kept_by domain c.args.slots.now set c.loop-slot.slot =
    c.is_wish_for.ensures ∙ ap (is_wish_for domain set)
    (c.wish.ensures ∙ ap (λ (own : OwnedSlot). own.state.wish) c.look.ensures.slot) in
    none_more (is_kept_by domain c.args.slots.now set) c.args.count c.loop-slot.slot
    c.loop-slot-test.true c.loop-slot.invariant (sym here ∙ c.if-is_wish_for.false)

pub returns-then-is_wish_for : goal.returns-then-is_wish_for
returns-then-is_wish_for c =
    let domain = c.args.domain.now in
    let set = c.args.set.now in
    let here : c.is_wish_for.result ≡ is_kept_by domain c.args.slots.now set c.loop-slot.slot =
    c.is_wish_for.ensures ∙ ap (is_wish_for domain set)
    (c.wish.ensures ∙ ap (λ (own : OwnedSlot). own.state.wish) c.look.ensures.slot) in
    sym (one_passes (is_kept_by domain c.args.slots.now set) c.args.count c.loop-slot.slot
    c.loop-slot-test.true (sym here ∙ c.if-is_wish_for.true))

pub returns : goal.returns
returns c =
    sym (none_pass (is_kept_by c.args.domain.now c.args.slots.now c.args.set.now) c.args.count
    c.loop-slot.slot c.loop-slot-test.false c.loop-slot.invariant)
