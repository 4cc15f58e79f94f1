use Rattle.std.proofs.Common.{◌+◌, List, ◌∷◌, ◌++◌, map, filter, sym, ap, ◌∙◌, arith}
use Rattle.tase_views.specs.Objects.{NamedObject, slot_item}
use Rattle.tase_views.specs.NameLists.{is_after}
use Rattle.node_core.proofs.OfObjects.Listed.{names_of}
use Rattle.node_core.proofs.OfObjects.SlotNames.{slots_from, slots_on, status_item, pushed_ahead}
use Rattle.node_core.proofs.objects.listing.push_slots.Goals as goal

pub loop-slot-preserved : goal.loop-slot-preserved
loop-slot-preserved c =
    let slot = c.loop-slot.slot in
    let test = is_after c.args.after.now in
    let rest = map (λ (o : NamedObject). o.item) (slots_from (slot + 1) c.args.slots) in
    let before = names_of c.loop-slot.names.items in
    pushed_ahead test (names_of c.push_after.new.names.items)
    (names_of c.push_after-in-loop-slot.new.names.items) (status_item slot) rest
    (rw c.slot_status_item.ensures at c.in_ok-push_after-2.ensures)
    ∙ pushed_ahead test before (names_of c.push_after.new.names.items) (slot_item slot)
    (status_item slot ∷ rest) (rw c.slot_item.ensures at c.in_ok-push_after.ensures)
    ∙ ap (λ (objects : List NamedObject). before
    ++ filter test (map (λ (o : NamedObject). o.item) objects))
    (sym (slots_on slot c.args.slots (omega arith)))
    ∙ c.loop-slot.invariant
