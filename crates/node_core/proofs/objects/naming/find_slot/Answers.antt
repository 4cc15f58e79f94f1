use Rattle.std.proofs.Common.{◌≡◌, true, false, bytes_eq, rules, sym, ap, arith}
use Rattle.std.specs.Option.{option_map}
use Rattle.tase_views.specs.Objects.{NamedObject}
use Rattle.node_core.proofs.OfObjects.SlotNames.{slot_found, status_found, slot_passed}
use Rattle.node_core.proofs.objects.naming.find_slot.Goals as goal

pub returns-then-eq-clause-named : goal.returns-then-eq-clause-named
returns-then-eq-clause-named c = λ t.
    let here : bytes_eq c.slot_item.result.now c.args.item.now ≡ true = search rules in
    ap (option_map (λ (o : NamedObject). o.object))
    (sym (slot_found c.args.item.now _ c.loop-slot.slot c.args.slots (omega arith)
    c.loop-slot.invariant (rw c.slot_item.ensures at here)))

pub returns-then-eq-2-clause-named : goal.returns-then-eq-2-clause-named
returns-then-eq-2-clause-named c = λ t.
    let apart : bytes_eq c.slot_item.result.now c.args.item.now ≡ false = search rules in
    let here : bytes_eq c.slot_status_item.result.now c.args.item.now ≡ true = search rules in
    ap (option_map (λ (o : NamedObject). o.object))
    (sym (status_found c.args.item.now _ c.loop-slot.slot c.args.slots (omega arith)
    c.loop-slot.invariant (rw c.slot_item.ensures at apart)
    (rw c.slot_status_item.ensures at here)))

pub loop-slot-preserved : goal.loop-slot-preserved
loop-slot-preserved c =
    let apart : bytes_eq c.slot_item.result.now c.args.item.now ≡ false = search rules in
    let away : bytes_eq c.slot_status_item.result.now c.args.item.now ≡ false = search rules in
    slot_passed c.args.item.now _ c.loop-slot.slot c.args.slots (omega arith)
    c.loop-slot.invariant (rw c.slot_item.ensures at apart)
    (rw c.slot_status_item.ensures at away)
