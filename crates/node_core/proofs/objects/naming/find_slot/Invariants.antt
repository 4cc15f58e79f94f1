use Rattle.std.proofs.Common.{◌≡◌, bytes_eq}
use Rattle.std.specs.List.{find, flat_map, range_with_len}
use Rattle.tase_views.specs.Objects.{objects_of_slot}
use Rattle.node_core.proofs.OfObjects.SlotNames.{slots_from}
use Rattle.node_core.proofs.objects.naming.find_slot.Given as goal

abbrev pub invariant-loop-slot : goal.invariant-loop-slot
invariant-loop-slot l =
    find (λ o. bytes_eq o.item l.item) (flat_map objects_of_slot (range_with_len 0 l.slots))
    ≡ find (λ o. bytes_eq o.item l.item) (slots_from l.slot l.slots)
