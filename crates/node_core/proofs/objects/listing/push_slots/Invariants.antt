use Rattle.std.proofs.Common.{◌≡◌, ◌++◌, map, filter}
use Rattle.tase_views.specs.NameLists.{is_after}
use Rattle.node_core.proofs.OfObjects.SlotNames.{slots_from}
use Rattle.node_core.proofs.objects.listing.push_slots.Given as goal

abbrev pub invariant-loop-slot : goal.invariant-loop-slot
invariant-loop-slot l =
    map (λ name. name.now) l.names.items
    ++ filter (is_after l.after) (map (λ o. o.item) (slots_from l.slot l.slots))
    ≡ map (λ name. name.now) l.initial.names.items
    ++ filter (is_after l.after) (map (λ o. o.item) (slots_from 0 l.slots))
