use Rattle.std.proofs.Common.{◌≡◌, false, take}
use Rattle.std.specs.List.{range_with_len, list_any}
use Rattle.node_core.proofs.OfSlots.Kept.{is_kept_by}
use Rattle.node_core.proofs.slots.sets.is_kept.Given as goal

abbrev pub invariant-loop-slot : goal.invariant-loop-slot
invariant-loop-slot l =
    list_any (is_kept_by l.domain l.slots l.set) (take l.slot (range_with_len 0 l.count)) ≡ false
