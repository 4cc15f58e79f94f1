use Rattle.std.proofs.Common.{◌≡◌, ◌-◌, find, is_none}
use Rattle.std.specs.List.{range_with_len}
use Rattle.transfer_sets.specs.Banks.{slot_at}
use Rattle.node_core.specs.Slots.SlotsKept.{first_free, drafted}
use Rattle.node_core.proofs.slots.draft.Draft.first_free.Given as goal

abbrev pub invariant-loop-slot : goal.invariant-loop-slot
invariant-loop-slot l =
    find (λ s. is_none (slot_at (drafted l.self) s).owner)
    (range_with_len l.slot (l.count - l.slot))
    ≡ first_free l.count (drafted l.self)
