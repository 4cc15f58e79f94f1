use Rattle.std.proofs.Common.{◌≡◌, drop}
use Rattle.node_core.specs.Slots.SetsKept.{left_by}
use Rattle.node_core.specs.Slots.SlotsKept.{is_kept}
use Rattle.node_core.proofs.slots.sets.delete_sets.Given as goal

abbrev pub invariant-loop-name : goal.invariant-loop-name
invariant-loop-name l =
    left_by (is_kept l.domain l.count l.slots) l.domain (drop l.name-index l.names) l.book
    ≡ left_by (is_kept l.domain l.count l.slots) l.domain l.names l.initial.book
