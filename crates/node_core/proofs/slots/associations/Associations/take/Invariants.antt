use Rattle.std.proofs.Common.{◌≡◌, drop}
use Rattle.node_core.specs.Slots.Associations.{behind_take, made_for}
use Rattle.node_core.proofs.OfSlots.OpenLists.{behind}
use Rattle.node_core.proofs.slots.associations.Associations.take.Given as goal

abbrev pub invariant-loop-place : goal.invariant-loop-place
invariant-loop-place l =
    let before = l.initial.self-inside.list.items in
    (l.self-inside.list.items ≡ behind (behind_take l.ordinal) l.place before)
    × (l.taken ≡ made_for l.ordinal (drop l.place before))
