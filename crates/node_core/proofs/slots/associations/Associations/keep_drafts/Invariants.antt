use Rattle.std.proofs.Common.{◌≡◌, ◌++◌, map, take, drop}
use Rattle.node_core.specs.Slots.Associations.{with_drafted}
use Rattle.node_core.proofs.slots.associations.Associations.keep_drafts.Given as goal

abbrev pub invariant-loop-place : goal.invariant-loop-place
invariant-loop-place l =
    let before = l.initial.self-inside.list.items in
    l.self-inside.list.items ≡ map with_drafted (take l.place before) ++ drop l.place before
