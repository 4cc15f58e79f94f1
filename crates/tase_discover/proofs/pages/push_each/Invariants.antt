use Rattle.std.proofs.Common.{◌≡◌, ◌++◌, map, take}
use Rattle.tase_discover.specs.Listings.{named_in}
use Rattle.tase_discover.proofs.pages.push_each.Given as goal

abbrev pub invariant-loop-item : goal.invariant-loop-item
invariant-loop-item l =
    l.names.items ≡ l.initial.names.items ++ map (named_in l.scope) (take l.item-index l.items)
