use Rattle.std.proofs.Common.{◌≡◌, ◌++◌, map, take, filter}
use Rattle.tase_views.specs.NameLists.{is_after}
use Rattle.node_core.proofs.objects.listing.push_names.Given as goal

abbrev pub invariant-loop-name : goal.invariant-loop-name
invariant-loop-name l =
    map (λ name. name.now) l.names.items
    ≡ map (λ name. name.now) l.initial.names.items
    ++ filter (is_after l.after) (take l.name-index l.name-items)
