use Rattle.std.proofs.Common.{◌≡◌, map, take, filter}
use Rattle.tase_views.specs.NameLists.{is_after}
use Rattle.node_core.proofs.OfObjects.SetNames.{book_names}
use Rattle.node_core.proofs.objects.listing.all_sets.Given as goal

abbrev pub invariant-loop-index : goal.invariant-loop-index
invariant-loop-index l =
    map (λ name. name.now) l.names.items
    ≡ filter (is_after l.after) (book_names (take l.index l.book.sets))
