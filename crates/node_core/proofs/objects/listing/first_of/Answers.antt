use Rattle.std.proofs.Common.{◌≡◌, length, refl}
use Rattle.std.proofs.lemmas.List.{length-map}
use Rattle.node_core.proofs.OfObjects.Listed.{names_of, sorted_identifiers, shown_names}
use Rattle.node_core.proofs.OfObjects.Sorted.{in_order-sorted}
use Rattle.node_core.proofs.objects.listing.first_of.Goals as goal

pub copies-requires : goal.copies-requires
copies-requires c =
    sorted_identifiers c.args.names.now c.sort_unstable.new.self _
    c.sort_unstable.ensures.permutation
    c.requires

pub returns-clause-value : goal.returns-clause-value
returns-clause-value c =
    let sorted = c.sort_unstable.new.self in
    let order = in_order-sorted c.args.names.now sorted c.sort_unstable.ensures.permutation
    c.sort_unstable.ensures.sorted in
    let count : length (names_of sorted) ≡ length sorted = length-map sorted (λ n. n.now) in
    rw (
      order,
      count,
      c.in_ok-copies.ensures,
      shown_names sorted c.min-shown.result c.min-shown.ensures,
    ) refl

pub returns-clause-lawful : goal.returns-clause-lawful
returns-clause-lawful c =
    rw c.in_ok-copies.ensures (sorted_identifiers c.args.names.now c.sort_unstable.new.self _
    c.sort_unstable.ensures.permutation c.requires)
