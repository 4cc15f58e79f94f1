use Rattle.std.proofs.Common.{sym, ◌∙◌}
use Rattle.std.proofs.lemmas.Map.Views.{All-map-IsPermutation}
use Rattle.mms_data.specs.ObjectName.{IsIdentifier}
use Rattle.node_core.proofs.OfObjects.Sorted.{in_order-sorted}
use Rattle.node_core.proofs.objects.listing.in_order.Goals as goal

pub copies-requires : goal.copies-requires
copies-requires c =
    All-map-IsPermutation (λ name. name.now) IsIdentifier c.args.names.now
    c.sort_unstable.new.self c.sort_unstable.ensures.permutation c.requires

pub returns-clause-value : goal.returns-clause-value
returns-clause-value c =
    c.in_ok-ordered.ensures
    ∙ sym (in_order-sorted c.args.names.now c.sort_unstable.new.self
    c.sort_unstable.ensures.permutation c.sort_unstable.ensures.sorted)

pub returns-clause-named : goal.returns-clause-named
returns-clause-named c =
    rw c.in_ok-ordered.ensures (All-map-IsPermutation (λ name. name.now) IsIdentifier
    c.args.names.now c.sort_unstable.new.self c.sort_unstable.ensures.permutation c.requires)
