use Rattle.std.proofs.Common.{arith}
use Rattle.node_core.proofs.OfObjects.Listed.{identifier_here}
use Rattle.node_core.proofs.objects.listing.copies.Goals as goal

pub new-requires : goal.new-requires
new-requires c =
    rw c.in_ok-from_slice.ensures.items
    (identifier_here c.args.names.now c.loop-name.name-index _ c.requires (omega arith)).1
