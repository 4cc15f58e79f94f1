use Rattle.std.proofs.Common.{false, length}
use Rattle.stack_assoc.specs.Listing.Listings.{state, Lists}
use Rattle.stack_assoc.proofs.listing.lister.list_all.Given as goal

abbrev pub invariant-loop-message : goal.invariant-loop-message
invariant-loop-message l = Lists (state l.fn.transport l.fn.context false)
    (state l.transport l.context false) l.fn.out.items l.out.items

abbrev pub decreases-loop-message : goal.decreases-loop-message
decreases-loop-message l = length l.transport.unread
