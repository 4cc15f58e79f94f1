use Rattle.node_core.specs.Slots.SlotsKept.{is_kept}
use Rattle.node_core.proofs.OfSlots.Deletions.{AreCounted}
use Rattle.node_core.proofs.slots.sets.delete_reply.Given as goal

abbrev pub invariant-loop-place : goal.invariant-loop-place
invariant-loop-place l =
    AreCounted (is_kept l.domain l.count l.slots) l.domain l.names l.book l.place l.matched
    l.deleted
