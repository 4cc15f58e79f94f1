use Rattle.node_core.specs.Objects.Found.{table_at}
use Rattle.node_core.specs.Replies.Shown.{shown_by}
use Rattle.node_core.proofs.OfNode.TickDrafts.{FirstDraftedMore, of_slot}
use Rattle.node_core.proofs.node.peer.draft_own.Given as goal

abbrev pub invariant-loop-place : goal.invariant-loop-place
invariant-loop-place l =
    let shown = shown_by l.number (table_at l.centre l.number l.variant) l.book l.slots l.plant in
    FirstDraftedMore shown (of_slot shown l.cause l.slot) l.place l.initial.associations
    l.associations
