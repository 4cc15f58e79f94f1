use Rattle.std.proofs.Common.{sym, ◌∙◌}
use Rattle.node_core.proofs.OfSlots.Drafts.{find_on, find_here, find_end}
use Rattle.node_core.proofs.slots.draft.Draft.first_free.Goals as goal

pub returns-then-is_free : goal.returns-then-is_free
returns-then-is_free c =
    sym (find_here _ c.loop-slot.slot c.args.count c.loop-slot-test.true
    (sym c.is_free.ensures ∙ c.if-is_free.true))
    ∙ c.loop-slot.invariant

pub loop-slot-preserved : goal.loop-slot-preserved
loop-slot-preserved c =
    sym (find_on _ c.loop-slot.slot c.args.count c.loop-slot-test.true
    (sym c.is_free.ensures ∙ c.if-is_free.false))
    ∙ c.loop-slot.invariant

pub returns : goal.returns
returns c =
    sym (find_end _ c.loop-slot.slot c.args.count c.loop-slot-test.false) ∙ c.loop-slot.invariant
