use Rattle.std.proofs.Common.{sym, ◌∙◌}
use Rattle.node_core.specs.Slots.SlotsKept.{is_kept}
use Rattle.node_core.proofs.OfSlots.Deletions.{none_left, still_left}
use Rattle.node_core.proofs.slots.sets.is_set_left.Goals as goal

pub returns-then-is_gone : goal.returns-then-is_gone
returns-then-is_gone c =
    none_left (is_kept c.args.domain.now c.args.count c.args.slots.now) c.args.domain.now
    c.args.names.now c.args.book.now c.args.set.now (sym c.is_gone.ensures ∙ c.if-is_gone.true)

pub returns : goal.returns
returns c =
    c.has_set.ensures
    ∙ still_left (is_kept c.args.domain.now c.args.count c.args.slots.now) c.args.domain.now
    c.args.names.now c.args.book.now c.args.set.now (sym c.is_gone.ensures ∙ c.if-is_gone.false)
