use Rattle.std.proofs.Common.{subst, sym, ◌∙◌}
use Rattle.std.proofs.lemmas.Bool.{false≢true}
use Rattle.transfer_sets.specs.Wishes.{HasCondition}
use Rattle.transfer_sets.specs.SlotState.{KeptSlot}
use Rattle.transfer_sets.specs.Due.{HasWaited, milliseconds}
use Rattle.transfer_sets.specs.NextDue.{IsFirstMoment}
use Rattle.transfer_sets.proofs.NextMoments.{change_of}
use Rattle.transfer_sets.proofs.slot.Slot.next_change.Goals as goal

pub returns : goal.returns
returns c =
    let Waits : KeptSlot → Type 0 = λ k. IsFirstMoment
    (HasWaited k.state.first (milliseconds k.state.wish.buffer)) c.args.from
    c.next_waited.result in
    change_of c.args.self.now.state c.args.from c.next_waited.result
    (subst (λ (k : KeptSlot). HasCondition k.state.wish.conditions 32) c.self.view_is
    (c.has.ensures.0 c.if-not-has.false))
    (λ full. false≢true (sym c.if-is_full.false ∙ c.is_full.ensures.1 full))
    (subst Waits c.self.view_is c.next_waited.ensures)
