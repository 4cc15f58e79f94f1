use Rattle.std.proofs.Common.{subst}
use Rattle.transfer_sets.specs.Wishes.{HasCondition}
use Rattle.transfer_sets.specs.SlotState.{KeptSlot}
use Rattle.transfer_sets.specs.Due.{PassesMultiple, milliseconds}
use Rattle.transfer_sets.specs.NextDue.{IsFirstMoment}
use Rattle.transfer_sets.proofs.NextMoments.{time_of}
use Rattle.transfer_sets.proofs.slot.Slot.next_time.Goals as goal

pub returns : goal.returns
returns c =
    let Passes : KeptSlot → Type 0 = λ k. IsFirstMoment
    (PassesMultiple k.state.base (milliseconds c.args.seconds) c.args.from) c.args.from
    c.next_multiple.result in
    time_of c.args.self.now.state c.args.condition c.args.seconds c.args.from c.next_multiple.result
    (subst (λ (k : KeptSlot). HasCondition k.state.wish.conditions c.args.condition)
    c.self.view_is (c.has.ensures.0 c.if-not-has.false))
    (subst Passes c.self.view_is c.next_multiple.ensures)
