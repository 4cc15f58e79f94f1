use Rattle.std.proofs.Common.{◌≡◌, ℕ, Option, true, subst}
use Rattle.transfer_sets.specs.SlotState.{KeptSlot}
use Rattle.transfer_sets.specs.NextDue.{IsFirstMoment, IsPassedTime}
use Rattle.transfer_sets.proofs.NextMoments.{next_of}
use Rattle.transfer_sets.proofs.slot.Slot.next_due.Goals as goal

pub returns : goal.returns
returns c =
    let s = c.args.self.now.state in
    let Passes : ℕ → ℕ → Option ℕ → Type 0 = λ condition seconds.
    IsFirstMoment (IsPassedTime s condition seconds c.args.from) c.args.from in
    rw (c.earlier-2.ensures, c.earlier.ensures) (next_of s c.args.from c.next_time-interval.result
    c.next_time-integrity.result c.next_change.result
    (subst (λ (k : KeptSlot). k.state.wish.status ≡ true) c.self.view_is c.if-not-self.false)
    (subst (λ (k : KeptSlot). Passes 128 k.state.wish.interval c.next_time-interval.result)
    c.self.view_is c.next_time-interval.ensures)
    (subst (λ (k : KeptSlot). Passes 64 k.state.wish.integrity c.next_time-integrity.result)
    c.self.view_is c.next_time-integrity.ensures) c.next_change.ensures)
