use Rattle.transfer_sets.proofs.BankLists.{free-more}
use Rattle.transfer_sets.proofs.bank.SlotBank.new.Goals as goal

pub loop-slot-preserved : goal.loop-slot-preserved
loop-slot-preserved c =
    rw (c.in_ok-push.ensures.items, c.loop-slot.invariant, c.new.ensures)
    (free-more c.loop-slot.slot)
