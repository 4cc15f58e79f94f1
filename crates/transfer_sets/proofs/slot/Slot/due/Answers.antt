use Rattle.transfer_sets.specs.SlotMoves.{slot_in}
use Rattle.transfer_sets.proofs.Followed.{like_due}
use Rattle.transfer_sets.proofs.slot.Slot.due.Goals as goal

pub returns-clause-moves : goal.returns-clause-moves
returns-clause-moves c = λ places moves f.
    like_due c.args.self.now.state (slot_in places moves) c.args.from c.args.to c.conditions.result
    f c.conditions.ensures
