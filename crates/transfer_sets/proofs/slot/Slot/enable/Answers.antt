use Rattle.std.proofs.Common.{rules}
use Rattle.transfer_sets.proofs.Followed.{begun}
use Rattle.transfer_sets.proofs.slot.Slot.enable.Goals as goal

pub returns-clause-state : goal.returns-clause-state
returns-clause-state c = search rules

pub returns-clause-moves : goal.returns-clause-moves
returns-clause-moves c = λ places moves. begun places moves c.args.wish c.args.now _
    (returns-clause-state c)
