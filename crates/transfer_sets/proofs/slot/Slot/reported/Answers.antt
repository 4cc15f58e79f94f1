use Rattle.std.proofs.Common.{rules}
use Rattle.transfer_sets.proofs.Followed.{told}
use Rattle.transfer_sets.proofs.slot.Slot.reported.Goals as goal

pub returns-clause-state : goal.returns-clause-state
returns-clause-state c = search rules

pub returns-clause-moves : goal.returns-clause-moves
returns-clause-moves c = λ places moves. told places moves c.args.self.now.state _
    (returns-clause-state c)
