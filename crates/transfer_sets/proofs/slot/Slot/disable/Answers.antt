use Rattle.std.proofs.Common.{rules, ap}
use Rattle.transfer_sets.specs.SlotState.{SlotState}
use Rattle.transfer_sets.proofs.Followed.{disabled}
use Rattle.transfer_sets.proofs.slot.Slot.disable.Goals as goal

pub returns-clause-state : goal.returns-clause-state
returns-clause-state c = search rules

pub returns-clause-moves : goal.returns-clause-moves
returns-clause-moves c = λ places moves now. disabled places moves now c.args.self.now.state _
    (ap (λ (s : SlotState). s.wish) (returns-clause-state c))
