use Rattle.std.proofs.Common.{rules}
use Rattle.transfer_sets.proofs.Followed.{handed}
use Rattle.transfer_sets.proofs.slot.Slot.clear.Goals as goal

pub returns-clause-state : goal.returns-clause-state
returns-clause-state c = search rules

pub returns-clause-moves : goal.returns-clause-moves
returns-clause-moves c =
    λ places moves ordinal. handed places moves ordinal _ (returns-clause-state c)
