use Rattle.transfer_sets.specs.SlotMoves.{slot_in}
use Rattle.transfer_sets.proofs.Followed.{likes, like_due, passed, over_others}
use Rattle.transfer_sets.proofs.laws.slots_follow_their_moves.Goals as goal

pub returns-clause-alike : goal.returns-clause-alike
returns-clause-alike c = λ places moves. likes (slot_in places moves)

pub returns-clause-due : goal.returns-clause-due
returns-clause-due c = like_due

pub returns-clause-others : goal.returns-clause-others
returns-clause-others c = passed

pub returns-clause-members : goal.returns-clause-members
returns-clause-members c = over_others
