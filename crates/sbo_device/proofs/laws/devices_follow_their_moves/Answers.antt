use Rattle.sbo_device.proofs.BankMoves.{none_stand, pushed_stand, one_moved, all_moved}
use Rattle.sbo_device.proofs.BankMoves.{none_moved, one_bank, holder_told, tag_told, ended_told}
use Rattle.sbo_device.proofs.BankMoves.{order_told}
use Rattle.sbo_device.proofs.laws.devices_follow_their_moves.Goals as goal

pub returns-clause-none : goal.returns-clause-none
returns-clause-none c = none_stand

pub returns-clause-pushed : goal.returns-clause-pushed
returns-clause-pushed c = pushed_stand

pub returns-clause-one : goal.returns-clause-one
returns-clause-one c = one_moved

pub returns-clause-all : goal.returns-clause-all
returns-clause-all c = all_moved

pub returns-clause-unmoved : goal.returns-clause-unmoved
returns-clause-unmoved c = none_moved

pub returns-clause-alike : goal.returns-clause-alike
returns-clause-alike c = one_bank

pub returns-clause-holder : goal.returns-clause-holder
returns-clause-holder c = holder_told

pub returns-clause-tag : goal.returns-clause-tag
returns-clause-tag c = tag_told

pub returns-clause-ended : goal.returns-clause-ended
returns-clause-ended c = ended_told

pub returns-clause-order : goal.returns-clause-order
returns-clause-order c = order_told
