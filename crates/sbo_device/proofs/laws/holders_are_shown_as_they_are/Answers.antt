use Rattle.sbo_device.proofs.SameHolders.{hold_shown, tag_shown}
use Rattle.sbo_device.proofs.laws.holders_are_shown_as_they_are.Goals as goal

pub returns-clause-hold : goal.returns-clause-hold
returns-clause-hold c = λ known number point moves apart. hold_shown known number apart point moves

pub returns-clause-tag : goal.returns-clause-tag
returns-clause-tag c = tag_shown
