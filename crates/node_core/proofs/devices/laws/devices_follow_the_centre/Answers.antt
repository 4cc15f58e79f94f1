use Rattle.node_core.proofs.OfDevices.BankSteps.{idle_followed, closed_followed, ticked_followed}
use Rattle.node_core.proofs.OfDevices.BankSteps.{tagged_followed, taken_followed}
use Rattle.node_core.proofs.devices.laws.devices_follow_the_centre.Goals as goal

pub returns-clause-idle : goal.returns-clause-idle
returns-clause-idle c = idle_followed

pub returns-clause-closed : goal.returns-clause-closed
returns-clause-closed c = closed_followed

pub returns-clause-ticked : goal.returns-clause-ticked
returns-clause-ticked c = ticked_followed

pub returns-clause-tagged : goal.returns-clause-tagged
returns-clause-tagged c = tagged_followed

pub returns-clause-taken : goal.returns-clause-taken
returns-clause-taken c = taken_followed
