use Rattle.node_core.proofs.OfDevices.OwnActs.{selects_alike, tags_alike, written_alike}
use Rattle.node_core.proofs.devices.laws.acts_leave_devices_alike.Goals as goal

pub returns-clause-selects : goal.returns-clause-selects
returns-clause-selects c = selects_alike

pub returns-clause-tags : goal.returns-clause-tags
returns-clause-tags c = tags_alike

pub returns-clause-written : goal.returns-clause-written
returns-clause-written c = written_alike
