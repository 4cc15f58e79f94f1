use Rattle.node_core.proofs.OfDevices.BankActs.{acts_followed}
use Rattle.node_core.proofs.devices.laws.devices_follow_acts.Goals as goal

pub returns : goal.returns
returns c = acts_followed
