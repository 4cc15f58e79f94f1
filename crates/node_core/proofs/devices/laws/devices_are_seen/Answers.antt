use Rattle.node_core.proofs.OfDevices.DevicesShown.{devices_seen}
use Rattle.node_core.proofs.OfDevices.SeenAlike.{select_alike, operate_alike, end_alike}
use Rattle.node_core.proofs.devices.laws.devices_are_seen.Goals as goal

pub returns-clause-seen : goal.returns-clause-seen
returns-clause-seen c = devices_seen

pub returns-clause-select : goal.returns-clause-select
returns-clause-select c = select_alike

pub returns-clause-operate : goal.returns-clause-operate
returns-clause-operate c = operate_alike

pub returns-clause-end : goal.returns-clause-end
returns-clause-end c = end_alike
