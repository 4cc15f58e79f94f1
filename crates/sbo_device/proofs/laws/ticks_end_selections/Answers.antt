use Rattle.sbo_device.proofs.OneHolder.{ended_exactly}
use Rattle.sbo_device.proofs.laws.ticks_end_selections.Goals as goal

pub returns : goal.returns
returns c = ended_exactly
