use Rattle.sbo_device.proofs.HoldsEnd.{ended, kept_otherwise}
use Rattle.sbo_device.proofs.laws.holds_end_by_moves.Goals as goal

pub returns-clause-ended : goal.returns-clause-ended
returns-clause-ended c = ended

pub returns-clause-otherwise : goal.returns-clause-otherwise
returns-clause-otherwise c = kept_otherwise
