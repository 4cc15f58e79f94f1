use Rattle.sbo_device.proofs.OneHolder.{agrees_always, one_holder, held_since, permitted_exactly}
use Rattle.sbo_device.proofs.OneHolder.{ordered_exactly, granted_exactly, tag_is_last, point_stays}
use Rattle.sbo_device.proofs.laws.devices_have_one_holder.Goals as goal

pub returns-clause-holder : goal.returns-clause-holder
returns-clause-holder c = agrees_always

pub returns-clause-one_holder : goal.returns-clause-one_holder
returns-clause-one_holder c = one_holder

pub returns-clause-selected : goal.returns-clause-selected
returns-clause-selected c = held_since

pub returns-clause-permitted : goal.returns-clause-permitted
returns-clause-permitted c = permitted_exactly

pub returns-clause-tag : goal.returns-clause-tag
returns-clause-tag c = tag_is_last

pub returns-clause-point : goal.returns-clause-point
returns-clause-point c = point_stays

pub returns-clause-ordered : goal.returns-clause-ordered
returns-clause-ordered c = ordered_exactly

pub returns-clause-granted : goal.returns-clause-granted
returns-clause-granted c = granted_exactly
