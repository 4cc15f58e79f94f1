use Rattle.point_db.proofs.AscendingSlots.{ascending-with_slot}
use Rattle.point_db.proofs.WatchLaws.{watches-walked, ascending-same}
use Rattle.point_db.proofs.laws.watching_slots_ascend.Goals as goal

pub returns-clause-walked : goal.returns-clause-walked
returns-clause-walked c = watches-walked

pub returns-clause-added : goal.returns-clause-added
returns-clause-added c = ascending-with_slot

pub returns-clause-same : goal.returns-clause-same
returns-clause-same c = ascending-same
