use Rattle.point_db.proofs.WatchChanges.{HasMoreSpare-length}
use Rattle.point_db.proofs.WatchLaws.{watches-none, slots-kept, watches-added, spare-added}
use Rattle.point_db.proofs.WatchLaws.{spare-again, stays-elsewhere, watches-removed}
use Rattle.point_db.proofs.WatchLaws.{spare-removed}
use Rattle.point_db.proofs.laws.watches_change_slot_by_slot.Goals as goal

pub returns-clause-none : goal.returns-clause-none
returns-clause-none c = watches-none

pub returns-clause-room : goal.returns-clause-room
returns-clause-room c = slots-kept

pub returns-clause-many : goal.returns-clause-many
returns-clause-many c = HasMoreSpare-length

pub returns-clause-added : goal.returns-clause-added
returns-clause-added c = watches-added

pub returns-clause-spare : goal.returns-clause-spare
returns-clause-spare c = spare-added

pub returns-clause-again : goal.returns-clause-again
returns-clause-again c = spare-again

pub returns-clause-elsewhere : goal.returns-clause-elsewhere
returns-clause-elsewhere c = stays-elsewhere

pub returns-clause-removed : goal.returns-clause-removed
returns-clause-removed c = watches-removed

pub returns-clause-kept : goal.returns-clause-kept
returns-clause-kept c = spare-removed
