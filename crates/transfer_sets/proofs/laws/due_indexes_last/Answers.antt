use Rattle.transfer_sets.proofs.DueIndexes.{index_start, index_later, index_set, index_changed}
use Rattle.transfer_sets.proofs.DueIndexes.{index_room, index_freed, none_come}
use Rattle.transfer_sets.proofs.laws.due_indexes_last.Goals as goal

pub returns-clause-start : goal.returns-clause-start
returns-clause-start c = index_start

pub returns-clause-later : goal.returns-clause-later
returns-clause-later c = index_later

pub returns-clause-put : goal.returns-clause-put
returns-clause-put c = index_set

pub returns-clause-changed : goal.returns-clause-changed
returns-clause-changed c = index_changed

pub returns-clause-room : goal.returns-clause-room
returns-clause-room c = index_room

pub returns-clause-freed : goal.returns-clause-freed
returns-clause-freed c = index_freed

pub returns-clause-first : goal.returns-clause-first
returns-clause-first c = none_come
