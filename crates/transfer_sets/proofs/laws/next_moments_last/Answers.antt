use Rattle.transfer_sets.proofs.NextMoments.{one_next, next_off, next_later, due_by_next}
use Rattle.transfer_sets.proofs.laws.next_moments_last.Goals as goal

pub returns-clause-one : goal.returns-clause-one
returns-clause-one c = one_next

pub returns-clause-off : goal.returns-clause-off
returns-clause-off c = next_off

pub returns-clause-later : goal.returns-clause-later
returns-clause-later c = next_later

pub returns-clause-due : goal.returns-clause-due
returns-clause-due c = due_by_next
