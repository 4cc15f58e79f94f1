use Rattle.stack_assoc.proofs.StreamLaws.{told_stays, stopped_stays, fault_stays}
use Rattle.stack_assoc.proofs.laws.what_was_told_stays.Goals as goal

pub returns-clause-told : goal.returns-clause-told
returns-clause-told c = told_stays c.messages_have_one_reading.ensures

pub returns-clause-stopped : goal.returns-clause-stopped
returns-clause-stopped c = stopped_stays c.messages_have_one_reading.ensures

pub returns-clause-broken : goal.returns-clause-broken
returns-clause-broken c = fault_stays
