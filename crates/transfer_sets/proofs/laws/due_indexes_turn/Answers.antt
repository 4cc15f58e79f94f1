use Rattle.transfer_sets.proofs.DueIndexes.{turn_begin, turn_pass, turn_put, turn_end}
use Rattle.transfer_sets.proofs.laws.due_indexes_turn.Goals as goal

pub returns-clause-begin : goal.returns-clause-begin
returns-clause-begin c = turn_begin

pub returns-clause-pass : goal.returns-clause-pass
returns-clause-pass c = λ bank turn next from to index. turn_pass bank from to index turn next

pub returns-clause-put : goal.returns-clause-put
returns-clause-put c = λ bank s from to new index next. turn_put bank from to index s new next

pub returns-clause-end : goal.returns-clause-end
returns-clause-end c = λ bank turn from to index. turn_end bank from to index turn
