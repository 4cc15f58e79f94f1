use Rattle.tase_audit.proofs.Audited.{equal_is_told, tables_are_told, difference_is_told}
use Rattle.tase_audit.proofs.laws.audits_tell_the_first_difference.Goals as goal

pub returns-clause-equal : goal.returns-clause-equal
returns-clause-equal c = λ one other key answers here there.
    equal_is_told one other here there key answers

pub returns-clause-tables : goal.returns-clause-tables
returns-clause-tables c = tables_are_told

pub returns-clause-apart : goal.returns-clause-apart
returns-clause-apart c = difference_is_told
