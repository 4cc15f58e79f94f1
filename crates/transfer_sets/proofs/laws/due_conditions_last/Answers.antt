use Rattle.transfer_sets.proofs.DueLater.{due_later, due_on, due_before, next_on, next_before}
use Rattle.transfer_sets.proofs.laws.due_conditions_last.Goals as goal

pub returns-clause-later : goal.returns-clause-later
returns-clause-later c = due_later

pub returns-clause-passed : goal.returns-clause-passed
returns-clause-passed c = λ s from between to conditions le none. (
  due_on s from between to le none conditions,
  due_before s from between to le none conditions,
)

pub returns-clause-next : goal.returns-clause-next
returns-clause-next c = λ s from between to le none.
    (next_on s from between to le none, next_before s from between to le none)
