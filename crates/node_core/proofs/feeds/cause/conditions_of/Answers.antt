use Rattle.transfer_sets.specs.Due.{conditions_due}
use Rattle.transfer_sets.specs.SlotState.{SlotState}
use Rattle.transfer_sets.proofs.DueNumbers.{one_number, some_number}
use Rattle.node_core.proofs.feeds.cause.conditions_of.Goals as goal

pub returns-in-Tick : goal.returns-in-Tick
returns-in-Tick c =
    let s : SlotState = c.args.own.now.state in
    let from = c.in-Tick.from in
    let to = c.in-Tick.to in
    rw c.in-Tick.is
    (one_number s from to c.due.result (conditions_due s from to) c.due.ensures
    (some_number s from to))
