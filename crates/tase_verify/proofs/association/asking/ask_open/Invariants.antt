-- What was appended, and what is to come.
use Rattle.std.proofs.Common.{◌≡◌, ◌++◌, drop}
use Rattle.tase_verify.specs.Association.Asking.{asked_open, turns_of_inputs}
use Rattle.tase_verify.proofs.association.asking.ask_open.Given as goal

abbrev pub invariant-loop-input : goal.invariant-loop-input
invariant-loop-input l =
    l.asked.items
    ++ asked_open (turns_of_inputs (drop l.input-index l.inputs) l.fn.broken l.fn.ended)
    ≡ l.initial.asked.items ++ asked_open (turns_of_inputs l.inputs l.fn.broken l.fn.ended)
