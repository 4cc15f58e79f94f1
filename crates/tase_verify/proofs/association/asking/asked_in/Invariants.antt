-- What is left asks the same.
use Rattle.std.proofs.Common.{◌≡◌, length}
use Rattle.std.specs.List.{All}
use Rattle.tase_verify.specs.Association.Asking as asking
use Rattle.tase_verify.specs.Association.Asking.{IsLawfulInput, turns_of_inputs}
use Rattle.tase_verify.proofs.association.asking.asked_in.Given as goal

abbrev pub invariant-loop-rest : goal.invariant-loop-rest
invariant-loop-rest l = record {
  lawful : All IsLawfulInput l.rest;
  same : asking.asked_in l.centre (turns_of_inputs l.rest l.fn.broken l.fn.ended)
      ≡ asking.asked_in l.centre (turns_of_inputs l.inputs l.fn.broken l.fn.ended);
}

abbrev pub decreases-loop-rest : goal.decreases-loop-rest
decreases-loop-rest l = length l.rest
