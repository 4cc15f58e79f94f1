-- What is left has the same first offer.
use Rattle.std.proofs.Common.{◌≡◌, drop}
use Rattle.tase_verify.specs.Association.Hearing as hearing
use Rattle.tase_verify.proofs.association.hearing.offered_in.Given as goal

abbrev pub invariant-loop-input : goal.invariant-loop-input
invariant-loop-input l =
    hearing.offered_in (drop l.input-index l.inputs) ≡ hearing.offered_in l.inputs
