-- The turns so far, and those that are to come.
use Rattle.std.proofs.Common.{◌≡◌, ◌++◌, drop}
use Rattle.tase_verify.proofs.OfAssociation.KindsHanded.{kinds_in}
use Rattle.tase_verify.proofs.association.turns.turns_of.Given as goal

abbrev pub invariant-loop-input : goal.invariant-loop-input
invariant-loop-input l =
    l.turns.items ++ kinds_in (drop l.input-index l.inputs) ≡ kinds_in l.inputs
