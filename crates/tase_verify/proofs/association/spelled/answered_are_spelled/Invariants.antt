-- The answered events so far are spelled.
use Rattle.std.proofs.Common.{take}
use Rattle.std.specs.List.{All}
use Rattle.tase_verify.specs.Association.Spelled.{IsToldSpelled}
use Rattle.tase_verify.proofs.association.spelled.answered_are_spelled.Given as goal

abbrev pub invariant-loop-told : goal.invariant-loop-told
invariant-loop-told l = All IsToldSpelled (take l.told-index l.answered)
