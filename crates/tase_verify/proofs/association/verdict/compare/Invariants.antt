-- The verdict is that on what is left.
use Rattle.std.proofs.Common.{◌≡◌, ◌-◌, ◌≤◌, length}
use Rattle.tase_verify.specs.Association.Verdicts.{verdict_between, verdict_from}
use Rattle.tase_verify.proofs.association.verdict.compare.Given as goal

abbrev pub invariant-loop-pieces : goal.invariant-loop-pieces
invariant-loop-pieces l = record {
  within : length l.rest ≤ length l.want;
  verdict : verdict_between l.fn.got l.want
      ≡ verdict_from (length l.want - length l.rest) l.pieces l.rest;
  room : length l.piece ≡ 256;
}

abbrev pub decreases-loop-pieces : goal.decreases-loop-pieces
decreases-loop-pieces l = length l.pieces
