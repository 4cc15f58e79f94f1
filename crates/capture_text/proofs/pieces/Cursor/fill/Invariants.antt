use Rattle.std.proofs.Common.{◌≡◌, ◌-◌, ◌≤◌, ◌++◌, length, take, drop}
use Rattle.capture_text.specs.Pieces.{ArePairs, HasNoBadLine, octets_left}
use Rattle.capture_text.proofs.pieces.Cursor.fill.Given as goal

abbrev pub invariant-loop-filled : goal.invariant-loop-filled
invariant-loop-filled l = record {
  within : l.filled ≤ length l.piece;
  behind : drop l.filled l.piece ≡ drop l.filled l.fn.piece;
  pairs : ArePairs l.self.digits.now;
  good : HasNoBadLine l.self.rest.now;
  octets : octets_left l.fn.self.digits.now l.fn.self.rest.now
      ≡ take l.filled l.piece ++ octets_left l.self.digits.now l.self.rest.now;
}

abbrev pub decreases-loop-filled : goal.decreases-loop-filled
decreases-loop-filled l = length l.initial.piece - l.filled
