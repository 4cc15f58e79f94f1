use Rattle.std.proofs.Common.{◌≡◌, ◌++◌, length}
use Rattle.capture_text.proofs.join_pieces.Given as goal

abbrev pub invariant-loop-pieces : goal.invariant-loop-pieces
invariant-loop-pieces l = record {
  joined : l.fn.pieces ≡ l.octets.items ++ l.pieces;
  room : length l.piece ≡ 256;
}

abbrev pub decreases-loop-pieces : goal.decreases-loop-pieces
decreases-loop-pieces l = length l.pieces
