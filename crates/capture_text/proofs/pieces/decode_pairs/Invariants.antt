use Rattle.std.proofs.Common.{◌≡◌, ◌*◌, take, drop}
use Rattle.hex.specs.Hex as hex
use Rattle.hex.proofs.Pairs.{prepend}
use Rattle.capture_text.proofs.pieces.decode_pairs.Given as goal

abbrev pub invariant-loop-i : goal.invariant-loop-i
invariant-loop-i l = hex.decode_pairs 0 l.digits
    ≡ prepend (take l.i l.octets) (hex.decode_pairs (2 * l.i) (drop (2 * l.i) l.digits))
