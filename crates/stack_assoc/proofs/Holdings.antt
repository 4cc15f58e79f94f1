-- What an end holds of its stream.
use Rattle.std.proofs.Common.{◌+◌, ◌-◌, ◌≤◌, length, Option, Some, None, ap, arith}
use Rattle.tpkt_cotp.specs.declared.limits.TheConstants.{TSDU_LIMIT, TPKT_LIMIT, PIECE_LIMIT}
use Rattle.tpkt_cotp.specs.Streams.{Message, asks, confirms, gone, tsdu}
use Rattle.tpkt_cotp.specs.Lines.{Line, HoldsFew}
use Rattle.stack_assoc.specs.Courses.{message_octets_in, IsAlone}

-- one TSDU, less than a TPKT, and a piece
pub few_held : (held : Option Message) (line : Line) → IsAlone held line → HoldsFew line
    → length (message_octets_in held) + (length line.held + length line.unread)
    ≤ TSDU_LIMIT + (TPKT_LIMIT - 1) + PIECE_LIMIT
few_held None line alone few = omega (arith, few.0, few.1)
few_held (Some (asks r)) line alone few = omega (arith, few.0, few.1)
few_held (Some (confirms c)) line alone few = omega (arith, few.0, few.1)
few_held (Some gone) line alone few = omega (arith, few.0, few.1)
few_held (Some (tsdu place octets)) line alone few =
    let none = ap length alone.1 in omega (arith, alone.0, none, few.1)
