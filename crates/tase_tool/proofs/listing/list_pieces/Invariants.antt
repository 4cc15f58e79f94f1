use Rattle.std.proofs.Common.{◌≡◌, length}
use Rattle.tpkt_cotp.specs.declared.limits.TheConstants.{PIECE_LIMIT}
use Rattle.tase_tool.proofs.Listed.{Stands}
use Rattle.tase_tool.proofs.listing.list_pieces.Given as goal

abbrev pub invariant-loop-pieces : goal.invariant-loop-pieces
invariant-loop-pieces g l = record {
  stands : Stands l.fn.pieces l.lister l.pieces (g.K.Sink.told l.fn.sink)
      (g.K.Sink.told l.sink);
  room : length l.room ≡ PIECE_LIMIT;
}

abbrev pub decreases-loop-pieces : goal.decreases-loop-pieces
decreases-loop-pieces g l = length l.pieces
