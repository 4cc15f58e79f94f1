use Rattle.std.proofs.Common.{sym}
use Rattle.tase_audit.proofs.RowsThere.{peer_there}
use Rattle.tase_audit.proofs.owns.same_as_peer.Goals as goal

pub same_peer-requires-clause-there : goal.same_peer-requires-clause-there
same_peer-requires-clause-there c =
    peer_there c.args.other.now c.args.key.now c.in-Some.place (sym c.in-Some.ensures)
