use Rattle.std.proofs.Common.{sym}
use Rattle.tase_audit.proofs.RowsThere.{peer_there}
use Rattle.tase_audit.proofs.owns.same_by_key.Goals as goal

pub same_as_peer-requires : goal.same_as_peer-requires
same_as_peer-requires c =
    peer_there c.args.one.now c.args.key.now c.in-Some.peer (sym c.in-Some.ensures)
