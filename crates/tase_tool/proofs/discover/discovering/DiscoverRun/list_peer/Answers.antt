use Rattle.std.proofs.Common.{inl, inr, refl}
use Rattle.tase_tool.proofs.discover.discovering.DiscoverRun.list_peer.Goals as goal

pub returns-in-Ok : goal.returns-in-Ok
returns-in-Ok g c = inl (c.connect.ensures c.args.centre c.args.peer c.in-Ok.ensures)

pub returns-in-Err : goal.returns-in-Err
returns-in-Err g c = inr (refl, refl)
