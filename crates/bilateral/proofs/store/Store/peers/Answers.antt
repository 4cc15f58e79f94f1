use Rattle.std.proofs.Common.{arith}
use Rattle.bilateral.proofs.Stores.{own_count}
use Rattle.bilateral.proofs.store.Store.peers.Goals as goal

pub returns : goal.returns
returns c =
    omega (arith, c.len.ensures, c.args.self.now.tables.ok.0, own_count c.args.self.now)
