use Rattle.std.proofs.Common.{◌∙◌}
use Rattle.bilateral.specs.Index.{names_in}
use Rattle.bilateral.specs.Store.{rows_of}
use Rattle.bilateral.proofs.Names.{place-by_key}
use Rattle.bilateral.proofs.store.Store.find_peer.Goals as goal

pub returns : goal.returns
returns c = c.find_name.ensures
    ∙ place-by_key (λ row. row.key) (rows_of c.args.self.now).tables
    (names_in c.args.self.now.keys)
    c.args.key.now c.requires.names.keys
