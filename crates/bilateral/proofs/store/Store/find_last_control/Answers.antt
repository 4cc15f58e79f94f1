use Rattle.std.proofs.Common.{sym, ap, ◌∙◌, arith}
use Rattle.bilateral.specs.Rows.{place_of_control, variant_of, table_of, further_of}
use Rattle.bilateral.specs.Store.{rows_of}
use Rattle.bilateral.proofs.Grown.{last-at}
use Rattle.bilateral.proofs.Stores.{peer_within, own_count}
use Rattle.bilateral.proofs.store.Store.find_last_control.Goals as goal

pub further-requires-clause-peer : goal.further-requires-clause-peer
further-requires-clause-peer c =
    omega (
      arith,
      own_count c.args.self.now,
      peer_within c.args.self.now c.requires.store c.requires.some,
    )

pub returns : goal.returns
returns c =
    let rows = rows_of c.args.self.now in
    let peer = c.args.self.now.peer in
    c.find_control.ensures ∙ ap (λ v. place_of_control (variant_of rows peer v) c.args.device) c.further.ensures
    ∙ ap (λ t. place_of_control t c.args.device)
    (sym (last-at (table_of rows peer) (further_of rows peer)))
