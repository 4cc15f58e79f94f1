use Rattle.std.proofs.Common.{Some, sym, ap, ◌∙◌, arith}
use Rattle.std.proofs.lemmas.List.{get_or_read}
use Rattle.std.proofs.lemmas.Option.{slice_get-get_or}
use Rattle.bilateral.specs.Rows.{no_table}
use Rattle.bilateral.specs.Store.{rows_of}
use Rattle.bilateral.proofs.Stores.{peer_below, some_vec, own_in_vec}
use Rattle.bilateral.proofs.store.Store.table.Goals as goal

pub index-requires : goal.index-requires
index-requires c =
    let v = c.index-tables.result.now in
    omega (
      arith,
      v.ok.0,
      some_vec c.args.self.now c.requires.store c.args.peer (peer_below c.args.self.now c.args.peer c.requires.peer) v c.index-tables.ensures,
    )

pub returns-clause-value : goal.returns-clause-value
returns-clause-value c =
    let v = c.index-tables.result.now in
    get_or_read v.items 0 c.index.result.now
    (some_vec c.args.self.now c.requires.store c.args.peer (peer_below c.args.self.now c.args.peer c.requires.peer) v c.index-tables.ensures)
    c.index.ensures no_table
    ∙ sym (own_in_vec c.args.self.now c.requires.store c.args.peer (peer_below c.args.self.now c.args.peer c.requires.peer) v
    c.index-tables.ensures)

pub returns-clause-listed : goal.returns-clause-listed
returns-clause-listed c =
    slice_get-get_or (rows_of c.args.self.now).tables c.args.peer no_table
    c.requires.peer
    ∙ ap Some (sym (returns-clause-value c))
