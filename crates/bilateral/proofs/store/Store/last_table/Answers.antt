use Rattle.std.proofs.Common.{◌-◌, sym, ap, ◌∙◌, arith, get_or}
use Rattle.std.proofs.lemmas.List.{get_or_read}
use Rattle.bilateral.specs.Rows.{no_table}
use Rattle.bilateral.proofs.Stores.{peer_within, some_vec, last_in_vec}
use Rattle.bilateral.proofs.store.Store.last_table.Goals as goal

pub overflow_sub-len : goal.overflow_sub-len
overflow_sub-len c =
    let v = c.index-tables.result.now in
    omega (
      arith,
      c.len.ensures,
      v.ok.0,
      some_vec c.args.self.now c.requires.store c.args.self.now.peer
          (peer_within c.args.self.now c.requires.store c.requires.some) v c.index-tables.ensures,
    )

pub index-requires : goal.index-requires
index-requires c =
    let v = c.index-tables.result.now in
    omega (
      arith,
      c.len.ensures,
      v.ok.0,
      some_vec c.args.self.now c.requires.store c.args.self.now.peer
          (peer_within c.args.self.now c.requires.store c.requires.some) v c.index-tables.ensures,
    )

pub returns : goal.returns
returns c =
    let v = c.index-tables.result.now in
    let below = peer_within c.args.self.now c.requires.store c.requires.some in
    let some = some_vec c.args.self.now c.requires.store c.args.self.now.peer below v
    c.index-tables.ensures in
    get_or_read v.items (c.len.result - 1) c.index.result.now
    (omega (arith, c.len.ensures, v.ok.0, some)) c.index.ensures no_table
    ∙ ap (λ k. get_or v.items k no_table) (omega (arith, c.len.ensures, v.ok.0))
    ∙ sym (last_in_vec c.args.self.now c.requires.store c.args.self.now.peer below v
    c.index-tables.ensures)
