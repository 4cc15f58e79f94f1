use Rattle.std.proofs.Common.{◌≤◌, length, set, refl, ap, ◌∙◌, arith, rules}
use Rattle.bilateral.specs.declared.rows.Table.{Table}
use Rattle.bilateral.specs.Reading.{with_control, last_table}
use Rattle.bilateral.specs.Store.{rows_of}
use Rattle.bilateral.proofs.TablesOf.{lists}
use Rattle.bilateral.proofs.Stores.{peer_within, some_items, IsStore-with_control, some_vec, vec_changed, changed_rows}
use Rattle.bilateral.proofs.store.Store.push_control.Goals as goal

pub overflow_cast-place : goal.overflow_cast-place
overflow_cast-place c =
    let few : c.len-place.result ≤ 5000 =
    omega (
      arith,
      c.len-place.ensures,
      ap (λ (t : Table). length t.controls) c.last_table.ensures,
      c.requires.room,
    ) in
    search rules

pub index_mut-requires : goal.index_mut-requires
index_mut-requires c =
    omega (
      arith,
      c.args.self.now.tables.ok.0,
      peer_within c.args.self.now c.requires.store c.requires.some,
    )

pub push_control-requires : goal.push_control-requires
push_control-requires c =
    let store = c.args.self.now in
    some_vec store c.requires.store store.peer (peer_within store c.requires.store c.requires.some)
    c.index_mut.result.now c.index_mut.ensures.value

pub returns-clause-rows : goal.returns-clause-rows
returns-clause-rows c =
    let store = c.args.self.now in
    let last = last_table (rows_of store) store.peer in
    changed_rows store (lists (set store.tables.items store.peer c.push_control.new.tables))
    (with_control last c.args.control) c.requires.store
    (some_items store c.requires.some)
    (vec_changed store c.requires.store store.peer (peer_within store c.requires.store c.requires.some)
    c.index_mut.result.now c.index_mut.ensures.value c.push_control.new.tables
    (λ t. with_control t c.args.control) c.in_ok-push_control.ensures)

pub returns-clause-store : goal.returns-clause-store
returns-clause-store c =
    let store = c.args.self.now in
    IsStore-with_control store _ c.args.control c.further-variant.result c.len-place.result
    c.requires.store (some_items store c.requires.some) c.requires.known c.requires.fresh c.requires.room c.further-variant.ensures
    (c.len-place.ensures ∙ ap (λ (t : Table). length t.controls) c.last_table.ensures)
    (vec_changed store c.requires.store store.peer (peer_within store c.requires.store c.requires.some)
    c.index_mut.result.now c.index_mut.ensures.value c.push_control.new.tables
    (λ t. with_control t c.args.control) c.in_ok-push_control.ensures) c.in_ok-note_row.ensures refl
