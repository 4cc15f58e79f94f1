use Rattle.std.proofs.Common.{◌<◌, true, length, set, refl, sym, ap, ◌∙◌, arith}
use Rattle.std.specs.Prelude.{unwrap_or}
use Rattle.bilateral.specs.Reading.{with_sets, last_table, changed}
use Rattle.bilateral.specs.Store.{rows_of, so_far}
use Rattle.bilateral.proofs.Taken.{limit_taken}
use Rattle.bilateral.proofs.Grown.{IsTable-with_sets}
use Rattle.bilateral.proofs.TablesOf.{lists}
use Rattle.bilateral.proofs.Stores.{IsStore-with_limit, own_count, some_vec, vec_changed}
use Rattle.bilateral.proofs.Stores.{changed_rows}
use Rattle.bilateral.proofs.store.Store.add_sets.Goals as goal

pub index_mut-requires : goal.index_mut-requires
index_mut-requires c =
    let store = c.args.self.now in
    let rows = rows_of store in
    let taken = limit_taken rows store.given.sets c.args.number c.requires.taken in
    let some : 0 < length store.tables.items = omega (arith, taken.0, own_count store) in
    omega (arith, store.tables.ok.0, c.requires.store.peer some)

pub set_sets-requires : goal.set_sets-requires
set_sets-requires c =
    let store = c.args.self.now in
    let rows = rows_of store in
    let taken = limit_taken rows store.given.sets c.args.number c.requires.taken in
    let some : 0 < length store.tables.items = omega (arith, taken.0, own_count store) in
    some_vec store c.requires.store store.peer (c.requires.store.peer some) c.index_mut.result.now
    c.index_mut.ensures.value

pub returns-clause-rows : goal.returns-clause-rows
returns-clause-rows c =
    let store = c.args.self.now in
    let rows = rows_of store in
    let taken = limit_taken rows store.given.sets c.args.number c.requires.taken in
    let some : 0 < length store.tables.items = omega (arith, taken.0, own_count store) in
    let last = last_table rows store.peer in
    let given = record store.given { sets = true } in
    let tables = lists (set store.tables.items store.peer c.set_sets.new.tables) in
    let same = vec_changed store c.requires.store store.peer (c.requires.store.peer some)
    c.index_mut.result.now c.index_mut.ensures.value c.set_sets.new.tables
    (λ t. with_sets t c.in-Some.number) c.set_sets.ensures in
    ap (λ rs. record { rows = rs; peer = store.peer; given = given })
    (changed_rows store tables (with_sets last c.in-Some.number) c.requires.store some same)
    ∙ ap (λ o. record {
      rows = changed (so_far store) (λ t. with_sets t (unwrap_or o 0));
      peer = store.peer;
      given = given;
    }) (sym c.in-Some.is)

pub returns-clause-store : goal.returns-clause-store
returns-clause-store c =
    let store = c.args.self.now in
    let rows = rows_of store in
    let taken = limit_taken rows store.given.sets c.args.number c.requires.taken in
    let some : 0 < length store.tables.items = omega (arith, taken.0, own_count store) in
    let table = with_sets (last_table rows store.peer) c.in-Some.number in
    let limits = rw c.in-Some.is at c.requires.lawful in
    IsStore-with_limit store _ table c.requires.store some
    (vec_changed store c.requires.store store.peer (c.requires.store.peer some)
    c.index_mut.result.now c.index_mut.ensures.value c.set_sets.new.tables
    (λ t. with_sets t c.in-Some.number) c.set_sets.ensures) refl refl
    (λ further. refl) refl refl
    (λ lawful. IsTable-with_sets _ _ _ lawful limits.0 limits.1) refl
