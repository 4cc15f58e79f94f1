use Rattle.std.proofs.Common.{set, refl, ap, ◌∙◌, arith}
use Rattle.bilateral.specs.Reasons.{nothing_given}
use Rattle.bilateral.specs.Rows.{new_variant}
use Rattle.bilateral.proofs.TablesOf.{lists, rows_in}
use Rattle.bilateral.proofs.Stores.{peer_below, IsStore-with_further, further_rows, vec_pushed}
use Rattle.bilateral.proofs.store.Store.push_variant.Goals as goal

pub index_mut-requires : goal.index_mut-requires
index_mut-requires c = omega (
  arith,
  c.args.self.now.tables.ok.0,
  peer_below c.args.self.now c.args.peer c.requires.known,
)

pub returns-clause-rows : goal.returns-clause-rows
returns-clause-rows c =
    let store = c.args.self.now in
    let own = c.table.result.now in
    let tables = lists (set store.tables.items c.args.peer c.push.new.self) in
    let pushed = vec_pushed store c.requires.store c.args.peer (peer_below store c.args.peer c.requires.known)
    c.index_mut.result.now c.index_mut.ensures.value c.push.new.self c.in_ok-table.table
    (new_variant own c.args.domain c.args.id) c.in_ok-push.ensures.items c.in_ok-table.ensures in
    ap (λ given. record {
      rows = rows_in store.points.items store.devices.items tables;
      peer = c.args.peer;
      given = given;
    }) c.nothing-self.ensures
    ∙ ap (λ rs. record { rows = rs; peer = c.args.peer; given = nothing_given })
    (further_rows store tables c.args.peer c.args.domain c.args.id own c.requires.store
    (peer_below store c.args.peer c.requires.known) c.table.ensures.value pushed)

pub returns-clause-store : goal.returns-clause-store
returns-clause-store c =
    let store = c.args.self.now in
    let own = c.table.result.now in
    IsStore-with_further store _ c.args.peer c.args.domain c.args.id own c.requires.store
    (peer_below store c.args.peer c.requires.known) c.requires.room c.requires.domain c.requires.id c.table.ensures.value
    (vec_pushed store c.requires.store c.args.peer (peer_below store c.args.peer c.requires.known)
    c.index_mut.result.now c.index_mut.ensures.value c.push.new.self c.in_ok-table.table
    (new_variant own c.args.domain c.args.id) c.in_ok-push.ensures.items c.in_ok-table.ensures)
    refl refl
