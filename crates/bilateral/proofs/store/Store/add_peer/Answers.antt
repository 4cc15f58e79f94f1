use Rattle.std.proofs.Common.{◌≤◌, refl, ap, ◌∙◌, arith, rules}
use Rattle.bilateral.specs.Index.{names_in}
use Rattle.bilateral.specs.Reasons.{nothing_given}
use Rattle.bilateral.proofs.Names.{place-by_key}
use Rattle.bilateral.proofs.Taken.{IsNewPeer-from_no_fault}
use Rattle.bilateral.proofs.Grown.{with_peer}
use Rattle.bilateral.proofs.TablesOf.{lists, rows_in}
use Rattle.bilateral.proofs.Stores.{IsStore-with_peer, peer_rows, vecs_pushed, own_count}
use Rattle.bilateral.specs.Store.{rows_of, so_far}
use Rattle.bilateral.specs.Rows.{place_of_peer}
use Rattle.bilateral.proofs.store.Store.add_peer.Goals as goal

pub note_name-requires : goal.note_name-requires
note_name-requires c =
    place-by_key (λ row. row.key) (rows_of c.args.self.now).tables (names_in c.args.self.now.keys)
    c.as_slice.result.now c.requires.store.names.keys
    ∙ ap (λ key. place_of_peer (rows_of c.args.self.now) key) c.as_slice.ensures.value
    ∙ (IsNewPeer-from_no_fault (so_far c.args.self.now) c.args.table c.requires.taken).fresh

pub overflow_cast-peer : goal.overflow_cast-peer
overflow_cast-peer c =
    let store = c.args.self.now in
    let few : c.len-peer.result ≤ 256 =
    omega (
      arith,
      c.len-peer.ensures,
      store.tables.ok.0,
      own_count store,
      c.requires.store.lawful.peer_limit,
    ) in
    search rules

pub returns-clause-rows : goal.returns-clause-rows
returns-clause-rows c =
    let store = c.args.self.now in
    let tables = lists c.push.new.self.items in
    let pushed = vecs_pushed store.tables.items c.push.new.self.items c.in_ok-tables.tables
    c.args.table c.in_ok-push.ensures.items c.in_ok-tables.ensures in
    ap (λ given. record {
      rows = rows_in store.points.items store.devices.items tables;
      peer = c.len-peer.result;
      given = given;
    }) c.nothing-self.ensures
    ∙ ap (λ rs. record { rows = rs; peer = c.len-peer.result; given = nothing_given })
    (peer_rows store tables c.args.table pushed)
    ∙ ap (λ n. record {
      rows = with_peer (rows_of store) c.args.table;
      peer = n;
      given = nothing_given;
    }) (omega (arith, c.len-peer.ensures, store.tables.ok.0, own_count store))

pub returns-clause-store : goal.returns-clause-store
returns-clause-store c =
    let store = c.args.self.now in
    IsStore-with_peer store _ c.args.table c.as_slice.result.now c.requires.store
    c.requires.lawful c.requires.taken c.as_slice.ensures.value
    (vecs_pushed store.tables.items c.push.new.self.items c.in_ok-tables.tables c.args.table
    c.in_ok-push.ensures.items c.in_ok-tables.ensures)
    c.in_ok-note_name.ensures (omega (arith, c.len-peer.ensures, store.tables.ok.0)) refl
