-- Stores that a line was added to.
use Rattle.std.proofs.Common.{◌≡◌, ℕ, zero, suc, ◌-◌, ◌<◌, ◌≤◌, ◌&&◌, ◌==◌, cond, List, [], ◌∷◌, ◌++◌, length}
use Rattle.std.proofs.Common.{map, set, get_or, drop, All, IsTrue, Option, Some, None, position}
use Rattle.std.proofs.Common.{refl, sym, ap, subst, ◌∙◌, arith, Vec, Global}
use Rattle.std.proofs.lemmas.List.{length-drop, length-map, length-set, length_push, map-append}
use Rattle.std.proofs.lemmas.List.Elements.{All-push, All-set, All-get_or}
use Rattle.bilateral.specs.declared.line.TableLine.TheVariants.{Point, Device, Peer}
use Rattle.bilateral.specs.declared.rows.PointRow.{PointRow}
use Rattle.bilateral.specs.declared.rows.DeviceRow.{DeviceRow}
use Rattle.bilateral.specs.declared.rows.See.{See as SeeRow}
use Rattle.bilateral.specs.declared.rows.Control.{Control as ControlRow}
use Rattle.bilateral.specs.declared.rows.Table.{Table}
use Rattle.bilateral.specs.declared.rows.TheConstants.{SEE_LIMIT, DEVICE_LIMIT, VARIANT_LIMIT}
use Rattle.bilateral.specs.declared.store.Store.{Store}
use Rattle.tase_points.specs.Layouts.{IsLayout}
use Rattle.bilateral.specs.Words.Words.{is_name, is_identifier}
use Rattle.bilateral.specs.Lines.{IsLawfulLine}
use Rattle.bilateral.specs.Rows.{CentreRows, IsCentre, IsTable, IsControlling, place_of_see}
use Rattle.bilateral.specs.Rows.{place_of_control, table_of, further_of, variant_of, no_table}
use Rattle.bilateral.specs.Rows.{new_variant, variants_of}
use Rattle.bilateral.specs.Index.{names_in, row_by}
use Rattle.bilateral.specs.Reading.{row_fault, last_table, with_last, with_see, set_last}
use Rattle.bilateral.specs.Reading.{with_control, with_further}
use Rattle.bilateral.specs.Store.{rows_of, so_far, tables_in, own_of, last_in, IsStore}
use Rattle.bilateral.proofs.Names.{names-pushed}
use Rattle.bilateral.proofs.Taken.{IsNewPoint-from_no_fault, IsNewDevice-from_no_fault}
use Rattle.bilateral.proofs.Taken.{IsNewPeer-from_no_fault}
use Rattle.bilateral.proofs.Grown.{IsCentre-with_point, IsCentre-with_device, IsCentre-with_peer}
use Rattle.bilateral.proofs.Grown.{IsCentre-with_last, IsTable-last, IsTable-with_see, with_peer}
use Rattle.bilateral.proofs.Grown.{IsTable-with_control, IsControlling-with_control}
use Rattle.bilateral.proofs.Grown.{IsControlling-last, IsCentre-with_further, IsTable-variant}
use Rattle.bilateral.proofs.Grown.{IsControlling-variant, kept_with_further}
use Rattle.bilateral.proofs.Grown.{IsControlling-same, kept_of, kept_with_peer, place-with_row}
use Rattle.bilateral.proofs.Keyed.{keys_of, keys-with_last}
use Rattle.bilateral.proofs.TablesOf.{rows_in, rows-set_last, rows-push, lists, list_at, lists-set}
use Rattle.bilateral.proofs.TablesOf.{own_is, further_is, variants_are, last_is}

-- a store without anything
only_no_table : (v : ℕ) → get_or (no_table ∷ []) v no_table ≡ no_table
only_no_table zero = refl
only_no_table (suc v) = refl

pub IsCentre-start : IsCentre (record { points = []; devices = []; tables = []; variants = [] })
IsCentre-start = record {
  names = λ i j d before below. absurd (omega arith);
  named = λ k d below. absurd (omega arith);
  device_names = λ i j d before below. absurd (omega arith);
  devices = λ k d below. absurd (omega arith);
  apart = λ k d below. absurd (omega arith);
  keys = λ i j d before below. absurd (omega arith);
  titles = λ i j d before below. absurd (omega arith);
  tables = λ k d below. absurd (omega arith);
  controls = λ k d below. absurd (omega arith);
  variants = refl;
  further = λ peer. record {
    tables = λ k d below. absurd (omega arith);
    controls = λ k d below. absurd (omega arith);
    alike = λ k d below. absurd (omega arith);
    limit = omega arith;
  };
  point_limit = omega arith;
  device_limit = omega arith;
  peer_limit = omega arith;
}

pub IsStore-start : (store : Store) → store.points.items ≡ [] → store.devices.items ≡ []
    → store.tables.items ≡ [] → names_in store.point_names ≡ [] → names_in store.device_names ≡ []
    → names_in store.keys ≡ [] → ((p v q : ℕ) → row_by store.sees p v q ≡ None)
    → ((p v q : ℕ) → row_by store.controls p v q ≡ None) → IsStore store
IsStore-start store points devices tables point_names device_names keys sees controls =
    let none : tables_in store ≡ [] = ap (map (λ (ts : Vec Table Global). ts.items)) tables in
    let rows : rows_of store
    ≡ record { points = []; devices = []; tables = []; variants = [] } =
    ap (λ ps. rows_in ps store.devices.items (tables_in store)) points
    ∙ ap (λ ds. rows_in [] ds (tables_in store)) devices ∙ ap (rows_in [] []) none in
    record {
      lawful = subst IsCentre (sym rows) IsCentre-start;
      names = record {
        points = point_names ∙ sym (ap (map (λ (row : PointRow). row.name)) points);
        devices = device_names ∙ sym (ap (map (λ (row : DeviceRow). row.name)) devices);
        keys = keys ∙ sym (ap (λ (rs : CentreRows). keys_of rs.tables) rows);
      };
      owned = subst (All (λ ts. 0 < length ts)) (sym none) (λ k d below. absurd (omega arith));
      peer = λ some. absurd (omega (arith, ap length tables, some));
      sees = λ p v q. sees p v q
          ∙ sym (ap (λ rs. place_of_see (variant_of rs p v) q) rows
          ∙ ap (λ t. place_of_see t q) (only_no_table v));
      controls = λ p v q. controls p v q
          ∙ sym (ap (λ rs. place_of_control (variant_of rs p v) q) rows
          ∙ ap (λ t. place_of_control t q) (only_no_table v));
    }

pub IsStore-with_point : (old new : Store) (point : PointRow) (name : List ℕ)
    → IsStore old → IsTrue (is_name point.name) → row_fault (so_far old) (Point point) ≡ None
    → name ≡ point.name → new.points.items ≡ old.points.items ++ point ∷ []
    → names_in new.point_names ≡ names_in old.point_names ++ name ∷ []
    → new ≡ record old { points = new.points; point_names = new.point_names } → IsStore new
IsStore-with_point old new point name store named taken called pushed noted same =
    subst IsStore (sym same) (record {
      lawful = subst IsCentre (ap (λ points. record (rows_of old) { points = points }) (sym pushed))
          (IsCentre-with_point (rows_of old) point store.lawful named
          (IsNewPoint-from_no_fault (so_far old) point taken));
      names = record {
        points = names-pushed (λ row. row.name) old.points.items new.points.items point
            (names_in old.point_names) (names_in new.point_names) name store.names.points noted called
            pushed;
        devices = store.names.devices;
        keys = store.names.keys;
      };
      owned = store.owned;
      peer = store.peer;
      sees = store.sees;
      controls = store.controls;
    })

pub IsStore-with_device : (old new : Store) (device : DeviceRow) (name : List ℕ)
    → IsStore old → IsLawfulLine (Device device) → row_fault (so_far old) (Device device) ≡ None
    → name ≡ device.name → new.devices.items ≡ old.devices.items ++ device ∷ []
    → names_in new.device_names ≡ names_in old.device_names ++ name ∷ []
    → new ≡ record old { devices = new.devices; device_names = new.device_names } → IsStore new
IsStore-with_device old new device name store words taken called pushed noted same =
    subst IsStore (sym same) (record {
      lawful = subst IsCentre
          (ap (λ devices. record (rows_of old) { devices = devices }) (sym pushed))
          (IsCentre-with_device (rows_of old) device store.lawful words
          (IsNewDevice-from_no_fault (so_far old) device taken));
      names = record {
        points = store.names.points;
        devices = names-pushed (λ row. row.name) old.devices.items new.devices.items device
            (names_in old.device_names) (names_in new.device_names) name store.names.devices noted
            called pushed;
        keys = store.names.keys;
      };
      owned = store.owned;
      peer = store.peer;
      sees = store.sees;
      controls = store.controls;
    })

-- a peer's list, and where it stands
tables_long : (store : Store) → length (tables_in store) ≡ length store.tables.items
tables_long store = length-map store.tables.items (λ (ts : Vec Table Global). ts.items)

pub own_count : (store : Store) → length (rows_of store).tables ≡ length store.tables.items
own_count store = length-map (tables_in store) own_of ∙ tables_long store

pub peer_below : (store : Store) (n : ℕ) → n < length (rows_of store).tables
    → n < length store.tables.items
peer_below store n below = omega (arith, own_count store, below)

pub some_items : (store : Store) → 0 < length (rows_of store).tables
    → 0 < length store.tables.items
some_items store some = omega (arith, own_count store, some)

-- lines go to the last table of a peer that is there
pub peer_within : (store : Store) → IsStore store → 0 < length (rows_of store).tables
    → store.peer < length store.tables.items
peer_within store is some = is.peer (omega (arith, own_count store, some))

pub some_own : (store : Store) → IsStore store → (n : ℕ) → n < length store.tables.items
    → 0 < length (get_or (tables_in store) n [])
some_own store is n below =
    All-get_or (λ (ts : List Table). 0 < length ts) (tables_in store) n []
    (omega (arith, tables_long store, below)) is.owned

-- a peer's vector of tables
module _ (store : Store) (is : IsStore store) (n : ℕ) (below : n < length store.tables.items)
    (tables : Vec Table Global) (there : tables ≡ get_or store.tables.items n tables) where
  pub vec_is : get_or (tables_in store) n [] ≡ tables.items
  vec_is =
      list_at store.tables.items n tables below
      ∙ ap (λ (ts : Vec Table Global). ts.items) (sym there)

  pub some_vec : 0 < length tables.items
  some_vec = subst (λ (ts : List Table). 0 < length ts) vec_is (some_own store is n below)

  longs : n < length (tables_in store)
  longs = omega (arith, tables_long store, below)

  pub own_in_vec : table_of (rows_of store) n ≡ own_of tables.items
  own_in_vec =
      own_is store.points.items store.devices.items (tables_in store) n longs ∙ ap own_of vec_is

  pub last_in_vec : last_table (rows_of store) n ≡ last_in tables.items
  last_in_vec =
      last_is store.points.items store.devices.items (tables_in store) n longs
      (some_own store is n below)
      ∙ ap last_in vec_is

  pub variants_in_vec : variants_of (rows_of store) n ≡ tables.items
  variants_in_vec =
      variants_are store.points.items store.devices.items (tables_in store) n longs
      (some_own store is n below)
      ∙ vec_is

  pub further_count : length (further_of (rows_of store) n) ≡ length tables.items - 1
  further_count =
      ap length (further_is store.points.items store.devices.items (tables_in store) n longs)
      ∙ length-drop 1 (get_or (tables_in store) n [])
      ∙ ap (λ (ts : List Table). length ts - 1) vec_is

  pub few_vec : length tables.items ≤ 16
  few_vec = omega (arith, further_count, some_vec, (is.lawful.further n).limit)

  -- with its last table changed
  pub vec_changed : (changed : Vec Table Global) (g : Table → Table)
      → changed.items ≡ set_last tables.items (g (last_in tables.items))
      → lists (set store.tables.items n changed)
      ≡ set (tables_in store) n
      (set_last (get_or (tables_in store) n []) (g (last_table (rows_of store) n)))
  vec_changed changed g same =
      lists-set store.tables.items (set store.tables.items n changed) n changed
      (set_last (get_or (tables_in store) n []) (g (last_table (rows_of store) n))) refl
      (same
      ∙ ap (λ (t : Table). set_last tables.items (g t)) (sym last_in_vec)
      ∙ ap (λ (ts : List Table). set_last ts (g (last_table (rows_of store) n))) (sym vec_is))

  -- with a table more
  pub vec_pushed : (changed : Vec Table Global) (table same : Table)
      → changed.items ≡ tables.items ++ table ∷ [] → table ≡ same
      → lists (set store.tables.items n changed)
      ≡ set (tables_in store) n (get_or (tables_in store) n [] ++ same ∷ [])
  vec_pushed changed table same pushed is_same =
      lists-set store.tables.items (set store.tables.items n changed) n changed
      (get_or (tables_in store) n [] ++ same ∷ []) refl
      (pushed
      ∙ ap (λ (t : Table). tables.items ++ t ∷ []) is_same
      ∙ ap (λ (ts : List Table). ts ++ same ∷ []) (sym vec_is))

-- the rows with a peer more
pub peer_rows : (old : Store) (tables : List (List Table)) (table : Table)
    → tables ≡ tables_in old ++ (table ∷ []) ∷ []
    → rows_in old.points.items old.devices.items tables ≡ with_peer (rows_of old) table
peer_rows old tables table pushed =
    ap (rows_in old.points.items old.devices.items) pushed
    ∙ ap (λ ts. record (rows_of old) {
      tables = ts;
      variants = map (drop 1) (tables_in old ++ (table ∷ []) ∷ []);
    }) (map-append own_of (tables_in old) ((table ∷ []) ∷ []))
    ∙ ap (λ vs. record (rows_of old) {
      tables = (rows_of old).tables ++ table ∷ [];
      variants = vs;
    }) (map-append (drop 1) (tables_in old) ((table ∷ []) ∷ []))

pub vecs_pushed : (old new : List (Vec Table Global)) (tables : Vec Table Global) (table : Table)
    → new ≡ old ++ tables ∷ [] → tables.items ≡ table ∷ []
    → lists new ≡ lists old ++ (table ∷ []) ∷ []
vecs_pushed old new tables table pushed same =
    ap lists pushed ∙ map-append (λ (ts : Vec Table Global). ts.items) old (tables ∷ [])
    ∙ ap (λ (ts : List Table). lists old ++ ts ∷ []) same

pub IsStore-with_peer : (old new : Store) (table : Table) (key : List ℕ)
    → IsStore old → IsLawfulLine (Peer table) → row_fault (so_far old) (Peer table) ≡ None
    → key ≡ table.key → tables_in new ≡ tables_in old ++ (table ∷ []) ∷ []
    → names_in new.keys ≡ names_in old.keys ++ key ∷ []
    → new.peer ≡ length old.tables.items
    → new
    ≡ record old { tables = new.tables; keys = new.keys; peer = new.peer; given = new.given }
    → IsStore new
IsStore-with_peer old new table key store words taken called pushed noted placed same =
    let rows = peer_rows old (tables_in new) table pushed in
    subst IsStore (sym same) (record {
      lawful = subst IsCentre (sym rows)
          (IsCentre-with_peer (rows_of old) table store.lawful words
          (IsNewPeer-from_no_fault (so_far old) table taken));
      names = record {
        points = store.names.points;
        devices = store.names.devices;
        keys = names-pushed (λ t. t.key) (rows_of old).tables (rows_of new).tables table
            (names_in old.keys) (names_in new.keys) key store.names.keys noted called
            (ap (map own_of) pushed ∙ map-append own_of (tables_in old) ((table ∷ []) ∷ []));
      };
      owned = subst (All (λ ts. 0 < length ts)) (sym pushed)
          (All-push (λ (ts : List Table). 0 < length ts) (tables_in old) (table ∷ []) store.owned
          (omega arith));
      peer = λ some. omega (
        arith,
        placed,
        tables_long old,
        tables_long new,
        ap length pushed,
        length_push (tables_in old) (table ∷ []),
      );
      sees = λ p v q. store.sees p v q
          ∙ ap (position (λ s. s.point == q))
          (sym (kept_with_peer (λ t. t.sees) (rows_of old) table store.lawful.variants words.3.0
          refl p v))
          ∙ ap (λ rs. place_of_see (variant_of rs p v) q) (sym rows);
      controls = λ p v q. store.controls p v q
          ∙ ap (position (λ s. s.device == q))
          (sym (kept_with_peer (λ t. t.controls) (rows_of old) table store.lawful.variants words.3.1
          refl p v))
          ∙ ap (λ rs. place_of_control (variant_of rs p v) q) (sym rows);
    })

-- a further table of a peer
pub further_rows : (old : Store) (tables : List (List Table)) (n : ℕ) (domain id : List ℕ)
    (own : Table) → IsStore old → n < length old.tables.items → own ≡ table_of (rows_of old) n
    → tables
    ≡ set (tables_in old) n (get_or (tables_in old) n [] ++ new_variant own domain id ∷ [])
    → rows_in old.points.items old.devices.items tables
    ≡ with_further (rows_of old) n (new_variant (table_of (rows_of old) n) domain id)
further_rows old tables n domain id own store below is pushed =
    ap (rows_in old.points.items old.devices.items) pushed
    ∙ rows-push old.points.items old.devices.items (tables_in old) n
    (omega (arith, tables_long old, below)) (new_variant own domain id)
    (some_own old store n below)
    ∙ ap (λ o. with_further (rows_of old) n (new_variant o domain id)) is

pub IsStore-with_further : (old new : Store) (n : ℕ) (domain id : List ℕ) (own : Table)
    → IsStore old → n < length old.tables.items
    → length (further_of (rows_of old) n) < VARIANT_LIMIT → IsTrue (is_identifier domain)
    → IsTrue (is_identifier id) → own ≡ table_of (rows_of old) n
    → tables_in new
    ≡ set (tables_in old) n (get_or (tables_in old) n [] ++ new_variant own domain id ∷ [])
    → new.peer ≡ n
    → new ≡ record old { tables = new.tables; peer = new.peer; given = new.given } → IsStore new
IsStore-with_further old new n domain id own store below room is_domain is_id is pushed placed
    same =
    let rows = rows_of old in
    let mine = table_of rows n in
    let table = new_variant mine domain id in
    let within : n < length rows.tables = omega (arith, own_count old, below) in
    let grown =
    further_rows old (tables_in new) n domain id own store below is pushed in
    let long = ap length pushed
    ∙ length-set (tables_in old) n (get_or (tables_in old) n [] ++ new_variant own domain id ∷ [])
    in
    subst IsStore (sym same) (record {
      lawful = subst IsCentre (sym grown)
          (IsCentre-with_further rows n table store.lawful within room
          (IsTable-variant (length rows.points) mine domain id
          (All-get_or (IsTable (length rows.points)) rows.tables n no_table within
          store.lawful.tables) is_domain is_id)
          (IsControlling-variant (length rows.devices) mine domain id)
          (record { key = refl; title = refl; pending = refl }));
      names = record {
        points = store.names.points;
        devices = store.names.devices;
        keys = store.names.keys ∙ sym (ap (λ (rs : CentreRows). keys_of rs.tables) grown);
      };
      owned = subst (All (λ ts. 0 < length ts)) (sym pushed)
          (All-set (λ (ts : List Table). 0 < length ts) (tables_in old) n
          (get_or (tables_in old) n [] ++ new_variant own domain id ∷ [])
          (omega (arith, length_push (get_or (tables_in old) n []) (new_variant own domain id)))
          store.owned);
      peer = λ some. omega (arith, placed, below, tables_long old, tables_long new, long);
      sees = λ p v q. store.sees p v q
          ∙ ap (position (λ s. s.point == q))
          (sym (kept_with_further (λ t. t.sees) rows n table within store.lawful.variants refl refl
          p v))
          ∙ ap (λ rs. place_of_see (variant_of rs p v) q) (sym grown);
      controls = λ p v q. store.controls p v q
          ∙ ap (position (λ s. s.device == q))
          (sym (kept_with_further (λ t. t.controls) rows n table within store.lawful.variants refl
          refl p v))
          ∙ ap (λ rs. place_of_control (variant_of rs p v) q) (sym grown);
    })

-- the table to which lines go, changed
pub changed_rows : (old : Store) (tables : List (List Table)) (table : Table) → IsStore old
    → 0 < length old.tables.items
    → tables ≡ set (tables_in old) old.peer (set_last (get_or (tables_in old) old.peer []) table)
    → rows_in old.points.items old.devices.items tables
    ≡ with_last (rows_of old) old.peer table
changed_rows old tables table store some changed =
    ap (rows_in old.points.items old.devices.items) changed
    ∙ rows-set_last old.points.items old.devices.items (tables_in old) old.peer
    (omega (arith, tables_long old, store.peer some)) table
    (some_own old store old.peer (store.peer some))

-- another last table, with the same key and title, and with the same pending octets where it is a
-- further one
IsStore-with_last : (old new : Store) (table : Table) → IsStore old → 0 < length old.tables.items
    → tables_in new
    ≡ set (tables_in old) old.peer (set_last (get_or (tables_in old) old.peer []) table)
    → table.key ≡ (last_table (rows_of old) old.peer).key
    → table.title ≡ (last_table (rows_of old) old.peer).title
    → (0 < length (further_of (rows_of old) old.peer)
    → table.pending ≡ (last_table (rows_of old) old.peer).pending)
    → IsTable (length old.points.items) table
    → IsControlling (length old.devices.items) table
    → ((p v q : ℕ) → row_by new.sees p v q
    ≡ place_of_see (variant_of (with_last (rows_of old) old.peer table) p v) q)
    → ((p v q : ℕ) → row_by new.controls p v q
    ≡ place_of_control (variant_of (with_last (rows_of old) old.peer table) p v) q)
    → IsStore
    (record old {
      tables = new.tables;
      sees = new.sees;
      controls = new.controls;
      given = new.given;
    })
IsStore-with_last old new table store some changed same_key same_title same_pending is_table
    is_controlling sees controls =
    let rows = changed_rows old (tables_in new) table store some changed in
    let within : old.peer < length (rows_of old).tables =
    omega (arith, own_count old, store.peer some) in
    let long = ap length changed
    ∙ length-set (tables_in old) old.peer (set_last (get_or (tables_in old) old.peer []) table) in
    record {
      lawful = subst IsCentre (sym rows)
          (IsCentre-with_last (rows_of old) old.peer table store.lawful within is_table
          is_controlling same_key same_title same_pending);
      names = record {
        points = store.names.points;
        devices = store.names.devices;
        keys = store.names.keys
            ∙ sym (keys-with_last (rows_of old) old.peer table same_key)
            ∙ sym (ap (λ (rs : CentreRows). keys_of rs.tables) rows);
      };
      owned = subst (All (λ ts. 0 < length ts)) (sym changed)
          (All-set (λ (ts : List Table). 0 < length ts) (tables_in old) old.peer
          (set_last (get_or (tables_in old) old.peer []) table)
          (omega (
            arith,
            some_own old store old.peer (store.peer some),
            length-set (get_or (tables_in old) old.peer [])
                (length (get_or (tables_in old) old.peer []) - 1) table,
          )) store.owned);
      peer = λ any. omega (arith, store.peer some, tables_long old, tables_long new, long);
      sees = λ p v q. sees p v q ∙ ap (λ rs. place_of_see (variant_of rs p v) q) (sym rows);
      controls = λ p v q. controls p v q
          ∙ ap (λ rs. place_of_control (variant_of rs p v) q) (sym rows);
    }

-- the last table with another limit
pub IsStore-with_limit : (old new : Store) (table : Table) → IsStore old
    → 0 < length old.tables.items
    → tables_in new
    ≡ set (tables_in old) old.peer (set_last (get_or (tables_in old) old.peer []) table)
    → table.key ≡ (last_table (rows_of old) old.peer).key
    → table.title ≡ (last_table (rows_of old) old.peer).title
    → (0 < length (further_of (rows_of old) old.peer)
    → table.pending ≡ (last_table (rows_of old) old.peer).pending)
    → table.sees ≡ (last_table (rows_of old) old.peer).sees
    → table.controls ≡ (last_table (rows_of old) old.peer).controls
    → (IsTable (length old.points.items) (last_table (rows_of old) old.peer)
    → IsTable (length old.points.items) table)
    → new ≡ record old { tables = new.tables; given = new.given } → IsStore new
IsStore-with_limit old new table store some changed same_key same_title same_pending same_sees
    same_controls is_table same =
    let within : old.peer < length (rows_of old).tables =
    omega (arith, own_count old, store.peer some) in
    subst IsStore (sym same) (IsStore-with_last old
    (record new { sees = old.sees; controls = old.controls }) table store some changed same_key
    same_title same_pending (is_table (IsTable-last (rows_of old) store.lawful old.peer within))
    (IsControlling-same (length old.devices.items) (last_table (rows_of old) old.peer) table
    same_controls (IsControlling-last (rows_of old) store.lawful old.peer within))
    (λ p v q. store.sees p v q
    ∙ ap (position (λ s. s.point == q))
    (sym (kept_of (rows_of old) old.peer table within store.lawful.variants (λ t. t.sees) same_sees
    p v)))
    (λ p v q. store.controls p v q
    ∙ ap (position (λ s. s.device == q))
    (sym (kept_of (rows_of old) old.peer table within store.lawful.variants (λ t. t.controls)
    same_controls p v))))

-- the answer of an index after a row is noted, in the words of a search
noted : (peer variant item count last place p v q : ℕ) (before found : Option ℕ) → variant ≡ last
    → place ≡ count → before ≡ found
    → cond ((peer == p) && (variant == v) && (item == q)) (Some place) before
    ≡ cond ((peer == p) && (last == v) && (item == q)) (Some count) found
noted peer variant item count last place p v q before found same_variant same_place same_before =
    ap (λ n. cond ((peer == p) && (n == v) && (item == q)) (Some place) before) same_variant
    ∙ ap (λ n. cond ((peer == p) && (last == v) && (item == q)) (Some n) before) same_place
    ∙ ap (cond ((peer == p) && (last == v) && (item == q)) (Some count)) same_before

pub IsStore-with_see : (old new : Store) (see : SeeRow) (variant place : ℕ) → IsStore old
    → 0 < length old.tables.items → see.point < length old.points.items
    → place_of_see (last_table (rows_of old) old.peer) see.point ≡ None
    → length (last_table (rows_of old) old.peer).sees < SEE_LIMIT → IsLayout see.layout
    → variant ≡ length (further_of (rows_of old) old.peer)
    → place ≡ length (last_table (rows_of old) old.peer).sees
    → tables_in new
    ≡ set (tables_in old) old.peer
    (set_last (get_or (tables_in old) old.peer [])
    (with_see (last_table (rows_of old) old.peer) see))
    → ((p v q : ℕ) → row_by new.sees p v q
    ≡ cond ((old.peer == p) && (variant == v) && (see.point == q)) (Some place)
    (row_by old.sees p v q))
    → new ≡ record old { tables = new.tables; sees = new.sees } → IsStore new
IsStore-with_see old new see variant place store some known fresh room layout same_variant
    same_place changed sees same =
    let last = last_table (rows_of old) old.peer in
    let within : old.peer < length (rows_of old).tables =
    omega (arith, own_count old, store.peer some) in
    subst IsStore (sym same) (IsStore-with_last old
    (record new { controls = old.controls; given = old.given })
    (with_see last see) store some changed refl refl (λ further. refl)
    (IsTable-with_see (length old.points.items) last see
    (IsTable-last (rows_of old) store.lawful old.peer within) known fresh room layout)
    (IsControlling-same (length old.devices.items) last (with_see last see) refl
    (IsControlling-last (rows_of old) store.lawful old.peer within))
    (λ p v q. sees p v q
    ∙ noted old.peer variant see.point (length last.sees)
    (length (further_of (rows_of old) old.peer)) place p v q (row_by old.sees p v q)
    (place_of_see (variant_of (rows_of old) p v) q) same_variant same_place (store.sees p v q)
    ∙ place-with_row (rows_of old) old.peer (with_see last see) within store.lawful.variants
    (λ t. t.sees) (λ s. s.point) see refl fresh p v q)
    (λ p v q. store.controls p v q
    ∙ ap (position (λ s. s.device == q))
    (sym (kept_of (rows_of old) old.peer (with_see last see) within store.lawful.variants
    (λ t. t.controls) refl p v))))

pub IsStore-with_control : (old new : Store) (row : ControlRow) (variant place : ℕ) → IsStore old
    → 0 < length old.tables.items → row.device < length old.devices.items
    → place_of_control (last_table (rows_of old) old.peer) row.device ≡ None
    → length (last_table (rows_of old) old.peer).controls < DEVICE_LIMIT
    → variant ≡ length (further_of (rows_of old) old.peer)
    → place ≡ length (last_table (rows_of old) old.peer).controls
    → tables_in new
    ≡ set (tables_in old) old.peer
    (set_last (get_or (tables_in old) old.peer [])
    (with_control (last_table (rows_of old) old.peer) row))
    → ((p v q : ℕ) → row_by new.controls p v q
    ≡ cond ((old.peer == p) && (variant == v) && (row.device == q)) (Some place)
    (row_by old.controls p v q))
    → new ≡ record old { tables = new.tables; controls = new.controls } → IsStore new
IsStore-with_control old new row variant place store some known fresh room same_variant same_place
    changed controls same =
    let last = last_table (rows_of old) old.peer in
    let within : old.peer < length (rows_of old).tables =
    omega (arith, own_count old, store.peer some) in
    subst IsStore (sym same) (IsStore-with_last old
    (record new { sees = old.sees; given = old.given })
    (with_control last row) store some changed refl refl (λ further. refl)
    (IsTable-with_control (length old.points.items) last row
    (IsTable-last (rows_of old) store.lawful old.peer within))
    (IsControlling-with_control (length old.devices.items) last row
    (IsControlling-last (rows_of old) store.lawful old.peer within) known fresh room)
    (λ p v q. store.sees p v q
    ∙ ap (position (λ s. s.point == q))
    (sym (kept_of (rows_of old) old.peer (with_control last row) within store.lawful.variants
    (λ t. t.sees) refl p v)))
    (λ p v q. controls p v q
    ∙ noted old.peer variant row.device (length last.controls)
    (length (further_of (rows_of old) old.peer)) place p v q (row_by old.controls p v q)
    (place_of_control (variant_of (rows_of old) p v) q) same_variant same_place
    (store.controls p v q)
    ∙ place-with_row (rows_of old) old.peer (with_control last row) within store.lawful.variants
    (λ t. t.controls) (λ s. s.device) row refl fresh p v q))
