-- Rows that a line was added to: they are lawful, and the indexes that note it find what a search
-- finds.
use Rattle.std.proofs.Common.{◌≡◌, ◌≢◌, ℕ, zero, suc, ◌-◌, ◌<◌, ◌≤◌, Bool, true, false, not, ◌&&◌}
use Rattle.std.proofs.Common.{◌==◌, cond, eqb, leb, List, [], ◌∷◌, ◌++◌, length, get_or, set}
use Rattle.std.proofs.Common.{AllPairs, All, IsTrue, Option, Some, None, position, refl}
use Rattle.std.proofs.Common.{sym, ap, subst, ◌∙◌, inl, inr, arith, bytes_eq}
use Rattle.std.specs.Option.{option_eq}
use Rattle.std.specs.Cmp.Lexicographic.{bytes_decides}
use Rattle.std.proofs.lemmas.Bool.{cases_eq, cond-false, both_ways, eq-eqb}
use Rattle.std.proofs.lemmas.Bool.{ne_eqb, eqb-true, and_left, and_right, and_parts, not-false}
use Rattle.std.proofs.lemmas.Bool.{leb-true}
use Rattle.std.proofs.lemmas.Bool.{false≢true}
use Rattle.std.proofs.lemmas.List.{length-set, length_push, get_or-set_same, get_or-set_other}
use Rattle.std.proofs.lemmas.List.{get_or_default, get_or_past, get_or_append_left}
use Rattle.std.proofs.lemmas.List.{get_or-append_right}
use Rattle.std.proofs.lemmas.List.Elements.{All-push, All-set, All-get_or, All-head, All-tail}
use Rattle.std.proofs.lemmas.Bool.{cases_lt}
use Rattle.std.proofs.lemmas.List.Quantifiers.{all_pairs_push}
use Rattle.bilateral.specs.declared.line.TableLine.TheVariants.{Device, Peer}
use Rattle.bilateral.specs.declared.rows.PointRow.{PointRow}
use Rattle.bilateral.specs.declared.rows.DeviceRow.{DeviceRow}
use Rattle.bilateral.specs.declared.rows.See.{See as SeeRow}
use Rattle.bilateral.specs.declared.rows.Control.{Control as ControlRow}
use Rattle.bilateral.specs.declared.rows.Table.{Table}
use Rattle.bilateral.specs.declared.rows.TheConstants.{DEVICE_LIMIT, SEE_LIMIT}
use Rattle.sbo_device.specs.declared.device.TheConstants.{SPAN_LIMIT}
use Rattle.bilateral.specs.declared.rows.TheConstants.{SLOT_LIMIT, SET_LIMIT, PENDING_LEAST}
use Rattle.bilateral.specs.declared.rows.TheConstants.{VARIANT_LIMIT}
use Rattle.bilateral.specs.declared.rows.TheConstants.{PENDING_LIMIT}
use Rattle.tase_points.specs.Layouts.{IsLayout}
use Rattle.bilateral.specs.Words.Words.{is_name, is_identifier}
use Rattle.bilateral.specs.Rows.{CentreRows, IsCentre, IsTable, IsControlling, IsDevice}
use Rattle.bilateral.specs.Rows.{place_of_see, place_of_control, table_of}
use Rattle.bilateral.specs.Rows.{no_table, AreVariants, IsVariant, further_of, variants_of, variant_of}
use Rattle.bilateral.specs.Rows.{new_variant}
use Rattle.bilateral.specs.Reading.{with_see, with_control, with_slots, with_sets}
use Rattle.bilateral.specs.Reading.{with_pending, with_last, with_last_of, last_table, set_last}
use Rattle.bilateral.specs.Reading.{with_further}
use Rattle.bilateral.specs.Spelling.{last_or}
use Rattle.bilateral.specs.Lines.{IsLawfulLine}
use Rattle.plain_text.proofs.Parts.{position-None}
use Rattle.bilateral.proofs.Positions.{position-by}
use Rattle.bilateral.proofs.Taken.{IsNewPoint, IsNewDevice, IsNewPeer}

-- what is found nowhere differs from every row's
pub fresh : {X V : Type 0} (test : V → V → Bool) → ((v : V) → test v v ≡ true) → (f : X → V)
    (rows : List X) (wanted : V) → position (λ r. test (f r) wanted) rows ≡ None
    → (k : ℕ) (d : X) → k < length rows → f (get_or rows k d) ≢ wanted
fresh test passes f rows wanted none k d below same =
    both_ways (test (f (get_or rows k d)) wanted)
    (position-None (λ r. test (f r) wanted) rows none k d below)
    (ap (λ v. test v wanted) same ∙ passes wanted)

-- so rows differ with one more whose own is found nowhere
pub still_differ : {X V : Type 0} (test : V → V → Bool) → ((v : V) → test v v ≡ true) → (f : X → V)
    (rows : List X) (row : X) → AllPairs (λ a b. f a ≢ f b) rows
    → position (λ r. test (f r) (f row)) rows ≡ None
    → AllPairs (λ a b. f a ≢ f b) (rows ++ row ∷ [])
still_differ test passes f rows row differ none =
    all_pairs_push (λ a b. f a ≢ f b) rows row differ (fresh test passes f rows (f row) none)

pub same_octets : (octets : List ℕ) → bytes_eq octets octets ≡ true
same_octets octets = (bytes_decides octets octets).1 refl

same_title : (title : Option (List ℕ)) → option_eq bytes_eq title title ≡ true
same_title None = refl
same_title (Some octets) = same_octets octets

same_number : (n : ℕ) → eqb n n ≡ true
same_number n = eq-eqb n n refl

-- no further tables
no_variants : (points devices : ℕ) (own : Table) (further : List Table) → further ≡ []
    → AreVariants points devices own further
no_variants points devices own further none =
    subst (AreVariants points devices own) (sym none) (record {
      tables = λ k d below. absurd (omega arith);
      controls = λ k d below. absurd (omega arith);
      alike = λ k d below. absurd (omega arith);
      limit = omega arith;
    })

-- where no peer is there, none has further tables
none_further : (rows : CentreRows) → IsCentre rows → length rows.tables ≡ 0 → (peer : ℕ)
    → further_of rows peer ≡ []
none_further rows lawful none peer =
    get_or_past rows.variants peer [] (omega (arith, lawful.variants, none))

-- a point more
pub IsCentre-with_point : (rows : CentreRows) (point : PointRow) → IsCentre rows
    → IsTrue (is_name point.name) → IsNewPoint rows point
    → IsCentre (record rows { points = rows.points ++ point ∷ [] })
IsCentre-with_point rows point lawful named new = record {
  names =
      still_differ bytes_eq same_octets (λ r. r.name) rows.points point lawful.names new.fresh;
  named = All-push (λ row. IsTrue (is_name row.name)) rows.points point lawful.named named;
  device_names = lawful.device_names;
  devices = lawful.devices;
  apart = λ k d below.
      All-push (λ p. p.name ≢ (get_or rows.devices k d).name) rows.points point
      (lawful.apart k d below)
      (λ same. fresh bytes_eq same_octets (λ r. r.name) rows.devices point.name new.apart k d below
      (sym same));
  keys = lawful.keys;
  titles = lawful.titles;
  tables = λ k d below. absurd (omega (arith, new.no_tables));
  controls = lawful.controls;
  variants = lawful.variants;
  further = λ peer. no_variants (length (rows.points ++ point ∷ [])) (length rows.devices)
      (table_of rows peer) (further_of rows peer) (none_further rows lawful new.no_tables peer);
  point_limit = omega (arith, length_push rows.points point, new.room);
  device_limit = lawful.device_limit;
  peer_limit = lawful.peer_limit;
}

right_span : (direct : Bool) (span : ℕ) → (IsTrue direct → span ≡ 0)
    → (not direct && not (leb 1 span && leb span SPAN_LIMIT)) ≡ false
    → (direct ≡ false → 1 ≤ span) × (span ≤ SPAN_LIMIT)
right_span true span none right =
    let zero_span : span ≡ 0 = none refl in
    (λ e. absurd (false≢true (sym e)), omega arith)
right_span false span none right =
    let both = and_parts (leb 1 span) (leb span SPAN_LIMIT) (not-false _ right) in
    (λ e. leb-true 1 span both.0, leb-true span SPAN_LIMIT both.1)

IsDevice-new : (device : DeviceRow) → IsLawfulLine (Device device) → (rows : CentreRows)
    → IsNewDevice rows device → IsDevice device
IsDevice-new device lawful rows new =
    let spans = right_span device.direct device.span lawful.1.no_span new.span in
    record { named = lawful.0; form = lawful.1; some_span = spans.0; span = spans.1 }

-- a device more
pub IsCentre-with_device : (rows : CentreRows) (device : DeviceRow) → IsCentre rows
    → IsLawfulLine (Device device) → IsNewDevice rows device
    → IsCentre (record rows { devices = rows.devices ++ device ∷ [] })
IsCentre-with_device rows device lawful words new = record {
  names = lawful.names;
  named = lawful.named;
  device_names =
      still_differ bytes_eq same_octets (λ r. r.name) rows.devices device lawful.device_names
      new.fresh;
  devices =
      All-push IsDevice rows.devices device lawful.devices (IsDevice-new device words rows new);
  apart =
      All-push (λ d. All (λ p. p.name ≢ d.name) rows.points) rows.devices device lawful.apart
      (fresh bytes_eq same_octets (λ r. r.name) rows.points device.name new.apart);
  keys = lawful.keys;
  titles = lawful.titles;
  tables = lawful.tables;
  controls = λ k d below. absurd (omega (arith, new.no_tables));
  variants = lawful.variants;
  further = λ peer. no_variants (length rows.points) (length (rows.devices ++ device ∷ []))
      (table_of rows peer) (further_of rows peer) (none_further rows lawful new.no_tables peer);
  point_limit = lawful.point_limit;
  device_limit = omega (arith, length_push rows.devices device, new.room);
  peer_limit = lawful.peer_limit;
}

-- a new table has no rows, and limits within bounds
IsTable-new : (points : ℕ) (table : Table) → IsLawfulLine (Peer table) → IsTable points table
IsTable-new points table lawful =
    let none : length table.sees ≡ 0 = ap length lawful.3.0 in
    record {
      known = λ k d below. absurd (omega arith);
      once = λ i j d before below. absurd (omega arith);
      limit = omega arith;
      layouts = λ k d below. absurd (omega arith);
      key = lawful.0;
      title = lawful.4;
      domain = lawful.1;
      id = lawful.2;
      slots_least = omega (arith, lawful.3.2);
      slots = omega (arith, lawful.3.2);
      sets_least = omega (arith, lawful.3.3);
      sets = omega (arith, lawful.3.3);
      pending_least = omega (arith, lawful.3.4);
      pending = omega (arith, lawful.3.4);
    }

IsControlling-new : (devices : ℕ) (table : Table) → table.controls ≡ []
    → IsControlling devices table
IsControlling-new devices table no_controls =
    let none : length table.controls ≡ 0 = ap length no_controls in
    record {
      known = λ k d below. absurd (omega arith);
      once = λ i j d before below. absurd (omega arith);
      limit = omega arith;
    }

only_none : (n : ℕ) → get_or {A = List Table} ([] ∷ []) n [] ≡ []
only_none zero = refl
only_none (suc n) = refl

-- the rows with a peer more
abbrev pub with_peer : CentreRows → Table → CentreRows
with_peer rows table = record rows {
  tables = rows.tables ++ table ∷ [];
  variants = rows.variants ++ [] ∷ [];
}

-- the further tables of peers, where a peer more has none
further-with_peer : (rows : CentreRows) (table : Table) → IsCentre rows → (peer : ℕ)
    → AreVariants (length rows.points) (length rows.devices)
    (table_of (with_peer rows table) peer) (further_of (with_peer rows table) peer)
further-with_peer rows table lawful peer =
    elim (cases_lt peer (length rows.tables)) [
      | inl here ↦ subst
          (λ own. AreVariants (length rows.points) (length rows.devices) own
          (further_of (with_peer rows table) peer))
          (sym (get_or_append_left rows.tables (table ∷ []) no_table peer here))
          (subst
          (λ further. AreVariants (length rows.points) (length rows.devices) (table_of rows peer)
          further)
          (sym (get_or_append_left rows.variants ([] ∷ []) [] peer
          (omega (arith, here, lawful.variants))))
          (lawful.further peer))
      | inr behind ↦ no_variants (length rows.points) (length rows.devices)
          (table_of (with_peer rows table) peer) (further_of (with_peer rows table) peer)
          (get_or-append_right rows.variants ([] ∷ []) (length rows.variants) peer [] refl
          (omega (arith, behind, lawful.variants))
          ∙ only_none (peer - length rows.variants))
    ]

-- a peer more
pub IsCentre-with_peer : (rows : CentreRows) (table : Table) → IsCentre rows
    → IsLawfulLine (Peer table) → IsNewPeer rows table → IsCentre (with_peer rows table)
IsCentre-with_peer rows table lawful words new = record {
  names = lawful.names;
  named = lawful.named;
  device_names = lawful.device_names;
  devices = lawful.devices;
  apart = lawful.apart;
  keys = still_differ bytes_eq same_octets (λ t. t.key) rows.tables table lawful.keys new.fresh;
  titles =
      still_differ (option_eq bytes_eq) same_title (λ t. t.title) rows.tables table lawful.titles
      new.title;
  tables =
      All-push (IsTable (length rows.points)) rows.tables table lawful.tables
      (IsTable-new (length rows.points) table words);
  controls =
      All-push (IsControlling (length rows.devices)) rows.tables table lawful.controls
      (IsControlling-new (length rows.devices) table words.3.1);
  variants =
      omega (arith, length_push rows.tables table, length_push rows.variants [], lawful.variants);
  further = further-with_peer rows table lawful;
  point_limit = lawful.point_limit;
  device_limit = lawful.device_limit;
  peer_limit = omega (arith, length_push rows.tables table, new.room);
}

-- what a table's change leaves as it was is so in every table
pub kept : {V : Type 0} (f : Table → V) (tables : List Table) (i : ℕ) (table : Table)
    → i < length tables → f table ≡ f (get_or tables i no_table) → (j : ℕ) (d : Table)
    → f (get_or (set tables i table) j d) ≡ f (get_or tables j d)
kept f tables i table within same j d =
    elim (cases_eq j i) [
      | inl here ↦ subst (λ k. f (get_or (set tables i table) k d) ≡ f (get_or tables k d))
          (sym here)
          (ap f (get_or-set_same tables i table d within) ∙ same
          ∙ ap f (get_or_default tables i no_table d within))
      | inr other ↦ ap f (get_or-set_other tables i j table d other)
    ]

pub AllPairs-kept : {V : Type 0} (f : Table → V) (tables : List Table) (i : ℕ) (table : Table)
    → i < length tables → f table ≡ f (get_or tables i no_table)
    → AllPairs (λ a b. f a ≢ f b) tables → AllPairs (λ a b. f a ≢ f b) (set tables i table)
AllPairs-kept f tables i table within same pairs = λ j k d before below equal.
    let length_same : length (set tables i table) ≡ length tables = length-set tables i table in
    pairs j k d before (omega arith)
    (sym (kept f tables i table within same j d) ∙ equal ∙ kept f tables i table within same k d)

-- the last table of a peer is as all of its tables are
last_all : (P : Table → Type 0) (own : Table) (further : List Table) → P own → All P further
    → P (last_or own further)
last_all P own [] first rest = first
last_all P own (x ∷ more) first rest =
    last_all P x more (All-head P x more rest) (All-tail P x more rest)

pub IsTable-last : (rows : CentreRows) → IsCentre rows → (peer : ℕ) → peer < length rows.tables
    → IsTable (length rows.points) (last_table rows peer)
IsTable-last rows lawful peer below =
    last_all (IsTable (length rows.points)) (table_of rows peer) (further_of rows peer)
    (All-get_or (IsTable (length rows.points)) rows.tables peer no_table below lawful.tables)
    (lawful.further peer).tables

pub IsControlling-last : (rows : CentreRows) → IsCentre rows → (peer : ℕ)
    → peer < length rows.tables → IsControlling (length rows.devices) (last_table rows peer)
IsControlling-last rows lawful peer below =
    last_all (IsControlling (length rows.devices)) (table_of rows peer) (further_of rows peer)
    (All-get_or (IsControlling (length rows.devices)) rows.tables peer no_table below
    lawful.controls)
    (lawful.further peer).controls

-- another table with the same rows for devices
pub IsControlling-same : (devices : ℕ) (table other : Table) → other.controls ≡ table.controls
    → IsControlling devices table → IsControlling devices other
IsControlling-same devices table other same lawful = record {
  known = subst (λ controls. All (λ c. c.device < devices) controls) (sym same) lawful.known;
  once = subst (λ controls. AllPairs (λ a b. a.device ≢ b.device) controls) (sym same) lawful.once;
  limit = subst (λ controls. length controls ≤ DEVICE_LIMIT) (sym same) lawful.limit;
}

-- other further tables of a peer
IsCentre-with_variants : (rows : CentreRows) (peer : ℕ) (further : List Table) → IsCentre rows
    → peer < length rows.tables
    → AreVariants (length rows.points) (length rows.devices) (table_of rows peer) further
    → IsCentre (record rows { variants = set rows.variants peer further })
IsCentre-with_variants rows peer further lawful below are = record {
  names = lawful.names;
  named = lawful.named;
  device_names = lawful.device_names;
  devices = lawful.devices;
  apart = lawful.apart;
  keys = lawful.keys;
  titles = lawful.titles;
  tables = lawful.tables;
  controls = lawful.controls;
  variants = omega (arith, length-set rows.variants peer further, lawful.variants);
  further = λ p. elim (cases_eq p peer) [
    | inl here ↦ subst
        (λ k. AreVariants (length rows.points) (length rows.devices) (table_of rows k)
        (get_or (set rows.variants peer further) k [])) (sym here)
        (subst
        (AreVariants (length rows.points) (length rows.devices) (table_of rows peer))
        (sym (get_or-set_same rows.variants peer further [] (omega (arith, below, lawful.variants))))
        are)
    | inr other ↦ subst
        (AreVariants (length rows.points) (length rows.devices) (table_of rows p))
        (sym (get_or-set_other rows.variants peer p further [] other)) (lawful.further p)
  ];
  point_limit = lawful.point_limit;
  device_limit = lawful.device_limit;
  peer_limit = lawful.peer_limit;
}

-- another own table of a peer that has no further ones, with the same key and title
IsCentre-with_own : (rows : CentreRows) (peer : ℕ) (table : Table) → IsCentre rows
    → peer < length rows.tables → further_of rows peer ≡ [] → table.key ≡ (table_of rows peer).key
    → table.title ≡ (table_of rows peer).title → IsTable (length rows.points) table
    → IsControlling (length rows.devices) table
    → IsCentre (record rows { tables = set rows.tables peer table })
IsCentre-with_own rows peer table lawful below none same_key same_title is_table is_controlling =
    record {
      names = lawful.names;
      named = lawful.named;
      device_names = lawful.device_names;
      devices = lawful.devices;
      apart = lawful.apart;
      keys = AllPairs-kept (λ t. t.key) rows.tables peer table below same_key lawful.keys;
      titles = AllPairs-kept (λ t. t.title) rows.tables peer table below same_title lawful.titles;
      tables =
          All-set (IsTable (length rows.points)) rows.tables peer table is_table lawful.tables;
      controls =
          All-set (IsControlling (length rows.devices)) rows.tables peer table is_controlling
          lawful.controls;
      variants = omega (arith, length-set rows.tables peer table, lawful.variants);
      further = λ p. elim (cases_eq p peer) [
        | inl here ↦ no_variants (length rows.points) (length rows.devices)
            (get_or (set rows.tables peer table) p no_table) (further_of rows p)
            (ap (further_of rows) here ∙ none)
        | inr other ↦ subst
            (λ own. AreVariants (length rows.points) (length rows.devices) own (further_of rows p))
            (sym (get_or-set_other rows.tables peer p table no_table other)) (lawful.further p)
      ];
      point_limit = lawful.point_limit;
      device_limit = lawful.device_limit;
      peer_limit = omega (arith, length-set rows.tables peer table, lawful.peer_limit);
    }

-- another last table of a peer, with the same key and title, and with the same pending octets
-- where it is a further one
module _ (rows : CentreRows) (peer : ℕ) (table : Table) (lawful : IsCentre rows)
    (below : peer < length rows.tables) (is_table : IsTable (length rows.points) table)
    (is_controlling : IsControlling (length rows.devices) table) where
  with_last_by : (further : List Table) → further_of rows peer ≡ further
      → table.key ≡ (last_or (table_of rows peer) further).key
      → table.title ≡ (last_or (table_of rows peer) further).title
      → (0 < length further → table.pending ≡ (last_or (table_of rows peer) further).pending)
      → IsCentre (with_last_of rows peer further table)
  with_last_by [] none same_key same_title same_pending =
      IsCentre-with_own rows peer table lawful below none same_key same_title is_table is_controlling
  with_last_by (x ∷ more) some same_key same_title same_pending =
      let own = table_of rows peer in
      let are =
      subst (AreVariants (length rows.points) (length rows.devices) own) some (lawful.further peer)
      in
      let last : IsVariant own (last_or x more) =
      last_all (IsVariant own) x more (All-head (IsVariant own) x more are.alike)
      (All-tail (IsVariant own) x more are.alike) in
      let n = length (x ∷ more) - 1 in
      IsCentre-with_variants rows peer (set_last (x ∷ more) table) lawful below (record {
        tables = All-set (IsTable (length rows.points)) (x ∷ more) n table is_table are.tables;
        controls =
            All-set (IsControlling (length rows.devices)) (x ∷ more) n table is_controlling
            are.controls;
        alike = All-set (IsVariant own) (x ∷ more) n table (record {
          key = same_key ∙ last.key;
          title = same_title ∙ last.title;
          pending = same_pending (omega arith) ∙ last.pending;
        }) are.alike;
        limit = omega (arith, length-set (x ∷ more) n table, are.limit);
      })

  pub IsCentre-with_last : table.key ≡ (last_table rows peer).key
      → table.title ≡ (last_table rows peer).title
      → (0 < length (further_of rows peer) → table.pending ≡ (last_table rows peer).pending)
      → IsCentre (with_last rows peer table)
  IsCentre-with_last same_key same_title same_pending =
      with_last_by (further_of rows peer) refl same_key same_title same_pending

-- a further table of a peer
pub IsCentre-with_further : (rows : CentreRows) (peer : ℕ) (table : Table) → IsCentre rows
    → peer < length rows.tables → length (further_of rows peer) < VARIANT_LIMIT
    → IsTable (length rows.points) table → IsControlling (length rows.devices) table
    → IsVariant (table_of rows peer) table → IsCentre (with_further rows peer table)
IsCentre-with_further rows peer table lawful below room is_table is_controlling alike =
    let further = further_of rows peer in
    let are = lawful.further peer in
    IsCentre-with_variants rows peer (further ++ table ∷ []) lawful below (record {
      tables = All-push (IsTable (length rows.points)) further table are.tables is_table;
      controls =
          All-push (IsControlling (length rows.devices)) further table are.controls is_controlling;
      alike = All-push (IsVariant (table_of rows peer)) further table are.alike alike;
      limit = omega (arith, length_push further table, room);
    })

-- a further table without rows
pub IsTable-variant : (points : ℕ) (own : Table) (domain id : List ℕ) → IsTable points own
    → IsTrue (is_identifier domain) → IsTrue (is_identifier id)
    → IsTable points (new_variant own domain id)
IsTable-variant points own domain id lawful is_domain is_id = record {
  known = λ k d below. absurd (omega arith);
  once = λ i j d before below. absurd (omega arith);
  limit = omega arith;
  layouts = λ k d below. absurd (omega arith);
  key = lawful.key;
  title = lawful.title;
  domain = is_domain;
  id = is_id;
  slots_least = omega arith;
  slots = omega arith;
  sets_least = omega arith;
  sets = omega arith;
  pending_least = lawful.pending_least;
  pending = lawful.pending;
}

pub IsControlling-variant : (devices : ℕ) (own : Table) (domain id : List ℕ)
    → IsControlling devices (new_variant own domain id)
IsControlling-variant devices own domain id =
    IsControlling-new devices (new_variant own domain id) refl

-- a table with a row more, for a point that is there and has no row yet
pub IsTable-with_see : (points : ℕ) (table : Table) (see : SeeRow) → IsTable points table
    → see.point < points → place_of_see table see.point ≡ None → length table.sees < SEE_LIMIT
    → IsLayout see.layout → IsTable points (with_see table see)
IsTable-with_see points table see lawful known fresh room layout = record {
  known = All-push (λ s. s.point < points) table.sees see lawful.known known;
  once =
      still_differ (λ a b. eqb a b) same_number (λ s. s.point) table.sees see lawful.once fresh;
  limit = omega (arith, length_push table.sees see, room);
  layouts = All-push (λ s. IsLayout s.layout) table.sees see lawful.layouts layout;
  key = lawful.key;
  title = lawful.title;
  domain = lawful.domain;
  id = lawful.id;
  slots_least = lawful.slots_least;
  slots = lawful.slots;
  sets_least = lawful.sets_least;
  sets = lawful.sets;
  pending_least = lawful.pending_least;
  pending = lawful.pending;
}

-- a table with a row more, for a device that is there and has no row yet
pub IsControlling-with_control : (devices : ℕ) (table : Table) (row : ControlRow)
    → IsControlling devices table → row.device < devices
    → place_of_control table row.device ≡ None → length table.controls < DEVICE_LIMIT
    → IsControlling devices (with_control table row)
IsControlling-with_control devices table row lawful known fresh room = record {
  known = All-push (λ s. s.device < devices) table.controls row lawful.known known;
  once =
      still_differ (λ a b. eqb a b) same_number (λ s. s.device) table.controls row lawful.once
      fresh;
  limit = omega (arith, length_push table.controls row, room);
}

-- a table with other rows for devices, and with other limits, each in its range
table_with : (points : ℕ) (table : Table) (controls : List ControlRow) (slots sets pending : ℕ)
    → IsTable points table → 1 ≤ slots → slots ≤ SLOT_LIMIT → 1 ≤ sets → sets ≤ SET_LIMIT
    → PENDING_LEAST ≤ pending → pending ≤ PENDING_LIMIT
    → IsTable points (record table {
      controls = controls;
      slots = slots;
      sets = sets;
      pending = pending;
    })
table_with points table controls slots sets pending lawful slots_least slots_most sets_least sets_most
    pending_least pending_most = record {
      known = lawful.known;
      once = lawful.once;
      limit = lawful.limit;
      layouts = lawful.layouts;
      key = lawful.key;
      title = lawful.title;
      domain = lawful.domain;
      id = lawful.id;
      slots_least = slots_least;
      slots = slots_most;
      sets_least = sets_least;
      sets = sets_most;
      pending_least = pending_least;
      pending = pending_most;
    }

-- a row for a device leaves the rest of a table as it was
pub IsTable-with_control : (points : ℕ) (table : Table) (row : ControlRow) → IsTable points table
    → IsTable points (with_control table row)
IsTable-with_control points table row lawful =
    table_with points table (table.controls ++ row ∷ []) table.slots table.sets table.pending lawful
    lawful.slots_least lawful.slots lawful.sets_least lawful.sets lawful.pending_least
    lawful.pending

-- a table with another limit
pub IsTable-with_slots : (points : ℕ) (table : Table) (number : ℕ) → IsTable points table
    → 1 ≤ number → number ≤ SLOT_LIMIT → IsTable points (with_slots table number)
IsTable-with_slots points table number lawful least most =
    table_with points table table.controls number table.sets table.pending lawful least most
    lawful.sets_least lawful.sets lawful.pending_least lawful.pending

pub IsTable-with_sets : (points : ℕ) (table : Table) (number : ℕ) → IsTable points table
    → 1 ≤ number → number ≤ SET_LIMIT → IsTable points (with_sets table number)
IsTable-with_sets points table number lawful least most =
    table_with points table table.controls table.slots number table.pending lawful
    lawful.slots_least lawful.slots least most lawful.pending_least lawful.pending

pub IsTable-with_pending : (points : ℕ) (table : Table) (number : ℕ) → IsTable points table
    → PENDING_LEAST ≤ number → number ≤ PENDING_LIMIT
    → IsTable points (with_pending table number)
IsTable-with_pending points table number lawful least most =
    table_with points table table.controls table.slots table.sets number lawful
    lawful.slots_least lawful.slots lawful.sets_least lawful.sets least most

-- the last of a list and of its places
pub last-at : (own : Table) (further : List Table)
    → last_or own further ≡ get_or (own ∷ further) (length further) no_table
last-at own [] = refl
last-at own (x ∷ more) = last-at x more

-- the tables of peers, with another last one of a peer
module _ (rows : CentreRows) (peer : ℕ) (table : Table) (below : peer < length rows.tables)
    (alike : length rows.variants ≡ length rows.tables) where
  here_by : (further : List Table) → further_of rows peer ≡ further
      → variants_of (with_last_of rows peer further table) peer
      ≡ set (table_of rows peer ∷ further) (length further) table
  here_by [] none =
      ap (λ own. own ∷ further_of rows peer) (get_or-set_same rows.tables peer table no_table below)
      ∙ ap (λ further. table ∷ further) none
  here_by (x ∷ more) some =
      ap (λ further. table_of rows peer ∷ further)
      (get_or-set_same rows.variants peer (set_last (x ∷ more) table) []
      (omega (arith, below, alike))
      ∙ ap (λ n. set (x ∷ more) n table) (omega arith))

  variants-here : variants_of (with_last rows peer table) peer
      ≡ set (variants_of rows peer) (length (further_of rows peer)) table
  variants-here = here_by (further_of rows peer) refl

  other_by : (further : List Table) → (p : ℕ) → p ≢ peer
      → variants_of (with_last_of rows peer further table) p ≡ variants_of rows p
  other_by [] p other =
      ap (λ own. own ∷ further_of rows p) (get_or-set_other rows.tables peer p table no_table other)
  other_by (x ∷ more) p other =
      ap (λ further. table_of rows p ∷ further)
      (get_or-set_other rows.variants peer p (set_last (x ∷ more) table) [] other)

  here : variant_of (with_last rows peer table) peer (length (further_of rows peer)) ≡ table
  here =
      ap (λ tables. get_or tables (length (further_of rows peer)) no_table) variants-here
      ∙ get_or-set_same (variants_of rows peer) (length (further_of rows peer)) table no_table
      (omega arith)

  other_table : (v : ℕ) → v ≢ length (further_of rows peer)
      → variant_of (with_last rows peer table) peer v ≡ variant_of rows peer v
  other_table v other =
      ap (λ tables. get_or tables v no_table) variants-here
      ∙ get_or-set_other (variants_of rows peer) (length (further_of rows peer)) v table no_table
      other

  other_peer : (p v : ℕ) → p ≢ peer
      → variant_of (with_last rows peer table) p v ≡ variant_of rows p v
  other_peer p v other =
      ap (λ tables. get_or tables v no_table) (other_by (further_of rows peer) p other)

  was_last : last_table rows peer ≡ variant_of rows peer (length (further_of rows peer))
  was_last = last-at (table_of rows peer) (further_of rows peer)

  -- what this leaves as it was is so in every table
  pub kept_of : {V : Type 0} (f : Table → V) → f table ≡ f (last_table rows peer) → (p v : ℕ)
      → f (variant_of (with_last rows peer table) p v) ≡ f (variant_of rows p v)
  kept_of f same p v =
      elim (cases_eq p peer) [
        | inl is_peer ↦ subst
            (λ k. f (variant_of (with_last rows peer table) k v) ≡ f (variant_of rows k v))
            (sym is_peer)
            (elim (cases_eq v (length (further_of rows peer))) [
              | inl is_last ↦ subst
                  (λ k. f (variant_of (with_last rows peer table) peer k)
                  ≡ f (variant_of rows peer k)) (sym is_last)
                  (ap f here ∙ same ∙ ap f was_last)
              | inr other ↦ ap f (other_table v other)
            ])
        | inr other ↦ ap f (other_peer p v other)
      ]

  -- the place of a new row of this table is found, and all others where they were
  pub place-with_row : {X : Type 0} (list : Table → List X) (number : X → ℕ) (row : X)
      → list table ≡ list (last_table rows peer) ++ row ∷ []
      → position (λ r. number r == number row) (list (last_table rows peer)) ≡ None → (p v q : ℕ)
      → cond ((peer == p) && (length (further_of rows peer) == v) && (number row == q))
      (Some (length (list (last_table rows peer))))
      (position (λ r. number r == q) (list (variant_of rows p v)))
      ≡ position (λ r. number r == q) (list (variant_of (with_last rows peer table) p v))
  place-with_row {X = X} list number row grown fresh p v q =
      let n = length (further_of rows peer) in
      let last = last_table rows peer in
      elim (cases_eq p peer) [
        | inl is_peer ↦ subst
            (λ k. cond (eqb peer k && eqb n v && eqb (number row) q) (Some (length (list last)))
            (position (λ r. number r == q) (list (variant_of rows k v)))
            ≡ position (λ r. number r == q) (list (variant_of (with_last rows peer table) k v)))
            (sym is_peer)
            (elim (cases_eq v n) [
              | inl is_last ↦ subst
                  (λ k. cond (eqb peer peer && eqb n k && eqb (number row) q)
                  (Some (length (list last)))
                  (position (λ r. number r == q) (list (variant_of rows peer k)))
                  ≡ position (λ r. number r == q)
                  (list (variant_of (with_last rows peer table) peer k))) (sym is_last)
                  (ap (λ b. cond (b && eqb n n && eqb (number row) q) (Some (length (list last)))
                  (position (λ r. number r == q) (list (variant_of rows peer n))))
                  (eq-eqb peer peer refl)
                  ∙ ap (λ b. cond (b && eqb (number row) q) (Some (length (list last)))
                  (position (λ r. number r == q) (list (variant_of rows peer n))))
                  (eq-eqb n n refl)
                  ∙ ap (λ t. cond (eqb (number row) q) (Some (length (list last)))
                  (position (λ r. number r == q) (list t))) (sym was_last)
                  ∙ position-by (λ a b. eqb a b) (λ a b same. eqb-true a b same) number
                  (list last) row fresh q
                  ∙ ap (position (λ r. number r == q)) (sym grown)
                  ∙ ap (λ t. position (λ r. number r == q) (list t)) (sym here))
              | inr other ↦ cond-false _ _ _
                  (and_left (eqb peer peer && eqb n v) (eqb (number row) q)
                  (and_right (eqb peer peer) (eqb n v) (ne_eqb n v (λ e. other (sym e)))))
                  ∙ ap (λ t. position (λ r. number r == q) (list t)) (sym (other_table v other))
            ])
        | inr other ↦ cond-false _ _ _
            (and_left (eqb peer p && eqb n v) (eqb (number row) q)
            (and_left (eqb peer p) (eqb n v) (ne_eqb peer p (λ e. other (sym e)))))
            ∙ ap (λ t. position (λ r. number r == q) (list t)) (sym (other_peer p v other))
      ]

-- the rows of tables, where one without rows is added
pushed : {V : Type 0} (f : Table → List V) (tables : List Table) (table : Table) → f table ≡ []
    → f no_table ≡ [] → (n : ℕ)
    → f (get_or (tables ++ table ∷ []) n no_table) ≡ f (get_or tables n no_table)
pushed f [] table none default zero = none ∙ sym default
pushed f [] table none default (suc n) = refl
pushed f (t ∷ tables) table none default zero = refl
pushed f (t ∷ tables) table none default (suc n) = pushed f tables table none default n

-- where a peer is added whose table has none
peer_pushed : {V : Type 0} (f : Table → List V) (tables : List Table) (variants : List (List Table))
    (table : Table) → length variants ≡ length tables → f table ≡ [] → f no_table ≡ []
    → (p v : ℕ)
    → f (get_or (get_or (tables ++ table ∷ []) p no_table ∷ get_or (variants ++ [] ∷ []) p []) v
    no_table)
    ≡ f (get_or (get_or tables p no_table ∷ get_or variants p []) v no_table)
peer_pushed f [] [] table alike none default zero zero = none ∙ sym default
peer_pushed f [] [] table alike none default zero (suc v) = refl
peer_pushed f [] [] table alike none default (suc p) v = refl
peer_pushed f [] (x ∷ variants) table alike none default p v = absurd (omega (arith, alike))
peer_pushed f (t ∷ tables) [] table alike none default p v = absurd (omega (arith, alike))
peer_pushed f (t ∷ tables) (x ∷ variants) table alike none default zero v = refl
peer_pushed f (t ∷ tables) (x ∷ variants) table alike none default (suc p) v =
    peer_pushed f tables variants table (omega (arith, alike)) none default p v

pub kept_with_peer : {V : Type 0} (f : Table → List V) (rows : CentreRows) (table : Table)
    → length rows.variants ≡ length rows.tables → f table ≡ [] → f no_table ≡ [] → (p v : ℕ)
    → f (variant_of (with_peer rows table) p v) ≡ f (variant_of rows p v)
kept_with_peer f rows table alike none default p v =
    peer_pushed f rows.tables rows.variants table alike none default p v

-- where a further table without rows is added
pub kept_with_further : {V : Type 0} (f : Table → List V) (rows : CentreRows) (peer : ℕ)
    (table : Table) → peer < length rows.tables → length rows.variants ≡ length rows.tables
    → f table ≡ [] → f no_table ≡ [] → (p v : ℕ)
    → f (variant_of (with_further rows peer table) p v) ≡ f (variant_of rows p v)
kept_with_further f rows peer table below alike none default p v =
    elim (cases_eq p peer) [
      | inl is_peer ↦ subst
          (λ k. f (variant_of (with_further rows peer table) k v) ≡ f (variant_of rows k v))
          (sym is_peer)
          (ap (λ further. f (get_or (table_of rows peer ∷ further) v no_table))
          (get_or-set_same rows.variants peer (further_of rows peer ++ table ∷ []) []
          (omega (arith, below, alike)))
          ∙ pushed f (variants_of rows peer) table none default v)
      | inr other ↦ ap (λ further. f (get_or (table_of rows p ∷ further) v no_table))
          (get_or-set_other rows.variants peer p (further_of rows peer ++ table ∷ []) [] other)
    ]
