-- What the reader has after a line is what the lines say with this one at the end.
use Rattle.std.proofs.Common.{◌≡◌, ◌≢◌, ◌⊎◌, inl, inr, ℕ, zero, suc, ◌-◌, ◌<◌, Bool, true, false}
use Rattle.std.proofs.Common.{◌||◌, cond, List, [], ◌∷◌, ◌++◌, length, map, set, get_or, AllPairs}
use Rattle.std.proofs.Common.{Option, Some, None, unwrap_or, position, refl, sym, ap, subst, ◌∙◌}
use Rattle.std.proofs.Common.{arith, append_assoc, bytes_eq}
use Rattle.std.specs.Prelude.{filter_map, option_and_then}
use Rattle.std.specs.Option.{option_map}
use Rattle.std.specs.List.{list_any}
use Rattle.std.specs.Cmp.Lexicographic.{bytes_decides}
use Rattle.std.proofs.Math.Seq.{set-set}
use Rattle.std.proofs.lemmas.Bool.{cases_Bool}
use Rattle.std.proofs.lemmas.Bool.{cases_lt}
use Rattle.std.proofs.lemmas.List.{append-nil, map-append, length-map, length_push, get_or-map}
use Rattle.std.proofs.lemmas.List.{get_or-set_same}
use Rattle.std.proofs.lemmas.List.Folds.{list_any-append}
use Rattle.std.proofs.lemmas.List.Quantifiers.{position-Some}
use Rattle.tase_points.specs.declared.layout.Component.{Component}
use Rattle.bilateral.specs.declared.limit_rows.LimitRows.{LimitRows}
use Rattle.bilateral.specs.declared.line.TableLine.{TableLine}
use Rattle.bilateral.specs.declared.line.TableLine.TheVariants.{Point, Device, Peer, Slots, Sets}
use Rattle.bilateral.specs.declared.line.TableLine.TheVariants.{Pending, See, Control, Variant}
use Rattle.bilateral.specs.declared.rows.PointRow.{PointRow}
use Rattle.bilateral.specs.declared.rows.DeviceRow.{DeviceRow}
use Rattle.bilateral.specs.declared.rows.See.{See as SeeRow}
use Rattle.bilateral.specs.declared.rows.Control.{Control as ControlRow}
use Rattle.bilateral.specs.declared.rows.Table.{Table}
use Rattle.bilateral.specs.Rows.{no_table, place_of_point, place_of_device}
use Rattle.bilateral.specs.Rows.{further_of, new_variant, place_of_peer}
use Rattle.bilateral.specs.Reading.{SoFar, row_fault, with_row, with_last, changed}
use Rattle.bilateral.specs.Reading.{with_slots, with_sets, with_pending, last_table}
use Rattle.bilateral.specs.Spelling.{point_of_line, device_of_line, see_in, control_in, slots_in}
use Rattle.bilateral.specs.Spelling.{sets_in, pending_in, sections, TableSection, last_or, filled}
use Rattle.bilateral.specs.Spelling.{table_in, is_slots, is_sets, is_pending, given_among}
use Rattle.bilateral.specs.Spelling.{all_told_by, told, begins_table, own_table, further_table}
use Rattle.bilateral.specs.Spelling.{PeerTables, peer_begun, peers_told, last_begun}
use Rattle.bilateral.specs.Spelling.{last_own, so_far_told}
use Rattle.bilateral.proofs.Taken.{IsNewPoint-from_no_fault, IsNewDevice-from_no_fault}
use Rattle.bilateral.proofs.Taken.{IsNewSee-from_no_fault, IsNewControl-from_no_fault, limit_taken}
use Rattle.bilateral.proofs.Taken.{pending_taken, IsNewVariant-from_no_fault}
use Rattle.bilateral.proofs.Sections.{on_last, with_own, sections-push_line, sections-push_begun}
use Rattle.bilateral.proofs.Sections.{last_or-push, last_begins, last_view, on_last-push}
use Rattle.bilateral.proofs.Sections.{with_some, filter_map-push}
use Rattle.bilateral.proofs.Lasts.{rows_by, last_own_is, with_last_own, last_further_is}
use Rattle.bilateral.proofs.Lasts.{with_last_further}

abbrev pub given_by : Bool → Bool → Bool → LimitRows
given_by slots sets pending = record { slots = slots; sets = sets; pending = pending }

any-push : {X : Type 0} (p : X → Bool) (xs : List X) (x : X)
    → list_any p (xs ++ x ∷ []) ≡ (p x || list_any p xs)
any-push p xs x = list_any-append p xs (x ∷ []) ∙ turned (list_any p xs) (p x)
  where
    turned : (a b : Bool) → (a || (b || false)) ≡ (b || a)
    turned true true = refl
    turned true false = refl
    turned false true = refl
    turned false false = refl

-- the limits that were given, with a line more
abbrev with_given : TableLine → LimitRows → LimitRows
with_given line given =
    given_by (is_slots line || given.slots) (is_sets line || given.sets)
    (is_pending line || given.pending)

given-push : (own : List TableLine) (line : TableLine)
    → given_among (own ++ line ∷ []) ≡ with_given line (given_among own)
given-push own line =
    let slots = any-push is_slots own line in
    let sets = any-push is_sets own line in
    let pending = any-push is_pending own line in
    cc

-- a section's table, with what a line more gives it
abbrev gained : List PointRow → List DeviceRow → TableLine → Table → Table
gained points devices line table =
    filled table (with_some table.sees (see_in points line))
    (with_some table.controls (control_in devices line)) (unwrap_or (slots_in line) table.slots)
    (unwrap_or (sets_in line) table.sets) (unwrap_or (pending_in line) table.pending)

rows-push : {X : Type 0} (read : TableLine → Option X) (before : List X) (own : List TableLine)
    (line : TableLine)
    → before ++ filter_map read (own ++ line ∷ [])
    ≡ with_some (before ++ filter_map read own) (read line)
rows-push {X = X} read before own line =
    ap (λ rows. before ++ rows) (filter_map-push read own line)
    ∙ joined (filter_map read own) (read line)
  where
    joined : (xs : List X) (o : Option X) → before ++ with_some xs o ≡ with_some (before ++ xs) o
    joined xs None = refl
    joined xs (Some x) = sym (append_assoc before xs (x ∷ []))

number-push : (read : TableLine → Option ℕ) (d : ℕ) (own : List TableLine) (line : TableLine)
    → last_or d (filter_map read (own ++ line ∷ []))
    ≡ unwrap_or (read line) (last_or d (filter_map read own))
number-push read d own line =
    ap (last_or d) (filter_map-push read own line) ∙ last (filter_map read own) (read line)
  where
    last : (xs : List ℕ) (o : Option ℕ) → last_or d (with_some xs o) ≡ unwrap_or o (last_or d xs)
    last xs None = refl
    last xs (Some x) = last_or-push xs x d

table-push : (points : List PointRow) (devices : List DeviceRow) (line : TableLine) (table : Table)
    (own : List TableLine)
    → table_in points devices table (own ++ line ∷ [])
    ≡ gained points devices line (table_in points devices table own)
table-push points devices line table own =
    let sees = rows-push (see_in points) table.sees own line in
    let controls = rows-push (control_in devices) table.controls own line in
    let slots = number-push slots_in table.slots own line in
    let sets = number-push sets_in table.sets own line in
    let pending = number-push pending_in table.pending own line in
    cc

abbrev pub so_far_by : List PointRow → List DeviceRow → List Table → List (List Table) → ℕ
    → LimitRows → SoFar
so_far_by points devices tables variants peer given =
    record { rows = rows_by points devices tables variants; peer = peer; given = given }

abbrev pub own_ones : List PeerTables → List Table
own_ones peers = map (λ peer. peer.0) peers

abbrev pub further_ones : List PeerTables → List (List Table)
further_ones peers = map (λ peer. peer.1) peers

-- what sections say, of which the last is a peer's own table: it stands at the end
abbrev own_last : List PointRow → List DeviceRow → List PeerTables → Table → List TableLine → SoFar
own_last points devices peers table own =
    so_far_by points devices (own_ones peers ++ table ∷ []) (further_ones peers ++ [] ∷ [])
    (length peers) (given_among own)

-- a peer's further tables, with one more if it has this key
abbrev with_variant : List ℕ → (Table → Table) → PeerTables → List Table
with_variant key make peer =
    with_some peer.1 (cond (bytes_eq peer.0.key key) (Some (make peer.0)) None)

-- the number of the peer with a key
abbrev number_of : List Table → List ℕ → ℕ
number_of tables key = unwrap_or (position (λ table. bytes_eq table.key key) tables) 0

-- what sections say, of which the last is a variant's
abbrev variant_last : List PointRow → List DeviceRow → List PeerTables → List ℕ → (Table → Table)
    → List TableLine → SoFar
variant_last points devices peers key make own =
    so_far_by points devices (own_ones peers) (map (with_variant key make) peers)
    (number_of (own_ones peers) key) (given_among own)

module _ (points : List PointRow) (devices : List DeviceRow) where
  -- one more section
  begun_step : (p : Option Table) (more longer : List TableSection) (later later_new : List PeerTables)
      (f : PeerTables → PeerTables) (y : List PeerTables)
      → ((own : Table) → (own, filter_map (further_table points devices own) longer)
      ≡ f (own, filter_map (further_table points devices own) more))
      → later_new ≡ map f later ++ y
      → peer_begun p (λ own. filter_map (further_table points devices own) longer) later_new
      ≡ map f (peer_begun p (λ own. filter_map (further_table points devices own) more) later) ++ y
  begun_step None more longer later later_new f y each same = same
  begun_step (Some own) more longer later later_new f y each same =
      ap (λ peer. peer ∷ later_new) (each own)
      ∙ ap (λ ps. f (own, filter_map (further_table points devices own) more) ∷ ps) same

  peers-push_own : (parts : List TableSection) (table : Table) (own : List TableLine)
      → peers_told points devices (parts ++ (Peer table, own) ∷ [])
      ≡ map (λ peer. peer) (peers_told points devices parts)
      ++ (table_in points devices table own, []) ∷ []
  peers-push_own [] table own = refl
  peers-push_own (part ∷ parts) table own =
      begun_step (own_table points devices part.0 part.1) parts (parts ++ (Peer table, own) ∷ [])
      (peers_told points devices parts)
      (peers_told points devices (parts ++ (Peer table, own) ∷ [])) (λ peer. peer)
      ((table_in points devices table own, []) ∷ [])
      (λ o. ap (λ further. (o, further))
      (filter_map-push (further_table points devices o) parts (Peer table, own)))
      (peers-push_own parts table own)

  peers-push_variant : (parts : List TableSection) (key domain id : List ℕ) (own : List TableLine)
      → peers_told points devices (parts ++ (Variant key domain id, own) ∷ [])
      ≡ map (λ peer. (
        peer.0,
        with_variant key
            (λ o. table_in points devices (new_variant o domain id) own) peer,
      ))
      (peers_told points devices parts) ++ []
  peers-push_variant [] key domain id own = refl
  peers-push_variant (part ∷ parts) key domain id own =
      begun_step (own_table points devices part.0 part.1) parts
      (parts ++ (Variant key domain id, own) ∷ []) (peers_told points devices parts)
      (peers_told points devices (parts ++ (Variant key domain id, own) ∷ []))
      (λ peer. (
        peer.0,
        with_variant key
            (λ o. table_in points devices (new_variant o domain id) own) peer,
      )) []
      (λ o. ap (λ further. (o, further))
      (filter_map-push (further_table points devices o) parts (Variant key domain id, own)))
      (peers-push_variant parts key domain id own)

  same_each : (peers : List PeerTables) → map (λ peer. peer) peers ≡ peers
  same_each [] = refl
  same_each (peer ∷ peers) = ap (λ ps. peer ∷ ps) (same_each peers)

  ends : (parts : List TableSection) (first : TableLine) (own : List TableLine)
      → all_told_by points devices (parts ++ (first, own) ∷ [])
      ≡ so_far_told points devices (peers_told points devices (parts ++ (first, own) ∷ []))
      (Some first) own
  ends parts first own =
      let peers = peers_told points devices (parts ++ (first, own) ∷ []) in
      ap (λ begun. so_far_told points devices peers begun
      (last_own (parts ++ (first, own) ∷ [])))
      (ap (last_or None)
      (map-append (λ (part : TableSection). Some part.0) parts ((first, own) ∷ []))
      ∙ last_or-push (map (λ (part : TableSection). Some part.0) parts) (Some first) None)
      ∙ ap (so_far_told points devices peers (Some first))
      (ap (last_or []) (map-append (λ (part : TableSection). part.1) parts ((first, own) ∷ []))
      ∙ last_or-push (map (λ (part : TableSection). part.1) parts) own [])

  own_end : (parts : List TableSection) (table : Table) (own : List TableLine)
      → all_told_by points devices (parts ++ (Peer table, own) ∷ [])
      ≡ own_last points devices (peers_told points devices parts)
      (table_in points devices table own) own
  own_end parts table own =
      let peers = peers_told points devices parts in
      let new = table_in points devices table own in
      let given = given_among own in
      ends parts (Peer table) own
      ∙ ap (λ ps. so_far_told points devices ps (Some (Peer table)) own)
      (peers-push_own parts table own ∙ ap (λ ps. ps ++ (new, []) ∷ []) (same_each peers))
      ∙ ap (λ ts. so_far_by points devices ts
      (map (λ (p : PeerTables). p.1) (peers ++ (new, []) ∷ [])) (length ts - 1) given)
      (map-append (λ (p : PeerTables). p.0) peers ((new, []) ∷ []))
      ∙ ap (λ vs. so_far_by points devices (own_ones peers ++ new ∷ []) vs
      (length (own_ones peers ++ new ∷ []) - 1) given)
      (map-append (λ (p : PeerTables). p.1) peers ((new, []) ∷ []))
      ∙ ap (λ n. so_far_by points devices (own_ones peers ++ new ∷ [])
      (further_ones peers ++ [] ∷ []) n given)
      (omega (
        arith,
        length_push (own_ones peers) new,
        length-map peers (λ (p : PeerTables). p.0),
      ))

  own_kept : (f : PeerTables → List Table) (peers : List PeerTables)
      → own_ones (map (λ peer. (peer.0, f peer)) peers) ≡ own_ones peers
  own_kept f [] = refl
  own_kept f (peer ∷ peers) = ap (λ ts. peer.0 ∷ ts) (own_kept f peers)

  further_mapped : (f : PeerTables → List Table) (peers : List PeerTables)
      → further_ones (map (λ peer. (peer.0, f peer)) peers) ≡ map f peers
  further_mapped f [] = refl
  further_mapped f (peer ∷ peers) = ap (λ ts. f peer ∷ ts) (further_mapped f peers)

  variant_end : (parts : List TableSection) (key domain id : List ℕ) (own : List TableLine)
      → all_told_by points devices (parts ++ (Variant key domain id, own) ∷ [])
      ≡ variant_last points devices (peers_told points devices parts) key
      (λ o. table_in points devices (new_variant o domain id) own) own
  variant_end parts key domain id own =
      let peers = peers_told points devices parts in
      let f = with_variant key (λ o. table_in points devices (new_variant o domain id) own) in
      let given = given_among own in
      ends parts (Variant key domain id) own
      ∙ ap (λ ps. so_far_told points devices ps (Some (Variant key domain id)) own)
      (peers-push_variant parts key domain id own
      ∙ append-nil (map (λ (peer : PeerTables). (peer.0, f peer)) peers))
      ∙ ap (λ ts. so_far_by points devices ts
      (further_ones (map (λ (peer : PeerTables). (peer.0, f peer)) peers)) (number_of ts key) given)
      (own_kept f peers)
      ∙ ap (λ vs. so_far_by points devices (own_ones peers) vs (number_of (own_ones peers) key)
      given) (further_mapped f peers)

-- tables at two places have two keys
differ_apart : (tables : List Table) → AllPairs (λ a b. a.key ≢ b.key) tables → (i j : ℕ) → i ≢ j
    → i < length tables → j < length tables
    → (get_or tables i no_table).key ≢ (get_or tables j no_table).key
differ_apart tables pairs i j apart first second =
    elim (cases_lt i j) [
      | inl before ↦ pairs i j no_table before second
      | inr behind ↦ λ same. pairs j i no_table (omega (arith, behind, apart)) first (sym same)
    ]

-- a list where one element alone is mapped otherwise
map_same : {X Y : Type 0} (f g : X → Y) (xs : List X) (d : X)
    → ((k : ℕ) → k < length xs → f (get_or xs k d) ≡ g (get_or xs k d)) → map f xs ≡ map g xs
map_same f g [] d same = refl
map_same f g (x ∷ xs) d same =
    ap (λ y. y ∷ map f xs) (same 0 (omega arith))
    ∙ ap (λ ys. g x ∷ ys) (map_same f g xs d (λ k below. same (suc k) (omega arith)))

map_but_one : {X Y : Type 0} (f g : X → Y) (xs : List X) (n : ℕ) (d : X) → n < length xs
    → ((k : ℕ) → k < length xs → k ≢ n → f (get_or xs k d) ≡ g (get_or xs k d))
    → map f xs ≡ set (map g xs) n (f (get_or xs n d))
map_but_one f g [] n d below same = absurd (omega arith)
map_but_one f g (x ∷ xs) zero d below same =
    ap (λ ys. f x ∷ ys)
    (map_same f g xs d (λ k under. same (suc k) (omega arith) (λ e. absurd (omega (arith, e)))))
map_but_one f g (x ∷ xs) (suc n) d below same =
    ap (λ y. y ∷ map f xs) (same 0 (omega arith) (λ e. absurd (omega (arith, e))))
    ∙ ap (λ ys. g x ∷ ys)
    (map_but_one f g xs n d (omega arith)
    (λ k under other. same (suc k) (omega arith) (λ e. other (omega (arith, e)))))

-- among peers whose keys differ, the one with a key has a further table more
module _ (peers : List PeerTables) (key : List ℕ) (n : ℕ)
    (unique : AllPairs (λ a b. a.key ≢ b.key) (own_ones peers))
    (there : position (λ table. bytes_eq table.key key) (own_ones peers) ≡ Some n) where
  within : n < length (own_ones peers)
  within = (position-Some (λ (t : Table). bytes_eq t.key key) (own_ones peers) n no_table there).0

  few : n < length peers
  few = omega (arith, within, length-map peers (λ (p : PeerTables). p.0))

  its_key : (k : ℕ) → k < length peers → bytes_eq (get_or peers k (no_table, [])).0.key key ≡ true
      → (get_or (own_ones peers) k no_table).key ≡ key
  its_key k below same =
      ap (λ (t : Table). t.key)
      (get_or-map (λ (p : PeerTables). p.0) peers k (no_table, []) no_table below)
      ∙ (bytes_decides (get_or peers k (no_table, [])).0.key key).0 same

  here_key : bytes_eq (get_or peers n (no_table, [])).0.key key ≡ true
  here_key =
      ap (λ (t : Table). bytes_eq t.key key)
      (sym (get_or-map (λ (p : PeerTables). p.0) peers n (no_table, []) no_table few))
      ∙ (position-Some (λ (t : Table). bytes_eq t.key key) (own_ones peers) n no_table there).1

  other_key : (k : ℕ) → k < length peers → k ≢ n
      → bytes_eq (get_or peers k (no_table, [])).0.key key ≡ false
  other_key k below other =
      elim (cases_Bool (bytes_eq (get_or peers k (no_table, [])).0.key key)) [
        | inl same ↦ absurd
            (differ_apart (own_ones peers) unique k n other
            (omega (arith, below, length-map peers (λ (p : PeerTables). p.0))) within
            (its_key k below same ∙ sym (its_key n few here_key)))
        | inr differs ↦ differs
      ]

  variants_set : (make : Table → Table)
      → map (with_variant key make) peers
      ≡ set (further_ones peers) n
      (get_or (further_ones peers) n [] ++ make (get_or (own_ones peers) n no_table) ∷ [])
  variants_set make =
      map_but_one (with_variant key make) (λ (p : PeerTables). p.1) peers n (no_table, []) few
      (λ k below other. ap (λ b. with_some (get_or peers k (no_table, [])).1
      (cond b (Some (make (get_or peers k (no_table, [])).0)) None)) (other_key k below other))
      ∙ ap (set (further_ones peers) n)
      (ap (λ b. with_some (get_or peers n (no_table, [])).1
      (cond b (Some (make (get_or peers n (no_table, [])).0)) None)) here_key
      ∙ ap (λ further. further ++ make (get_or peers n (no_table, [])).0 ∷ [])
      (sym (get_or-map (λ (p : PeerTables). p.1) peers n (no_table, []) [] few))
      ∙ ap (λ own. get_or (further_ones peers) n [] ++ make own ∷ [])
      (sym (get_or-map (λ (p : PeerTables). p.0) peers n (no_table, []) no_table few)))

-- what lines that stand keep: the keys of peers differ, and the last variant's is one of them
pub record Keyed (said : List TableLine) : Type 0 where
  pub unique : AllPairs (λ a b. a.key ≢ b.key) (told said).rows.tables
  pub there : (key domain id : List ℕ) → last_begun (sections said) ≡ Some (Variant key domain id)
      → (n : ℕ) × (place_of_peer (told said).rows key ≡ Some n)

-- a table more line in the last section
abbrev grown_by : SoFar → TableLine → SoFar
grown_by so_far line = record so_far {
  rows = changed so_far (gained so_far.rows.points so_far.rows.devices line);
  given = with_given line so_far.given;
}

-- where the last section is a peer's own
own_changed : (points : List PointRow) (devices : List DeviceRow) (line : TableLine)
    (peers : List PeerTables) (table : Table) (own : List TableLine)
    → own_last points devices peers (table_in points devices table (own ++ line ∷ []))
    (own ++ line ∷ [])
    ≡ grown_by (own_last points devices peers (table_in points devices table own) own) line
own_changed points devices line peers table own =
    let x = table_in points devices table own in
    let g = gained points devices line in
    let tables = own_ones peers in
    let variants = further_ones peers in
    let n = length peers in
    let tables_long = length-map peers (λ (p : PeerTables). p.0) in
    let variants_long = length-map peers (λ (p : PeerTables). p.1) in
    let old = rows_by points devices (tables ++ x ∷ []) (variants ++ [] ∷ []) in
    ap (λ t. own_last points devices peers t (own ++ line ∷ []))
    (table-push points devices line table own)
    ∙ ap (λ given. record { rows = rows_by points devices (tables ++ g x ∷ []) (variants ++ [] ∷ []); peer = n; given = given })
    (given-push own line)
    ∙ ap (λ rows. record { rows = rows; peer = n; given = with_given line (given_among own) })
    (sym (ap (λ t. with_last old n (g t))
    (last_own_is points devices tables variants n tables_long variants_long x)
    ∙ with_last_own points devices tables variants n tables_long variants_long x (g x)))

-- where it is a variant's
variant_changed : (points : List PointRow) (devices : List DeviceRow) (line : TableLine)
    (peers : List PeerTables) (key domain id : List ℕ) (own : List TableLine) (n : ℕ)
    → AllPairs (λ a b. a.key ≢ b.key) (own_ones peers)
    → position (λ table. bytes_eq table.key key) (own_ones peers) ≡ Some n
    → variant_last points devices peers key
    (λ o. table_in points devices (new_variant o domain id) (own ++ line ∷ [])) (own ++ line ∷ [])
    ≡ grown_by
    (variant_last points devices peers key
    (λ o. table_in points devices (new_variant o domain id) own) own) line
variant_changed points devices line peers key domain id own n unique there =
    let start = λ (o : Table). new_variant o domain id in
    let make = λ (o : Table). table_in points devices (start o) own in
    let make_new = λ (o : Table). table_in points devices (start o) (own ++ line ∷ []) in
    let g = gained points devices line in
    let tables = own_ones peers in
    let further = get_or (further_ones peers) n [] in
    let x = make (get_or tables n no_table) in
    let old = set (further_ones peers) n (further ++ x ∷ []) in
    let given = with_given line (given_among own) in
    let long = position-Some (λ (t : Table). bytes_eq t.key key) tables n no_table there in
    let few : n < length (further_ones peers) =
    omega (
      arith,
      long.0,
      length-map peers (λ (p : PeerTables). p.0),
      length-map peers (λ (p : PeerTables). p.1),
    ) in
    let has : further_of (rows_by points devices tables old) n ≡ further ++ x ∷ [] =
    get_or-set_same (further_ones peers) n (further ++ x ∷ []) [] few in
    let number = ap (λ o. unwrap_or o 0) there in
    ap (λ vs. so_far_by points devices tables vs (number_of tables key)
    (given_among (own ++ line ∷ [])))
    (variants_set peers key n unique there make_new
    ∙ ap (λ t. set (further_ones peers) n (further ++ t ∷ []))
    (table-push points devices line (start (get_or tables n no_table)) own)
    ∙ sym (set-set (further_ones peers) n (further ++ x ∷ []) (further ++ g x ∷ [])))
    ∙ ap (so_far_by points devices tables (set old n (further ++ g x ∷ [])) (number_of tables key))
    (given-push own line)
    ∙ ap (λ rows. record { rows = rows; peer = number_of tables key; given = given })
    (sym (ap (λ t. with_last (rows_by points devices tables old) n (g t))
    (last_further_is (rows_by points devices tables old) n further x has)
    ∙ with_last_further (rows_by points devices tables old) n further x (g x) has))
    ∙ ap (λ p. record {
      rows = with_last (rows_by points devices tables old) p
          (g (last_table (rows_by points devices tables old) p));
      peer = number_of tables key;
      given = given;
    }) (sym number)
    ∙ ap (λ vs. grown_by (so_far_by points devices tables vs (number_of tables key)
    (given_among own)) line)
    (sym (variants_set peers key n unique there make))

-- what lines say with one more, which gives points and devices what it may
told-push_by : (said : List TableLine) (line : TableLine) (parts : List TableSection)
    → sections (said ++ line ∷ []) ≡ parts
    → told (said ++ line ∷ [])
    ≡ all_told_by (with_some (filter_map point_of_line said) (point_of_line line))
    (with_some (filter_map device_of_line said) (device_of_line line)) parts
told-push_by said line parts same =
    let points = with_some (filter_map point_of_line said) (point_of_line line) in
    let devices = with_some (filter_map device_of_line said) (device_of_line line) in
    ap (λ ps. all_told_by ps (filter_map device_of_line (said ++ line ∷ []))
    (sections (said ++ line ∷ []))) (filter_map-push point_of_line said line)
    ∙ ap (λ ds. all_told_by points ds (sections (said ++ line ∷ [])))
    (filter_map-push device_of_line said line)
    ∙ ap (all_told_by points devices) same

-- no line of a table has begun one yet, or the last section has it
last_changed : (points : List PointRow) (devices : List DeviceRow) (line : TableLine)
    (front : List TableSection) (first : TableLine) (own : List TableLine)
    → begins_table first ≡ true
    → AllPairs (λ a b. a.key ≢ b.key)
    (all_told_by points devices (front ++ (first, own) ∷ [])).rows.tables
    → ((key domain id : List ℕ)
    → last_begun (front ++ (first, own) ∷ []) ≡ Some (Variant key domain id)
    → (n : ℕ)
    × (place_of_peer (all_told_by points devices (front ++ (first, own) ∷ [])).rows key ≡ Some n))
    → all_told_by points devices (front ++ (first, own ++ line ∷ []) ∷ [])
    ≡ grown_by (all_told_by points devices (front ++ (first, own) ∷ [])) line
last_changed points devices line front (Peer table) own begins unique there =
    own_end points devices front table (own ++ line ∷ [])
    ∙ own_changed points devices line (peers_told points devices front) table own
    ∙ ap (λ s. grown_by s line) (sym (own_end points devices front table own))
last_changed points devices line front (Variant key domain id) own begins unique there =
    let same = variant_end points devices front key domain id own in
    let begun =
    ap (last_or None)
    (map-append (λ (part : TableSection). Some part.0) front ((Variant key domain id, own) ∷ []))
    ∙ last_or-push (map (λ (part : TableSection). Some part.0) front)
    (Some (Variant key domain id)) None in
    let found = there key domain id begun in
    variant_end points devices front key domain id (own ++ line ∷ [])
    ∙ variant_changed points devices line (peers_told points devices front) key domain id own
    found.0
    (subst (λ (s : SoFar). AllPairs (λ a b. a.key ≢ b.key) s.rows.tables) same unique)
    (ap (λ (s : SoFar). place_of_peer s.rows key) (sym same) ∙ found.1)
    ∙ ap (λ s. grown_by s line) (sym same)
last_changed points devices line front (Point point) own begins unique there = absurd cc
last_changed points devices line front (Device device) own begins unique there = absurd cc
last_changed points devices line front (Slots number) own begins unique there = absurd cc
last_changed points devices line front (Sets number) own begins unique there = absurd cc
last_changed points devices line front (Pending number) own begins unique there = absurd cc
last_changed points devices line front (See name vmd layout) own begins unique there = absurd cc
last_changed points devices line front (Control name tag) own begins unique there = absurd cc

-- a line of a table
parts_changed : (points : List PointRow) (devices : List DeviceRow) (line : TableLine)
    (parts : List TableSection)
    → ((front : List TableSection) (part : TableSection) → parts ≡ front ++ part ∷ []
    → begins_table part.0 ≡ true)
    → 0 < length (all_told_by points devices parts).rows.tables
    → AllPairs (λ a b. a.key ≢ b.key) (all_told_by points devices parts).rows.tables
    → ((key domain id : List ℕ) → last_begun parts ≡ Some (Variant key domain id)
    → (n : ℕ) × (place_of_peer (all_told_by points devices parts).rows key ≡ Some n))
    → all_told_by points devices (on_last (with_own line) parts)
    ≡ grown_by (all_told_by points devices parts) line
parts_changed points devices line parts begin some unique there =
    cases (last_view parts)
  where
    cases : (parts ≡ [])
        ⊎ ((front : List TableSection) × (x : TableSection) × (parts ≡ front ++ x ∷ []))
        → all_told_by points devices (on_last (with_own line) parts)
        ≡ grown_by (all_told_by points devices parts) line
    cases (inl none) =
        let empty : length (all_told_by points devices parts).rows.tables ≡ 0 =
        ap (λ ps. length (all_told_by points devices ps).rows.tables) none in
        absurd (omega (arith, some, empty))
    cases (inr last) =
        let same = last.2 in
        ap (λ ps. all_told_by points devices (on_last (with_own line) ps)) same
        ∙ ap (all_told_by points devices) (on_last-push (with_own line) last.0 last.1)
        ∙ last_changed points devices line last.0 last.1.0 last.1.1 (begin last.0 last.1 same)
        (subst (λ ps. AllPairs (λ a b. a.key ≢ b.key) (all_told_by points devices ps).rows.tables)
        same unique)
        (subst (λ ps. (key domain id : List ℕ) → last_begun ps ≡ Some (Variant key domain id)
        → (n : ℕ) × (place_of_peer (all_told_by points devices ps).rows key ≡ Some n)) same there)
        ∙ ap (λ ps. grown_by (all_told_by points devices ps) line) (sym same)

-- with one more of a table
told-push_own : (said : List TableLine) (line : TableLine) → Keyed said
    → point_of_line line ≡ None → device_of_line line ≡ None → begins_table line ≡ false
    → 0 < length (told said).rows.tables
    → told (said ++ line ∷ []) ≡ grown_by (told said) line
told-push_own said line keyed no_point no_device no_table some =
    let points = filter_map point_of_line said in
    let devices = filter_map device_of_line said in
    let parts = on_last (with_own line) (sections said) in
    told-push_by said line parts (sections-push_line line no_table said)
    ∙ ap (λ o. all_told_by (with_some points o) (with_some devices (device_of_line line)) parts)
    no_point
    ∙ ap (λ o. all_told_by points (with_some devices o) parts) no_device
    ∙ parts_changed points devices line (sections said) (last_begins said) some keyed.unique
    keyed.there

-- before any table no section has begun
no_sections : (points : List PointRow) (devices : List DeviceRow) (said : List TableLine)
    (parts : List TableSection) → sections said ≡ parts → Keyed said
    → length (told said).rows.tables ≡ 0 → parts ≡ []
no_sections points devices said parts is keyed empty = cases (last_view parts)
  where
    told_is : told said ≡ all_told_by (filter_map point_of_line said)
        (filter_map device_of_line said) parts
    told_is = ap (all_told_by (filter_map point_of_line said) (filter_map device_of_line said)) is

    by : (front : List TableSection) (first : TableLine) (own : List TableLine)
        → parts ≡ front ++ (first, own) ∷ [] → begins_table first ≡ true → ⊥
    by front (Peer table) own same begins =
        let longer = ap (λ (s : SoFar). length s.rows.tables)
        (told_is
        ∙ ap (all_told_by (filter_map point_of_line said) (filter_map device_of_line said)) same
        ∙ own_end (filter_map point_of_line said) (filter_map device_of_line said) front table own)
        in
        omega (arith, longer, empty, length_push (own_ones (peers_told (filter_map point_of_line said) (filter_map device_of_line said) front)) (table_in (filter_map point_of_line said) (filter_map device_of_line said) table own))
    by front (Variant key domain id) own same begins =
        let begun =
        ap (λ ps. last_begun ps) (is ∙ same)
        ∙ ap (last_or None)
        (map-append (λ (part : TableSection). Some part.0) front
        ((Variant key domain id, own) ∷ []))
        ∙ last_or-push (map (λ (part : TableSection). Some part.0) front)
        (Some (Variant key domain id)) None in
        let found = keyed.there key domain id begun in
        let long = position-Some (λ (t : Table). bytes_eq t.key key) (told said).rows.tables
        found.0 no_table found.1 in
        omega (arith, long.0, empty)
    by front (Point point) own same begins = cc
    by front (Device device) own same begins = cc
    by front (Slots number) own same begins = cc
    by front (Sets number) own same begins = cc
    by front (Pending number) own same begins = cc
    by front (See name vmd layout) own same begins = cc
    by front (Control name tag) own same begins = cc

    cases : (parts ≡ [])
        ⊎ ((front : List TableSection) × (x : TableSection) × (parts ≡ front ++ x ∷ []))
        → parts ≡ []
    cases (inl none) = none
    cases (inr last) =
        absurd (by last.0 last.1.0 last.1.1 last.2
        (last_begins said last.0 last.1 (is ∙ last.2)))

-- with one more before any table
told-push_first : (said : List TableLine) (line : TableLine) → Keyed said
    → begins_table line ≡ false → length (told said).rows.tables ≡ 0
    → told (said ++ line ∷ [])
    ≡ so_far_by (with_some (told said).rows.points (point_of_line line))
    (with_some (told said).rows.devices (device_of_line line)) (told said).rows.tables
    (told said).rows.variants (told said).peer (told said).given
told-push_first said line keyed no_table empty =
    let points = filter_map point_of_line said in
    let devices = filter_map device_of_line said in
    let none = no_sections points devices said (sections said) refl keyed empty in
    told-push_by said line []
    (sections-push_line line no_table said ∙ ap (on_last (with_own line)) none)
    ∙ sym (ap (λ parts. so_far_by (with_some points (point_of_line line))
    (with_some devices (device_of_line line)) (all_told_by points devices parts).rows.tables
    (all_told_by points devices parts).rows.variants (all_told_by points devices parts).peer
    (all_told_by points devices parts).given) none)

new_table : (points : List PointRow) (devices : List DeviceRow) (table : Table)
    → table_in points devices table [] ≡ table
new_table points devices table =
    ap (λ sees. record table { sees = sees; controls = table.controls ++ [] })
    (append-nil table.sees)
    ∙ ap (λ controls. record table { controls = controls }) (append-nil table.controls)

told-push_peer : (said : List TableLine) (table : Table)
    → told (said ++ Peer table ∷ []) ≡ with_row (told said) (Peer table)
told-push_peer said table =
    let points = filter_map point_of_line said in
    let devices = filter_map device_of_line said in
    let parts = sections said in
    let peers = peers_told points devices parts in
    told-push_by said (Peer table) (parts ++ (Peer table, []) ∷ [])
    (sections-push_begun (Peer table) refl said)
    ∙ own_end points devices parts table []
    ∙ ap (λ t. own_last points devices peers t []) (new_table points devices table)
    ∙ ap (λ n. so_far_by points devices (own_ones peers ++ table ∷ [])
    (further_ones peers ++ [] ∷ []) n (given_among []))
    (sym (length-map peers (λ (p : PeerTables). p.0)))

told-push_variant : (said : List TableLine) (key domain id : List ℕ) → Keyed said
    → row_fault (told said) (Variant key domain id) ≡ None
    → told (said ++ Variant key domain id ∷ []) ≡ with_row (told said) (Variant key domain id)
told-push_variant said key domain id keyed taken =
    let points = filter_map point_of_line said in
    let devices = filter_map device_of_line said in
    let parts = sections said in
    let peers = peers_told points devices parts in
    let new = IsNewVariant-from_no_fault (told said) key domain id taken in
    let n = new.0 in
    let tables = own_ones peers in
    let variants = further_ones peers in
    let start = λ (o : Table). new_variant o domain id in
    told-push_by said (Variant key domain id) (parts ++ (Variant key domain id, []) ∷ [])
    (sections-push_begun (Variant key domain id) refl said)
    ∙ variant_end points devices parts key domain id []
    ∙ ap (λ vs. so_far_by points devices tables vs (number_of tables key) (given_among []))
    (variants_set peers key n keyed.unique new.1.known
    (λ o. table_in points devices (start o) [])
    ∙ ap (λ t. set variants n (get_or variants n [] ++ t ∷ []))
    (new_table points devices (start (get_or tables n no_table))))
    ∙ ap (λ k. so_far_by points devices tables
    (set variants k (get_or variants k [] ++ start (get_or tables k no_table) ∷ []))
    (number_of tables key) (given_among []))
    (sym (ap (λ o. unwrap_or o 0) new.1.known))

abbrev see_of : ℕ → Bool → List Component → SeeRow
see_of point vmd layout = record { point = point; vmd = vmd; layout = layout }

see_row : (place : Option ℕ) (vmd : Bool) (layout : Option (List Component)) (point : ℕ)
    (components : List Component) → place ≡ Some point → layout ≡ Some components
    → option_and_then
    (λ p. option_map (λ shown. see_of p vmd shown) layout) place
    ≡ Some (see_of (unwrap_or place 0) vmd (unwrap_or layout []))
see_row None vmd layout point components known shown = absurd cc
see_row (Some p) vmd None point components known shown = absurd cc
see_row (Some p) vmd (Some c) point components known shown = refl

told-push_see : (said : List TableLine) (name : List ℕ) (vmd : Bool)
    (layout : Option (List Component)) → Keyed said → row_fault (told said) (See name vmd layout) ≡ None
    → told (said ++ See name vmd layout ∷ []) ≡ with_row (told said) (See name vmd layout)
told-push_see said name vmd layout keyed taken =
    let rows = (told said).rows in
    let peer = (told said).peer in
    let last = last_table rows peer in
    let new = IsNewSee-from_no_fault (told said) name vmd layout taken in
    told-push_own said (See name vmd layout) keyed refl refl refl new.2.some_table
    ∙ ap (λ o. record (told said) {
      rows = with_last rows peer (record last { sees = with_some last.sees o });
    })
    (see_row (place_of_point rows name) vmd layout new.0 new.1 new.2.known new.2.shown)

abbrev control_of : ℕ → Bool → ControlRow
control_of device tag = record { device = device; tag = tag }

control_row : (place : Option ℕ) (tag : Bool) (device : ℕ) → place ≡ Some device
    → option_map (λ d. control_of d tag) place ≡ Some (control_of (unwrap_or place 0) tag)
control_row None tag device known = absurd cc
control_row (Some d) tag device known = refl

told-push_control : (said : List TableLine) (name : List ℕ) (tag : Bool) → Keyed said
    → row_fault (told said) (Control name tag) ≡ None
    → told (said ++ Control name tag ∷ []) ≡ with_row (told said) (Control name tag)
told-push_control said name tag keyed taken =
    let rows = (told said).rows in
    let peer = (told said).peer in
    let last = last_table rows peer in
    let new = IsNewControl-from_no_fault (told said) name tag taken in
    told-push_own said (Control name tag) keyed refl refl refl new.1.some_table
    ∙ ap (λ o. record (told said) {
      rows = with_last rows peer (record last { controls = with_some last.controls o });
    })
    (control_row (place_of_device rows name) tag new.0 new.1.known)

its_number : (number : Option ℕ) (n d : ℕ) → number ≡ Some n
    → unwrap_or number d ≡ unwrap_or number 0
its_number None n d is = absurd cc
its_number (Some k) n d is = refl

-- a line that can be taken
pub told-push : (said : List TableLine) (line : TableLine) → Keyed said
    → row_fault (told said) line ≡ None → told (said ++ line ∷ []) ≡ with_row (told said) line
told-push said (Point point) keyed taken =
    told-push_first said (Point point) keyed refl
    (IsNewPoint-from_no_fault (told said) point taken).no_tables
told-push said (Device device) keyed taken =
    told-push_first said (Device device) keyed refl
    (IsNewDevice-from_no_fault (told said) device taken).no_tables
told-push said (Peer table) keyed taken = told-push_peer said table
told-push said (Variant key domain id) keyed taken = told-push_variant said key domain id keyed taken
told-push said (Slots number) keyed taken =
    let free = limit_taken (told said).rows (told said).given.slots number taken in
    told-push_own said (Slots number) keyed refl refl refl free.0
    ∙ ap (λ n. record (told said) {
      rows = changed (told said) (λ t. with_slots t n);
      given = record (told said).given { slots = true };
    })
    (its_number number free.1 _ free.2)
told-push said (Sets number) keyed taken =
    let free = limit_taken (told said).rows (told said).given.sets number taken in
    told-push_own said (Sets number) keyed refl refl refl free.0
    ∙ ap (λ n. record (told said) {
      rows = changed (told said) (λ t. with_sets t n);
      given = record (told said).given { sets = true };
    })
    (its_number number free.1 _ free.2)
told-push said (Pending number) keyed taken =
    let free = pending_taken (told said).rows (told said).peer (told said).given.pending number
    taken in
    told-push_own said (Pending number) keyed refl refl refl free.0
    ∙ ap (λ n. record (told said) {
      rows = changed (told said) (λ t. with_pending t n);
      given = record (told said).given { pending = true };
    })
    (its_number number free.2 _ free.3)
told-push said (See name vmd layout) keyed taken = told-push_see said name vmd layout keyed taken
told-push said (Control name tag) keyed taken = told-push_control said name tag keyed taken
