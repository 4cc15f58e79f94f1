-- Peers of a centre have different numbers in views, and who has a device is such a peer.
use Rattle.std.proofs.Common.{◌≡◌, ℕ, zero, suc, ◌+◌, ◌*◌, ◌<◌, ◌≤◌, Bool, true, false, not, ◌||◌}
use Rattle.std.proofs.Common.{nat_le, ◌==◌}
use Rattle.std.proofs.Common.{List, [], ◌∷◌, length, refl, sym, ap, ◌∙◌, arith, ⊎_elim, is_some}
use Rattle.std.proofs.Common.{bytes_eq, map, subst}
use Rattle.std.specs.Prelude.{if◌then◌else◌, find, flat_map}
use Rattle.std.specs.List.{list_all, list_any}
use Rattle.std.proofs.lemmas.Bool.{false≢true, and_parts, leb-true, cases_lt, cases_order}
use Rattle.std.proofs.lemmas.Bool.{eqb-true}
use Rattle.std.proofs.lemmas.List.{get_or_past}
use Rattle.ber_values.specs.Visible.{is_visible_octet}
use Rattle.bilateral.proofs.OfWords.VisibleWords.{IsVisible-from_identifier}
use Rattle.bilateral.specs.declared.rows.Table.{Table}
use Rattle.bilateral.specs.Rows.{CentreRows, IsCentre, table_of, variants_of, no_table}
use Rattle.sbo_device.specs.SameMoves.{TellsApart}
use Rattle.tase_views.specs.OwnTables.{OwnDevice, OwnTable, OwnTables, own_table, own_tables}
use Rattle.tase_views.specs.OwnTables.{device_named, is_selectable}
use Rattle.tase_views.specs.View.{key_number, peer_number}

same_digits : (x y m n : ℕ) → x < 256 → y < 256 → 1 + x + 256 * m ≡ 1 + y + 256 * n
    → (x ≡ y) × (m ≡ n)
same_digits x y m n low high e = (omega arith, omega arith)

visible_is_octet : (x : ℕ) → is_visible_octet x ≡ true → x < 256
visible_is_octet x visible =
    let most : x ≤ 126 = leb-true x 126 (and_parts (nat_le 32 x) (nat_le x 126) visible).1 in
    omega arith

same_key_number : (a b : List ℕ) → list_all is_visible_octet a ≡ true
    → list_all is_visible_octet b ≡ true → key_number a ≡ key_number b
    → a ≡ b
same_key_number [] [] one other e = refl
same_key_number [] (y ∷ ys) one other e = absurd (omega arith)
same_key_number (x ∷ xs) [] one other e = absurd (omega arith)
same_key_number (x ∷ xs) (y ∷ ys) one other e =
    let first = and_parts (is_visible_octet x) (list_all is_visible_octet xs) one in
    let second = and_parts (is_visible_octet y) (list_all is_visible_octet ys) other in
    let digits = same_digits x y (key_number xs) (key_number ys) (visible_is_octet x first.0)
    (visible_is_octet y second.0) e in
    ap (λ (n : ℕ). n ∷ xs) digits.0
    ∙ ap (λ (l : List ℕ). y ∷ l) (same_key_number xs ys first.1 second.1 digits.1)

visible_key : (rows : CentreRows) (peer : ℕ) → IsCentre rows → peer < length rows.tables
    → list_all is_visible_octet (table_of rows peer).key ≡ true
visible_key rows peer lawful there =
    (IsVisible-from_identifier (table_of rows peer).key (lawful.tables peer no_table there).key).1

-- peers of the centre whose keys have one number are one
one_key : (rows : CentreRows) (a b : ℕ) → IsCentre rows → a < length rows.tables
    → b < length rows.tables
    → key_number (table_of rows a).key ≡ key_number (table_of rows b).key
    → a ≡ b
one_key rows a b lawful one other e =
    let same : (table_of rows a).key ≡ (table_of rows b).key =
    same_key_number (table_of rows a).key (table_of rows b).key (visible_key rows a lawful one)
    (visible_key rows b lawful other) e in
    ⊎_elim (λ equal. equal)
    (λ apart. ⊎_elim (λ below. absurd (lawful.keys a b no_table below other same))
    (λ above. absurd (lawful.keys b a no_table above one (sym same))) apart)
    (cases_order a b)

-- no key has the number 0
some_number : (key : List ℕ) → 0 < length key → 0 ≡ key_number key → ⊥
some_number [] some e = absurd (omega (arith, some))
some_number (octet ∷ key) some e = absurd (omega (arith, e))

some_length : (n : ℕ) → not (n == 0) ≡ true → 0 < n
some_length zero e = absurd (false≢true e)
some_length (suc n) e = omega arith

named_key : (rows : CentreRows) (peer : ℕ) → IsCentre rows → peer < length rows.tables
    → 0 < length (table_of rows peer).key
named_key rows peer lawful there =
    let parts = and_parts _ _ (lawful.tables peer no_table there).key in
    some_length (length (table_of rows peer).key) (and_parts _ _ parts.0).0

-- peers of the centre with one number are one
one_number : (rows : CentreRows) (peer a b : ℕ) → IsCentre rows → a < length rows.tables
    → b < length rows.tables → peer_number rows peer a ≡ peer_number rows peer b
    → a ≡ b
one_number rows peer a b lawful one other = by (a == peer) (b == peer) refl refl
  where
    by : (s t : Bool) → (a == peer) ≡ s → (b == peer) ≡ t
        → (if s then 0 else key_number (table_of rows a).key)
        ≡ (if t then 0 else key_number (table_of rows b).key)
        → a ≡ b
    by true true is also e = eqb-true a peer is ∙ sym (eqb-true b peer also)
    by true false is also e =
        absurd (some_number (table_of rows b).key (named_key rows b lawful other) e)
    by false true is also e =
        absurd (some_number (table_of rows a).key (named_key rows a lawful one) (sym e))
    by false false is also e = one_key rows a b lawful one other e

-- where no peer stands, there is one table, without anything
nobody : (rows : CentreRows) (peer : ℕ) → IsCentre rows → length rows.tables ≤ peer
    → variants_of rows peer ≡ no_table ∷ []
nobody rows peer lawful past =
    rw (
      get_or_past rows.tables peer no_table past,
      get_or_past rows.variants peer [] (subst (λ n. n ≤ peer) (sym lawful.variants) past),
    ) refl

-- whether a table has a device that these tables have as not direct
abbrev pub shares : OwnTables → OwnTable → Bool
shares tables table =
    list_any (λ (d : OwnDevice). is_selectable tables d.row.name) table.devices

-- whether a peer may have part in the devices of this one that aren't direct
abbrev pub may_share : CentreRows → ℕ → ℕ → Bool
may_share rows peer other =
    (other == peer)
    || list_any (shares (own_tables rows peer)) (own_tables rows other).tables

named_within : (rows : CentreRows) (peer : ℕ) (name : List ℕ) → IsCentre rows
    → is_some (device_named (own_tables rows peer) name) ≡ true → peer < length rows.tables
named_within rows peer name lawful named =
    ⊎_elim (λ there. there)
    (λ past. absurd (false≢true (sym (ap (λ (tables : List Table).
    is_some (find (λ (d : OwnDevice). bytes_eq d.row.name name)
    (flat_map (λ (table : OwnTable). table.devices) (map (own_table rows) tables))))
    (nobody rows peer lawful past)) ∙ named)))
    (cases_lt peer (length rows.tables))

sharing_within : (rows : CentreRows) (peer other : ℕ) → IsCentre rows
    → list_any (shares (own_tables rows peer)) (own_tables rows other).tables ≡ true
    → other < length rows.tables
sharing_within rows peer other lawful some =
    ⊎_elim (λ there. there)
    (λ past. absurd (false≢true (sym (ap (λ (tables : List Table).
    list_any (shares (own_tables rows peer)) (map (own_table rows) tables))
    (nobody rows other lawful past)) ∙ some)))
    (cases_lt other (length rows.tables))

-- peers that have a device in common are told apart by their numbers
pub common_numbers : (rows : CentreRows) (peer one other : ℕ) (name : List ℕ) → IsCentre rows
    → is_some (device_named (own_tables rows one) name) ≡ true
    → is_some (device_named (own_tables rows other) name) ≡ true
    → peer_number rows peer one ≡ peer_number rows peer other → one ≡ other
common_numbers rows peer one other name lawful first second =
    one_number rows peer one other lawful (named_within rows one name lawful first)
    (named_within rows other name lawful second)

-- who may have part in a device is one peer by its number
pub numbers_differ : (rows : CentreRows) (peer : ℕ) (name : List ℕ) → IsCentre rows
    → is_some (device_named (own_tables rows peer) name) ≡ true
    → TellsApart (may_share rows peer) (peer_number rows peer)
numbers_differ rows peer name lawful named a b one other e =
    one_number rows peer a b lawful (within a (a == peer) refl one)
    (within b (b == peer) refl other) e
  where
    within : (p : ℕ) (t : Bool) → (p == peer) ≡ t
        → (t || list_any (shares (own_tables rows peer)) (own_tables rows p).tables) ≡ true
        → p < length rows.tables
    within p true same may =
        let is : p ≡ peer = eqb-true p peer same in
        let there : peer < length rows.tables = named_within rows peer name lawful named in
        omega (arith, is, there)
    within p false apart may = sharing_within rows peer p lawful may
