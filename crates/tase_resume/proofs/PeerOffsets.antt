-- Offsets by peers as offsets by the numbers that peers have in a view.
use Rattle.std.proofs.Common.{◌≡◌, ◌==◌, ℕ, zero, suc, ◌+◌, ◌*◌, ◌<◌, ◌≤◌, true, false, not, List}
use Rattle.std.proofs.Common.{[], ◌∷◌, length, position, refl, sym, ap, ◌∙◌, arith, ⊎_elim, nat_le}
use Rattle.std.proofs.Common.{if◌then◌else◌}
use Rattle.std.specs.List.{list_all}
use Rattle.std.specs.Option.{option_map_or}
use Rattle.std.proofs.lemmas.Bool.{false≢true, and_parts, leb-true, cases_order, eq-eqb, ne_eqb}
use Rattle.ber_values.specs.Visible.{is_visible_octet}
use Rattle.bilateral.proofs.OfWords.VisibleWords.{IsVisible-from_identifier}
use Rattle.bilateral.proofs.Positions.{found}
use Rattle.bilateral.specs.declared.rows.Table.{Table}
use Rattle.bilateral.specs.Rows.{CentreRows, IsCentre, table_of, no_table}
use Rattle.tase_views.specs.View.{key_number}
use Rattle.tase_resume.proofs.RaisedHolds.{Offsets}

-- by the number of a key; the peer itself has 0
abbrev pub offsets_seen : CentreRows → ℕ → Offsets → Offsets
offsets_seen rows peer off number =
    if number == 0 then off peer
    else option_map_or off (position (λ (t : Table). key_number t.key == number) rows.tables) 0

-- keys of a centre's peers have different numbers, none of them 0

same_digits : (x y m n : ℕ) → x < 256 → y < 256 → 1 + x + 256 * m ≡ 1 + y + 256 * n
    → (x ≡ y) × (m ≡ n)
same_digits x y m n low high e = (omega arith, omega arith)

visible_is_octet : (x : ℕ) → is_visible_octet x ≡ true → x < 256
visible_is_octet x visible =
    let most : x ≤ 126 = leb-true x 126 (and_parts (nat_le 32 x) (nat_le x 126) visible).1 in
    omega arith

same_key_number : (a b : List ℕ) → list_all is_visible_octet a ≡ true
    → list_all is_visible_octet b ≡ true → key_number a ≡ key_number b → a ≡ b
same_key_number [] [] one other e = refl
same_key_number [] (y ∷ ys) one other e = absurd (omega arith)
same_key_number (x ∷ xs) [] one other e = absurd (omega arith)
same_key_number (x ∷ xs) (y ∷ ys) one other e =
    let first = and_parts (is_visible_octet x) (list_all is_visible_octet xs) one in
    let second = and_parts (is_visible_octet y) (list_all is_visible_octet ys) other in
    let digits = same_digits x y (key_number xs) (key_number ys) (visible_is_octet x first.0)
    (visible_is_octet y second.0) e in
    ap (λ (n : ℕ). n ∷ xs) digits.0
    ∙ ap (λ (l : List ℕ). y ∷ l) (same_key_number xs ys first.1 second.1 digits.1)

visible_key : (rows : CentreRows) (peer : ℕ) → IsCentre rows → peer < length rows.tables
    → list_all is_visible_octet (table_of rows peer).key ≡ true
visible_key rows peer lawful there =
    (IsVisible-from_identifier (table_of rows peer).key (lawful.tables peer no_table there).key).1

one_key : (rows : CentreRows) (a b : ℕ) → IsCentre rows → a < length rows.tables
    → b < length rows.tables
    → key_number (table_of rows a).key ≡ key_number (table_of rows b).key
    → a ≡ b
one_key rows a b lawful one other e =
    let same : (table_of rows a).key ≡ (table_of rows b).key =
    same_key_number (table_of rows a).key (table_of rows b).key (visible_key rows a lawful one)
    (visible_key rows b lawful other) e in
    ⊎_elim (λ equal. equal)
    (λ apart. ⊎_elim (λ below. absurd (lawful.keys a b no_table below other same))
    (λ above. absurd (lawful.keys b a no_table above one (sym same))) apart)
    (cases_order a b)

some_number : (key : List ℕ) → 0 < length key → key_number key ≡ 0 → ⊥
some_number [] some e = absurd (omega (arith, some))
some_number (octet ∷ key) some e = absurd (omega (arith, e))

some_length : (n : ℕ) → not (n == 0) ≡ true → 0 < n
some_length zero e = absurd (false≢true e)
some_length (suc n) e = omega arith

pub key_numbered : (rows : CentreRows) (peer : ℕ) → IsCentre rows → peer < length rows.tables
    → (key_number (table_of rows peer).key == 0) ≡ false
key_numbered rows peer lawful there =
    let parts = and_parts _ _ (lawful.tables peer no_table there).key in
    ne_eqb (key_number (table_of rows peer).key) 0
    (some_number (table_of rows peer).key
    (some_length (length (table_of rows peer).key) (and_parts _ _ parts.0).0))

pub offset_there : (rows : CentreRows) (peer : ℕ) (off : Offsets) (other : ℕ) → IsCentre rows
    → other < length rows.tables
    → offsets_seen rows peer off (key_number (table_of rows other).key) ≡ off other
offset_there rows peer off other lawful there =
    let wanted = key_number (table_of rows other).key in
    rw (
      key_numbered rows other lawful there,
      found (λ (t : Table). key_number t.key == wanted) rows.tables other no_table there
          (eq-eqb wanted wanted refl)
          (λ k early. ne_eqb (key_number (table_of rows k).key) wanted
          (λ e. let below : k < length rows.tables = omega (arith, early, there) in
          let same : k ≡ other = one_key rows k other lawful below there e in
          omega (arith, same, early))),
    ) refl
