-- What a lawful centre says of the points that its tables name, and of the table in force.
use Rattle.std.proofs.Common.{◌≡◌, ◌==◌, ℕ, ◌<◌, true, false, [], length, get_or, Option, Some}
use Rattle.std.proofs.Common.{None, is_some, bytes_eq, refl, sym, subst, ◌∙◌, ⊎_elim, arith}
use Rattle.std.proofs.Common.{eqb-true, eq-eqb}
use Rattle.std.specs.List.{All}
use Rattle.std.proofs.lemmas.Bool.{cases_lt, cases_order, false_from_ne_true, ne_eqb, false≢true}
use Rattle.std.proofs.lemmas.List.{get_or-map, get_or_past}
use Rattle.std.proofs.lemmas.List.Elements.{All-cons}
use Rattle.std.proofs.lemmas.List.Folds.{list_any_at, Any-from_list_any}
use Rattle.std.proofs.lemmas.List.Quantifiers.{position-Some}
use Rattle.std.proofs.lemmas.Slice.Eq.{bytes_eq-Decides}
use Rattle.bilateral.specs.declared.rows.See.{See}
use Rattle.bilateral.specs.declared.rows.Table.{Table}
use Rattle.bilateral.specs.Rows.{CentreRows, IsCentre, IsTable, no_table, no_point, table_of}
use Rattle.bilateral.specs.Rows.{further_of, variants_of, variant_of, point_of, place_of_see}
use Rattle.tase_views.specs.OwnTables.{own_table, own_tables, no_own_table, table_in, is_point_of}
use Rattle.node_core.specs.Objects.Found.{IsThere, table_at, offered}

pub some_of : {A : Type 0} (o : Option A) → is_some o ≡ true → (x : A) × (o ≡ Some x)
some_of None e = absurd (false≢true e)
some_of (Some x) e = (x, refl)

pub no_see : See
no_see = record { point = 0; vmd = false; layout = [] }

-- ---- the tables of a peer

pub table_is_lawful : (rows : CentreRows) (peer : ℕ) → IsCentre rows → peer < length rows.tables
    → IsTable (length rows.points) (table_of rows peer)
table_is_lawful rows peer lawful there = lawful.tables peer no_table there

pub further_are_lawful : (rows : CentreRows) (peer : ℕ) → IsCentre rows
    → All (IsTable (length rows.points)) (further_of rows peer)
further_are_lawful rows peer lawful = (lawful.further peer).tables

pub variant_is_lawful : (rows : CentreRows) (peer variant : ℕ) → IsThere rows peer variant
    → IsTable (length rows.points) (variant_of rows peer variant)
variant_is_lawful rows peer variant at =
    All-cons (IsTable (length rows.points)) (table_of rows peer) (further_of rows peer)
    (table_is_lawful rows peer at.lawful at.known) (further_are_lawful rows peer at.lawful)
    variant no_table at.there

-- the table with a number is offered so
pub offered-at : (rows : CentreRows) (peer variant : ℕ) → variant < length (variants_of rows peer)
    → offered (table_at rows peer variant) ≡ table_in (own_tables rows peer) variant
offered-at rows peer variant there =
    sym (get_or-map (own_table rows) (variants_of rows peer) variant no_table no_own_table there)

-- ---- the points that tables name

-- a point that one of the peer's tables names is one of the peer's
pub named_by_variant : (rows : CentreRows) (peer variant p : ℕ)
    → variant < length (variants_of rows peer)
    → is_some (place_of_see (variant_of rows peer variant) p) ≡ true
    → is_point_of rows peer p ≡ true
named_by_variant rows peer variant p there named =
    list_any_at (λ (table : Table). is_some (place_of_see table p)) (variants_of rows peer) variant
    no_table there named

-- the rows of a table are of points that are there
abbrev pub HasPoints : ℕ → Table → Type 0
HasPoints n table = All (λ see. see.point < n) table.sees

-- a point that such a table names is there
pub named_is_there : (n : ℕ) (table : Table) (p : ℕ) → HasPoints n table
    → is_some (place_of_see table p) ≡ true → p < n
named_is_there n table p known named =
    let place = some_of (place_of_see table p) named in
    let at = position-Some (λ see. see.point == p) table.sees place.0 no_see place.1 in
    let same : (get_or table.sees place.0 no_see).point ≡ p = eqb-true _ _ at.1 in
    let below : (get_or table.sees place.0 no_see).point < n = known place.0 no_see at.0 in
    omega arith

own_points : (rows : CentreRows) (peer : ℕ) → IsCentre rows
    → HasPoints (length rows.points) (table_of rows peer)
own_points rows peer lawful =
    ⊎_elim (λ there. (table_is_lawful rows peer lawful there).known)
    (λ past. let none : table_of rows peer ≡ no_table =
    get_or_past rows.tables peer no_table past in
    rw none (λ k d within. absurd (omega (arith, within))))
    (cases_lt peer (length rows.tables))

-- so each of a peer's points is, whether or not there is such a peer
pub point_is_there : (rows : CentreRows) (peer p : ℕ) → IsCentre rows
    → is_point_of rows peer p ≡ true → p < length rows.points
point_is_there rows peer p lawful named =
    let at = Any-from_list_any (λ (table : Table). is_some (place_of_see table p))
    (variants_of rows peer) named in
    let all : All (HasPoints (length rows.points)) (variants_of rows peer) =
    All-cons (HasPoints (length rows.points)) (table_of rows peer) (further_of rows peer)
    (own_points rows peer lawful)
    (λ k d within. (further_are_lawful rows peer lawful k d within).known) in
    named_is_there (length rows.points) at.1 p
    (subst (HasPoints (length rows.points)) at.3 (all at.0 at.1 at.2)) at.4

-- points have one name exactly where they have one number
pub bytes_eq-names : (rows : CentreRows) (i j : ℕ) → IsCentre rows → i < length rows.points
    → j < length rows.points → bytes_eq (point_of rows i).name (point_of rows j).name ≡ (i == j)
bytes_eq-names rows i j lawful i_there j_there =
    let decides = bytes_eq-Decides (point_of rows i).name (point_of rows j).name in
    ⊎_elim
    (λ same. let name : (point_of rows i).name ≡ (point_of rows j).name =
    rw same refl in decides.1 name ∙ sym (eq-eqb i j same))
    (λ apart.
    ⊎_elim
    (λ below. false_from_ne_true _ (λ e. lawful.names i j no_point below j_there (decides.0 e))
    ∙ sym (ne_eqb i j (omega arith)))
    (λ above. false_from_ne_true _ (λ e. lawful.names j i no_point above i_there
    (sym (decides.0 e))) ∙ sym (ne_eqb i j (omega arith)))
    apart)
    (cases_order i j)
