-- The last table of a peer, and another one in its place.
use Rattle.std.proofs.Common.{◌≡◌, ℕ, List, [], ◌∷◌, ◌++◌, length, get_or, set, refl, ap, ◌∙◌}
use Rattle.std.proofs.Common.{arith}
use Rattle.std.proofs.lemmas.List.{length_push, get_or_push, set_at}
use Rattle.bilateral.specs.declared.rows.PointRow.{PointRow}
use Rattle.bilateral.specs.declared.rows.DeviceRow.{DeviceRow}
use Rattle.bilateral.specs.declared.rows.Table.{Table}
use Rattle.bilateral.specs.Rows.{CentreRows, no_table, table_of, further_of}
use Rattle.bilateral.specs.Reading.{last_table, with_last, with_last_of, set_last}
use Rattle.bilateral.specs.Spelling.{last_or}
use Rattle.bilateral.proofs.Sections.{last_or-push}

abbrev pub rows_by : List PointRow → List DeviceRow → List Table → List (List Table) → CentreRows
rows_by points devices tables variants =
    record { points = points; devices = devices; tables = tables; variants = variants }

-- the own table of the last of some peers, which has no further one
module _ (points : List PointRow) (devices : List DeviceRow) (tables : List Table)
    (variants : List (List Table)) (n : ℕ) (tables_long : length tables ≡ n)
    (variants_long : length variants ≡ n) where
  pub last_own_is : (x : Table)
      → last_table (rows_by points devices (tables ++ x ∷ []) (variants ++ [] ∷ [])) n ≡ x
  last_own_is x =
      ap (last_or (get_or (tables ++ x ∷ []) n no_table)) (get_or_push variants [] [] n variants_long)
      ∙ get_or_push tables x no_table n tables_long

  pub with_last_own : (x t : Table)
      → with_last (rows_by points devices (tables ++ x ∷ []) (variants ++ [] ∷ [])) n t
      ≡ rows_by points devices (tables ++ t ∷ []) (variants ++ [] ∷ [])
  with_last_own x t =
      ap (λ further. with_last_of
      (rows_by points devices (tables ++ x ∷ []) (variants ++ [] ∷ [])) n further t)
      (get_or_push variants [] [] n variants_long)
      ∙ ap (λ ts. rows_by points devices ts (variants ++ [] ∷ []))
      (set_at tables x [] t n tables_long)

pub set_last-push : {A : Type 0} (xs : List A) (x t : A)
    → set_last (xs ++ x ∷ []) t ≡ xs ++ t ∷ []
set_last-push xs x t =
    ap (λ k. set (xs ++ x ∷ []) k t) (omega (arith, length_push xs x))
    ∙ set_at xs x [] t (length xs) refl

-- the last of a peer's further tables
pub last_further_is : (rows : CentreRows) (peer : ℕ) (further : List Table) (x : Table)
    → further_of rows peer ≡ further ++ x ∷ [] → last_table rows peer ≡ x
last_further_is rows peer further x same =
    ap (last_or (table_of rows peer)) same ∙ last_or-push further x (table_of rows peer)

with_last_of-push : (rows : CentreRows) (peer : ℕ) (further : List Table) (x t : Table)
    → with_last_of rows peer (further ++ x ∷ []) t
    ≡ record rows { variants = set rows.variants peer (further ++ t ∷ []) }
with_last_of-push rows peer [] x t =
    ap (λ ts. record rows { variants = set rows.variants peer ts }) (set_last-push [] x t)
with_last_of-push rows peer (y ∷ further) x t =
    ap (λ ts. record rows { variants = set rows.variants peer ts }) (set_last-push (y ∷ further) x t)

pub with_last_further : (rows : CentreRows) (peer : ℕ) (further : List Table) (x t : Table)
    → further_of rows peer ≡ further ++ x ∷ []
    → with_last rows peer t ≡ record rows { variants = set rows.variants peer (further ++ t ∷ []) }
with_last_further rows peer further x t same =
    ap (λ ts. with_last_of rows peer ts t) same ∙ with_last_of-push rows peer further x t
