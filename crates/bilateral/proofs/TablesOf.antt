-- Peers by the lists of their tables, the own one first.
use Rattle.std.proofs.Common.{◌≡◌, ℕ, suc, ◌-◌, ◌<◌, List, [], ◌∷◌, ◌++◌, length, map, drop, get_or}
use Rattle.std.proofs.Common.{set, refl, sym, ap, ◌∙◌, arith, Vec, Global, position}
use Rattle.std.proofs.Common.{Option, bytes_eq}
use Rattle.std.proofs.Math.Seq.{map-set_same, map-set}
use Rattle.std.proofs.lemmas.List.{get_or-map}
use Rattle.bilateral.specs.declared.rows.PointRow.{PointRow}
use Rattle.bilateral.specs.declared.rows.DeviceRow.{DeviceRow}
use Rattle.bilateral.specs.declared.rows.Table.{Table}
use Rattle.bilateral.specs.Rows.{CentreRows, no_table, table_of, further_of, variants_of}
use Rattle.bilateral.specs.Reading.{last_table, with_last, with_last_of, set_last, with_further}
use Rattle.bilateral.specs.Spelling.{last_or}
use Rattle.bilateral.specs.Store.{own_of, last_in}
use Rattle.bilateral.proofs.Lasts.{rows_by}
use Rattle.bilateral.proofs.Grown.{last-at}
use Rattle.bilateral.proofs.Names.{position-mapped}
use Rattle.std.specs.Option.{option_eq}

-- the rows of points, devices and the tables of each peer
abbrev pub rows_in : List PointRow → List DeviceRow → List (List Table) → CentreRows
rows_in points devices peers = rows_by points devices (map own_of peers) (map (drop 1) peers)

whole : (tables : List Table) → 0 < length tables → own_of tables ∷ drop 1 tables ≡ tables
whole [] some = absurd (omega arith)
whole (x ∷ more) some = refl

last_whole : (tables : List Table) → 0 < length tables
    → last_or (own_of tables) (drop 1 tables) ≡ last_in tables
last_whole [] some = absurd (omega arith)
last_whole (x ∷ more) some =
    last-at x more ∙ ap (λ n. get_or (x ∷ more) n no_table) (omega arith)

last_place : (x y : Table) (more : List Table)
    → length (x ∷ y ∷ more) - 1 ≡ suc (length (y ∷ more) - 1)
last_place x y more = omega arith

module _ (points : List PointRow) (devices : List DeviceRow) (peers : List (List Table)) (n : ℕ)
    (below : n < length peers) where
  pub own_is : table_of (rows_in points devices peers) n ≡ own_of (get_or peers n [])
  own_is = get_or-map own_of peers n [] no_table below

  pub further_is : further_of (rows_in points devices peers) n ≡ drop 1 (get_or peers n [])
  further_is = get_or-map (drop 1) peers n [] [] below

  pub variants_are : 0 < length (get_or peers n [])
      → variants_of (rows_in points devices peers) n ≡ get_or peers n []
  variants_are some =
      ap (λ own. own ∷ further_of (rows_in points devices peers) n) own_is
      ∙ ap (λ further. own_of (get_or peers n []) ∷ further) further_is
      ∙ whole (get_or peers n []) some

  pub last_is : 0 < length (get_or peers n [])
      → last_table (rows_in points devices peers) n ≡ last_in (get_or peers n [])
  last_is some =
      ap (λ own. last_or own (further_of (rows_in points devices peers) n)) own_is
      ∙ ap (last_or (own_of (get_or peers n []))) further_is
      ∙ last_whole (get_or peers n []) some

  set_by : (tables : List Table) (t : Table) → get_or peers n [] ≡ tables → 0 < length tables
      → rows_in points devices (set peers n (set_last tables t))
      ≡ with_last (rows_in points devices peers) n t
  set_by [] t is some = absurd (omega arith)
  set_by (x ∷ []) t is some =
      ap (λ ts. rows_by points devices ts (map (drop 1) (set peers n (t ∷ []))))
      (map-set own_of peers n (t ∷ []))
      ∙ ap (rows_by points devices (set (map own_of peers) n t))
      (map-set_same (drop 1) peers n (t ∷ []) [] (sym (ap (drop 1) is)))
      ∙ ap (λ further. with_last_of (rows_in points devices peers) n further t)
      (sym (further_is ∙ ap (drop 1) is))
  set_by (x ∷ y ∷ more) t is some =
      ap (λ ts. rows_in points devices (set peers n ts))
      (ap (λ k. set (x ∷ y ∷ more) k t) (last_place x y more))
      ∙ ap (λ ts. rows_by points devices ts
      (map (drop 1) (set peers n (x ∷ set_last (y ∷ more) t))))
      (map-set_same own_of peers n (x ∷ set_last (y ∷ more) t) [] (sym (ap own_of is)))
      ∙ ap (rows_by points devices (map own_of peers))
      (map-set (drop 1) peers n (x ∷ set_last (y ∷ more) t))
      ∙ ap (λ further. with_last_of (rows_in points devices peers) n further t)
      (sym (further_is ∙ ap (drop 1) is))

  -- another last table of a peer
  pub rows-set_last : (t : Table) → 0 < length (get_or peers n [])
      → rows_in points devices (set peers n (set_last (get_or peers n []) t))
      ≡ with_last (rows_in points devices peers) n t
  rows-set_last t some = set_by (get_or peers n []) t refl some

  push_by : (tables : List Table) (t : Table) → get_or peers n [] ≡ tables → 0 < length tables
      → rows_in points devices (set peers n (tables ++ t ∷ []))
      ≡ with_further (rows_in points devices peers) n t
  push_by [] t is some = absurd (omega arith)
  push_by (x ∷ more) t is some =
      ap (λ ts. rows_by points devices ts (map (drop 1) (set peers n (x ∷ (more ++ t ∷ [])))))
      (map-set_same own_of peers n (x ∷ (more ++ t ∷ [])) [] (sym (ap own_of is)))
      ∙ ap (rows_by points devices (map own_of peers))
      (map-set (drop 1) peers n (x ∷ (more ++ t ∷ [])))
      ∙ ap (λ further. rows_by points devices (map own_of peers)
      (set (map (drop 1) peers) n (further ++ t ∷ [])))
      (sym (further_is ∙ ap (drop 1) is))

  -- a further table of a peer
  pub rows-push : (t : Table) → 0 < length (get_or peers n [])
      → rows_in points devices (set peers n (get_or peers n [] ++ t ∷ []))
      ≡ with_further (rows_in points devices peers) n t
  rows-push t some = push_by (get_or peers n []) t refl some

-- the place of a title among own tables
pub title_place : (tables : List (Vec Table Global)) (title : Option (List ℕ))
    → position (λ (ts : Vec Table Global). option_eq bytes_eq (own_of ts.items).title title) tables
    ≡ position (λ (t : Table). option_eq bytes_eq t.title title)
    (map own_of (map (λ (ts : Vec Table Global). ts.items) tables))
title_place tables title =
    sym (position-mapped own_of (λ (t : Table). option_eq bytes_eq t.title title)
    (λ (ts : List Table). option_eq bytes_eq (own_of ts).title title) (λ ts. refl)
    (map (λ (ts : Vec Table Global). ts.items) tables)
    ∙ position-mapped (λ (ts : Vec Table Global). ts.items)
    (λ (ts : List Table). option_eq bytes_eq (own_of ts).title title)
    (λ (ts : Vec Table Global). option_eq bytes_eq (own_of ts.items).title title) (λ ts. refl)
    tables)

-- the lists of vectors, of which one was changed
abbrev pub lists : List (Vec Table Global) → List (List Table)
lists tables = map (λ ts. ts.items) tables

pub list_at : (tables : List (Vec Table Global)) (n : ℕ) (d : Vec Table Global) → n < length tables
    → get_or (lists tables) n [] ≡ (get_or tables n d).items
list_at tables n d below = get_or-map (λ (ts : Vec Table Global). ts.items) tables n d [] below

pub lists-set : (old new : List (Vec Table Global)) (n : ℕ) (changed : Vec Table Global)
    (items : List Table) → new ≡ set old n changed → changed.items ≡ items
    → lists new ≡ set (lists old) n items
lists-set old new n changed items same is =
    ap lists same ∙ map-set (λ (ts : Vec Table Global). ts.items) old n changed
    ∙ ap (set (lists old) n) is
