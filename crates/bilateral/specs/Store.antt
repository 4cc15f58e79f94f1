-- The rows of a centre with the indexes beside them.
use Rattle.std.specs.Prelude.{◌≡◌, ℕ, ◌<◌, ◌-◌, List, length, map, drop, slice_index_or, All}
use Rattle.bilateral.specs.declared.store.Store.{Store}
use Rattle.bilateral.specs.declared.rows.Table.{Table}
use Rattle.bilateral.specs.Rows.{CentreRows, IsCentre, place_of_see, place_of_control, variant_of}
use Rattle.bilateral.specs.Rows.{no_table}
use Rattle.bilateral.specs.Index.{names_in, row_by}
use Rattle.bilateral.specs.Reading.{SoFar}

-- the tables of each peer, the own one first
abbrev pub tables_in : Store → List (List Table)
tables_in store = map (λ tables. tables.items) store.tables.items

-- the own one of a peer's tables
abbrev pub own_of : List Table → Table
own_of tables = slice_index_or tables 0 no_table

-- the last of a peer's tables
abbrev pub last_in : List Table → Table
last_in tables = slice_index_or tables (length tables - 1) no_table

-- the rows themselves
abbrev pub rows_of : Store → CentreRows
rows_of store = record {
  points = store.points.items;
  devices = store.devices.items;
  tables = map own_of (tables_in store);
  variants = map (drop 1) (tables_in store);
}

-- the rows, the peer to whose last table lines go, and the limits that this table was given
abbrev pub so_far : Store → SoFar
so_far store = record { rows = rows_of store; peer = store.peer; given = store.given }

-- the sets have the names and keys of the rows, in their order
pub record HasNames (store : Store) : Type 0 where
  pub points : names_in store.point_names ≡ map (λ row. row.name) store.points.items
  pub devices : names_in store.device_names ≡ map (λ row. row.name) store.devices.items
  pub keys : names_in store.keys ≡ map (λ table. table.key) (rows_of store).tables

-- lawful rows, and indexes that find what a search over all rows finds
pub record IsStore (store : Store) : Type 0 where
  pub lawful : IsCentre (rows_of store)
  pub names : HasNames store
  -- each peer has its own table, and lines go to the last table of one that is there
  pub owned : All (λ tables. 0 < length tables) (tables_in store)
  pub peer : 0 < length store.tables.items → store.peer < length store.tables.items
  pub sees : (peer variant point : ℕ)
      → row_by store.sees peer variant point
      ≡ place_of_see (variant_of (rows_of store) peer variant) point
  pub controls : (peer variant device : ℕ)
      → row_by store.controls peer variant device
      ≡ place_of_control (variant_of (rows_of store) peer variant) device
