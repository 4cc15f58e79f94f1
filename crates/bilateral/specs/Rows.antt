-- What a centre's tables hold, and where its rows stand.
use Rattle.std.specs.Prelude.{◌≡◌, ◌≢◌, ◌==◌, ℕ, ◌<◌, ◌≤◌, false, List, [], ◌∷◌, length}
use Rattle.std.specs.Prelude.{slice_index_or, All, AllPairs, IsTrue, Option, None, pos, position}
use Rattle.std.specs.Prelude.{bytes_eq}
use Rattle.std.specs.Option.{option_eq}
use Rattle.sbo_device.specs.declared.kind.CommandKind.TheVariants.{Command}
use Rattle.bilateral.specs.declared.rows.PointRow.{PointRow}
use Rattle.bilateral.specs.declared.rows.DeviceRow.{DeviceRow}
use Rattle.bilateral.specs.declared.rows.Table.{Table}
use Rattle.bilateral.specs.declared.rows.TheConstants.{DEVICE_LIMIT, PEER_LIMIT, POINT_LIMIT}
use Rattle.sbo_device.specs.declared.device.TheConstants.{SPAN_LIMIT}
use Rattle.bilateral.specs.declared.rows.TheConstants.{SEE_LIMIT, SLOT_LIMIT, VARIANT_LIMIT}
use Rattle.bilateral.specs.declared.rows.TheConstants.{SLOT_DEFAULT, SET_LIMIT, SET_DEFAULT}
use Rattle.bilateral.specs.declared.rows.TheConstants.{PENDING_LEAST, PENDING_LIMIT}
use Rattle.bilateral.specs.declared.rows.TheConstants.{PENDING_DEFAULT}
use Rattle.tase_points.specs.declared.kind.Kind.TheVariants.{State}
use Rattle.tase_points.specs.Layouts.{IsLayout}
use Rattle.bilateral.specs.Words.Words.{is_name, is_identifier, IsTitle}
use Rattle.bilateral.specs.Words.Devices.{IsDeviceLine}
use Rattle.bilateral.specs.Lines.{form_of}

-- the points and devices of a centre and its peers' bilateral tables, each numbered from 0 in the
-- order of the file. Beside its own table a peer may have further ones, also in this order
pub record CentreRows : Type 0 where
  pub points : List PointRow
  pub devices : List DeviceRow
  pub tables : List Table
  pub variants : List (List Table)

-- the number of the point with this name
abbrev pub place_of_point : CentreRows → List ℕ → Option ℕ
place_of_point rows name = position (λ row. bytes_eq row.name name) rows.points

-- the number of the device with this name
abbrev pub place_of_device : CentreRows → List ℕ → Option ℕ
place_of_device rows name = position (λ row. bytes_eq row.name name) rows.devices

-- the number of the peer with this key
abbrev pub place_of_peer : CentreRows → List ℕ → Option ℕ
place_of_peer rows key = position (λ table. bytes_eq table.key key) rows.tables

-- the number of the peer with this title; without one, of the peer that has none
abbrev pub place_of_title : CentreRows → Option (List ℕ) → Option ℕ
place_of_title rows title = position (λ table. option_eq bytes_eq table.title title) rows.tables

-- where a table has its row for a point
abbrev pub place_of_see : Table → ℕ → Option ℕ
place_of_see table point = position (λ see. see.point == point) table.sees

-- where a table has its row for a device
abbrev pub place_of_control : Table → ℕ → Option ℕ
place_of_control table device = position (λ control. control.device == device) table.controls

-- a device: a name, a range in order, and a span unless it is direct
pub record IsDevice (row : DeviceRow) : Type 0 where
  pub named : IsTrue (is_name row.name)
  pub form : IsDeviceLine (form_of row)
  pub some_span : row.direct ≡ false → 1 ≤ row.span
  pub span : row.span ≤ SPAN_LIMIT

-- the rows of one table: points that are there, none twice, each with a layout; identifiers, a
-- title that a word can spell, and limits
pub record IsTable (point_count : ℕ) (table : Table) : Type 0 where
  pub known : All (λ see. see.point < point_count) table.sees
  pub once : AllPairs (λ a b. a.point ≢ b.point) table.sees
  pub limit : length table.sees ≤ SEE_LIMIT
  pub layouts : All (λ see. IsLayout see.layout) table.sees
  pub key : IsTrue (is_identifier table.key)
  pub title : IsTitle table.title
  pub domain : IsTrue (is_identifier table.domain)
  pub id : IsTrue (is_identifier table.id)
  pub slots_least : 1 ≤ table.slots
  pub slots : table.slots ≤ SLOT_LIMIT
  pub sets_least : 1 ≤ table.sets
  pub sets : table.sets ≤ SET_LIMIT
  pub pending_least : PENDING_LEAST ≤ table.pending
  pub pending : table.pending ≤ PENDING_LIMIT

-- the rows of one table for devices: devices that are there, none twice
pub record IsControlling (device_count : ℕ) (table : Table) : Type 0 where
  pub known : All (λ control. control.device < device_count) table.controls
  pub once : AllPairs (λ a b. a.device ≢ b.device) table.controls
  pub limit : length table.controls ≤ DEVICE_LIMIT

-- a further table of a peer has the key, the title and the pending octets of its own one
pub record IsVariant (own table : Table) : Type 0 where
  pub key : table.key ≡ own.key
  pub title : table.title ≡ own.title
  pub pending : table.pending ≡ own.pending

-- the further tables of a peer with this own one
pub record AreVariants (point_count device_count : ℕ) (own : Table) (further : List Table)
    : Type 0 where
  pub tables : All (IsTable point_count) further
  pub controls : All (IsControlling device_count) further
  pub alike : All (IsVariant own) further
  pub limit : length further ≤ VARIANT_LIMIT

-- a table without anything, where no table stands
abbrev pub no_table : Table
no_table = record {
  key = [];
  title = None;
  domain = [];
  id = [];
  sees = [];
  controls = [];
  slots = SLOT_DEFAULT;
  sets = SET_DEFAULT;
  pending = PENDING_DEFAULT;
}

-- a further table of a peer without rows, and with the limits where nothing is said
abbrev pub new_variant : Table → List ℕ → List ℕ → Table
new_variant own domain id = record own {
  domain = domain;
  id = id;
  sees = [];
  controls = [];
  slots = SLOT_DEFAULT;
  sets = SET_DEFAULT;
}

-- the peer's own table
abbrev pub table_of : CentreRows → ℕ → Table
table_of rows peer = slice_index_or rows.tables peer no_table

-- the peer's further tables
abbrev pub further_of : CentreRows → ℕ → List Table
further_of rows peer = slice_index_or rows.variants peer []

-- all tables of the peer, the own one first
abbrev pub variants_of : CentreRows → ℕ → List Table
variants_of rows peer = table_of rows peer ∷ further_of rows peer

-- one of the peer's tables
abbrev pub variant_of : CentreRows → ℕ → ℕ → Table
variant_of rows peer variant = slice_index_or (variants_of rows peer) variant no_table

-- what every centre keeps: names, keys and titles that differ, and lawful names and tables
pub record IsCentre (rows : CentreRows) : Type 0 where
  pub names : AllPairs (λ a b. a.name ≢ b.name) rows.points
  pub named : All (λ row. IsTrue (is_name row.name)) rows.points
  pub device_names : AllPairs (λ a b. a.name ≢ b.name) rows.devices
  pub devices : All IsDevice rows.devices
  -- no device is named as a point
  pub apart : All (λ device. All (λ point. point.name ≢ device.name) rows.points) rows.devices
  pub keys : AllPairs (λ a b. a.key ≢ b.key) rows.tables
  pub titles : AllPairs (λ a b. a.title ≢ b.title) rows.tables
  pub tables : All (IsTable (length rows.points)) rows.tables
  pub controls : All (IsControlling (length rows.devices)) rows.tables
  pub variants : length rows.variants ≡ length rows.tables
  pub further : (peer : ℕ)
      → AreVariants (length rows.points) (length rows.devices) (table_of rows peer)
      (further_of rows peer)
  pub point_limit : length rows.points ≤ POINT_LIMIT
  pub device_limit : length rows.devices ≤ DEVICE_LIMIT
  pub peer_limit : length rows.tables ≤ PEER_LIMIT

-- a point without a name, where no point stands
abbrev pub no_point : PointRow
no_point = record { name = []; kind = State }

-- a device without a name, where no device stands
abbrev pub no_device : DeviceRow
no_device = record { name = []; kind = Command; direct = false; checkback = pos 0; span = 0 }

-- the point's row
abbrev pub point_of : CentreRows → ℕ → PointRow
point_of rows point = slice_index_or rows.points point no_point

-- the device's row
abbrev pub device_of : CentreRows → ℕ → DeviceRow
device_of rows device = slice_index_or rows.devices device no_device
