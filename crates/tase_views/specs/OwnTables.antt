-- A peer's own tables: what its bilateral tables name, and nothing else of the centre.
use Rattle.std.specs.Prelude.{ℕ, Bool, false, not, ◌&&◌, List, [], map, flat_map, Option, bytes_eq}
use Rattle.std.specs.Prelude.{slice_index_or, is_some, find}
use Rattle.std.specs.List.{list_any}
use Rattle.std.specs.Option.{option_map_or}
use Rattle.tase_points.specs.declared.kind.Kind.{Kind}
use Rattle.tase_points.specs.declared.layout.Component.{Component}
use Rattle.mms_data.specs.declared.object_name.Scope.{Scope}
use Rattle.mms_data.specs.declared.object_name.Scope.TheVariants.{Vmd, Domain, Association}
use Rattle.mms_data.specs.ObjectName.{ObjectName}
use Rattle.bilateral.specs.declared.rows.See.{See}
use Rattle.bilateral.specs.declared.rows.Control.{Control}
use Rattle.bilateral.specs.declared.rows.DeviceRow.{DeviceRow}
use Rattle.bilateral.specs.declared.rows.Table.{Table}
use Rattle.bilateral.specs.Rows.{CentreRows, variants_of, point_of, device_of}
use Rattle.bilateral.specs.Rows.{place_of_see}
use Rattle.sbo_device.specs.Moves.{ControlPoint}

-- a point as a peer knows it: by name, with its kind, where it is found, and how it is shown
pub record OwnPoint : Type 0 where
  pub name : List ℕ
  pub kind : Kind
  pub vmd : Bool
  pub layout : List Component

-- a device as a peer knows it: its row, and whether the peer may tag it
pub record OwnDevice : Type 0 where
  pub row : DeviceRow
  pub tag : Bool

-- the domain, the table's identifier, its points and devices, how many transfer sets it offers and
-- how many data sets it allows
pub record OwnTable : Type 0 where
  pub domain : List ℕ
  pub id : List ℕ
  pub points : List OwnPoint
  pub devices : List OwnDevice
  pub slots : ℕ
  pub sets : ℕ

-- a peer's tables, of which one at a time is in force; the first is that at the start
pub record OwnTables : Type 0 where
  pub tables : List OwnTable

abbrev pub own_point : CentreRows → See → OwnPoint
own_point rows see =
    record {
      name = (point_of rows see.point).name;
      kind = (point_of rows see.point).kind;
      vmd = see.vmd;
      layout = see.layout;
    }

abbrev pub own_device : CentreRows → Control → OwnDevice
own_device rows control = record { row = device_of rows control.device; tag = control.tag }

-- what a table names
abbrev pub own_table : CentreRows → Table → OwnTable
own_table rows table =
    record {
      domain = table.domain;
      id = table.id;
      points = map (own_point rows) table.sees;
      devices = map (own_device rows) table.controls;
      slots = table.slots;
      sets = table.sets;
    }

-- the tables of each peer, by its number
abbrev pub Owns : Type 0
Owns = ℕ → OwnTables

abbrev pub own_tables : CentreRows → Owns
own_tables rows peer = record { tables = map (own_table rows) (variants_of rows peer) }

-- a table without anything, where none stands
abbrev pub no_own_table : OwnTable
no_own_table = record {
  domain = [];
  id = [];
  points = [];
  devices = [];
  slots = 0;
  sets = 0;
}

-- the table with a number
abbrev pub table_in : OwnTables → ℕ → OwnTable
table_in own variant = slice_index_or own.tables variant no_own_table

-- whether a table of the peer has a row for the point with this number
abbrev pub is_point_of : CentreRows → ℕ → ℕ → Bool
is_point_of rows peer point =
    list_any (λ (table : Table). is_some (place_of_see table point)) (variants_of rows peer)

-- the device with this name, as the first of the tables has it that names it
abbrev pub device_named : OwnTables → List ℕ → Option OwnDevice
device_named own name =
    find (λ d. bytes_eq d.row.name name) (flat_map (λ (table : OwnTable). table.devices) own.tables)

-- whether the tables name a device of this name that isn't direct
abbrev pub is_selectable : OwnTables → List ℕ → Bool
is_selectable own name = option_map_or (λ d. not d.row.direct) (device_named own name) false

-- what a device takes, whether it is direct, and its span
abbrev pub control_of : OwnDevice → ControlPoint
control_of d = record { kind = d.row.kind; direct = d.row.direct; span = d.row.span }

-- whether a scope is where an object is found: the whole device, or the table's domain
abbrev pub is_scope_of : OwnTable → Scope → Bool → Bool
is_scope_of table Vmd vmd = vmd
is_scope_of table (Domain domain) vmd = not vmd && bytes_eq domain table.domain
is_scope_of table Association vmd = false

-- a name in the table's domain
abbrev pub domain_name : OwnTable → List ℕ → ObjectName
domain_name table item = record { scope = Domain table.domain; item = item }
