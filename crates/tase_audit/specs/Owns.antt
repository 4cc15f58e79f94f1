-- What a centre's tables say of a peer, by names and by nothing else of the centre, and whether the
-- tables of two centres say the same.
use Rattle.std.specs.Prelude.{◌≡◌, ℕ, ◌<◌, ◌==◌, ◌&&◌, Bool, true, false, List, length, Option}
use Rattle.std.specs.Prelude.{Some, bytes_eq}
use Rattle.std.specs.List.{All}
use Rattle.std.specs.Option.{option_eq}
use Rattle.std.specs.Ordering.{int_eq}
use Rattle.std.specs.Cmp.Lexicographic.{pointwise}
use Rattle.std.proofs.Math.Bool.{beq}
use Rattle.tase_points.specs.Same.{same_kind, same_component}
use Rattle.sbo_device.specs.declared.kind.CommandKind.{CommandKind}
use Rattle.sbo_device.specs.declared.kind.CommandKind.TheVariants.{Command, Setpoint}
use Rattle.bilateral.specs.declared.rows.DeviceRow.{DeviceRow}
use Rattle.bilateral.specs.declared.rows.Table.{Table}
use Rattle.bilateral.specs.Rows.{CentreRows, table_of, place_of_peer}
use Rattle.tase_views.specs.OwnTables.{OwnPoint, OwnDevice, OwnTable, OwnTables, own_tables}

-- the title by which a peer calls, how many octets may wait for it, and its own tables
pub record PeerTerms : Type 0 where
  pub title : Option (List ℕ)
  pub pending : ℕ
  pub tables : OwnTables

-- what the tables of a centre say of the peer with this number
abbrev pub own_terms : CentreRows → ℕ → PeerTerms
own_terms rows peer =
    record {
      title = (table_of rows peer).title;
      pending = (table_of rows peer).pending;
      tables = own_tables rows peer;
    }

abbrev pub same_command : CommandKind → CommandKind → Bool
same_command Command Command = true
same_command (Setpoint low high) (Setpoint least most) = int_eq low least && int_eq high most
same_command _ _ = false

-- whether two rows of devices are one
abbrev pub same_device_row : DeviceRow → DeviceRow → Bool
same_device_row a b =
    bytes_eq a.name b.name && (same_command a.kind b.kind && (beq a.direct b.direct
    && (int_eq a.checkback b.checkback && (a.span == b.span))))

abbrev pub same_own_device : OwnDevice → OwnDevice → Bool
same_own_device a b = same_device_row a.row b.row && beq a.tag b.tag

-- whether two points as peers know them are one
abbrev pub same_own_point : OwnPoint → OwnPoint → Bool
same_own_point a b =
    bytes_eq a.name b.name && (same_kind a.kind b.kind && (beq a.vmd b.vmd
    && pointwise same_component a.layout b.layout))

-- whether two tables name the same, in the same order
abbrev pub same_own_table : OwnTable → OwnTable → Bool
same_own_table a b =
    bytes_eq a.domain b.domain && (bytes_eq a.id b.id
    && (pointwise same_own_point a.points b.points
    && (pointwise same_own_device a.devices b.devices
    && ((a.slots == b.slots) && (a.sets == b.sets)))))

-- whether two centres' tables say the same of a peer
abbrev pub same_terms : PeerTerms → PeerTerms → Bool
same_terms a b =
    option_eq bytes_eq a.title b.title && ((a.pending == b.pending)
    && pointwise same_own_table a.tables.tables b.tables.tables)

abbrev pub same_owns_at : CentreRows → CentreRows → Option ℕ → Option ℕ → Bool
same_owns_at one other (Some peer) (Some place) =
    same_terms (own_terms one peer) (own_terms other place)
same_owns_at one other _ _ = false

-- whether two centres have the peer with this key, and say the same of it
abbrev pub same_owns : CentreRows → CentreRows → List ℕ → Bool
same_owns one other key =
    same_owns_at one other (place_of_peer one key) (place_of_peer other key)

-- both have the peer with this key, and say the same of it
pub record HaveSameOwns (one other : CentreRows) (key : List ℕ) : Type 0 where
  pub peer : ℕ
  pub place : ℕ
  pub there : place_of_peer one key ≡ Some peer
  pub too : place_of_peer other key ≡ Some place
  pub terms : own_terms one peer ≡ own_terms other place

-- a table's rows are of points and devices that a centre has
pub record AreRowsThere (rows : CentreRows) (table : Table) : Type 0 where
  pub points : All (λ see. see.point < length rows.points) table.sees
  pub devices : All (λ control. control.device < length rows.devices) table.controls
