-- What a table text spells: its lines are forms, each of which may stand behind those before it,
-- and its rows are what these lines say. A text that spells nothing has a first bad line.
use Rattle.std.specs.Prelude.{◌≡◌, ℕ, ◌+◌, ◌-◌, ◌^◌, min, Bool, true, false, not, if◌then◌else◌}
use Rattle.std.specs.Prelude.{List, [], ◌∷◌, ◌++◌, length, map, filter, filter_map, Option, Some}
use Rattle.std.specs.Prelude.{None, unwrap_or, option_and_then, position, bytes_eq}
use Rattle.std.specs.Option.{option_map}
use Rattle.std.specs.List.{list_any}
use Rattle.std.specs.Str.Lines.{lines}
use Rattle.plain_text.specs.Lines.{is_skipped}
use Rattle.plain_text.specs.Words.{each_in}
use Rattle.bilateral.specs.declared.fault.TableFault.{TableFault}
use Rattle.bilateral.specs.declared.limit_rows.LimitRows.{LimitRows}
use Rattle.bilateral.specs.declared.line.TableLine.{TableLine}
use Rattle.bilateral.specs.declared.line.TableLine.TheVariants.{Point, Device, Peer, Slots, Sets}
use Rattle.bilateral.specs.declared.line.TableLine.TheVariants.{Pending, See, Control, Variant}
use Rattle.bilateral.specs.declared.rows.PointRow.{PointRow}
use Rattle.bilateral.specs.declared.rows.DeviceRow.{DeviceRow}
use Rattle.bilateral.specs.declared.rows.See as see
use Rattle.bilateral.specs.declared.rows.Control as control
use Rattle.bilateral.specs.declared.rows.Table.{Table}
use Rattle.bilateral.specs.Rows.{CentreRows, new_variant}
use Rattle.bilateral.specs.Lines.{line_in}
use Rattle.bilateral.specs.Reasons.{SoFar, row_fault, line_fault}
pub use Rattle.bilateral.specs.Reasons.{last_or}

-- the point or device that a line gives
abbrev pub point_of_line : TableLine → Option PointRow
point_of_line (Point point) = Some point
point_of_line _ = None

abbrev pub device_of_line : TableLine → Option DeviceRow
device_of_line (Device device) = Some device
device_of_line _ = None

-- the row that a line gives a table: the point or the device that it names, by its number
abbrev pub see_in : List PointRow → TableLine → Option see.See
see_in points (See name vmd layout) =
    option_and_then
    (λ point. option_map (λ shown. record { point = point; vmd = vmd; layout = shown }) layout)
    (position (λ row. bytes_eq row.name name) points)
see_in points _ = None

abbrev pub control_in : List DeviceRow → TableLine → Option control.Control
control_in devices (Control name tag) =
    option_map (λ device. record { device = device; tag = tag })
    (position (λ row. bytes_eq row.name name) devices)
control_in devices _ = None

-- the limit that a line gives a table
abbrev pub slots_in : TableLine → Option ℕ
slots_in (Slots number) = number
slots_in _ = None

abbrev pub sets_in : TableLine → Option ℕ
sets_in (Sets number) = number
sets_in _ = None

abbrev pub pending_in : TableLine → Option ℕ
pending_in (Pending number) = number
pending_in _ = None

-- whether a line begins a table: the own one of a peer, or a further one
abbrev pub begins_table : TableLine → Bool
begins_table (Peer table) = true
begins_table (Variant key domain id) = true
begins_table _ = false

-- the lines up to the next table's
abbrev pub own_lines : List TableLine → List TableLine
own_lines [] = []
own_lines (line ∷ more) = if begins_table line then [] else line ∷ own_lines more

-- the line that begins a table, and the lines of the table
abbrev pub TableSection : Type 0
TableSection = TableLine × List TableLine

-- each line that begins a table, with the lines up to the next
abbrev pub sections : List TableLine → List TableSection
sections [] = []
sections (line ∷ more) =
    if begins_table line then (line, own_lines more) ∷ sections more else sections more

-- a peer's table with these rows and limits
abbrev pub filled : Table → List see.See → List control.Control → ℕ → ℕ → ℕ → Table
filled table sees controls slots sets pending = record {
  key = table.key;
  title = table.title;
  domain = table.domain;
  id = table.id;
  sees = sees;
  controls = controls;
  slots = slots;
  sets = sets;
  pending = pending;
}

-- a table with what lines give it, by the points and the devices of the centre: with their rows
-- behind its own, and with the limits that they give
abbrev pub table_in : List PointRow → List DeviceRow → Table → List TableLine → Table
table_in points devices table own =
    filled table (table.sees ++ filter_map (see_in points) own)
    (table.controls ++ filter_map (control_in devices) own)
    (last_or table.slots (filter_map slots_in own))
    (last_or table.sets (filter_map sets_in own))
    (last_or table.pending (filter_map pending_in own))

-- the own table of a peer, of the section of its line
abbrev pub own_table : List PointRow → List DeviceRow → TableLine → List TableLine → Option Table
own_table points devices (Peer table) own = Some (table_in points devices table own)
own_table points devices _ own = None

-- a further table of the peer with this own one, of the section of a variant with its key
abbrev pub further_by : List PointRow → List DeviceRow → Table → TableLine → List TableLine
    → Option Table
further_by points devices own (Variant key domain id) more =
    if bytes_eq own.key key then Some (table_in points devices (new_variant own domain id) more)
    else None
further_by points devices own _ more = None

abbrev pub further_table : List PointRow → List DeviceRow → Table → TableSection → Option Table
further_table points devices own part = further_by points devices own part.0 part.1

-- a peer's own table and its further ones
abbrev pub PeerTables : Type 0
PeerTables = Table × List Table

abbrev pub peer_begun : Option Table → (Table → List Table) → List PeerTables → List PeerTables
peer_begun None further later = later
peer_begun (Some own) further later = (own, further own) ∷ later

-- the tables of each peer: its own one, and those of the variants behind it
abbrev pub peers_told : List PointRow → List DeviceRow → List TableSection → List PeerTables
peers_told points devices [] = []
peers_told points devices (part ∷ more) =
    peer_begun (own_table points devices part.0 part.1)
    (λ own. filter_map (further_table points devices own) more) (peers_told points devices more)

-- the number of the peer to whose table a line that begins one leads
abbrev pub peer_begun_by : List Table → Option TableLine → ℕ
peer_begun_by tables (Some (Variant key domain id)) =
    unwrap_or (position (λ table. bytes_eq table.key key) tables) 0
peer_begun_by tables _ = length tables - 1

abbrev pub is_slots : TableLine → Bool
is_slots (Slots number) = true
is_slots _ = false

abbrev pub is_sets : TableLine → Bool
is_sets (Sets number) = true
is_sets _ = false

abbrev pub is_pending : TableLine → Bool
is_pending (Pending number) = true
is_pending _ = false

-- the limits that stand among the lines of the last table
abbrev pub given_among : List TableLine → LimitRows
given_among own = record {
  slots = list_any is_slots own;
  sets = list_any is_sets own;
  pending = list_any is_pending own;
}

-- the last line that begins a table, and the lines of this table
abbrev pub last_begun : List TableSection → Option TableLine
last_begun parts = last_or None (map (λ part. Some part.0) parts)

abbrev pub last_own : List TableSection → List TableLine
last_own parts = last_or [] (map (λ part. part.1) parts)

-- what points, devices, the tables of peers, the last beginning and the lines behind it come to
abbrev pub so_far_told : List PointRow → List DeviceRow → List PeerTables → Option TableLine
    → List TableLine → SoFar
so_far_told points devices peers begun own = record {
  rows = record {
    points = points;
    devices = devices;
    tables = map (λ peer. peer.0) peers;
    variants = map (λ peer. peer.1) peers;
  };
  peer = peer_begun_by (map (λ peer. peer.0) peers) begun;
  given = given_among own;
}

-- what points, devices and sections come to
abbrev pub all_told_by : List PointRow → List DeviceRow → List TableSection → SoFar
all_told_by points devices parts =
    so_far_told points devices (peers_told points devices parts) (last_begun parts)
    (last_own parts)

-- what lines say
abbrev pub told : List TableLine → SoFar
told said = all_told_by (filter_map point_of_line said) (filter_map device_of_line said)
    (sections said)

-- each line may stand behind those before it
abbrev pub AllStand : List TableLine → List TableLine → Type 0
AllStand before [] = Unit {0}
AllStand before (line ∷ more) =
    (row_fault (told before) line ≡ None) × AllStand (before ++ line ∷ []) more

-- lines that are not skipped are these forms, and each may stand where it does
pub record SpellLines (texts : List (List ℕ)) (said : List TableLine) : Type 0 where
  pub forms : each_in line_in (filter (λ line. not (is_skipped line)) texts) ≡ Some said
  pub stand : AllStand [] said

-- lines spell a centre: they are forms that may stand where they do, and say these rows
pub record SpellRows (texts : List (List ℕ)) (rows : CentreRows) : Type 0 where
  pub said : List TableLine
  pub spelled : SpellLines texts said
  pub says : rows ≡ (told said).rows

-- the first bad line of lines: those before it are spelled, and it can't stand behind them, for
-- this reason. Lines count from 1, and the count stands still at its end
pub record IsFirstBad (texts : List (List ℕ)) (fault : TableFault) : Type 0 where
  pub before : List (List ℕ)
  pub line : List ℕ
  pub after : List (List ℕ)
  pub parts : texts ≡ before ++ line ∷ after
  pub said : List TableLine
  pub spelled : SpellLines before said
  pub reason : line_fault (told said) line ≡ Some fault.why
  pub number : fault.line ≡ min (length before + 1) (2 ^ 64 - 1)

-- the text spells this centre
abbrev pub Spells : List ℕ → CentreRows → Type 0
Spells text rows = SpellRows (lines text) rows

-- the text has this first bad line, for this reason
abbrev pub HasFault : List ℕ → TableFault → Type 0
HasFault text fault = IsFirstBad (lines text) fault
