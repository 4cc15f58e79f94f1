-- The written form of a centre: a line a row, points first, then devices, then the tables, each
-- with its limits and rows.
use Rattle.std.specs.Prelude.{◌≡◌, ℕ, ◌+◌, ◌-◌, ◌*◌, ◌/◌, ◌<◌, ◌≤◌, min, nat_le, Bool, IsTrue}
use Rattle.std.specs.Prelude.{if◌then◌else◌, List, [], ◌∷◌, ◌++◌, length, map, zip, Option, Some, None}
use Rattle.std.specs.Prelude.{unwrap_or, codes, decimal, not, ◌&&◌, ◌==◌}
use Rattle.std.specs.Fmt.{signed_decimal}
use Rattle.std.specs.List.{flat_map, join_with_byte, list_all}
use Rattle.tase_points.specs.declared.kind.Kind.{Kind}
use Rattle.tase_points.specs.declared.kind.Kind.TheVariants.{State, Discrete, Real}
use Rattle.tase_points.specs.declared.layout.Component.{Component}
use Rattle.tase_points.specs.declared.layout.Component.TheVariants.{Value, Time, Millis, Flags, Cov}
use Rattle.sbo_device.specs.declared.kind.CommandKind.{CommandKind}
use Rattle.sbo_device.specs.declared.kind.CommandKind.TheVariants.{Command, Setpoint}
use Rattle.bilateral.specs.Words.Words.{is_name, is_identifier, is_distinct, IsTitle}
use Rattle.bilateral.specs.Words.Devices.{IsDeviceLine}
use Rattle.bilateral.specs.declared.line.TableLine.{TableLine}
use Rattle.bilateral.specs.declared.line.TableLine.TheVariants.{Point, Device, Peer, Slots, Sets}
use Rattle.bilateral.specs.declared.line.TableLine.TheVariants.{Pending, See, Control, Variant}
use Rattle.bilateral.specs.declared.rows.TheConstants.{SLOT_LIMIT, SLOT_DEFAULT}
use Rattle.sbo_device.specs.declared.device.TheConstants.{SPAN_LIMIT}
use Rattle.bilateral.specs.declared.rows.TheConstants.{SET_LIMIT, SET_DEFAULT, PENDING_LEAST}
use Rattle.bilateral.specs.declared.rows.TheConstants.{PENDING_LIMIT, PENDING_DEFAULT}
use Rattle.bilateral.specs.declared.rows.DeviceRow.{DeviceRow}
use Rattle.bilateral.specs.declared.rows.See.{See as SeeRow}
use Rattle.bilateral.specs.declared.rows.Control.{Control as ControlRow}
use Rattle.bilateral.specs.declared.rows.Table.{Table}
use Rattle.bilateral.specs.Rows.{CentreRows, point_of, device_of}
use Rattle.bilateral.specs.Lines.{form_of}
use Rattle.bilateral.specs.Spelling.{filled, PeerTables}

-- words joined by one space
abbrev pub spaced : List (List ℕ) → List ℕ
spaced words = join_with_byte 32 words

abbrev pub kind_word : Kind → List ℕ
kind_word State = codes "state"
kind_word Discrete = codes "discrete"
kind_word Real = codes "real"

abbrev pub component_word : Component → List ℕ
component_word Value = codes "value"
component_word Time = codes "time"
component_word Millis = codes "millis"
component_word Flags = codes "flags"
component_word Cov = codes "cov"

abbrev pub layout_word : List Component → List ℕ
layout_word layout = join_with_byte 44 (map component_word layout)

-- numbers in base 128, each up to an octet below 128, behind the digits so far of the first
abbrev pub arcs_behind : ℕ → List ℕ → List ℕ
arcs_behind so_far [] = []
arcs_behind so_far (octet ∷ more) =
    if nat_le 128 octet then arcs_behind (so_far * 128 + (octet - 128)) more
    else (so_far * 128 + octet) ∷ arcs_behind 0 more

-- the arcs of an object identifier's octets, of which the first has two arcs (ISO 8825-1, 8.19)
abbrev pub arcs_of : List ℕ → List ℕ
arcs_of [] = []
arcs_of (octet ∷ more) =
    min 2 (octet / 40) ∷ (octet - 40 * min 2 (octet / 40)) ∷ arcs_behind 0 more

abbrev pub title_word : Option (List ℕ) → List ℕ
title_word None = codes "*"
title_word (Some octets) = join_with_byte 46 (map decimal (arcs_of octets))

abbrev pub command_words : CommandKind → List (List ℕ)
command_words Command = codes "command" ∷ []
command_words (Setpoint low high) =
    codes "setpoint" ∷ signed_decimal low ∷ signed_decimal high ∷ []

-- how a device is operated
abbrev pub mode_words : DeviceRow → List (List ℕ)
mode_words row =
    if row.direct then codes "direct" ∷ []
    else codes "sbo" ∷ signed_decimal row.checkback ∷ decimal row.span ∷ []

abbrev pub scope_word : Bool → List ℕ
scope_word vmd = if vmd then codes "vmd" else codes "domain"

abbrev pub tag_words : Bool → List (List ℕ)
tag_words tag = if tag then codes "tag" ∷ [] else []

-- the words of a line; of a limit past its end and of a layout with a component twice nothing is
-- written
abbrev pub line_words : TableLine → List (List ℕ)
line_words (Point row) = codes "point" ∷ row.name ∷ kind_word row.kind ∷ []
line_words (Device row) =
    codes "device" ∷ row.name ∷ (command_words row.kind ++ mode_words row)
line_words (Peer table) =
    codes "peer" ∷ table.key ∷ title_word table.title ∷ table.domain ∷ table.id ∷ []
line_words (Variant key domain id) = codes "variant" ∷ key ∷ domain ∷ id ∷ []
line_words (Slots number) = codes "slots" ∷ decimal (unwrap_or number 0) ∷ []
line_words (Sets number) = codes "sets" ∷ decimal (unwrap_or number 0) ∷ []
line_words (Pending number) = codes "pending" ∷ decimal (unwrap_or number 0) ∷ []
line_words (See name vmd layout) =
    codes "see" ∷ name ∷ scope_word vmd ∷ layout_word (unwrap_or layout []) ∷ []
line_words (Control name tag) = codes "control" ∷ name ∷ tag_words tag

-- the written form of a line
abbrev pub line_text : TableLine → List ℕ
line_text line = spaced (line_words line)

-- a table without rows, and with the limits where nothing is said
abbrev pub empty_table : Table → Table
empty_table table = filled table [] [] SLOT_DEFAULT SET_DEFAULT PENDING_DEFAULT

-- the lines of a table
abbrev pub see_line_of : CentreRows → SeeRow → TableLine
see_line_of rows see = See (point_of rows see.point).name see.vmd (Some see.layout)

abbrev pub control_line_of : CentreRows → ControlRow → TableLine
control_line_of rows control = Control (device_of rows control.device).name control.tag

abbrev pub row_lines : CentreRows → Table → List TableLine
row_lines rows table =
    map (see_line_of rows) table.sees ++ map (control_line_of rows) table.controls

abbrev pub table_lines : CentreRows → Table → List TableLine
table_lines rows table =
    Peer (empty_table table) ∷ Slots (Some table.slots) ∷ Sets (Some table.sets)
    ∷ Pending (Some table.pending) ∷ row_lines rows table

-- the lines of a further table
abbrev pub variant_lines : CentreRows → Table → List TableLine
variant_lines rows table =
    Variant table.key table.domain table.id ∷ Slots (Some table.slots) ∷ Sets (Some table.sets)
    ∷ row_lines rows table

-- the lines of a peer's tables
abbrev pub peer_lines : CentreRows → PeerTables → List TableLine
peer_lines rows peer = table_lines rows peer.0 ++ flat_map (variant_lines rows) peer.1

-- the lines of a centre, a line a row
abbrev pub centre_lines : CentreRows → List TableLine
centre_lines rows =
    map Point rows.points
    ++ (map Device rows.devices ++ flat_map (peer_lines rows) (zip rows.tables rows.variants))

-- the text of lines: each line with its end
abbrev pub lines_text : List TableLine → List ℕ
lines_text said = flat_map (λ line. line_text line ++ 10 ∷ []) said

-- the written form of a centre: each line with its end
abbrev pub tables_text : CentreRows → List ℕ
tables_text rows = lines_text (centre_lines rows)

-- some octets, none of them a blank or a control character
abbrev pub is_solid : List ℕ → Bool
is_solid word = not (length word == 0) && list_all (λ octet. nat_le 33 octet) word

-- a limit that can be written
abbrev pub IsWrittenLimit : ℕ → ℕ → Option ℕ → Type 0
IsWrittenLimit least most None = ⊥
IsWrittenLimit least most (Some n) = (least ≤ n) × (n ≤ most)

-- a layout that can be written: components none of which stands twice
abbrev pub IsWrittenLayout : Option (List Component) → Type 0
IsWrittenLayout None = ⊥
IsWrittenLayout (Some layout) = (0 < length layout) × IsTrue (is_distinct layout)

-- a line that can be written: names, identifiers, numbers and layouts are such, and a title is one
-- that a word can spell
abbrev pub IsWritableLine : TableLine → Type 0
IsWritableLine (Point row) = IsTrue (is_name row.name)
IsWritableLine (Device row) =
    IsTrue (is_name row.name) × IsDeviceLine (form_of row) × (row.span ≤ SPAN_LIMIT)
IsWritableLine (Peer table) =
    IsTrue (is_identifier table.key) × IsTrue (is_identifier table.domain)
    × IsTrue (is_identifier table.id) × (table ≡ empty_table table)
    × IsTitle table.title
IsWritableLine (Variant key domain id) =
    IsTrue (is_identifier key) × IsTrue (is_identifier domain) × IsTrue (is_identifier id)
IsWritableLine (Slots number) = IsWrittenLimit 1 SLOT_LIMIT number
IsWritableLine (Sets number) = IsWrittenLimit 1 SET_LIMIT number
IsWritableLine (Pending number) = IsWrittenLimit PENDING_LEAST PENDING_LIMIT number
IsWritableLine (See name vmd layout) = IsTrue (is_name name) × IsWrittenLayout layout
IsWritableLine (Control name tag) = IsTrue (is_name name)

abbrev pub AreWritable : List TableLine → Type 0
AreWritable [] = Unit {0}
AreWritable (line ∷ more) = IsWritableLine line × AreWritable more
