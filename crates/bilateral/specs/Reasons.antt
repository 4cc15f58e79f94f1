-- Why the lines so far can't take a line.
use Rattle.std.specs.Prelude.{ℕ, not, Bool, false, ◌&&◌, ◌||◌, ◌==◌, nat_le}
use Rattle.std.specs.Prelude.{if◌then◌else◌, is_some, is_none, List, [], ◌∷◌, length, Option, Some}
use Rattle.std.specs.Prelude.{None}
use Rattle.plain_text.specs.Lines.{is_skipped}
use Rattle.bilateral.specs.declared.fault.TableWhy.{TableWhy}
use Rattle.bilateral.specs.declared.fault.TableWhy.TheVariants.{Word, Again, Unknown, Limit, Place}
use Rattle.bilateral.specs.declared.limit_rows.LimitRows.{LimitRows}
use Rattle.bilateral.specs.declared.line.TableLine.{TableLine}
use Rattle.bilateral.specs.declared.line.TableLine.TheVariants.{Point, Device, Peer, Slots, Sets}
use Rattle.bilateral.specs.declared.line.TableLine.TheVariants.{Pending, See, Control, Variant}
use Rattle.bilateral.specs.declared.rows.DeviceRow.{DeviceRow}
use Rattle.bilateral.specs.declared.rows.TheConstants.{DEVICE_LIMIT, PEER_LIMIT, POINT_LIMIT}
use Rattle.sbo_device.specs.declared.device.TheConstants.{SPAN_LIMIT}
use Rattle.bilateral.specs.declared.rows.TheConstants.{SEE_LIMIT, VARIANT_LIMIT}
use Rattle.bilateral.specs.declared.rows.Table.{Table}
use Rattle.bilateral.specs.Rows.{CentreRows, place_of_point, place_of_device, place_of_peer}
use Rattle.bilateral.specs.Rows.{place_of_title, place_of_see, place_of_control, table_of}
use Rattle.bilateral.specs.Rows.{further_of}
use Rattle.bilateral.specs.Lines.{line_in}

-- no points, no devices and no peers
abbrev pub no_rows : CentreRows
no_rows = record { points = []; devices = []; tables = []; variants = [] }

abbrev pub nothing_given : LimitRows
nothing_given = record { slots = false; sets = false; pending = false }

-- the rows so far, the number of the peer to whose last table lines go, and which limits this
-- table was given
pub record SoFar : Type 0 where
  pub rows : CentreRows
  pub peer : ℕ
  pub given : LimitRows

-- the last of a list, and a default for none
abbrev pub last_or : {A : Type 0} → A → List A → A
last_or default [] = default
last_or default (x ∷ xs) = last_or x xs

-- the last table of a peer: the last of the further ones, or its own
abbrev pub last_table : CentreRows → ℕ → Table
last_table rows peer = last_or (table_of rows peer) (further_of rows peer)

-- the table to which lines go
abbrev pub current_table : SoFar → Table
current_table so_far = last_table so_far.rows so_far.peer

abbrev pub is_named : CentreRows → List ℕ → Bool
is_named rows name = is_some (place_of_point rows name) || is_some (place_of_device rows name)

-- a line where it may not stand: a point or a device behind a peer, a line of a table before one,
-- the pending octets behind a variant
abbrev pub is_misplaced : SoFar → TableLine → Bool
is_misplaced so_far (Point point) = not (length so_far.rows.tables == 0)
is_misplaced so_far (Device device) = not (length so_far.rows.tables == 0)
is_misplaced so_far (Peer table) = false
is_misplaced so_far (Variant key domain id) = false
is_misplaced so_far (Pending number) =
    length so_far.rows.tables == 0 || not (length (further_of so_far.rows so_far.peer) == 0)
is_misplaced so_far _ = length so_far.rows.tables == 0

-- a line with a name that isn't there
abbrev pub is_unknown : SoFar → TableLine → Bool
is_unknown so_far (Variant key domain id) = is_none (place_of_peer so_far.rows key)
is_unknown so_far (See name vmd layout) = is_none (place_of_point so_far.rows name)
is_unknown so_far (Control name tag) = is_none (place_of_device so_far.rows name)
is_unknown so_far _ = false

-- whether a table has a row for what has this number, if anything has
abbrev pub has_see : Table → Option ℕ → Bool
has_see table None = false
has_see table (Some point) = is_some (place_of_see table point)

abbrev pub has_control : Table → Option ℕ → Bool
has_control table None = false
has_control table (Some device) = is_some (place_of_control table device)

-- a name, key, title, row, component or limit that is there already
abbrev pub is_again : SoFar → TableLine → Bool
is_again so_far (Point point) = is_named so_far.rows point.name
is_again so_far (Device device) = is_named so_far.rows device.name
is_again so_far (Peer table) =
    is_some (place_of_peer so_far.rows table.key)
    || is_some (place_of_title so_far.rows table.title)
is_again so_far (Variant key domain id) = false
is_again so_far (Slots number) = so_far.given.slots
is_again so_far (Sets number) = so_far.given.sets
is_again so_far (Pending number) = so_far.given.pending
is_again so_far (See name vmd layout) =
    is_none layout || has_see (current_table so_far) (place_of_point so_far.rows name)
is_again so_far (Control name tag) =
    has_control (current_table so_far) (place_of_device so_far.rows name)

-- a span that no selection may have
abbrev pub is_wrong_span : DeviceRow → Bool
is_wrong_span device =
    not device.direct && not (nat_le 1 device.span && nat_le device.span SPAN_LIMIT)

-- whether a peer, if there is one, has all further tables that it may have
abbrev pub has_all_variants : CentreRows → Option ℕ → Bool
has_all_variants rows None = false
has_all_variants rows (Some peer) = nat_le VARIANT_LIMIT (length (further_of rows peer))

-- one row too many, or a number past its limit
abbrev pub is_too_much : SoFar → TableLine → Bool
is_too_much so_far (Point point) = nat_le POINT_LIMIT (length so_far.rows.points)
is_too_much so_far (Device device) =
    nat_le DEVICE_LIMIT (length so_far.rows.devices) || is_wrong_span device
is_too_much so_far (Peer table) = nat_le PEER_LIMIT (length so_far.rows.tables)
is_too_much so_far (Variant key domain id) =
    has_all_variants so_far.rows (place_of_peer so_far.rows key)
is_too_much so_far (Slots number) = is_none number
is_too_much so_far (Sets number) = is_none number
is_too_much so_far (Pending number) = is_none number
is_too_much so_far (See name vmd layout) = nat_le SEE_LIMIT (length (current_table so_far).sees)
is_too_much so_far (Control name tag) =
    nat_le DEVICE_LIMIT (length (current_table so_far).controls)

-- the first reason of these that holds
abbrev pub first_reason : Bool → Bool → Bool → Bool → Option TableWhy
first_reason misplaced unknown again too_much =
    if misplaced then Some Place
    else (if unknown then Some Unknown
    else (if again then Some Again else (if too_much then Some Limit else None)))

-- why the lines so far can't take what a line says: the first reason in the order of the profile
abbrev pub row_fault : SoFar → TableLine → Option TableWhy
row_fault so_far line =
    first_reason (is_misplaced so_far line) (is_unknown so_far line) (is_again so_far line)
    (is_too_much so_far line)

-- why the lines so far can't take a line: it has none of the forms, or what it says can't stand
abbrev pub form_fault : SoFar → Option TableLine → Option TableWhy
form_fault so_far None = Some Word
form_fault so_far (Some line) = row_fault so_far line

-- why the lines so far can't take a line; a skipped line is always taken
abbrev pub line_fault : SoFar → List ℕ → Option TableWhy
line_fault so_far line = if is_skipped line then None else form_fault so_far (line_in line)
