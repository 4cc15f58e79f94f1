-- The lines of a table text.
use Rattle.std.specs.Prelude.{◌≡◌, ℕ, Bool, true, false, IsTrue, ◌&&◌, if◌then◌else◌, List, []}
use Rattle.std.specs.Prelude.{◌∷◌, Option, Some, None, Result, Ok, Err, option_and_then, bytes_eq}
use Rattle.std.specs.Prelude.{codes, ◌≤◌, IfSome}
use Rattle.std.specs.Option.{option_map}
use Rattle.plain_text.specs.Words.{words_in}
use Rattle.tase_points.specs.declared.layout.Component.{Component}
use Rattle.bilateral.specs.declared.words.layouts.LayoutWhy.{LayoutWhy}
use Rattle.bilateral.specs.declared.words.layouts.LayoutWhy.TheVariants.{Part, Twice}
use Rattle.bilateral.specs.declared.words.device_form.DeviceForm.{DeviceForm}
use Rattle.bilateral.specs.declared.line.TableLine.{TableLine}
use Rattle.bilateral.specs.declared.line.TableLine.TheVariants.{Point, Device, Peer, Slots, Sets}
use Rattle.bilateral.specs.declared.line.TableLine.TheVariants.{Pending, See, Control, Variant}
use Rattle.bilateral.specs.declared.rows.DeviceRow.{DeviceRow}
use Rattle.bilateral.specs.declared.rows.Table.{Table}
use Rattle.bilateral.specs.declared.rows.TheConstants.{SLOT_LIMIT, SLOT_DEFAULT, SET_LIMIT}
use Rattle.bilateral.specs.declared.rows.TheConstants.{SET_DEFAULT, PENDING_LEAST, PENDING_LIMIT}
use Rattle.bilateral.specs.declared.rows.TheConstants.{PENDING_DEFAULT}
use Rattle.bilateral.specs.Words.Words.{is_name, is_identifier, kind_in, whole_scope_in, layout_in}
use Rattle.bilateral.specs.Words.Words.{title_in}
use Rattle.bilateral.specs.Words.Words.{limit_in, IsTitle}
use Rattle.tase_points.specs.Layouts.{IsLayout}
use Rattle.bilateral.specs.Words.Devices.{order_in, IsDeviceLine}

-- `point NAME KIND`, past its first word
abbrev pub point_line : List (List ℕ) → Option TableLine
point_line (name ∷ kind ∷ []) =
    if is_name name then option_map (λ k. Point (record { name = name; kind = k })) (kind_in kind)
    else None
point_line _ = None

-- a device with this name
abbrev pub named_device : List ℕ → DeviceForm → DeviceRow
named_device name form = record {
  name = name;
  kind = form.kind;
  direct = form.direct;
  checkback = form.checkback;
  span = form.span;
}

-- `device NAME COMMAND sbo CHECKBACK MS` and `device NAME COMMAND direct`
abbrev pub device_line : List (List ℕ) → Option TableLine
device_line [] = None
device_line (name ∷ more) =
    if is_name name then option_map (λ form. Device (named_device name form)) (order_in more)
    else None

-- `peer KEY TITLE DOMAIN ID`
abbrev pub peer_line : List (List ℕ) → Option TableLine
peer_line (key ∷ title ∷ domain ∷ id ∷ []) =
    if is_identifier key && is_identifier domain && is_identifier id
    then option_map
    (λ t. Peer
    (record {
      key = key;
      title = t;
      domain = domain;
      id = id;
      sees = [];
      controls = [];
      slots = SLOT_DEFAULT;
      sets = SET_DEFAULT;
      pending = PENDING_DEFAULT;
    }))
    (title_in title) else None
peer_line _ = None

-- `variant KEY DOMAIN ID`
abbrev pub variant_line : List (List ℕ) → Option TableLine
variant_line (key ∷ domain ∷ id ∷ []) =
    if is_identifier key && is_identifier domain && is_identifier id
    then Some (Variant key domain id) else None
variant_line _ = None

-- a limit's line, by its one word
abbrev pub limit_line : (Option ℕ → TableLine) → ℕ → ℕ → List (List ℕ) → Option TableLine
limit_line form least most (number ∷ []) = option_map form (limit_in least most number)
limit_line form least most _ = None

-- `slots N`, `sets N` and `pending N`
abbrev pub slots_line : List (List ℕ) → Option TableLine
slots_line more = limit_line Slots 1 SLOT_LIMIT more

abbrev pub sets_line : List (List ℕ) → Option TableLine
sets_line more = limit_line Sets 1 SET_LIMIT more

abbrev pub pending_line : List (List ℕ) → Option TableLine
pending_line more = limit_line Pending PENDING_LEAST PENDING_LIMIT more

-- a row's line by its layout: without one where a component stands twice
abbrev pub see_with : List ℕ → Bool → Result (List Component) LayoutWhy → Option TableLine
see_with name vmd (Ok layout) = Some (See name vmd (Some layout))
see_with name vmd (Err Twice) = Some (See name vmd None)
see_with name vmd (Err Part) = None

-- `see NAME SCOPE LAYOUT`
abbrev pub see_line : List (List ℕ) → Option TableLine
see_line (name ∷ scope ∷ layout ∷ []) =
    if is_name name
    then option_and_then (λ vmd. see_with name vmd (layout_in layout)) (whole_scope_in scope)
    else None
see_line _ = None

-- whether a device's tag may be written: nothing more, or `tag`
abbrev pub tag_word_in : List (List ℕ) → Option Bool
tag_word_in [] = Some false
tag_word_in (word ∷ []) = if bytes_eq word (codes "tag") then Some true else None
tag_word_in _ = None

-- `control NAME` and `control NAME tag`
abbrev pub control_line : List (List ℕ) → Option TableLine
control_line [] = None
control_line (name ∷ more) =
    if is_name name then option_map (λ tag. Control name tag) (tag_word_in more) else None

-- what a line of a table says, by its first word
abbrev pub table_told_by : List ℕ → List (List ℕ) → Option TableLine
table_told_by first more =
    if bytes_eq first (codes "see") then see_line more
    else (if bytes_eq first (codes "control") then control_line more
    else (if bytes_eq first (codes "slots") then slots_line more
    else (if bytes_eq first (codes "sets") then sets_line more
    else (if bytes_eq first (codes "pending") then pending_line more else None))))

-- what a line says, by its first word
abbrev pub line_told_by : List ℕ → List (List ℕ) → Option TableLine
line_told_by first more =
    if bytes_eq first (codes "point") then point_line more
    else (if bytes_eq first (codes "device") then device_line more
    else (if bytes_eq first (codes "peer") then peer_line more
    else (if bytes_eq first (codes "variant") then variant_line more
    else table_told_by first more)))

-- what words say, by the first of them
abbrev pub table_line_of : List (List ℕ) → Option TableLine
table_line_of [] = None
table_line_of (first ∷ more) = line_told_by first more

-- what a line says, where it is one of the forms
abbrev pub line_in : List ℕ → Option TableLine
line_in line = option_and_then table_line_of (words_in line)

-- what a device says beside its name
abbrev pub form_of : DeviceRow → DeviceForm
form_of row = record {
  kind = row.kind;
  direct = row.direct;
  checkback = row.checkback;
  span = row.span;
}

-- a new table has no rows, and the limits where nothing is said
abbrev pub IsNewTable : Table → Type 0
IsNewTable table =
    (table.sees ≡ []) × (table.controls ≡ []) × (table.slots ≡ SLOT_DEFAULT)
    × (table.sets ≡ SET_DEFAULT) × (table.pending ≡ PENDING_DEFAULT)

-- a limit that a line gives is one
abbrev pub IsLimit : ℕ → ℕ → Option ℕ → Type 0
IsLimit least most number = IfSome number (λ n. (least ≤ n) × (n ≤ most))

-- a line's names and identifiers are such, a new table has no rows and a title that a word can
-- spell, limits are limits and a layout is one
abbrev pub IsLawfulLine : TableLine → Type 0
IsLawfulLine (Point point) = IsTrue (is_name point.name)
IsLawfulLine (Device row) = IsTrue (is_name row.name) × IsDeviceLine (form_of row)
IsLawfulLine (Peer table) =
    IsTrue (is_identifier table.key) × IsTrue (is_identifier table.domain)
    × IsTrue (is_identifier table.id) × IsNewTable table × IsTitle table.title
IsLawfulLine (Variant key domain id) =
    IsTrue (is_identifier key) × IsTrue (is_identifier domain) × IsTrue (is_identifier id)
IsLawfulLine (Slots number) = IsLimit 1 SLOT_LIMIT number
IsLawfulLine (Sets number) = IsLimit 1 SET_LIMIT number
IsLawfulLine (Pending number) = IsLimit PENDING_LEAST PENDING_LIMIT number
IsLawfulLine (See name vmd layout) = IfSome layout IsLayout
IsLawfulLine (Control name tag) = Unit {0}
