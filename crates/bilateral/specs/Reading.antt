-- What the reader of a table text does: its lines one after another, up to the first that can't be
-- taken. What a text spells, `Spelling` says.
use Rattle.std.specs.Prelude.{ℕ, ◌+◌, ◌^◌, ◌-◌, min, true, if◌then◌else◌, List, [], ◌∷◌, ◌++◌}
use Rattle.std.specs.Prelude.{slice_set, length, Option, Some, None, unwrap_or, Result, Ok, Err}
use Rattle.std.specs.Str.Lines.{lines}
use Rattle.plain_text.specs.Lines.{is_skipped}
use Rattle.bilateral.specs.declared.fault.TableFault.{TableFault}
use Rattle.bilateral.specs.declared.fault.TableWhy.{TableWhy}
use Rattle.bilateral.specs.declared.fault.TableWhy.TheVariants.{Word}
use Rattle.bilateral.specs.declared.line.TableLine.{TableLine}
use Rattle.bilateral.specs.declared.line.TableLine.TheVariants.{Point, Device, Peer, Slots, Sets}
use Rattle.bilateral.specs.declared.line.TableLine.TheVariants.{Pending, See, Control, Variant}
use Rattle.bilateral.specs.declared.rows.See as see
use Rattle.bilateral.specs.declared.rows.Control as control
use Rattle.bilateral.specs.declared.rows.Table.{Table}
use Rattle.bilateral.specs.Rows.{CentreRows, place_of_point, place_of_device, place_of_peer}
use Rattle.bilateral.specs.Rows.{table_of, further_of, new_variant}
use Rattle.bilateral.specs.Lines.{line_in}
pub use Rattle.bilateral.specs.Reasons.{no_rows, nothing_given, SoFar, last_table, current_table}
pub use Rattle.bilateral.specs.Reasons.{is_named, is_misplaced, is_unknown, is_again, is_wrong_span}
pub use Rattle.bilateral.specs.Reasons.{is_too_much, first_reason, row_fault}

-- another last element
abbrev pub set_last : {A : Type 0} → List A → A → List A
set_last xs x = slice_set xs (length xs - 1) x

-- the rows with another last table of a peer, which has these further ones
abbrev pub with_last_of : CentreRows → ℕ → List Table → Table → CentreRows
with_last_of rows peer [] table = record rows { tables = slice_set rows.tables peer table }
with_last_of rows peer (first ∷ more) table =
    record rows { variants = slice_set rows.variants peer (set_last (first ∷ more) table) }

abbrev pub with_last : CentreRows → ℕ → Table → CentreRows
with_last rows peer table = with_last_of rows peer (further_of rows peer) table

-- the rows with a further table of a peer
abbrev pub with_further : CentreRows → ℕ → Table → CentreRows
with_further rows peer table =
    record rows { variants = slice_set rows.variants peer (further_of rows peer ++ table ∷ []) }

-- a table with one row more, or with a limit
abbrev pub with_see : Table → see.See → Table
with_see table row = record table { sees = table.sees ++ row ∷ [] }

abbrev pub with_control : Table → control.Control → Table
with_control table row = record table { controls = table.controls ++ row ∷ [] }

abbrev pub with_slots : Table → ℕ → Table
with_slots table number = record table { slots = number }

abbrev pub with_sets : Table → ℕ → Table
with_sets table number = record table { sets = number }

abbrev pub with_pending : Table → ℕ → Table
with_pending table number = record table { pending = number }

-- the rows with one row more in the last table of a peer
abbrev pub seen_in_last : CentreRows → ℕ → see.See → CentreRows
seen_in_last rows peer row = with_last rows peer (with_see (last_table rows peer) row)

abbrev pub controlled_in_last : CentreRows → ℕ → control.Control → CentreRows
controlled_in_last rows peer row = with_last rows peer (with_control (last_table rows peer) row)

-- the rows with the table to which lines go changed
abbrev pub changed : SoFar → (Table → Table) → CentreRows
changed so_far change = with_last so_far.rows so_far.peer (change (current_table so_far))

-- the number of the peer with a key that is there
abbrev pub peer_with_key : CentreRows → List ℕ → ℕ
peer_with_key rows key = unwrap_or (place_of_peer rows key) 0

-- a further table of a peer that is there
abbrev pub varied : CentreRows → ℕ → List ℕ → List ℕ → SoFar
varied rows peer domain id = record {
  rows = with_further rows peer (new_variant (table_of rows peer) domain id);
  peer = peer;
  given = nothing_given;
}

-- the rows with what a line adds, where they can take it
abbrev pub with_row : SoFar → TableLine → SoFar
with_row so_far (Point point) =
    record so_far { rows = record so_far.rows { points = so_far.rows.points ++ point ∷ [] } }
with_row so_far (Device device) =
    record so_far { rows = record so_far.rows { devices = so_far.rows.devices ++ device ∷ [] } }
with_row so_far (Peer table) = record {
  rows = record so_far.rows {
    tables = so_far.rows.tables ++ table ∷ [];
    variants = so_far.rows.variants ++ [] ∷ [];
  };
  peer = length so_far.rows.tables;
  given = nothing_given;
}
with_row so_far (Variant key domain id) =
    varied so_far.rows (peer_with_key so_far.rows key) domain id
with_row so_far (Slots number) = record so_far {
  rows = changed so_far (λ table. with_slots table (unwrap_or number 0));
  given = record so_far.given { slots = true };
}
with_row so_far (Sets number) = record so_far {
  rows = changed so_far (λ table. with_sets table (unwrap_or number 0));
  given = record so_far.given { sets = true };
}
with_row so_far (Pending number) = record so_far {
  rows = changed so_far (λ table. with_pending table (unwrap_or number 0));
  given = record so_far.given { pending = true };
}
with_row so_far (See name vmd layout) = record so_far {
  rows = seen_in_last so_far.rows so_far.peer
      (record {
        point = unwrap_or (place_of_point so_far.rows name) 0;
        vmd = vmd;
        layout = unwrap_or layout [];
      });
}
with_row so_far (Control name tag) = record so_far {
  rows = controlled_in_last so_far.rows so_far.peer
      (record { device = unwrap_or (place_of_device so_far.rows name) 0; tag = tag });
}

-- the rows after a line that is one of the forms, unless there is a reason against it
abbrev pub unless : Option TableWhy → SoFar → Result SoFar TableWhy
unless None so_far = Ok so_far
unless (Some why) so_far = Err why

-- the rows after what a line says
abbrev pub after_said : SoFar → Option TableLine → Result SoFar TableWhy
after_said so_far None = Err Word
after_said so_far (Some line) = unless (row_fault so_far line) (with_row so_far line)

-- the rows after a line
abbrev pub after_line : SoFar → List ℕ → Result SoFar TableWhy
after_line so_far line = if is_skipped line then Ok so_far else after_said so_far (line_in line)

-- lines count from 1, and the count stands still at its end
abbrev pub next_number : ℕ → ℕ
next_number number = min (number + 1) (2 ^ 64 - 1)

-- goes on with the rows after a line, or ends with the fault of the line with this number
abbrev pub and_go_on : ℕ → Result SoFar TableWhy → (SoFar → Result CentreRows TableFault)
    → Result CentreRows TableFault
and_go_on number (Ok so_far) next = next so_far
and_go_on number (Err why) next = Err (record { line = number; why = why })

-- the rows after lines, of which the first has this number
abbrev pub after_lines : SoFar → ℕ → List (List ℕ) → Result CentreRows TableFault
after_lines so_far number [] = Ok so_far.rows
after_lines so_far number (line ∷ more) =
    and_go_on number (after_line so_far line) (λ next. after_lines next (next_number number) more)

abbrev pub at_start : SoFar
at_start = record { rows = no_rows; peer = 0; given = nothing_given }

-- what the reader makes of a text: what it holds, or its first bad line
abbrev pub centre_in : List ℕ → Result CentreRows TableFault
centre_in text = after_lines at_start 1 (lines text)
