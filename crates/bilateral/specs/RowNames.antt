-- The names by which a peer finds the rows of a table: those of its points and of its devices.
use Rattle.std.specs.Prelude.{ℕ, not, List, ◌++◌, map, filter}
use Rattle.bilateral.specs.declared.rows.See.{See}
use Rattle.bilateral.specs.declared.rows.Control.{Control}
use Rattle.bilateral.specs.declared.rows.Table.{Table}
use Rattle.bilateral.specs.Rows.{CentreRows, point_of, device_of}

-- the name of the point, or of the device, that a row is for
abbrev pub see_name : CentreRows → See → List ℕ
see_name rows see = (point_of rows see.point).name

abbrev pub control_name : CentreRows → Control → List ℕ
control_name rows control = (device_of rows control.device).name

-- the names of all rows of a table
abbrev pub row_names : CentreRows → Table → List (List ℕ)
row_names rows table = map (see_name rows) table.sees ++ map (control_name rows) table.controls

-- the names that are found in the whole device
abbrev pub vmd_row_names : CentreRows → Table → List (List ℕ)
vmd_row_names rows table = map (see_name rows) (filter (λ see. see.vmd) table.sees)

-- the names that are found in the table's domain, those of all devices among them
abbrev pub domain_row_names : CentreRows → Table → List (List ℕ)
domain_row_names rows table =
    map (see_name rows) (filter (λ see. not see.vmd) table.sees)
    ++ map (control_name rows) table.controls
