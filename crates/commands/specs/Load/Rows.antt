-- The rows that the tables of the load run spell.
use Rattle.std.specs.Prelude.{ℕ, ◌+◌, false, List, [], ◌∷◌, ◌++◌, map, Some, codes, decimal}
use Rattle.std.specs.List.{range_with_len}
use Rattle.tase_points.specs.declared.kind.Kind.TheVariants.{Discrete}
use Rattle.tase_points.specs.declared.layout.Component.TheVariants.{Value}
use Rattle.bilateral.specs.declared.rows.TheConstants.{SET_DEFAULT, PENDING_DEFAULT}
use Rattle.bilateral.specs.declared.rows.PointRow.{PointRow}
use Rattle.bilateral.specs.declared.rows.See.{See}
use Rattle.bilateral.specs.declared.rows.Table.{Table}
use Rattle.bilateral.specs.Rows.{CentreRows}
use Rattle.commands.specs.declared.load.tables.TheConstants.{POINTS, PEERS, SEEN}
use Rattle.commands.specs.Load.Generated.{seen_point}

-- what there is for each number below another, from 0 on
unfoldable pub list_below : {A : Type 0} → (ℕ → A) → ℕ → List A
list_below item n = map item (range_with_len 0 n)

-- the point Pm
abbrev pub load_point_row : ℕ → PointRow
load_point_row m = record { name = codes "P" ++ decimal m; kind = Discrete }

-- the row at a place of the table of peer k
abbrev pub load_see : ℕ → ℕ → See
load_see k j = record { point = seen_point k j; vmd = false; layout = Value ∷ [] }

-- the table of peer k, whose title is 1.1.998.t with t = k + 1
abbrev pub load_table : ℕ → Table
load_table k = record {
  key = codes "K" ++ decimal k;
  title = Some (41 ∷ 135 ∷ 102 ∷ (k + 1) ∷ []);
  domain = codes "D" ++ decimal k;
  id = codes "T" ++ decimal k;
  sees = list_below (load_see k) SEEN;
  controls = [];
  slots = 1;
  sets = SET_DEFAULT;
  pending = PENDING_DEFAULT;
}

abbrev pub load_rows : CentreRows
load_rows = record {
  points = list_below load_point_row POINTS;
  devices = [];
  tables = list_below load_table PEERS;
  variants = map (λ table. []) (list_below load_table PEERS);
}
