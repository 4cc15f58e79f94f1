-- What a view has of a point.
use Rattle.std.specs.Prelude.{ℕ, ◌%◌, if◌then◌else◌, List, Option, Some, None, filter_map}
use Rattle.std.specs.Prelude.{bytes_eq}
use Rattle.tase_points.specs.declared.kind.Kind.{Kind}
use Rattle.tase_points.specs.declared.layout.TheConstants.{COV_MODULUS}
use Rattle.tase_points.specs.Sample.{Sample}
use Rattle.point_db.specs.Updates.{changes_of}
use Rattle.tase_views.specs.View.{Seen, updated, View}

-- the new value of the point with this name that an item is, where it is one
abbrev pub update_of : List ℕ → Seen → Option Sample
update_of name (updated point value) = if bytes_eq point name then Some value else None
update_of name _ = None

-- the values that a point was given, the newest first
abbrev pub values_in : View → List ℕ → List Sample
values_in view name = filter_map (update_of name) view

-- the count of changes that a peer is shown
abbrev pub change_count_of : Kind → List Sample → ℕ
change_count_of kind values = changes_of kind values % COV_MODULUS
