-- Updates of points, and what they give each point.
use Rattle.std.specs.Prelude.{◌≡◌, ℕ, ◌+◌, ◌<◌, ◌==◌, min, Bool, IsTrue, if◌then◌else◌}
use Rattle.std.specs.Prelude.{List, [], ◌∷◌, ◌++◌, Option, Some, None, filter_map, slice_get}
use Rattle.std.specs.Option.{unwrap_or}
use Rattle.tase_points.specs.declared.kind.Kind.{Kind}
use Rattle.tase_points.specs.declared.kind.Kind.TheVariants.{State}
use Rattle.tase_points.specs.Sample.{Sample}
use Rattle.tase_points.specs.Values.{unknown_sample, is_change}
use Rattle.point_db.specs.declared.store.TheConstants.{SERIAL_LIMIT}

-- a point's new value
pub record Update : Type 0 where
  pub point : ℕ
  pub value : Sample

-- updates so far, the newest first
abbrev pub Updates : Type 0
Updates = List Update

-- the kind of the point with a number, among the kinds of all points
abbrev pub kind_at : List Kind → ℕ → Kind
kind_at kinds point = unwrap_or (slice_get kinds point) State

-- the values that a point was given, the newest first
abbrev pub values_given : Updates → ℕ → List Sample
values_given past point =
    filter_map (λ u. if u.point == point then Some u.value else None) past

-- the newest of values, which stand newest first
abbrev pub newest_of : List Sample → Option Sample
newest_of [] = None
newest_of (value ∷ values) = Some value

-- the value that a point was given last, also one that it had before any
abbrev pub last_given : Updates → ℕ → Option Sample
last_given past point = newest_of (values_given past point)

-- the last of some values; before any, none known
abbrev pub last_of : Kind → List Sample → Sample
last_of kind [] = unknown_sample kind
last_of kind (value ∷ values) = value

-- how many of some values are changes from the one before
abbrev pub changes_of : Kind → List Sample → ℕ
changes_of kind [] = 0
changes_of kind (value ∷ values) =
    (if is_change (last_of kind values) value then 1 else 0) + changes_of kind values

-- a point's last value
abbrev pub last_value : List Kind → Updates → ℕ → Sample
last_value kinds past point = last_of (kind_at kinds point) (values_given past point)

-- how often a point has changed
abbrev pub change_count : List Kind → Updates → ℕ → ℕ
change_count kinds past point = changes_of (kind_at kinds point) (values_given past point)

-- whether an update is a change of its point, from what it had before
abbrev pub is_change_of : List Kind → Updates → Update → Bool
is_change_of kinds before u = is_change (last_value kinds before u.point) u.value

-- how many changes there were of all points
abbrev pub change_total : List Kind → Updates → ℕ
change_total kinds [] = 0
change_total kinds (u ∷ before) =
    (if is_change_of kinds before u then 1 else 0) + change_total kinds before

-- the serial number that changes have reached, which stands still at the end of its type
abbrev pub serial_of : List Kind → Updates → ℕ
serial_of kinds past = min (change_total kinds past) SERIAL_LIMIT

-- among these updates is a change of the point, by which the serial had come above a number
pub record HasChanged (kinds : List Kind) (past : Updates) (point serial : ℕ) : Type 0 where
  pub later : Updates
  pub value : Sample
  pub before : Updates
  pub is : past ≡ later ++ record { point = point; value = value } ∷ before
  pub change : IsTrue (is_change (last_value kinds before point) value)
  pub above : serial < serial_of kinds (record { point = point; value = value } ∷ before)

-- among the updates that came since, behind those of the past, is a change of the point
pub record ChangesSince (kinds : List Kind) (since past : Updates) (point : ℕ) : Type 0 where
  pub newer : Updates
  pub value : Sample
  pub older : Updates
  pub is : since ≡ newer ++ record { point = point; value = value } ∷ older
  pub change : IsTrue (is_change (last_value kinds (older ++ past) point) value)
