-- What is kept of updates, so that no call looks through them.
use Rattle.std.specs.Prelude.{◌≡◌, ℕ, ◌<◌, ◌%◌, ◌&&◌, ◌==◌, if◌then◌else◌, List, [], ◌∷◌, length}
use Rattle.std.specs.Prelude.{◌+◌, Bool, true, Some, is_some, slice_get, slice_index, slice_set, min}
use Rattle.tase_points.specs.declared.kind.Kind.{Kind}
use Rattle.tase_points.specs.declared.layout.TheConstants.{COV_MODULUS}
use Rattle.tase_points.specs.Sample.{Sample}
use Rattle.point_db.specs.declared.store.TheConstants.{SERIAL_LIMIT}
use Rattle.point_db.specs.Updates.{Updates, last_value, change_count, is_change_of, serial_of}
use Rattle.point_db.specs.Updates.{last_given}

-- of each point its last value, how often it has changed, the serial at its last change, and whether
-- it was ever given a value; and the serial of all
pub record Stored : Type 0 where
  pub values : List Sample
  pub counts : List ℕ
  pub changed : List ℕ
  pub given : List Bool
  pub serial : ℕ

-- of each point there are all four
pub record IsStored (s : Stored) : Type 0 where
  pub counts : length s.counts ≡ length s.values
  pub changed : length s.changed ≡ length s.values
  pub given : length s.given ≡ length s.values

-- one more change of a point is counted
abbrev pub noted : Stored → ℕ → Stored
noted s point = record s {
  counts = slice_set s.counts point ((slice_index s.counts point + 1) % COV_MODULUS);
  changed = slice_set s.changed point (min (s.serial + 1) SERIAL_LIMIT);
  serial = min (s.serial + 1) SERIAL_LIMIT;
}

-- a point is given a value
abbrev pub given_value : Stored → ℕ → Sample → Stored
given_value s point value = record s {
  values = slice_set s.values point value;
  given = slice_set s.given point true;
}

-- the serial at the last change of a point; before any, 0
abbrev pub last_serial : List Kind → Updates → ℕ → ℕ
last_serial kinds [] point = 0
last_serial kinds (u ∷ before) point =
    if (u.point == point) && is_change_of kinds before u then serial_of kinds (u ∷ before)
    else last_serial kinds before point

-- it keeps what these updates gave points of these kinds
pub record Keeps (kinds : List Kind) (past : Updates) (s : Stored) : Type 0 where
  pub points : length s.values ≡ length kinds
  pub last : (p : ℕ) → p < length kinds → slice_get s.values p ≡ Some (last_value kinds past p)
  pub count : (p : ℕ) → p < length kinds
      → slice_get s.counts p ≡ Some (change_count kinds past p % COV_MODULUS)
  pub changed : (p : ℕ) → p < length kinds
      → slice_get s.changed p ≡ Some (last_serial kinds past p)
  pub given : (p : ℕ) → p < length kinds
      → slice_get s.given p ≡ Some (is_some (last_given past p))
  pub serial : s.serial ≡ serial_of kinds past
