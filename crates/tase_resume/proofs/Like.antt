-- Two views of a peer that differ in the ordinals of associations and in counts of changes alone.
use Rattle.std.proofs.Common.{◌≡◌, ◌≤◌, ℕ, ◌+◌, ◌%◌, ◌⊎◌, List, map, None, is_some, true}
use Rattle.std.specs.Prelude.{filter_map, All}
use Rattle.tase_points.specs.declared.kind.Kind.{Kind}
use Rattle.tase_points.specs.declared.layout.TheConstants.{COV_MODULUS}
use Rattle.point_db.specs.Updates.{last_of, changes_of}
use Rattle.transfer_sets.specs.Wishes.{empty_wish}
use Rattle.transfer_sets.specs.SlotMoves.{PointChange, SlotMove, handed_out, wishes, changes}
use Rattle.transfer_sets.specs.SlotMoves.{reports, owner_in, last_wish}
use Rattle.sbo_device.specs.Moves.{ControlPoint}
use Rattle.sbo_device.specs.States.{state_in, tag_of}
use Rattle.tase_views.specs.Force.{open_count}
use Rattle.tase_views.specs.OwnTables.{OwnPoint, OwnTables, table_in, device_named, is_selectable}
use Rattle.tase_views.specs.View.{Seen, own, other_acted, other_closed, updated, tagged, asked}
use Rattle.tase_views.specs.View.{chose, ticked, stopped, View, table_seen, force, moment_in}
use Rattle.tase_views.specs.View.{key_number, moves_seen}
use Rattle.tase_views.specs.Values.{values_in}
use Rattle.tase_views.specs.Slots.{sets_in, slot_moves}
use Rattle.tase_views.specs.Chosen.{chosen_in}
use Rattle.tase_resume.specs.Recounted.{Gap}
use Rattle.tase_resume.proofs.RaisedHolds.{Offsets, raised_state}

-- a seen move with higher ordinals; a peer's own number in its view is 0
abbrev pub raised : Offsets → Seen → Seen
raised offs (own ordinal act) = own (ordinal + offs 0) act
raised offs (other_acted key ordinal device act) =
    other_acted key (ordinal + offs (key_number key)) device act
raised offs (other_closed key ordinal) = other_closed key (ordinal + offs (key_number key))
raised offs (updated name value) = updated name value
raised offs (tagged device tag) = tagged device tag
raised offs (asked s) = asked s
raised offs (chose variant) = chose variant
raised offs (ticked now) = ticked now
raised offs stopped = stopped

-- a seen move that isn't of an association of the peer's own that was opened long ago
abbrev pub IsLate : ℕ → Seen → Type 0
IsLate from (own ordinal act) = from ≤ ordinal
IsLate from _ = Unit {0}

-- a change with more changes of its point before it; counts go modulo 65,536
abbrev pub recounted_change : Gap → PointChange → PointChange
recounted_change gap change = record {
  point = change.point;
  moment = change.moment;
  value = change.value;
  count = (change.count + gap change.point) % COV_MODULUS;
}

-- what befell a transfer set, with a higher ordinal of its owner and more changes of each point
abbrev pub raised_slot : ℕ → Gap → SlotMove → SlotMove
raised_slot off gap (handed_out ordinal) = handed_out (ordinal + off)
raised_slot off gap (wishes wish now) = wishes wish now
raised_slot off gap (changes change) = changes (recounted_change gap change)
raised_slot off gap reports = reports

-- a transfer set without an owner, of which nothing is wished
abbrev pub IsFree : List SlotMove → Type 0
IsFree moves = (owner_in moves ≡ None) × (last_wish moves ≡ (empty_wish, 0))

-- two transfer sets without an owner, or the same one but for ordinal and counts
abbrev pub AreSlotsAlike : ℕ → Gap → List SlotMove → List SlotMove → Type 0
AreSlotsAlike off gap one other =
    (IsFree one × IsFree other) ⊎ (one ≡ map (raised_slot off gap) other)

-- a point has so many changes more in the first of two views
abbrev pub HasGap : Gap → View → View → OwnPoint → Type 0
HasGap gap v w p =
    changes_of p.kind (values_in v p.name) ≡ changes_of p.kind (values_in w p.name) + gap p.name

-- In the first view the ordinals are so much higher, by the peer's number in keys, and the points
-- have so many changes more.
pub record IsLike (tables : OwnTables) (offs : Offsets) (gap : Gap) (from : ℕ) (v w : View)
    : Type 0 where
  pub count : open_count (filter_map table_seen v) ≡ open_count (filter_map table_seen w)
  pub choice : chosen_in v ≡ chosen_in w
  pub table : force v ≡ force w
  pub moment : moment_in v ≡ moment_in w
  pub last : (kind : Kind) (name : List ℕ)
      → last_of kind (values_in v name) ≡ last_of kind (values_in w name)
  pub gaps : (n : ℕ) → All (HasGap gap v w) (table_in tables n).points
  pub tag : (name : List ℕ) → is_some (device_named tables name) ≡ true
      → tag_of (moves_seen tables v name) ≡ tag_of (moves_seen tables w name)
  pub state : (name : List ℕ) (point : ControlPoint) → is_selectable tables name ≡ true
      → state_in point (moves_seen tables v name)
      ≡ raised_state offs (state_in point (moves_seen tables w name))
  pub sets : (name : List ℕ) → sets_in tables v name ≡ sets_in tables w name
  pub slots : (s : ℕ)
      → AreSlotsAlike (offs 0) gap (slot_moves tables v s) (slot_moves tables w s)
