-- What it says that a line can be taken: no reason stands against it.
use Rattle.std.proofs.Common.{◌≡◌, ◌≢◌, ℕ, ◌<◌, ◌==◌, ◌||◌, not, Bool, true, false, List, length}
use Rattle.std.proofs.Common.{Option, Some, None, is_some, refl, arith}
use Rattle.std.specs.Prelude.{is_none}
use Rattle.std.proofs.lemmas.Bool.{leb-false, eqb-true, eqb-false, not-false, or_parts}
use Rattle.bilateral.specs.declared.line.TableLine.{TableLine}
use Rattle.bilateral.specs.declared.line.TableLine.TheVariants.{Point, Device, Peer, See, Control}
use Rattle.bilateral.specs.declared.line.TableLine.TheVariants.{Variant}
use Rattle.bilateral.specs.declared.rows.PointRow.{PointRow}
use Rattle.bilateral.specs.declared.rows.DeviceRow.{DeviceRow}
use Rattle.bilateral.specs.declared.rows.Table.{Table}
use Rattle.bilateral.specs.declared.rows.TheConstants.{DEVICE_LIMIT, PEER_LIMIT, POINT_LIMIT}
use Rattle.bilateral.specs.declared.rows.TheConstants.{SEE_LIMIT, VARIANT_LIMIT}
use Rattle.tase_points.specs.declared.layout.Component.{Component}
use Rattle.bilateral.specs.Rows.{CentreRows, place_of_point, place_of_device, place_of_peer}
use Rattle.bilateral.specs.Rows.{place_of_title, place_of_see, place_of_control, further_of}
use Rattle.bilateral.specs.Reading.{SoFar, row_fault, first_reason, current_table, is_wrong_span}
use Rattle.bilateral.specs.Reasons.{has_all_variants}
use Rattle.bilateral.specs.Reading.{is_misplaced, is_unknown, is_again, is_too_much}

-- no reason
pub no_reasons : (misplaced unknown again too_much : Bool)
    → first_reason misplaced unknown again too_much ≡ None
    → (misplaced ≡ false) × (unknown ≡ false) × (again ≡ false) × (too_much ≡ false)
no_reasons true unknown again too_much none = absurd cc
no_reasons false true again too_much none = absurd cc
no_reasons false false true too_much none = absurd cc
no_reasons false false false true none = absurd cc
no_reasons false false false false none = (refl, refl, refl, refl)

-- the same of a line that can be taken
free : (so_far : SoFar) (line : TableLine) → row_fault so_far line ≡ None
    → (is_misplaced so_far line ≡ false) × (is_unknown so_far line ≡ false)
    × (is_again so_far line ≡ false) × (is_too_much so_far line ≡ false)
free so_far line none =
    no_reasons (is_misplaced so_far line) (is_unknown so_far line) (is_again so_far line)
    (is_too_much so_far line) none

none-from_is_some : {A : Type 0} (o : Option A) → is_some o ≡ false → o ≡ None
none-from_is_some None absent = refl
none-from_is_some (Some x) absent = absurd cc

some-from_is_none : {A : Type 0} (o : Option A) → is_none o ≡ false → (x : A) × (o ≡ Some x)
some-from_is_none None absent = absurd cc
some-from_is_none (Some x) absent = (x, refl)

-- what lets a point in
pub record IsNewPoint (rows : CentreRows) (point : PointRow) : Type 0 where
  pub no_tables : length rows.tables ≡ 0
  pub fresh : place_of_point rows point.name ≡ None
  pub apart : place_of_device rows point.name ≡ None
  pub room : length rows.points < POINT_LIMIT

pub IsNewPoint-from_no_fault : (so_far : SoFar) (point : PointRow)
    → row_fault so_far (Point point) ≡ None → IsNewPoint so_far.rows point
IsNewPoint-from_no_fault so_far point none =
    let taken = free so_far (Point point) none in
    let fresh = or_parts _ _ taken.2 in
    record {
      no_tables = eqb-true (length so_far.rows.tables) 0 (not-false _ taken.0);
      fresh = none-from_is_some (place_of_point so_far.rows point.name) fresh.0;
      apart = none-from_is_some (place_of_device so_far.rows point.name) fresh.1;
      room = leb-false POINT_LIMIT (length so_far.rows.points) taken.3;
    }

-- what lets a device in
pub record IsNewDevice (rows : CentreRows) (device : DeviceRow) : Type 0 where
  pub no_tables : length rows.tables ≡ 0
  pub apart : place_of_point rows device.name ≡ None
  pub fresh : place_of_device rows device.name ≡ None
  pub room : length rows.devices < DEVICE_LIMIT
  pub span : is_wrong_span device ≡ false

pub IsNewDevice-from_no_fault : (so_far : SoFar) (device : DeviceRow)
    → row_fault so_far (Device device) ≡ None → IsNewDevice so_far.rows device
IsNewDevice-from_no_fault so_far device none =
    let taken = free so_far (Device device) none in
    let fresh = or_parts _ _ taken.2 in
    let limits = or_parts _ _ taken.3 in
    record {
      no_tables = eqb-true (length so_far.rows.tables) 0 (not-false _ taken.0);
      apart = none-from_is_some (place_of_point so_far.rows device.name) fresh.0;
      fresh = none-from_is_some (place_of_device so_far.rows device.name) fresh.1;
      room = leb-false DEVICE_LIMIT (length so_far.rows.devices) limits.0;
      span = limits.1;
    }

-- what lets a peer in
pub record IsNewPeer (rows : CentreRows) (table : Table) : Type 0 where
  pub fresh : place_of_peer rows table.key ≡ None
  pub title : place_of_title rows table.title ≡ None
  pub room : length rows.tables < PEER_LIMIT

pub IsNewPeer-from_no_fault : (so_far : SoFar) (table : Table)
    → row_fault so_far (Peer table) ≡ None → IsNewPeer so_far.rows table
IsNewPeer-from_no_fault so_far table none =
    let taken = free so_far (Peer table) none in
    let parts = or_parts _ _ taken.2 in
    record {
      fresh = none-from_is_some (place_of_peer so_far.rows table.key) parts.0;
      title = none-from_is_some (place_of_title so_far.rows table.title) parts.1;
      room = leb-false PEER_LIMIT (length so_far.rows.tables) taken.3;
    }

some_table : (rows : CentreRows) → (length rows.tables == 0) ≡ false → 0 < length rows.tables
some_table rows placed =
    let ne : length rows.tables ≢ 0 = eqb-false (length rows.tables) 0 placed in omega arith

-- what lets a limit of a table in
pub limit_taken : (rows : CentreRows) (given : Bool) (number : Option ℕ)
    → first_reason (length rows.tables == 0) false given (is_none number) ≡ None
    → (0 < length rows.tables) × (n : ℕ) × (number ≡ Some n)
limit_taken rows given number none =
    let taken = no_reasons (length rows.tables == 0) false given (is_none number) none in
    let there = some-from_is_none number taken.3 in
    (some_table rows taken.0, there.0, there.1)

-- what lets the pending octets of a table in
pub pending_taken : (rows : CentreRows) (peer : ℕ) (given : Bool) (number : Option ℕ)
    → first_reason
    (length rows.tables == 0 || not (length (further_of rows peer) == 0)) false given
    (is_none number) ≡ None
    → (0 < length rows.tables) × (length (further_of rows peer) ≡ 0) × (n : ℕ)
    × (number ≡ Some n)
pending_taken rows peer given number none =
    let taken = no_reasons
    (length rows.tables == 0 || not (length (further_of rows peer) == 0)) false given
    (is_none number) none in
    let placed = or_parts _ _ taken.0 in
    let there = some-from_is_none number taken.3 in (
      some_table rows placed.0,
      eqb-true (length (further_of rows peer)) 0 (not-false _ placed.1),
      there.0,
      there.1,
    )

-- what lets a further table of a peer in
pub record IsNewVariant (rows : CentreRows) (key : List ℕ) (peer : ℕ) : Type 0 where
  pub known : place_of_peer rows key ≡ Some peer
  pub room : length (further_of rows peer) < VARIANT_LIMIT

pub IsNewVariant-from_no_fault : (so_far : SoFar) (key domain id : List ℕ)
    → row_fault so_far (Variant key domain id) ≡ None
    → (peer : ℕ) × IsNewVariant so_far.rows key peer
IsNewVariant-from_no_fault so_far key domain id none =
    let taken = free so_far (Variant key domain id) none in
    let rows = so_far.rows in
    let peer = some-from_is_none (place_of_peer rows key) taken.1 in
    let room : has_all_variants rows (Some peer.0) ≡ false = rw peer.1 at taken.3 in (
      peer.0,
      record {
        known = peer.1;
        room = leb-false VARIANT_LIMIT (length (further_of rows peer.0)) room;
      },
    )

-- what lets a row into a table
pub record IsNewSee (so_far : SoFar) (name : List ℕ) (layout : Option (List Component))
    (point : ℕ) (components : List Component) : Type 0 where
  pub some_table : 0 < length so_far.rows.tables
  pub known : place_of_point so_far.rows name ≡ Some point
  pub shown : layout ≡ Some components
  pub fresh : place_of_see (current_table so_far) point ≡ None
  pub room : length (current_table so_far).sees < SEE_LIMIT

pub IsNewSee-from_no_fault : (so_far : SoFar) (name : List ℕ) (vmd : Bool)
    (layout : Option (List Component)) → row_fault so_far (See name vmd layout) ≡ None
    → (point : ℕ) × (components : List Component)
    × IsNewSee so_far name layout point components
IsNewSee-from_no_fault so_far name vmd layout none =
    let taken = free so_far (See name vmd layout) none in
    let rows = so_far.rows in
    let point = some-from_is_none (place_of_point rows name) taken.1 in
    let again = or_parts _ _ taken.2 in
    let shown = some-from_is_none layout again.0 in (
      point.0,
      shown.0,
      record {
        some_table = some_table rows taken.0;
        known = point.1;
        shown = shown.1;
        fresh =
            none-from_is_some (place_of_see (current_table so_far) point.0)
            (rw point.1 at again.1);
        room = leb-false SEE_LIMIT (length (current_table so_far).sees) taken.3;
      },
    )

-- what lets a row for a device into a table
pub record IsNewControl (so_far : SoFar) (name : List ℕ) (device : ℕ) : Type 0 where
  pub some_table : 0 < length so_far.rows.tables
  pub known : place_of_device so_far.rows name ≡ Some device
  pub fresh : place_of_control (current_table so_far) device ≡ None
  pub room : length (current_table so_far).controls < DEVICE_LIMIT

pub IsNewControl-from_no_fault : (so_far : SoFar) (name : List ℕ) (tag : Bool)
    → row_fault so_far (Control name tag) ≡ None
    → (device : ℕ) × IsNewControl so_far name device
IsNewControl-from_no_fault so_far name tag none =
    let taken = free so_far (Control name tag) none in
    let rows = so_far.rows in
    let device = some-from_is_none (place_of_device rows name) taken.1 in (
      device.0,
      record {
        some_table = some_table rows taken.0;
        known = device.1;
        fresh =
            none-from_is_some (place_of_control (current_table so_far) device.0)
            (rw device.1 at taken.2);
        room = leb-false DEVICE_LIMIT (length (current_table so_far).controls) taken.3;
      },
    )
