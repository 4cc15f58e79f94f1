-- A device of a table stands alike in views that are alike, whether or not it is direct.
use Rattle.std.proofs.Common.{◌≡◌, ℕ, Bool, true, false, not, List, [], ◌∷◌, None, is_some, refl}
use Rattle.std.proofs.Common.{sym, ap, ◌∙◌}
use Rattle.sbo_device.specs.Moves.{DeviceState, Tag}
use Rattle.tase_views.specs.OwnTables.{OwnDevice, OwnTables, table_in, device_named, is_selectable}
use Rattle.tase_views.specs.OwnTables.{control_of}
use Rattle.tase_views.specs.View.{View, moves_seen}
use Rattle.tase_views.specs.Answers.{device_state}
use Rattle.tase_views.proofs.OwnDevices.{Each}
use Rattle.tase_views.proofs.DeviceRows.{table_named}
use Rattle.tase_resume.specs.Recounted.{Gap}
use Rattle.tase_resume.proofs.RaisedHolds.{Offsets, raised_state}
use Rattle.tase_resume.proofs.Like.{IsLike}
use Rattle.tase_resume.proofs.Selectable.{AreSelectable}
use Rattle.tase_resume.proofs.PendingAlike.{direct_free}
use Rattle.tase_resume.proofs.BaseSettled.{held_state}

-- a device as the tables name it
abbrev pub IsOwn : OwnTables → OwnDevice → Type 0
IsOwn tables d =
    (is_selectable tables d.row.name ≡ not d.row.direct)
    × (is_some (device_named tables d.row.name) ≡ true)

both : (P Q : OwnDevice → Type 0) (devices : List OwnDevice) → Each P devices → Each Q devices
    → Each (λ d. P d × Q d) devices
both P Q [] one other = tt
both P Q (d ∷ devices) one other = ((one.0, other.0), both P Q devices one.1 other.1)

pub owned : (tables : OwnTables) (n : ℕ) → AreSelectable tables
    → Each (IsOwn tables) (table_in tables n).devices
owned tables n selects =
    both (λ d. is_selectable tables d.row.name ≡ not d.row.direct)
    (λ d. is_some (device_named tables d.row.name) ≡ true) (table_in tables n).devices (selects n)
    (table_named tables n)

pub state_same : (tables : OwnTables) (offs : Offsets) (gap : Gap) (from : ℕ) (v w : View)
    (like : IsLike tables offs gap from v w) (d : OwnDevice) → IsOwn tables d
    → device_state tables v d ≡ raised_state offs (device_state tables w d)
state_same tables offs gap from v w like d own_d = by d.row.direct refl
  where
    by : (b : Bool) → d.row.direct ≡ b
        → device_state tables v d ≡ raised_state offs (device_state tables w d)
    by true e =
        let one = moves_seen tables v d.row.name in
        let other = moves_seen tables w d.row.name in
        held_state (control_of d) one (direct_free (control_of d) one e)
        ∙ ap (λ (t : Tag). let s : DeviceState = record {
          point = control_of d;
          tag = t.tag;
          hold = None;
        } in s) (like.tag d.row.name own_d.1)
        ∙ sym (ap (raised_state offs)
        (held_state (control_of d) other (direct_free (control_of d) other e)))
    by false e = like.state d.row.name (control_of d) (own_d.0 ∙ ap not e)
