-- The devices of a peer's table are kept as the peer's view shows them.
use Rattle.std.proofs.Common.{◌≡◌, ◌==◌, ℕ, zero, suc, ◌<◌, Bool, true, false, not, ◌&&◌, ◌||◌}
use Rattle.std.proofs.Common.{if◌then◌else◌, List, [], ◌∷◌, ◌++◌, map, length, Option, Some, None}
use Rattle.std.proofs.Common.{is_some, bytes_eq, subst, refl, sym, ap, ◌∙◌, ⊎_elim, arith}
use Rattle.std.specs.Prelude.{find, flat_map, slice_index_or, option_map}
use Rattle.std.specs.Option.{option_map_or}
use Rattle.std.proofs.lemmas.Bool.{false≢true, eq-eqb, cases_order}
use Rattle.std.proofs.lemmas.Option.{same_Some, none-some}
use Rattle.std.proofs.lemmas.List.{get_or-map}
use Rattle.std.proofs.lemmas.Slice.Eq.{bytes_eq-Decides}
use Rattle.bilateral.specs.declared.rows.Control.{Control}
use Rattle.bilateral.specs.Rows.{CentreRows, IsCentre, variants_of, variant_of, no_table}
use Rattle.bilateral.specs.Rows.{device_of, no_device}
use Rattle.sbo_device.specs.declared.hold.Hold.{Hold}
use Rattle.sbo_device.specs.Moves.{ControlPoint, DeviceMove, selected, operated, closed, ticked}
use Rattle.sbo_device.specs.Moves.{tagged}
use Rattle.sbo_device.specs.States.{is_held_by, is_held_by_other, has_run_out, is_granted}
use Rattle.sbo_device.specs.States.{is_permitted, state_in, hold_of, tag_of}
use Rattle.sbo_device.specs.SameMoves.{renumbered_hold, TellsApart}
use Rattle.sbo_device.specs.Banks.{DeviceRecord, BankState, StandBy, device_at, tag_shown}
use Rattle.sbo_device.proofs.BankMoves.{tag_told}
use Rattle.sbo_device.proofs.OneHolder.{point_stays}
use Rattle.tase_views.specs.Moves.{Move}
use Rattle.tase_views.specs.History.{Past}
use Rattle.tase_views.specs.OwnTables.{OwnDevice, OwnTable, own_device, own_table}
use Rattle.tase_views.specs.OwnTables.{own_tables, no_own_table, device_named}
use Rattle.tase_views.specs.OwnTables.{is_selectable, control_of}
use Rattle.tase_views.specs.Devices.{device_moves}
use Rattle.tase_views.specs.View.{moves_in, steps_in, view_of, peer_number, moves_seen}
use Rattle.tase_views.proofs.OwnDevices.{Each}
use Rattle.tase_views.proofs.DeviceRows.{IsRow, table_rows, table_named}
use Rattle.tase_views.proofs.KeyNumbers.{may_share, numbers_differ}
use Rattle.tase_views.proofs.DevicesSeen.{tag-seen}
use Rattle.tase_views.proofs.Holders.{IsGood, all_good, part_may, hold-seen}
use Rattle.tase_views.proofs.Seated.{orderly}
use Rattle.node_core.specs.Devices.DeviceBanks.{row_control, controls_of, moves_of_each, IsDeviceBank}
use Rattle.node_core.specs.Devices.DevicesSeen.{IsHoldSeen, IsDeviceSeen, AreDevicesSeen}
use Rattle.node_core.proofs.OfDevices.Numbers.{control_at, control_within}

-- a row that the tables name: whether it is direct is what they have of its name

joined : (P : OwnDevice → Type 0) (one other : List OwnDevice) → Each P one → Each P other
    → Each P (one ++ other)
joined P [] other first second = second
joined P (d ∷ one) other first second = (first.0, joined P one other first.1 second)

flat : (P : OwnDevice → Type 0) (tables : List OwnTable)
    → ((k : ℕ) → Each P (slice_index_or tables k no_own_table).devices)
    → Each P (flat_map (λ (table : OwnTable). table.devices) tables)
flat P [] all = tt
flat P (table ∷ tables) all =
    joined P table.devices (flat_map (λ (t : OwnTable). t.devices) tables) (all 0)
    (flat P tables (λ k. all (suc k)))

found_is : (P : OwnDevice → Type 0) (test : OwnDevice → Bool) (devices : List OwnDevice)
    (d : OwnDevice) → Each P devices → find test devices ≡ Some d → P d × (test d ≡ true)
found_is P test [] d all e = absurd (none-some d e)
found_is P test (x ∷ xs) d all e = by (test x) refl e (found_is P test xs d all.1)
  where
    by : (t : Bool) → test x ≡ t → (if t then Some x else find test xs) ≡ Some d
        → (find test xs ≡ Some d → P d × (test d ≡ true)) → P d × (test d ≡ true)
    by true is f rest =
        let same = same_Some x d f in (subst P same all.0, ap test (sym same) ∙ is)
    by false is f rest = rest f

same_row : (rows : CentreRows) (a b : OwnDevice) → IsCentre rows → IsRow rows a → IsRow rows b
    → a.row.name ≡ b.row.name → a.row ≡ b.row
same_row rows a b lawful one other same =
    let names = sym (ap (λ r. r.name) one.2) ∙ same ∙ ap (λ r. r.name) other.2 in
    ⊎_elim
    (λ equal. one.2 ∙ ap (device_of rows) equal ∙ sym other.2)
    (λ apart. ⊎_elim
    (λ below. absurd (lawful.device_names one.0 other.0 no_device below other.1 names))
    (λ above. absurd (lawful.device_names other.0 one.0 no_device above one.1 (sym names))) apart)
    (cases_order one.0 other.0)

pub selectable : (rows : CentreRows) (peer : ℕ) (d : OwnDevice) → IsCentre rows → IsRow rows d
    → is_some (device_named (own_tables rows peer) d.row.name) ≡ true
    → is_selectable (own_tables rows peer) d.row.name ≡ not d.row.direct
selectable rows peer d lawful its named =
    by (device_named (own_tables rows peer) d.row.name) refl named
  where
    by : (found : Option OwnDevice) → device_named (own_tables rows peer) d.row.name ≡ found
        → is_some found ≡ true → is_selectable (own_tables rows peer) d.row.name ≡ not d.row.direct
    by None e there = absurd (false≢true there)
    by (Some found) e there =
        let test = λ (x : OwnDevice). bytes_eq x.row.name d.row.name in
        let devices = flat_map (λ (t : OwnTable). t.devices) (own_tables rows peer).tables in
        let is = found_is (IsRow rows) test devices found
        (flat (IsRow rows) (own_tables rows peer).tables (λ k. table_rows rows peer k lawful)) e in
        let row = same_row rows found d lawful is.0 its
        ((bytes_eq-Decides found.row.name d.row.name).0 is.1) in
        ap (λ (o : Option OwnDevice). option_map_or (λ x. not x.row.direct) o false) e
        ∙ ap (λ r. not r.direct) row

-- a direct device is never held

otherwise : (t : Bool) (one other : Option Hold) → t ≡ false → other ≡ None
    → (if t then one else other) ≡ None
otherwise true one other never none = absurd (false≢true (sym never))
otherwise false one other never none = none

either_none : (t : Bool) (held : Option Hold) → held ≡ None → (if t then None else held) ≡ None
either_none true held none = refl
either_none false held none = none

not_granted : (direct a b : Bool) → direct ≡ true → (not direct && a && b) ≡ false
not_granted true a b e = refl
not_granted false a b e = absurd (false≢true e)

pub never_held : (point : ControlPoint) (moves : List DeviceMove) → point.direct ≡ true
    → hold_of point moves ≡ None
never_held point [] direct = refl
never_held point (selected key now ∷ moves) direct =
    otherwise (is_granted (state_in point moves) key) _ (hold_of point moves)
    (not_granted (state_in point moves).point.direct
    (not (is_held_by_other key (hold_of point moves))) (not ((state_in point moves).tag == 1))
    (ap (λ (p : ControlPoint). p.direct) (point_stays point moves) ∙ direct))
    (never_held point moves direct)
never_held point (operated key value ∷ moves) direct =
    either_none (is_permitted (state_in point moves) key value) (hold_of point moves)
    (never_held point moves direct)
never_held point (closed key ∷ moves) direct =
    either_none (is_held_by key (hold_of point moves)) (hold_of point moves)
    (never_held point moves direct)
never_held point (ticked now ∷ moves) direct =
    either_none (has_run_out now (hold_of point moves)) (hold_of point moves)
    (never_held point moves direct)
never_held point (tagged tag ∷ moves) direct = never_held point moves direct

-- a hold of any other device is seen by the number of its peer

first : (a b : Bool) → a ≡ true → (a || b) ≡ true
first true b e = refl
first false b e = absurd (false≢true e)

hold_numbered : (rows : CentreRows) (peer : ℕ) (moves : List Move) (held : Option Hold)
    → TellsApart (may_share rows peer) (peer_number rows peer) → IsGood rows peer moves held
    → IsHoldSeen peer held (option_map (renumbered_hold (peer_number rows peer)) held)
hold_numbered rows peer moves None apart good = refl
hold_numbered rows peer moves (Some hold) apart good =
    let itself : (peer == peer) ≡ true = eq-eqb peer peer refl in
    let none : peer_number rows peer peer ≡ 0 = rw itself refl in (
      peer_number rows peer hold.key.peer,
      refl,
      (
        λ e. apart hold.key.peer peer (part_may rows peer moves hold.key.peer good.1)
            (first (peer == peer) _ itself) (e ∙ sym none),
        λ same. ap (peer_number rows peer) same ∙ none,
      ),
    )

-- the moves of a device, and those that a peer sees
abbrev all_moves : CentreRows → Past → List ℕ → List DeviceMove
all_moves rows past name = device_moves name (steps_in rows (own_tables rows) (moves_in past))

abbrev shown_moves : CentreRows → Past → ℕ → List ℕ → List DeviceMove
shown_moves rows past peer name = moves_seen (own_tables rows peer) (view_of rows peer past) name

hold_shown : (rows : CentreRows) (past : Past) (peer : ℕ) (d : OwnDevice) → IsCentre rows
    → IsRow rows d → is_some (device_named (own_tables rows peer) d.row.name) ≡ true
    → IsHoldSeen peer (hold_of (control_of d) (all_moves rows past d.row.name))
    (hold_of (control_of d) (shown_moves rows past peer d.row.name))
hold_shown rows past peer d lawful its named = by d.row.direct refl
  where
    by : (t : Bool) → d.row.direct ≡ t
        → IsHoldSeen peer (hold_of (control_of d) (all_moves rows past d.row.name))
        (hold_of (control_of d) (shown_moves rows past peer d.row.name))
    by true direct =
        subst (λ (held : Option Hold). IsHoldSeen peer held
        (hold_of (control_of d) (shown_moves rows past peer d.row.name)))
        (sym (never_held (control_of d) (all_moves rows past d.row.name) direct))
        (never_held (control_of d) (shown_moves rows past peer d.row.name) direct)
    by false direct =
        let there : is_selectable (own_tables rows peer) d.row.name ≡ true =
        selectable rows peer d lawful its named ∙ ap not direct in
        subst (IsHoldSeen peer (hold_of (control_of d) (all_moves rows past d.row.name)))
        (sym (hold-seen rows (moves_in past) peer d.row.name (control_of d) (orderly past) lawful
        there))
        (hold_numbered rows peer (moves_in past) _
        (numbers_differ rows peer d.row.name lawful named)
        (all_good rows peer d.row.name (control_of d) (moves_in past) there (orderly past)))

-- a device of a control of a table, and all of them

one_seen : (rows : CentreRows) (past : Past) (peer : ℕ) (control : Control)
    (devices : List DeviceRecord) → IsCentre rows → control.device < length rows.devices
    → is_some (device_named (own_tables rows peer) (device_of rows control.device).name) ≡ true
    → StandBy (controls_of rows)
    (moves_of_each rows (steps_in rows (own_tables rows) (moves_in past))) devices
    → IsDeviceSeen (own_tables rows peer) (view_of rows peer past) peer (own_device rows control)
    (device_at devices control.device)
one_seen rows past peer control devices lawful within named stands =
    let n = control.device in
    let point = row_control (device_of rows n) in
    let moves = moves_of_each rows (steps_in rows (own_tables rows) (moves_in past)) in
    let its = stands.each n point (control_at rows n within) in
    record {
      point = ap (λ (kept : DeviceRecord). kept.state.point) its ∙ point_stays point (moves n);
      hold = subst (λ (kept : DeviceRecord). IsHoldSeen peer kept.state.hold
          (hold_of point (shown_moves rows past peer (device_of rows n).name))) (sym its)
          (hold_shown rows past peer (own_device rows control) lawful (n, within, refl) named);
      tag = tag_told (controls_of rows) moves devices n point stands (control_at rows n within)
          ∙ sym (tag-seen rows (moves_in past) peer (device_of rows n).name named);
    }

each_at : (P : OwnDevice → Type 0) (f : Control → OwnDevice) (controls : List Control)
    → Each P (map f controls) → (k : ℕ) (other : Control) → k < length controls
    → P (f (slice_index_or controls k other))
each_at P f [] each k other within = absurd (omega (arith, within))
each_at P f (control ∷ controls) each zero other within = each.0
each_at P f (control ∷ controls) each (suc k) other within =
    each_at P f controls each.1 k other (omega (arith, within))

pub devices_seen : (rows : CentreRows) (past : Past) (peer variant : ℕ) (bank : BankState)
    → IsCentre rows → variant < length (variants_of rows peer)
    → IsDeviceBank rows (moves_in past) bank
    → AreDevicesSeen rows (own_tables rows peer) (view_of rows peer past) peer
    (variant_of rows peer variant) bank.devices
devices_seen rows past peer variant bank lawful there stands k other within =
    let tables = own_tables rows peer in
    let table = variant_of rows peer variant in
    one_seen rows past peer (slice_index_or table.controls k other) bank.devices lawful
    (control_within rows peer variant lawful k other within)
    (each_at (λ (d : OwnDevice). is_some (device_named tables d.row.name) ≡ true) (own_device rows)
    table.controls
    (subst (λ (t : OwnTable).
    Each (λ (d : OwnDevice). is_some (device_named tables d.row.name) ≡ true) t.devices)
    (get_or-map (own_table rows) (variants_of rows peer) variant no_table no_own_table there)
    (table_named tables variant))
    k other within)
    stands.devices

-- the tag of a device, by its number, is the last one of its moves
pub tag_is : (rows : CentreRows) (past : Past) (bank : BankState) (n : ℕ)
    → n < length rows.devices → IsDeviceBank rows (moves_in past) bank
    → tag_shown (device_at bank.devices n)
    ≡ tag_of (device_moves (device_of rows n).name
    (steps_in rows (own_tables rows) (moves_in past)))
tag_is rows past bank n within kept =
    tag_told (controls_of rows)
    (moves_of_each rows (steps_in rows (own_tables rows) (moves_in past))) bank.devices n
    (row_control (device_of rows n)) kept.devices (control_at rows n within)
