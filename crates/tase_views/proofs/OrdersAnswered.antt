-- Whoever is answered that an operate is done has given an order, and held the device if it isn't
-- direct.
use Rattle.std.proofs.Common.{◌≡◌, ◌↔◌, ℕ, ◌+◌, ◌<◌, ◌==◌, nat_le, ℤ, Bool, true, false, not}
use Rattle.std.proofs.Common.{◌&&◌, ◌||◌, if◌then◌else◌, List, [], ◌∷◌, Option, Some, None, is_some}
use Rattle.std.proofs.Common.{bytes_eq, subst, refl, sym, ap, ◌∙◌, ⊎_elim, arith}
use Rattle.std.specs.Prelude.{option_map}
use Rattle.std.specs.Option.{option_map_or}
use Rattle.std.specs.List.{cons_option}
use Rattle.std.proofs.lemmas.Bool.{false≢true, eqb-true, eq-eqb, ne_eqb, cases_lt}
use Rattle.std.proofs.lemmas.Bool.Decides.{nat_tests}
use Rattle.mms_data.specs.Datum.{Datum}
use Rattle.mms_data.specs.ObjectName.{ObjectName}
use Rattle.bilateral.specs.Rows.{CentreRows, IsCentre, no_device}
use Rattle.sbo_device.specs.declared.key.Key.{Key}
use Rattle.sbo_device.specs.declared.hold.Hold.{Hold}
use Rattle.sbo_device.specs.declared.answer.Operate.TheVariants as operate
use Rattle.sbo_device.specs.Moves.{ControlPoint, DeviceState, Tag, DeviceAct, selecting, operating}
use Rattle.sbo_device.specs.Moves.{tagging, DeviceMove}
use Rattle.sbo_device.specs.Moves as device
use Rattle.sbo_device.specs.States.{is_held_by, has_run_out, takes, inhibits, is_granted}
use Rattle.sbo_device.specs.States.{is_permitted, state_in, tag_of, hold_of, permits}
use Rattle.sbo_device.specs.States.{operate_answer}
use Rattle.sbo_device.specs.SameMoves.{renumbered_key, renumbered_hold, TellsApart}
use Rattle.tase_views.specs.Moves.{Move}
use Rattle.tase_views.specs.History.{Past}
use Rattle.tase_views.specs.OwnTables.{OwnDevice, OwnTables, own_tables, control_of}
use Rattle.tase_views.specs.OwnTables.{is_selectable}
use Rattle.tase_views.specs.OwnTables.{device_named}
use Rattle.tase_views.specs.Objects.{control_point, object_named}
use Rattle.tase_views.specs.Devices.{DeviceStep, acted, ended, marked, passed, number_in, moment_of}
use Rattle.tase_views.specs.Devices.{done_by, device_moves}
use Rattle.tase_views.specs.View.{View, moves_in, view_by, steps_in, force, held, peer_number}
use Rattle.tase_views.specs.View.{moves_seen, own_key}
use Rattle.tase_views.specs.Slots.{type_inconsistent}
use Rattle.tase_views.specs.Answers.{operate_written, device_state, object_written}
use Rattle.tase_views.proofs.KeyNumbers.{may_share, numbers_differ}
use Rattle.tase_views.proofs.DevicesSeen.{own_number, tag-seen}
use Rattle.tase_views.proofs.Seated.{orderly, same_parts}
use Rattle.tase_views.proofs.Holders.{IsGood, all_good, part_may, hold-seen}
use Rattle.tase_views.proofs.DeviceRows.{point_named, point_row, point_selectable}

-- what permits an operate

tag_is : (point : ControlPoint) (moves : List DeviceMove)
    → (state_in point moves).tag ≡ (tag_of moves).tag
tag_is point [] = refl
tag_is point (device.selected key now ∷ moves) = tag_is point moves
tag_is point (device.operated key value ∷ moves) = tag_is point moves
tag_is point (device.closed key ∷ moves) = tag_is point moves
tag_is point (device.ticked now ∷ moves) = tag_is point moves
tag_is point (device.tagged tag ∷ moves) = refl

point_is : (point : ControlPoint) (moves : List DeviceMove) → (state_in point moves).point ≡ point
point_is point [] = refl
point_is point (move ∷ moves) = point_is point moves

abbrev permits_by : ControlPoint → Bool → ℕ → ℤ → Bool
permits_by point holds tag value =
    (point.direct || holds) && takes point.kind value && not (inhibits tag point.kind value)

permits-parts : (point : ControlPoint) (moves : List DeviceMove) (key : Key) (value : ℤ)
    → is_permitted (state_in point moves) key value
    ≡ permits_by point (is_held_by key (hold_of point moves)) (tag_of moves).tag value
permits-parts point moves key value =
    ap (λ (p : ControlPoint).
    permits_by p (is_held_by key (hold_of point moves)) (state_in point moves).tag value)
    (point_is point moves)
    ∙ ap (λ (tag : ℕ). permits_by point (is_held_by key (hold_of point moves)) tag value)
    (tag_is point moves)

-- an operate is done exactly where it is permitted
done_by_tests : (a b c : Bool)
    → (operate_written (if not a then operate.NotHolder else if not b then operate.BadValue
    else if c then operate.Inhibited else operate.Ordered) ≡ None) ↔ ((a && b && not c) ≡ true)
done_by_tests true true false = (λ e. refl, λ e. refl)
done_by_tests true true true = (λ e. absurd cc, λ e. absurd (false≢true e))
done_by_tests true false c = (λ e. absurd cc, λ e. absurd (false≢true e))
done_by_tests false b c = (λ e. absurd cc, λ e. absurd (false≢true e))

done-permitted : (s : DeviceState) (key : Key) (value : ℤ)
    → (operate_written (operate_answer s key value) ≡ None) ↔ (is_permitted s key value ≡ true)
done-permitted s key value =
    done_by_tests (s.point.direct || is_held_by key s.hold) (takes s.point.kind value)
    (inhibits s.tag s.point.kind value)

-- the holder is told apart by its number

same_number : (known : ℕ → Bool) (number : ℕ → ℕ) → TellsApart known number → (a b : ℕ)
    → known a ≡ true → known b ≡ true → (number a == number b) ≡ (a == b)
same_number known number apart a b one other = by (a == b) refl
  where
    by : (t : Bool) → (a == b) ≡ t → (number a == number b) ≡ t
    by true e = eq-eqb (number a) (number b) (ap number (eqb-true a b e))
    by false e =
        ne_eqb (number a) (number b)
        (λ same. false≢true (sym e ∙ eq-eqb a b (apart a b one other same)))

held_alike : (rows : CentreRows) (moves : List Move) (key : Key) (held : Option Hold)
    → TellsApart (may_share rows key.peer) (peer_number rows key.peer)
    → IsGood rows key.peer moves held
    → is_held_by (renumbered_key (peer_number rows key.peer) key)
    (option_map (renumbered_hold (peer_number rows key.peer)) held)
    ≡ is_held_by key held
held_alike rows moves key None apart good = refl
held_alike rows moves key (Some hold) apart good =
    ap (λ t. t && (hold.key.ordinal == key.ordinal))
    (same_number (may_share rows key.peer) (peer_number rows key.peer) apart hold.key.peer key.peer
    (part_may rows key.peer moves hold.key.peer good.1)
    (own (key.peer == key.peer) _ (eq-eqb key.peer key.peer refl)))
  where
    own : (a b : Bool) → a ≡ true → (a || b) ≡ true
    own true b e = refl
    own false b e = absurd (false≢true e)

-- whether an operate is permitted is the same over the view and over all moves
permitted_alike : (rows : CentreRows) (past : Past) (key : Key) (name : ObjectName) (d : OwnDevice)
    (value : ℤ) → IsCentre rows
    → object_named (held (own_tables rows key.peer)
    (view_by rows (own_tables rows) key.peer (moves_in past))) name ≡ Some (control_point d)
    → is_permitted (device_state (own_tables rows key.peer)
    (view_by rows (own_tables rows) key.peer (moves_in past)) d)
    (own_key key.ordinal) value
    ≡ is_permitted (state_in (control_of d)
    (device_moves d.row.name (steps_in rows (own_tables rows) (moves_in past)))) key value
permitted_alike rows past key name d value lawful is =
    permits-parts (control_of d) seen mine value
    ∙ ap (λ (tag : Tag).
    permits_by (control_of d) (is_held_by mine (hold_of (control_of d) seen)) tag.tag value)
    (tag-seen rows (moves_in past) key.peer d.row.name named)
    ∙ by d.row.direct refl
    ∙ sym (permits-parts (control_of d) all key value)
  where
    tables : OwnTables
    tables = own_tables rows key.peer

    view : View
    view = view_by rows (own_tables rows) key.peer (moves_in past)

    seen : List DeviceMove
    seen = moves_seen (own_tables rows key.peer)
        (view_by rows (own_tables rows) key.peer (moves_in past)) d.row.name

    all : List DeviceMove
    all = device_moves d.row.name (steps_in rows (own_tables rows) (moves_in past))

    mine : Key
    mine = own_key key.ordinal

    named : is_some (device_named (own_tables rows key.peer) d.row.name) ≡ true
    named = point_named rows key.peer (force view) name d is

    held_same : d.row.direct ≡ false
        → is_held_by mine (hold_of (control_of d) seen)
        ≡ is_held_by key (hold_of (control_of d) all)
    held_same direct =
        let there : is_selectable (own_tables rows key.peer) d.row.name ≡ true =
        point_selectable rows key.peer (force view) name d lawful is ∙ ap not direct in
        ap (is_held_by mine)
        (hold-seen rows (moves_in past) key.peer d.row.name (control_of d) (orderly past) lawful
        there)
        ∙ ap (λ (k : Key). is_held_by k (option_map (renumbered_hold (peer_number rows key.peer))
        (hold_of (control_of d) all))) (sym (own_number rows key.peer key.ordinal))
        ∙ held_alike rows (moves_in past) key (hold_of (control_of d) all)
        (numbers_differ rows key.peer d.row.name lawful named)
        (all_good rows key.peer d.row.name (control_of d) (moves_in past) there (orderly past))

    by : (b : Bool) → d.row.direct ≡ b
        → permits_by (control_of d) (is_held_by mine (hold_of (control_of d) seen)) (tag_of all).tag
        value
        ≡ permits_by (control_of d) (is_held_by key (hold_of (control_of d) all)) (tag_of all).tag
        value
    by true direct = rw direct refl
    by false direct =
        ap (λ (holds : Bool). permits_by (control_of d) holds (tag_of all).tag value)
        (held_same direct)

pub answered : (rows : CentreRows) (past : Past) (key : Key) (name : ObjectName)
    (d : OwnDevice) (value : Datum) (number : ℤ) → IsCentre rows
    → object_named (held (own_tables rows key.peer)
    (view_by rows (own_tables rows) key.peer (moves_in past))) name ≡ Some (control_point d)
    → number_in value ≡ Some number
    → (object_written (own_tables rows key.peer)
    (view_by rows (own_tables rows) key.peer (moves_in past)) key.ordinal
    (Some (control_point d)) value ≡ None)
    ↔ (permits (control_of d)
    (device_moves d.row.name (steps_in rows (own_tables rows) (moves_in past))) key number
    ≡ true)
answered rows past key name d value number lawful is number_is =
    let tables = own_tables rows key.peer in
    let view = view_by rows (own_tables rows) key.peer (moves_in past) in
    let s = device_state tables view d in
    let mine = own_key key.ordinal in
    let both = done-permitted s mine number in
    let alike = permitted_alike rows past key name d number lawful is in
    let written : object_written tables view key.ordinal (Some (control_point d)) value
    ≡ operate_written (operate_answer s mine number) =
    ap (λ (o : Option ℤ). option_map_or (λ n. operate_written (operate_answer s mine n)) o
    (Some type_inconsistent)) number_is in
    (λ e. sym alike ∙ both.0 (sym written ∙ e), λ e. written ∙ both.1 (alike ∙ e))

-- a hold ends after the moment

abbrev IsLater : ℕ → Option Hold → Type 0
IsLater now None = Unit {0}
IsLater now (Some hold) = now < hold.until

later_if : (now : ℕ) (b : Bool) (one other : Option Hold) → IsLater now one → IsLater now other
    → IsLater now (if b then one else other)
later_if now true one other first second = first
later_if now false one other first second = second

later_tick : (now : ℕ) (held : Option Hold)
    → IsLater now (if has_run_out now held then None else held)
later_tick now None = tt
later_tick now (Some hold) = by (nat_le hold.until now) refl
  where
    by : (b : Bool) → nat_le hold.until now ≡ b → IsLater now (if b then None else Some hold)
    by true e = tt
    by false e =
        ⊎_elim (λ below. below)
        (λ past. let run_out : nat_le hold.until now ≡ true = grind (arith, nat_tests) in
        absurd (false≢true (sym e ∙ run_out)))
        (cases_lt now hold.until)

later : (point : ControlPoint) (name : List ℕ) (steps : List DeviceStep) → 0 < point.span
    → IsLater (moment_of steps) (hold_of point (device_moves name steps))
later point name [] some = tt
later point name (acted key other act ∷ steps) some =
    by (bytes_eq other name) act (later point name steps some)
  where
    by : (b : Bool) (act : DeviceAct)
        → IsLater (moment_of steps) (hold_of point (device_moves name steps))
        → IsLater (moment_of steps)
        (hold_of point (cons_option (if b then Some (done_by key (moment_of steps) act) else None)
        (device_moves name steps)))
    by false act before = before
    by true selecting before =
        later_if (moment_of steps) (is_granted (state_in point (device_moves name steps)) key)
        (Some (record {
          key = key;
          until = moment_of steps + (state_in point (device_moves name steps)).point.span;
        }))
        (hold_of point (device_moves name steps))
        (subst (λ (p : ControlPoint). moment_of steps < moment_of steps + p.span)
        (sym (point_is point (device_moves name steps))) (omega (arith, some))) before
    by true (operating value) before =
        later_if (moment_of steps)
        (is_permitted (state_in point (device_moves name steps)) key value) None
        (hold_of point (device_moves name steps)) tt before
    by true (tagging tag) before = before
later point name (ended key ∷ steps) some =
    later_if (moment_of steps) (is_held_by key (hold_of point (device_moves name steps))) None
    (hold_of point (device_moves name steps)) tt (later point name steps some)
later point name (marked other tag ∷ steps) some =
    by (bytes_eq other name) (later point name steps some)
  where
    by : (b : Bool) → IsLater (moment_of steps) (hold_of point (device_moves name steps))
        → IsLater (moment_of steps)
        (hold_of point (cons_option (if b then Some (device.tagged tag) else None)
        (device_moves name steps)))
    by true before = before
    by false before = before
later point name (passed now ∷ steps) some =
    later_tick now (hold_of point (device_moves name steps))

-- who holds
holder : (now : ℕ) (key : Key) (held : Option Hold) → IsLater now held
    → is_held_by key held ≡ true
    → (until : ℕ) × (held ≡ Some (record { key = key; until = until })) × (now < until)
holder now key None late e = absurd (false≢true e)
holder now key (Some hold) late e = (
  hold.until,
  ap (λ (k : Key). Some (let h : Hold = record { key = k; until = hold.until } in h))
      (same_parts hold.key key e),
  late,
)

holds : (direct a b c : Bool) → direct ≡ false → ((direct || a) && b && c) ≡ true → a ≡ true
holds direct true b c not_direct e = refl
holds direct false b c not_direct e =
    absurd (false≢true (sym (ap (λ t. (t || false) && b && c) not_direct) ∙ e))

pub held_alone : (rows : CentreRows) (past : Past) (key : Key) (name : ObjectName)
    (d : OwnDevice) (number : ℤ) → IsCentre rows
    → object_named (held (own_tables rows key.peer)
    (view_by rows (own_tables rows) key.peer (moves_in past))) name ≡ Some (control_point d)
    → d.row.direct ≡ false
    → permits (control_of d)
    (device_moves d.row.name (steps_in rows (own_tables rows) (moves_in past))) key number
    ≡ true
    → (until : ℕ) × (hold_of (control_of d)
    (device_moves d.row.name (steps_in rows (own_tables rows) (moves_in past)))
    ≡ Some (record { key = key; until = until }))
    × (moment_of (steps_in rows (own_tables rows) (moves_in past)) < until)
held_alone rows past key name d number lawful is direct permitted =
    let steps = steps_in rows (own_tables rows) (moves_in past) in
    let moves = device_moves d.row.name steps in
    let view = view_by rows (own_tables rows) key.peer (moves_in past) in
    let row = point_row rows key.peer (force view) name d lawful is in
    let its = lawful.devices row.0 no_device row.1 in
    let some : 0 < d.row.span =
    subst (λ r. 0 < r.span) (sym row.2)
    (its.some_span (sym (ap (λ r. r.direct) row.2) ∙ direct)) in
    holder (moment_of steps) key (hold_of (control_of d) moves)
    (later (control_of d) d.row.name steps some)
    (holds d.row.direct (is_held_by key (hold_of (control_of d) moves))
    (takes d.row.kind number) (not (inhibits (tag_of moves).tag d.row.kind number)) direct
    (sym (permits-parts (control_of d) moves key number) ∙ permitted))
