-- For an association that a peer hasn't opened yet no report is pending.
use Rattle.std.proofs.Common.{◌≡◌, ◌==◌, ℕ, ◌+◌, Bool, true, false, ◌||◌, ◌&&◌, if◌then◌else◌, List}
use Rattle.std.proofs.Common.{[], ◌∷◌, ◌++◌, Option, Some, None, is_some, refl, sym, ap, subst, ◌∙◌}
use Rattle.std.proofs.Common.{inl, inr, bytes_eq}
use Rattle.std.specs.Prelude.{option_map, filter_map, flat_map, nat_eq}
use Rattle.std.specs.List.{cons_option, range_with_len}
use Rattle.std.specs.Option.{option_eq, option_map_or}
use Rattle.std.proofs.lemmas.Bool.{false≢true, eqb-true}
use Rattle.sbo_device.specs.declared.key.Key.{Key}
use Rattle.sbo_device.specs.declared.hold.Hold.{Hold}
use Rattle.sbo_device.specs.Moves.{ControlPoint, DeviceAct, selecting, operating, tagging}
use Rattle.sbo_device.specs.Moves.{DeviceMove}
use Rattle.sbo_device.specs.Moves as device
use Rattle.sbo_device.specs.States.{same_key, is_held_by, state_in, hold_of, is_granted}
use Rattle.sbo_device.specs.States.{is_permitted, has_run_out}
use Rattle.tase_views.specs.declared.reply.ReportKind.{ReportKind}
use Rattle.tase_views.specs.Moves.{opens, takes, closes, reads, writes, defines, deletes, calls}
use Rattle.tase_views.specs.OwnTables.{OwnDevice, OwnTables, control_of}
use Rattle.tase_views.specs.Devices.{Deed, deed_of, step_of_deed, moment_of, done_by}
use Rattle.tase_views.specs.View.{Seen, own, other_acted, other_closed, updated, tagged, asked}
use Rattle.tase_views.specs.View.{chose, ticked, stopped, View, held, own_key, other_key}
use Rattle.tase_views.specs.View.{key_number, step_seen, steps_seen, moves_seen}
use Rattle.tase_views.specs.Slots.{owns, slot_moves}
use Rattle.tase_views.specs.Reports.{timeout_report, own_reports, due_conditions, reports_by}
use Rattle.tase_views.specs.Reports.{reports_pending}
use Rattle.tase_views.proofs.OpenKeys.{among}
use Rattle.tase_views.proofs.DevicesSeen.{move_for, device_moves-cons}
use Rattle.tase_resume.proofs.Closing.{among_left}
use Rattle.tase_resume.proofs.SlotParts.{free_unowned}
use Rattle.tase_resume.proofs.SeenOrder.{open_seen, AreSeenOrderly}
use Rattle.tase_resume.proofs.FreeSlots.{IsKept, slots_kept}

-- a seen move isn't of the peer's own association with this ordinal
abbrev pub IsFresh : ℕ → Seen → Type 0
IsFresh n (own ordinal act) = (ordinal == n) ≡ false
IsFresh n (other_acted key ordinal device act) = (key_number key == 0) ≡ false
IsFresh n _ = Unit {0}

abbrev pub AreFresh : ℕ → View → Type 0
AreFresh n [] = Unit {0}
AreFresh n (move ∷ view) = IsFresh n move × AreFresh n view

-- it holds no device

abbrev IsFreshMove : ℕ → DeviceMove → Type 0
IsFreshMove n (device.selected key now) = same_key key (own_key n) ≡ false
IsFreshMove n _ = Unit {0}

abbrev AreFreshMoves : ℕ → List DeviceMove → Type 0
AreFreshMoves n [] = Unit {0}
AreFreshMoves n (move ∷ moves) = IsFreshMove n move × AreFreshMoves n moves

-- what may be a move
abbrev IsFreshOne : ℕ → Option DeviceMove → Type 0
IsFreshOne n None = Unit {0}
IsFreshOne n (Some move) = IsFreshMove n move

fresh-cons : (n : ℕ) (move : Option DeviceMove) (moves : List DeviceMove) → IsFreshOne n move
    → AreFreshMoves n moves → AreFreshMoves n (cons_option move moves)
fresh-cons n None moves one rest = rest
fresh-cons n (Some move) moves one rest = (one, rest)

fresh_done : (n : ℕ) (key : Key) (now : ℕ) (act : DeviceAct) → same_key key (own_key n) ≡ false
    → IsFreshMove n (done_by key now act)
fresh_done n key now selecting apart = apart
fresh_done n key now (operating value) apart = tt
fresh_done n key now (tagging tag) apart = tt

fresh_if : (n : ℕ) (b : Bool) (move : DeviceMove) → IsFreshMove n move
    → IsFreshOne n (if b then Some move else None)
fresh_if n true move one = one
fresh_if n false move one = tt

fresh_deed : (n : ℕ) (name : List ℕ) (now : ℕ) (key : Key) (deed : Option Deed)
    → same_key key (own_key n) ≡ false
    → IsFreshOne n (move_for name now (option_map (step_of_deed key) deed))
fresh_deed n name now key None apart = tt
fresh_deed n name now key (Some deed) apart =
    fresh_if n (bytes_eq deed.device.row.name name) (done_by key now deed.act)
    (fresh_done n key now deed.act apart)

fresh_told : (tables : OwnTables) (n : ℕ) (name : List ℕ) (now : ℕ) (view : View) (move : Seen)
    → IsFresh n move → IsFreshOne n (move_for name now (step_seen tables view move))
fresh_told tables n name now view (own ordinal closes) fresh = tt
fresh_told tables n name now view (own ordinal opens) fresh = tt
fresh_told tables n name now view (own ordinal takes) fresh = tt
fresh_told tables n name now view (own ordinal (reads item)) fresh =
    fresh_deed n name now (own_key ordinal) (deed_of (held tables view) (reads item)) fresh
fresh_told tables n name now view (own ordinal (writes item value)) fresh =
    fresh_deed n name now (own_key ordinal) (deed_of (held tables view) (writes item value)) fresh
fresh_told tables n name now view (own ordinal (defines set members)) fresh = tt
fresh_told tables n name now view (own ordinal (deletes set)) fresh = tt
fresh_told tables n name now view (own ordinal (calls call)) fresh = tt
fresh_told tables n name now view (other_acted key ordinal named act) fresh =
    fresh_if n (bytes_eq named name) (done_by (other_key key ordinal) now act)
    (fresh_done n (other_key key ordinal) now act (ap (λ b. b && (ordinal == n)) fresh))
fresh_told tables n name now view (other_closed key ordinal) fresh = tt
fresh_told tables n name now view (updated point value) fresh = tt
fresh_told tables n name now view (tagged named tag) fresh =
    fresh_if n (bytes_eq named name) (device.tagged tag) tt
fresh_told tables n name now view (asked s) fresh = tt
fresh_told tables n name now view (chose variant) fresh = tt
fresh_told tables n name now view (ticked moment) fresh = tt
fresh_told tables n name now view stopped fresh = tt

fresh_moves : (tables : OwnTables) (n : ℕ) (name : List ℕ) (view : View) → AreFresh n view
    → AreFreshMoves n (moves_seen tables view name)
fresh_moves tables n name [] fresh = tt
fresh_moves tables n name (move ∷ view) fresh =
    subst (AreFreshMoves n)
    (sym (device_moves-cons name (step_seen tables view move) (steps_seen tables view)))
    (fresh-cons n (move_for name (moment_of (steps_seen tables view)) (step_seen tables view move))
    (moves_seen tables view name)
    (fresh_told tables n name (moment_of (steps_seen tables view)) view move fresh.0)
    (fresh_moves tables n name view fresh.1))

held_if : (n : ℕ) (b : Bool) (one other : Option Hold) → is_held_by (own_key n) one ≡ false
    → is_held_by (own_key n) other ≡ false
    → is_held_by (own_key n) (if b then one else other) ≡ false
held_if n true one other first second = first
held_if n false one other first second = second

fresh_hold : (n : ℕ) (point : ControlPoint) (moves : List DeviceMove) → AreFreshMoves n moves
    → is_held_by (own_key n) (hold_of point moves) ≡ false
fresh_hold n point [] fresh = refl
fresh_hold n point (device.selected key now ∷ moves) fresh =
    held_if n (is_granted (state_in point moves) key) (Some (record {
      key = key;
      until = now + (state_in point moves).point.span;
    })) (hold_of point moves) fresh.0 (fresh_hold n point moves fresh.1)
fresh_hold n point (device.operated key value ∷ moves) fresh =
    held_if n (is_permitted (state_in point moves) key value) None (hold_of point moves) refl
    (fresh_hold n point moves fresh.1)
fresh_hold n point (device.closed key ∷ moves) fresh =
    held_if n (is_held_by key (hold_of point moves)) None (hold_of point moves) refl
    (fresh_hold n point moves fresh.1)
fresh_hold n point (device.ticked now ∷ moves) fresh =
    held_if n (has_run_out now (hold_of point moves)) None (hold_of point moves) refl
    (fresh_hold n point moves fresh.1)
fresh_hold n point (device.tagged tag ∷ moves) fresh = fresh_hold n point moves fresh.1

-- a hold that ends isn't its
ended_other : (n : ℕ) (b : Bool) (held : Option Hold) → is_held_by (own_key n) held ≡ false
    → option_map_or (λ (hold : Hold). same_key hold.key (own_key n)) (if b then None else held)
    false
    ≡ false
ended_other n true held none = refl
ended_other n false None none = refl
ended_other n false (Some hold) none = none

-- it owns no transfer set

open_fresh : (n k : ℕ) (view : View) → AreFresh n view → among k (open_seen view) ≡ true
    → (k == n) ≡ false
open_fresh n k [] fresh there = absurd (false≢true there)
open_fresh n k (own ordinal opens ∷ view) fresh there =
    by (ordinal == k) refl there (open_fresh n k view fresh.1)
  where
    by : (b : Bool) → (ordinal == k) ≡ b → (b || among k (open_seen view)) ≡ true
        → (among k (open_seen view) ≡ true → (k == n) ≡ false) → (k == n) ≡ false
    by true e t rest = ap (λ m. m == n) (sym (eqb-true ordinal k e)) ∙ fresh.0
    by false e t rest = rest t
open_fresh n k (own ordinal closes ∷ view) fresh there =
    open_fresh n k view fresh.1 (among_left ordinal k (open_seen view) there).0
open_fresh n k (own ordinal takes ∷ view) fresh there = open_fresh n k view fresh.1 there
open_fresh n k (own ordinal (reads name) ∷ view) fresh there = open_fresh n k view fresh.1 there
open_fresh n k (own ordinal (writes name value) ∷ view) fresh there =
    open_fresh n k view fresh.1 there
open_fresh n k (own ordinal (defines set members) ∷ view) fresh there =
    open_fresh n k view fresh.1 there
open_fresh n k (own ordinal (deletes set) ∷ view) fresh there = open_fresh n k view fresh.1 there
open_fresh n k (own ordinal (calls call) ∷ view) fresh there = open_fresh n k view fresh.1 there
open_fresh n k (other_acted key ordinal device act ∷ view) fresh there =
    open_fresh n k view fresh.1 there
open_fresh n k (other_closed key ordinal ∷ view) fresh there = open_fresh n k view fresh.1 there
open_fresh n k (updated name value ∷ view) fresh there = open_fresh n k view fresh.1 there
open_fresh n k (tagged device tag ∷ view) fresh there = open_fresh n k view fresh.1 there
open_fresh n k (asked s ∷ view) fresh there = open_fresh n k view fresh.1 there
open_fresh n k (chose variant ∷ view) fresh there = open_fresh n k view fresh.1 there
open_fresh n k (ticked now ∷ view) fresh there = open_fresh n k view fresh.1 there
open_fresh n k (stopped ∷ view) fresh there = open_fresh n k view fresh.1 there

module _ (tables : OwnTables) (n : ℕ) where
  unowned : (view : View) (s : ℕ) → AreFresh n view → AreSeenOrderly view
      → owns n (slot_moves tables view s) ≡ false
  unowned view s fresh orderly = by (slots_kept tables view s orderly)
    where
      by : IsKept (open_seen view) (slot_moves tables view s)
          → owns n (slot_moves tables view s) ≡ false
      by (inl free) = free_unowned (slot_moves tables view s) n free
      by (inr owned) =
          ap (λ (o : Option ℕ). option_eq nat_eq o (Some n)) owned.1
          ∙ open_fresh n owned.0 view fresh owned.2

  no_timeout : (view : View) (now : ℕ) (d : OwnDevice) → AreFresh n view
      → timeout_report tables view n now d ≡ None
  no_timeout view now d fresh =
      let held = hold_of (control_of d) (moves_seen tables view d.row.name) in
      let none = ended_other n (is_some (if has_run_out now held then None else held)) held
      (fresh_hold n (control_of d) (moves_seen tables view d.row.name)
      (fresh_moves tables n d.row.name view fresh)) in
      rw none refl

  no_timeouts : (view : View) (now : ℕ) (devices : List OwnDevice) → AreFresh n view
      → filter_map (timeout_report tables view n now) devices ≡ []
  no_timeouts view now [] fresh = refl
  no_timeouts view now (d ∷ devices) fresh =
      ap (λ (o : Option ReportKind).
      cons_option o (filter_map (timeout_report tables view n now) devices))
      (no_timeout view now d fresh)
      ∙ no_timeouts view now devices fresh

  no_report : (b : Bool) (made : List ReportKind) → b ≡ false → (if b then made else []) ≡ []
  no_report b made none = rw none refl

  no_own : (view : View) (now : ℕ) (conditions : ℕ → ℕ) (slots : List ℕ) → AreFresh n view
      → AreSeenOrderly view → flat_map (own_reports tables view n now conditions) slots ≡ []
  no_own view now conditions [] fresh orderly = refl
  no_own view now conditions (s ∷ slots) fresh orderly =
      ap (λ (l : List ReportKind). l ++ flat_map (own_reports tables view n now conditions) slots)
      (no_report (owns n (slot_moves tables view s)) _ (unowned view s fresh orderly))
      ∙ no_own view now conditions slots fresh orderly

  none_by : (view : View) (move : Seen) → AreFresh n view → AreSeenOrderly view
      → reports_by tables view n move ≡ []
  none_by view (ticked now) fresh orderly =
      ap (λ (l : List ReportKind). l ++ flat_map (own_reports tables view n now
      (λ s. due_conditions tables view s now)) (range_with_len 0 (held tables view).slots))
      (no_timeouts view now (held tables view).devices fresh)
      ∙ no_own view now (λ s. due_conditions tables view s now)
      (range_with_len 0 (held tables view).slots) fresh orderly
  none_by view (asked s) fresh orderly =
      no_report (owns n (slot_moves tables view s)) _ (unowned view s fresh orderly)
  none_by view (own other act) fresh orderly = refl
  none_by view (other_acted key other device act) fresh orderly = refl
  none_by view (other_closed key other) fresh orderly = refl
  none_by view (updated name value) fresh orderly = refl
  none_by view (tagged device tag) fresh orderly = refl
  none_by view (chose variant) fresh orderly = refl
  none_by view stopped fresh orderly = refl

  one_more : (view : View) (move : Seen) → AreFresh n view → AreSeenOrderly view
      → reports_pending tables view n ≡ []
      → reports_pending tables view n ++ reports_by tables view n move ≡ []
  one_more view move fresh orderly before =
      rw (before, none_by view move fresh orderly) refl

  pub none_pending : (view : View) → AreFresh n view → AreSeenOrderly view
      → reports_pending tables view n ≡ []
  none_pending [] fresh orderly = refl
  none_pending (own other takes ∷ view) fresh orderly =
      by (other == n) (none_pending view fresh.1 orderly.1)
    where
      by : (b : Bool) → reports_pending tables view n ≡ []
          → (if b then [] else reports_pending tables view n) ≡ []
      by true rest = refl
      by false rest = rest
  none_pending (own other opens ∷ view) fresh orderly =
      one_more view (own other opens) fresh.1 orderly (none_pending view fresh.1 orderly)
  none_pending (own other closes ∷ view) fresh orderly =
      one_more view (own other closes) fresh.1 orderly.1 (none_pending view fresh.1 orderly.1)
  none_pending (own other (reads name) ∷ view) fresh orderly =
      one_more view (own other (reads name)) fresh.1 orderly.1
      (none_pending view fresh.1 orderly.1)
  none_pending (own other (writes name value) ∷ view) fresh orderly =
      one_more view (own other (writes name value)) fresh.1 orderly.1
      (none_pending view fresh.1 orderly.1)
  none_pending (own other (defines set members) ∷ view) fresh orderly =
      one_more view (own other (defines set members)) fresh.1 orderly.1
      (none_pending view fresh.1 orderly.1)
  none_pending (own other (deletes set) ∷ view) fresh orderly =
      one_more view (own other (deletes set)) fresh.1 orderly.1
      (none_pending view fresh.1 orderly.1)
  none_pending (own other (calls call) ∷ view) fresh orderly =
      one_more view (own other (calls call)) fresh.1 orderly.1
      (none_pending view fresh.1 orderly.1)
  none_pending (other_acted key other device act ∷ view) fresh orderly =
      one_more view (other_acted key other device act) fresh.1 orderly
      (none_pending view fresh.1 orderly)
  none_pending (other_closed key other ∷ view) fresh orderly =
      one_more view (other_closed key other) fresh.1 orderly (none_pending view fresh.1 orderly)
  none_pending (updated name value ∷ view) fresh orderly =
      one_more view (updated name value) fresh.1 orderly (none_pending view fresh.1 orderly)
  none_pending (tagged device tag ∷ view) fresh orderly =
      one_more view (tagged device tag) fresh.1 orderly (none_pending view fresh.1 orderly)
  none_pending (asked s ∷ view) fresh orderly =
      one_more view (asked s) fresh.1 orderly (none_pending view fresh.1 orderly)
  none_pending (chose variant ∷ view) fresh orderly =
      one_more view (chose variant) fresh.1 orderly (none_pending view fresh.1 orderly)
  none_pending (ticked now ∷ view) fresh orderly =
      one_more view (ticked now) fresh.1 orderly (none_pending view fresh.1 orderly)
  none_pending (stopped ∷ view) fresh orderly =
      one_more view stopped fresh.1 orderly (none_pending view fresh.1 orderly)
