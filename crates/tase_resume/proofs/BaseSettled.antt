-- Behind a history that a node takes, and in which no seat has an association, a peer has its
-- chosen table in force, nobody holds a device or owns a transfer set, and no report is pending.
use Rattle.std.proofs.Common.{◌≡◌, ℕ, ◌≤◌, true, List, [], ◌∷◌, Option, Some, None, refl}
use Rattle.std.proofs.Common.{sym, ap, ◌∙◌}
use Rattle.std.specs.Prelude.{filter_map, option_map}
use Rattle.std.proofs.lemmas.Bool.{false≢true}
use Rattle.bilateral.specs.Rows.{CentreRows, IsCentre}
use Rattle.sbo_device.specs.declared.hold.Hold.{Hold}
use Rattle.sbo_device.specs.Moves.{ControlPoint, DeviceState, DeviceMove}
use Rattle.sbo_device.specs.Moves as device
use Rattle.sbo_device.specs.SameMoves.{renumbered_hold}
use Rattle.sbo_device.specs.States.{state_in, hold_of, tag_of}
use Rattle.tase_views.specs.Moves.{Move}
use Rattle.tase_views.specs.Force.{TableMove, open_count, last_chosen, force_of}
use Rattle.tase_views.specs.OwnTables.{OwnTables, own_tables, is_selectable}
use Rattle.tase_views.specs.Devices.{device_moves}
use Rattle.tase_views.specs.History.{Past, association_in, opens_in}
use Rattle.tase_views.specs.View.{View, moves_in, view_of, table_seen, force, moves_seen, steps_in}
use Rattle.tase_views.specs.View.{peer_number}
use Rattle.tase_views.specs.Slots.{slot_moves}
use Rattle.tase_views.specs.Reports.{reports_pending}
use Rattle.tase_views.proofs.OpenKeys.{among, open_of}
use Rattle.tase_views.proofs.Seated.{orderly}
use Rattle.tase_views.proofs.Holders.{IsGood, all_good, hold-seen}
use Rattle.tase_views.specs.Chosen.{chosen_in}
use Rattle.tase_views.specs.Lived.{IsLived}
use Rattle.tase_resume.proofs.Like.{IsFree}
use Rattle.tase_resume.proofs.Settled.{none_open, none_counts}
use Rattle.tase_resume.proofs.SeenOrder.{open_alike, orderly_alike}
use Rattle.tase_resume.proofs.FreeSlots.{slots_free}
use Rattle.tase_resume.proofs.TablesSeen.{table_moves-seen}
use Rattle.tase_resume.proofs.Fresh.{none_pending}
use Rattle.tase_resume.proofs.GivenKeys.{known_moves, fresh_seen}

-- a view in which nothing is left of associations but the data sets; those of an ordinal on are yet
-- to come
pub record IsSettled (tables : OwnTables) (from : ℕ) (view : View) : Type 0 where
  pub count : open_count (filter_map table_seen view) ≡ 0
  pub table : force view ≡ chosen_in view
  pub hold : (name : List ℕ) (point : ControlPoint) → is_selectable tables name ≡ true
      → hold_of point (moves_seen tables view name) ≡ None
  pub slots : (s : ℕ) → IsFree (slot_moves tables view s)
  pub pending : (n : ℕ) → from ≤ n → reports_pending tables view n ≡ []

-- where no association is open, the chosen table is in force
chosen_force : (moves : List TableMove) → open_count moves ≡ 0 → force_of moves ≡ last_chosen moves
chosen_force [] none = refl
chosen_force (move ∷ moves) none = rw none refl

-- who holds a device is open, so none does
nobody_holds : (rows : CentreRows) (peer : ℕ) (moves : List Move) (held : Option Hold)
    → ((p : ℕ) → open_of p moves ≡ []) → IsGood rows peer moves held → held ≡ None
nobody_holds rows peer moves None none good = refl
nobody_holds rows peer moves (Some hold) none good =
    absurd (false≢true (sym (ap (among hold.key.ordinal) (none hold.key.peer)) ∙ good.0))

pub settled : (rows : CentreRows) (past : Past) (peer : ℕ) → IsCentre rows → IsLived rows past
    → ((who : ℕ) → association_in past who ≡ None)
    → IsSettled (own_tables rows peer) (opens_in past peer) (view_of rows peer past)
settled rows past peer lawful lived free =
    let owns = own_tables rows in
    let moves = moves_in past in
    let none = none_open rows past lived free in
    let counts : open_count (filter_map table_seen (view_of rows peer past)) ≡ 0 =
    ap open_count (table_moves-seen rows owns peer moves) ∙ none_counts rows past lived free peer in
    let seen_orderly = orderly_alike rows owns peer moves (orderly past) in
    record {
      count = counts;
      table = chosen_force (filter_map table_seen (view_of rows peer past)) counts;
      hold = λ name point named.
          hold-seen rows moves peer name point (orderly past) lawful named
          ∙ ap (option_map (renumbered_hold (peer_number rows peer)))
          (nobody_holds rows peer moves
          (hold_of point (device_moves name (steps_in rows owns moves))) none
          (all_good rows peer name point moves named (orderly past)));
      slots = λ s. slots_free (owns peer) (view_of rows peer past) s seen_orderly
          (open_alike rows owns peer moves ∙ none peer);
      pending = λ n yet. none_pending (owns peer) n (view_of rows peer past)
          (fresh_seen rows owns peer n past moves lawful yet (known_moves rows past lived))
          seen_orderly;
    }

-- a device that nobody holds has but its tag
pub held_state : (point : ControlPoint) (moves : List DeviceMove) → hold_of point moves ≡ None
    → state_in point moves
    ≡ (let s : DeviceState = record { point = point; tag = (tag_of moves).tag; hold = None } in s)
held_state point moves none =
    parts point moves
    ∙ ap (λ (h : Option Hold). let s : DeviceState = record {
      point = point;
      tag = (tag_of moves).tag;
      hold = h;
    } in s) none
  where
    point_same : (these : List DeviceMove) → (state_in point these).point ≡ point
    point_same [] = refl
    point_same (m ∷ these) = point_same these

    tag_same : (these : List DeviceMove) → (state_in point these).tag ≡ (tag_of these).tag
    tag_same [] = refl
    tag_same (device.selected key now ∷ these) = tag_same these
    tag_same (device.operated key value ∷ these) = tag_same these
    tag_same (device.closed key ∷ these) = tag_same these
    tag_same (device.ticked now ∷ these) = tag_same these
    tag_same (device.tagged tag ∷ these) = refl

    parts : (p : ControlPoint) (these : List DeviceMove)
        → state_in point moves
        ≡ (let s : DeviceState = record {
          point = point;
          tag = (tag_of moves).tag;
          hold = hold_of point moves;
        } in s)
    parts p these =
        ap (λ (q : ControlPoint). let s : DeviceState = record {
          point = q;
          tag = (state_in point moves).tag;
          hold = hold_of point moves;
        } in s) (point_same moves)
        ∙ ap (λ n. let s : DeviceState = record {
          point = point;
          tag = n;
          hold = hold_of point moves;
        } in s) (tag_same moves)
