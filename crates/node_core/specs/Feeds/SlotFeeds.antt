-- What the clock, the operator and the points of the centre do to the transfer sets of a peer.
use Rattle.std.specs.Prelude.{◌≡◌, ℕ, zero, suc, ◌≤◌, ◌==◌, if◌then◌else◌, true, List, [], ◌∷◌}
use Rattle.std.specs.Prelude.{length, ◌<◌, not, nat_lt, Bool, filter}
use Rattle.std.specs.List.{range_with_len}
use Rattle.transfer_sets.specs.declared.next_due.TheConstants.{DUE_LIMIT}
use Rattle.std.specs.Prelude.{slice_index_or}
use Rattle.std.specs.Option.{unwrap_or}
use Rattle.bilateral.specs.declared.rows.TheConstants.{SLOT_LIMIT}
use Rattle.data_sets.specs.Books.{Book, members_in}
use Rattle.transfer_sets.specs.declared.wish.Wish.{Wish}
use Rattle.transfer_sets.specs.SlotState.{SlotState}
use Rattle.transfer_sets.specs.SlotMoves.{SlotMove, PointChange, Places, FollowsMoves, changes}
use Rattle.transfer_sets.specs.Due.{conditions_due}
use Rattle.transfer_sets.specs.Banks.{OwnedSlot, slot_at, told}
use Rattle.tase_views.specs.OwnTables.{OwnTable}
use Rattle.tase_views.specs.View.{Seen, ticked, asked}
use Rattle.tase_views.specs.Slots.{makes_report, asked_conditions, wished_members, places_told}
use Rattle.node_core.specs.declared.feeds.cause.ReportCause.{ReportCause}
use Rattle.node_core.specs.declared.feeds.cause.ReportCause.TheVariants.{Tick, Ask}

-- ---- reports

-- what a cause of reports is in a peer's view
abbrev pub move_of : ReportCause → Seen
move_of (Tick from to) = ticked to
move_of (Ask slot now) = asked slot

-- the moment behind which it comes
abbrev pub moment_before : ReportCause → ℕ
moment_before (Tick from to) = from
moment_before (Ask slot now) = now

-- the moment at which its reports are made
abbrev pub moment_at : ReportCause → ℕ
moment_at (Tick from to) = to
moment_at (Ask slot now) = now

-- the conditions that it brings about for the transfer set with a number
abbrev pub conditions_by : ReportCause → ℕ → SlotState → ℕ
conditions_by (Tick from to) s state = conditions_due state from to
conditions_by (Ask slot now) s state = if slot == s then asked_conditions state else 0

-- the clock goes on from a moment to a later one, below the limit of all moments
abbrev pub IsForward : ℕ → ℕ → Type 0
IsForward from to = (from < to) × (to < DUE_LIMIT)

-- how many of the transfer sets that a table may offer have a property
abbrev pub slot_count : (OwnedSlot → Bool) → List OwnedSlot → ℕ
slot_count has slots = length (filter (λ s. has (slot_at slots s)) (range_with_len 0 SLOT_LIMIT))

-- of how many something is due where the clock goes on from a moment to another
abbrev pub due_count : ℕ → ℕ → List OwnedSlot → ℕ
due_count from to slots =
    slot_count (λ (slot : OwnedSlot). not (conditions_due slot.state from to == 0)) slots

-- a transfer set behind conditions: where they make a report, all is told
abbrev pub reported_on : ℕ → OwnedSlot → OwnedSlot
reported_on conditions slot = if makes_report slot.state conditions then told slot else slot

-- transfer sets behind a cause of reports
pub record AreReported (cause : ReportCause) (old new : List OwnedSlot) : Type 0 where
  pub many : length new ≡ length old
  pub each : (s : ℕ) → slot_at new s
      ≡ reported_on (conditions_by cause s (slot_at old s).state) (slot_at old s)

-- ---- changes of points

-- the places of the members of the data set that a wish names, by a book, which name a point
abbrev pub places_by : OwnTable → Book → Wish → List ℕ → List ℕ
places_by table book wish name =
    places_told table (unwrap_or (wished_members table (members_in book.sets) wish) []) name

-- a transfer set behind a change of a point, which its data set's members at these places name
pub record IsSlotChanged (here : List ℕ) (change : PointChange) (old new : OwnedSlot) : Type 0
  where
    pub owner : new.owner ≡ old.owner
    pub wish : new.state.wish ≡ old.state.wish
    pub stays : (old.state.wish.status ≡ true → here ≡ []) → new.state ≡ old.state
    pub follows : (members : Places) (moves : List SlotMove) → members change.point ≡ here
        → FollowsMoves members moves old.state
        → FollowsMoves members (changes change ∷ moves) new.state

-- transfer sets behind a change of a point
pub record AreChanged (table : OwnTable) (book : Book) (change : PointChange)
    (old new : List OwnedSlot) : Type 0 where
  pub many : length new ≡ length old
  pub each : (s : ℕ) → IsSlotChanged
      (places_by table book (slot_at old s).state.wish change.point) change (slot_at old s)
      (slot_at new s)

-- the places at which a change is to be noted in each transfer set
abbrev pub places_at : List (List ℕ) → ℕ → List ℕ
places_at plan s = slice_index_or plan s []

-- those for a change of the point with a name: of what isn't enabled none
abbrev pub places_planned : OwnTable → Book → List ℕ → OwnedSlot → List ℕ
places_planned table book name slot =
    if slot.state.wish.status then places_by table book slot.state.wish name else []

-- whether a transfer set is enabled and its data set names a point
abbrev pub watches_point : OwnTable → Book → List ℕ → OwnedSlot → Bool
watches_point table book name slot = nat_lt 0 (length (places_planned table book name slot))

-- how many of the transfer sets that a table may offer do
abbrev pub watch_count : OwnTable → Book → List ℕ → List OwnedSlot → ℕ
watch_count table book name slots = slot_count (watches_point table book name) slots

-- for how many of them something is planned
abbrev pub planned_count : List (List ℕ) → ℕ
planned_count plan =
    length (filter (λ s. nat_lt 0 (length (places_at plan s))) (range_with_len 0 SLOT_LIMIT))

-- nothing is planned of so many transfer sets
abbrev pub no_places : ℕ → List (List ℕ)
no_places zero = []
no_places (suc n) = [] ∷ no_places n

abbrev pub no_plan : List (List ℕ)
no_plan = no_places SLOT_LIMIT

pub record IsPlanned (table : OwnTable) (book : Book) (name : List ℕ) (slots : List OwnedSlot)
    (plan : List (List ℕ)) : Type 0 where
  pub many : length plan ≡ SLOT_LIMIT
  pub each : (s : ℕ) → places_at plan s ≡ places_planned table book name (slot_at slots s)

-- what is planned can be noted without memory
abbrev pub HasPlanRoom : List (List ℕ) → List OwnedSlot → Type 0
HasPlanRoom plan slots = (s : ℕ) → length (places_at plan s) ≤ (slot_at slots s).spare
