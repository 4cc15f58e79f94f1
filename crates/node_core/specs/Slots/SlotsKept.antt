-- What a node keeps of the transfer sets of a peer.
use Rattle.std.specs.Prelude.{◌≡◌, ℕ, ◌<◌, ◌++◌, ◌&&◌, if◌then◌else◌, Bool, true, false, List, []}
use Rattle.std.specs.Prelude.{◌∷◌, length, find}
use Rattle.std.specs.Prelude.{Option, Some, None, is_none, is_some, slice_set, bytes_eq, Result, Ok}
use Rattle.std.specs.Prelude.{Err}
use Rattle.std.specs.List.{All, range_with_len, list_any}
use Rattle.std.specs.Option.{option_map_or}
use Rattle.bilateral.specs.declared.rows.TheConstants.{SLOT_LIMIT}
use Rattle.mms_data.specs.Datum.{Datum, boolean}
use Rattle.mms_data.specs.declared.outcome.Outcome.{Outcome}
use Rattle.mms_data.specs.declared.outcome.Outcome.TheVariants.{Good, Fail}
use Rattle.mms_data.specs.ObjectName.{ObjectName}
use Rattle.data_sets.specs.Books.{Book, members_in}
use Rattle.transfer_sets.specs.declared.wish.Wish.{Wish}
use Rattle.transfer_sets.specs.SlotState.{IsSlotLike}
use Rattle.transfer_sets.specs.SlotMoves.{owner_in}
use Rattle.transfer_sets.specs.WishData.{shown_wish}
use Rattle.transfer_sets.specs.Banks.{OwnedSlot, slot_at, handed_slot, is_owned_by, with_wish}
use Rattle.tase_views.specs.OwnTables.{OwnTable, OwnTables}
use Rattle.tase_views.specs.declared.reply.TheConstants.{OBJECT_ACCESS_DENIED}
use Rattle.tase_views.specs.Objects.{Object, next_transfer_set, transfer_set, transfer_set_status}
use Rattle.tase_views.specs.Objects.{object_named}
use Rattle.tase_views.specs.View.{View, held}
use Rattle.tase_views.specs.Slots.{slot_of, is_next_slot, wish_asked, taken, slot_moves, sets_in}
use Rattle.tase_views.specs.Slots.{wished_members}
use Rattle.tase_views.specs.Reports.{slot_state}
use Rattle.tase_views.specs.Answers.{temporarily_unavailable, slot_name, object_read}

-- A bank has of each transfer set the owner that the view of a peer with these tables shows, and it
-- stands where its moves have brought it; there is one for each that a table may offer. What nobody
-- owns isn't enabled, what somebody owns is offered by the table in force, and the data set of an
-- enabled one is there.
pub record IsBank (tables : OwnTables) (view : View) (slots : List OwnedSlot) : Type 0 where
  pub many : length slots ≡ SLOT_LIMIT
  pub owner : (s : ℕ) → (slot_at slots s).owner ≡ owner_in (slot_moves tables view s)
  pub state : (s : ℕ) → IsSlotLike (slot_at slots s).state (slot_state tables view s)
  pub idle : (s : ℕ) → (slot_at slots s).owner ≡ None
      → (slot_at slots s).state.wish.status ≡ false
  pub within : (s ordinal : ℕ) → (slot_at slots s).owner ≡ Some ordinal
      → s < (held tables view).slots
  pub set_there : (s : ℕ) → (slot_at slots s).state.wish.status ≡ true
      → is_some (wished_members (held tables view) (sets_in tables view)
      (slot_at slots s).state.wish) ≡ true

-- what its owner, and nobody else, reads of a transfer set
abbrev pub shown_to : ℕ → OwnedSlot → Datum → Outcome
shown_to ordinal slot value =
    if is_owned_by ordinal slot then Good value else Fail OBJECT_ACCESS_DENIED

-- the first of so many transfer sets that nobody owns
abbrev pub first_free : ℕ → List OwnedSlot → Option ℕ
first_free count slots = find (λ s. is_none (slot_at slots s).owner) (range_with_len 0 count)

-- transfer sets of which this one is handed out to an association, if it is one
abbrev pub handed_by : ℕ → Option ℕ → List OwnedSlot → List OwnedSlot
handed_by ordinal None slots = slots
handed_by ordinal (Some s) slots = slice_set slots s (handed_slot ordinal)

-- behind a read: that of the next transfer set hands out the first that is free
abbrev pub slots_read : OwnTable → ℕ → ObjectName → List OwnedSlot → List OwnedSlot
slots_read table ordinal name slots =
    if is_next_slot (object_named table name)
    then handed_by ordinal (first_free table.slots slots) slots else slots

-- the wish that a write asks of a transfer set with this one, or why it isn't taken
abbrev pub wish_taken : OwnTable → Book → Wish → Option Object → Datum → Result Wish ℕ
wish_taken table book wish object value =
    taken table (members_in book.sets) (wish_asked wish object value)

-- a transfer set behind a wish that was taken
abbrev pub with_taken : Result Wish ℕ → ℕ → OwnedSlot → OwnedSlot
with_taken (Ok wish) now slot = with_wish wish now slot
with_taken (Err reason) now slot = slot

-- the transfer set that an object is, behind a write by an association
abbrev pub slot_written : OwnTable → Book → ℕ → ℕ → Option Object → Datum → OwnedSlot → OwnedSlot
slot_written table book ordinal now object value slot =
    if is_owned_by ordinal slot
    then with_taken (wish_taken table book slot.state.wish object value) now slot else slot

abbrev pub written_at : Option ℕ → (OwnedSlot → OwnedSlot) → List OwnedSlot → List OwnedSlot
written_at None change slots = slots
written_at (Some s) change slots = slice_set slots s (change (slot_at slots s))

-- behind a write
abbrev pub slots_written : OwnTable → Book → ℕ → ℕ → ObjectName → Datum → List OwnedSlot
    → List OwnedSlot
slots_written table book ordinal now name value slots =
    let object = object_named table name in
    written_at (slot_of object) (slot_written table book ordinal now object value) slots

-- behind reads and writes, one after another
abbrev pub all_read : OwnTable → ℕ → List ObjectName → List OwnedSlot → List OwnedSlot
all_read table ordinal [] slots = slots
all_read table ordinal (name ∷ names) slots =
    all_read table ordinal names (slots_read table ordinal name slots)

abbrev pub all_written : OwnTable → Book → ℕ → ℕ → List ObjectName → List Datum → List OwnedSlot
    → List OwnedSlot
all_written table book ordinal now (name ∷ names) (value ∷ values) slots =
    all_written table book ordinal now names values
    (slots_written table book ordinal now name value slots)
all_written table book ordinal now _ _ slots = slots

-- transfer sets of which these are handed out to an association, one after another
abbrev pub handed_all : ℕ → List ℕ → List OwnedSlot → List OwnedSlot
handed_all ordinal [] slots = slots
handed_all ordinal (s ∷ more) slots =
    handed_all ordinal more (slice_set slots s (handed_slot ordinal))

-- what a read of an object gives an association, by these transfer sets and, for all else, a view
abbrev pub object_shown : OwnTables → OwnTable → View → ℕ → List OwnedSlot → Option Object → Outcome
object_shown tables table view ordinal slots (Some next_transfer_set) =
    option_map_or (λ s. Good (slot_name table s)) (first_free table.slots slots)
    (Fail temporarily_unavailable)
object_shown tables table view ordinal slots (Some (transfer_set s)) =
    shown_to ordinal (slot_at slots s) (shown_wish (slot_at slots s).state.wish)
object_shown tables table view ordinal slots (Some (transfer_set_status s)) =
    shown_to ordinal (slot_at slots s) (boolean (slot_at slots s).state.wish.status)
object_shown tables table view ordinal slots object = object_read tables view ordinal object

-- what reads give, each behind those before it
abbrev pub outcomes_shown : OwnTables → OwnTable → View → ℕ → List ObjectName → List OwnedSlot
    → List Outcome
outcomes_shown tables table view ordinal [] slots = []
outcomes_shown tables table view ordinal (name ∷ names) slots =
    object_shown tables table view ordinal slots (object_named table name)
    ∷ outcomes_shown tables table view ordinal names (slots_read table ordinal name slots)

-- what a request of an association makes of transfer sets: those of them that it has handed out
pub record Drafted : Type 0 where
  pub bank : List OwnedSlot
  pub ordinal : ℕ
  pub handed : List ℕ

-- the transfer sets as the request finds them then
abbrev pub drafted : Drafted → List OwnedSlot
drafted d = handed_all d.ordinal d.handed d.bank

abbrev pub with_handed : ℕ → Drafted → Drafted
with_handed s d = record d { handed = d.handed ++ s ∷ [] }

-- the same request, with these transfer sets
pub record HasDrafted (old new : Drafted) (behind : List OwnedSlot) : Type 0 where
  pub bank : new.bank ≡ old.bank
  pub ordinal : new.ordinal ≡ old.ordinal
  pub slots : drafted new ≡ behind

abbrev pub AreSlots : List ℕ → Type 0
AreSlots = All (λ s. s < SLOT_LIMIT)

-- reads by an association hand these out, in order
abbrev pub HandsOut : OwnTable → ℕ → List ObjectName → List OwnedSlot → List ℕ → Type 0
HandsOut table ordinal names bank handed =
    (handed_all ordinal handed bank ≡ all_read table ordinal names bank) × AreSlots handed

-- whether an enabled one of the first so many transfer sets wishes this data set of a domain
abbrev pub is_kept : List ℕ → ℕ → List OwnedSlot → List ℕ → Bool
is_kept domain count slots name =
    list_any
    (λ s. let wish = (slot_at slots s).state.wish in
    wish.status && bytes_eq wish.set_domain domain && bytes_eq wish.set_name name)
    (range_with_len 0 count)
