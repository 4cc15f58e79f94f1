-- What writes of a peer ask, and what comes of those of its transfer sets.
use Rattle.std.specs.Prelude.{ℕ, ◌<◌, ◌≤◌, ◌-◌, ◌^◌, ◌==◌, ℤ, pos, int_le, not, if◌then◌else◌, Bool}
use Rattle.std.specs.Prelude.{List, [], ◌∷◌, Option, Some, None, slice_set, Result, Ok, Err}
use Rattle.std.specs.Option.{option_map_or}
use Rattle.bilateral.specs.declared.rows.TheConstants.{SLOT_LIMIT}
use Rattle.mms_data.specs.Datum.{Datum}
use Rattle.mms_data.specs.ObjectName.{ObjectName}
use Rattle.data_sets.specs.Books.{Book, members_in}
use Rattle.transfer_sets.specs.declared.wish.Wish.{Wish}
use Rattle.transfer_sets.specs.declared.wish.WishFault.{WishFault}
use Rattle.transfer_sets.specs.declared.wish.WishFault.TheVariants.{Form}
use Rattle.transfer_sets.specs.Components.{wish_in, boolean_part}
use Rattle.transfer_sets.specs.SlotState.{with_status}
use Rattle.transfer_sets.specs.Banks.{OwnedSlot, slot_at, is_owned_by}
use Rattle.tase_views.specs.declared.reply.TheConstants.{OBJECT_NON_EXISTENT}
use Rattle.tase_views.specs.declared.reply.TheConstants.{OBJECT_ACCESS_DENIED}
use Rattle.bilateral.specs.Rows.{CentreRows}
use Rattle.sbo_device.specs.declared.device.TheConstants.{TAG_LIMIT}
use Rattle.sbo_device.specs.Moves.{Tag}
use Rattle.tase_views.specs.Devices.{number_in, tag_in}
use Rattle.tase_views.specs.OwnTables.{OwnTable}
use Rattle.tase_views.specs.Objects.{Object, control_point, device_tag, transfer_set}
use Rattle.tase_views.specs.Objects.{transfer_set_status, object_named}
use Rattle.tase_views.specs.Slots.{taken, type_inconsistent, value_invalid}
use Rattle.tase_views.specs.Answers.{reason_of}
use Rattle.node_core.specs.Devices.DeviceBanks.{number_of}
use Rattle.node_core.specs.declared.slots.writes.Asked.{Asked}
use Rattle.node_core.specs.declared.slots.writes.Asked.TheVariants.{Answered, Wished, Switched}
use Rattle.node_core.specs.declared.slots.writes.Asked.TheVariants.{Operated, Tagged}
use Rattle.node_core.specs.Slots.SlotsKept.{with_taken}

-- a number that a device is operated with, in 64 bits: the highest where it is above
abbrev pub operand : ℤ → ℤ
operand number = if int_le (pos (2 ^ 63)) number then pos (2 ^ 63 - 1) else number

-- what a write of a device's control point asks, by the device's number
abbrev pub operate_asked : ℕ → Datum → Asked
operate_asked n value =
    option_map_or (λ number. Operated n (operand number)) (number_in value)
    (Answered (Some type_inconsistent))

-- what a write of its tag asks, of a peer that may tag it or not
abbrev pub tag_asked : ℕ → Tag → Asked
tag_asked n tag =
    if tag.tag == 3 then Answered (Some value_invalid) else Tagged n tag.tag tag.reason

abbrev pub tagging_asked : ℕ → Bool → Datum → Asked
tagging_asked n may value =
    if not may then Answered (Some OBJECT_ACCESS_DENIED)
    else option_map_or (tag_asked n) (tag_in value) (Answered (Some type_inconsistent))

-- what a write asks of an object
abbrev pub asked_of : CentreRows → Option Object → Datum → Asked
asked_of rows None value = Answered (Some OBJECT_NON_EXISTENT)
asked_of rows (Some (transfer_set s)) value = Wished s (wish_in value)
asked_of rows (Some (transfer_set_status s)) value = Switched s (boolean_part value)
asked_of rows (Some (control_point d)) value = operate_asked (number_of rows d) value
asked_of rows (Some (device_tag d)) value = tagging_asked (number_of rows d) d.tag value
asked_of rows (Some object) value = Answered (Some OBJECT_ACCESS_DENIED)

abbrev pub all_asked : CentreRows → OwnTable → List ObjectName → List Datum → List Asked
all_asked rows table (name ∷ names) (value ∷ values) =
    asked_of rows (object_named table name) value ∷ all_asked rows table names values
all_asked rows table _ _ = []

-- a transfer set that is asked is one that a table may offer, and a device is one of so many
abbrev pub IsAskedThere : ℕ → Asked → Type 0
IsAskedThere count (Answered answer) = Unit {0}
IsAskedThere count (Wished s wish) = s < SLOT_LIMIT
IsAskedThere count (Switched s status) = s < SLOT_LIMIT
IsAskedThere count (Operated n number) = n < count
IsAskedThere count (Tagged n tag reason) = (n < count) × (tag ≤ TAG_LIMIT)

-- the wish that stands with another status
abbrev pub status_wish : Option Bool → Wish → Result Wish WishFault
status_wish status wish = option_map_or (λ b. Ok (with_status b wish)) status (Err Form)

-- what comes of a wish that is taken or not, where an association writes it, and what becomes of
-- the transfer sets
abbrev pub owner_answer : ℕ → OwnedSlot → Result Wish ℕ → Option ℕ
owner_answer ordinal slot asked =
    if is_owned_by ordinal slot then reason_of asked else Some OBJECT_ACCESS_DENIED

abbrev pub owner_slots : ℕ → ℕ → ℕ → Result Wish ℕ → List OwnedSlot → List OwnedSlot
owner_slots ordinal now s asked slots =
    slice_set slots s
    (if is_owned_by ordinal (slot_at slots s) then with_taken asked now (slot_at slots s)
    else slot_at slots s)

abbrev pub answer_asked : OwnTable → Book → ℕ → Asked → List OwnedSlot → Option ℕ
answer_asked table book ordinal (Answered answer) slots = answer
answer_asked table book ordinal (Wished s wish) slots =
    owner_answer ordinal (slot_at slots s) (taken table (members_in book.sets) wish)
answer_asked table book ordinal (Switched s status) slots =
    owner_answer ordinal (slot_at slots s)
    (taken table (members_in book.sets) (status_wish status (slot_at slots s).state.wish))
answer_asked table book ordinal _ slots = None

abbrev pub slots_asked : OwnTable → Book → ℕ → ℕ → Asked → List OwnedSlot → List OwnedSlot
slots_asked table book ordinal now (Wished s wish) slots =
    owner_slots ordinal now s (taken table (members_in book.sets) wish) slots
slots_asked table book ordinal now (Switched s status) slots =
    owner_slots ordinal now s
    (taken table (members_in book.sets) (status_wish status (slot_at slots s).state.wish)) slots
slots_asked table book ordinal now _ slots = slots

-- each behind those before it
abbrev pub all_slots : OwnTable → Book → ℕ → ℕ → List Asked → List OwnedSlot → List OwnedSlot
all_slots table book ordinal now [] slots = slots
all_slots table book ordinal now (asked ∷ more) slots =
    all_slots table book ordinal now more (slots_asked table book ordinal now asked slots)

abbrev pub all_answers : OwnTable → Book → ℕ → ℕ → List Asked → List OwnedSlot
    → List (Option ℕ)
all_answers table book ordinal now [] slots = []
all_answers table book ordinal now (asked ∷ more) slots =
    answer_asked table book ordinal asked slots
    ∷ all_answers table book ordinal now more (slots_asked table book ordinal now asked slots)
