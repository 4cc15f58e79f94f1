-- What comes of writes by what a node keeps is what the peer's view gives.
use Rattle.std.proofs.Common.{◌≡◌, ◌<◌, ◌==◌, ℕ, ℤ, Bool, true, false, not, List, [], ◌∷◌, ◌++◌}
use Rattle.std.proofs.Common.{Option, Some, None, Result, refl, sym, ap, subst, ◌∙◌, arith, suc}
use Rattle.std.proofs.Common.{append_assoc, length, length-set}
use Rattle.std.specs.List.{All}
use Rattle.std.specs.Option.{option_map_or}
use Rattle.std.specs.Prelude.{if◌then◌else◌}
use Rattle.mms_data.specs.Datum.{Datum}
use Rattle.mms_data.specs.ObjectName.{ObjectName}
use Rattle.bilateral.specs.Rows.{CentreRows, IsCentre, variants_of, variant_of}
use Rattle.data_sets.specs.Books.{Book}
use Rattle.sbo_device.specs.declared.key.Key.{Key}
use Rattle.sbo_device.specs.Moves.{Tag}
use Rattle.sbo_device.specs.States.{operate_answer}
use Rattle.sbo_device.specs.Banks.{DeviceRecord, device_at}
use Rattle.transfer_sets.specs.declared.wish.Wish.{Wish}
use Rattle.transfer_sets.specs.Banks.{OwnedSlot, slot_at, is_owned_by}
use Rattle.tase_views.specs.declared.reply.TheConstants.{OBJECT_ACCESS_DENIED}
use Rattle.tase_views.specs.OwnTables.{OwnDevice, OwnTable, OwnTables, own_table, own_tables}
use Rattle.tase_views.specs.Objects.{Object, constant, report_variable, indication_point}
use Rattle.tase_views.specs.Objects.{next_transfer_set, control_point, selection, device_tag}
use Rattle.tase_views.specs.Objects.{timeout, transfer_set, transfer_set_status, object_named}
use Rattle.tase_views.specs.Moves.{writes}
use Rattle.tase_views.specs.Devices.{deed_of, number_in, tag_in}
use Rattle.tase_views.specs.View.{View, own, own_key, held, moment_in}
use Rattle.tase_views.specs.Slots.{owns, wish_written, sets_in, slot_moves, type_inconsistent}
use Rattle.tase_views.specs.Slots.{value_invalid}
use Rattle.tase_views.specs.Answers.{reason_of, object_written, write_outcomes, operate_written}
use Rattle.tase_views.specs.Answers.{device_state}
use Rattle.node_core.specs.Devices.DeviceBanks.{number_of, devices_by}
use Rattle.node_core.specs.Devices.DevicesSeen.{AreDevicesSeen}
use Rattle.node_core.proofs.OfDevices.SeenAlike.{operate_alike}
use Rattle.node_core.proofs.OfDevices.OwnActs.{written_alike}
use Rattle.node_core.specs.declared.slots.writes.Asked.{Asked}
use Rattle.node_core.specs.declared.slots.writes.Asked.TheVariants.{Answered, Wished, Switched}
use Rattle.node_core.specs.declared.slots.writes.Asked.TheVariants.{Operated, Tagged}
use Rattle.node_core.specs.Slots.SetsKept.{IsBook}
use Rattle.node_core.specs.Slots.SlotsKept.{IsBank, wish_taken, slots_written, all_written}
use Rattle.node_core.specs.Slots.SlotWrites.{operand, tag_asked, asked_of}
use Rattle.node_core.specs.Slots.SlotWrites.{all_asked, answer_asked, slots_asked, all_slots}
use Rattle.node_core.specs.Slots.SlotWrites.{all_answers, IsAskedThere}
use Rattle.node_core.specs.Replies.DeviceWrites.{left_of, devices_asked, all_left}
use Rattle.node_core.proofs.OfSlots.SetBooks.{IsBook-still}
use Rattle.node_core.proofs.OfSlots.SlotBanks.{owned_alike, wish_alike, IsBank-writes}
use Rattle.node_core.proofs.OfReplies.Operands.{AreRanged, operand_same}
use Rattle.node_core.proofs.OfReplies.DeviceActs.{write_same, asked_ranged}
use Rattle.node_core.proofs.OfReplies.DevicesKept.{IsSeenAt, seen_named}

-- ---- one write

-- what a write asks of a device is nothing to transfer sets
operate_slots : (table : OwnTable) (book : Book) (key : Key) (now n : ℕ) (number : Option ℤ)
    (devices : List DeviceRecord) (slots : List OwnedSlot)
    → slots_asked table book key.ordinal now (left_of key
    (option_map_or (λ (z : ℤ). Operated n (operand z)) number (Answered (Some type_inconsistent)))
    devices) slots ≡ slots
operate_slots table book key now n None devices slots = refl
operate_slots table book key now n (Some z) devices slots = refl

tag_slots : (table : OwnTable) (book : Book) (key : Key) (now n : ℕ) (may : Bool)
    (tag : Option Tag) (devices : List DeviceRecord) (slots : List OwnedSlot)
    → slots_asked table book key.ordinal now (left_of key
    (if not may then Answered (Some OBJECT_ACCESS_DENIED)
    else option_map_or (tag_asked n) tag (Answered (Some type_inconsistent))) devices) slots
    ≡ slots
tag_slots table book key now n false tag devices slots = refl
tag_slots table book key now n true None devices slots = refl
tag_slots table book key now n true (Some t) devices slots =
    elim (t.tag == 3) as (λ b. slots_asked table book key.ordinal now (left_of key
    (if b then Answered (Some value_invalid) else Tagged n t.tag t.reason) devices) slots ≡ slots)
    [ true ↦ refl | false ↦ refl ]

-- what becomes of the transfer sets
slots_alike : (rows : CentreRows) (table : OwnTable) (book : Book) (key : Key) (now : ℕ)
    (name : ObjectName) (value : Datum) (devices : List DeviceRecord) (slots : List OwnedSlot)
    → slots_asked table book key.ordinal now
    (left_of key (asked_of rows (object_named table name) value) devices) slots
    ≡ slots_written table book key.ordinal now name value slots
slots_alike rows table book key now name value devices slots = by (object_named table name) refl
  where
    by : (object : Option Object) → object_named table name ≡ object
        → slots_asked table book key.ordinal now
        (left_of key (asked_of rows object value) devices) slots
        ≡ slots_written table book key.ordinal now name value slots
    by None e = rw e refl
    by (Some (constant shown shape)) e = rw e refl
    by (Some (report_variable variable)) e = rw e refl
    by (Some (indication_point point)) e = rw e refl
    by (Some next_transfer_set) e = rw e refl
    by (Some (transfer_set s)) e = rw e refl
    by (Some (transfer_set_status s)) e = rw e refl
    by (Some (control_point d)) e =
        rw e (operate_slots table book key now (number_of rows d) (number_in value) devices slots)
    by (Some (selection d)) e = rw e refl
    by (Some (device_tag d)) e =
        rw e (tag_slots table book key now (number_of rows d) d.tag (tag_in value) devices slots)
    by (Some (timeout d)) e = rw e refl

module _ (rows : CentreRows) (tables : OwnTables) (peer ordinal : ℕ) where
  abbrev mine : Key
  mine = record { peer = peer; ordinal = ordinal }

  module _ (view : View) (slots : List OwnedSlot) (book : Book) (k : IsBank tables view slots)
      (b : IsBook tables view book) (devices : List DeviceRecord) (ranged : AreRanged devices) where
    -- what its owner's write gives
    owned_answer : (object : Option Object) (value : Datum) (s : ℕ)
        → (if is_owned_by ordinal (slot_at slots s)
        then reason_of (wish_taken (held tables view) book (slot_at slots s).state.wish object
        value) else Some OBJECT_ACCESS_DENIED)
        ≡ (if owns ordinal (slot_moves tables view s)
        then reason_of (wish_written (held tables view) (sets_in tables view)
        (slot_moves tables view s) object value) else Some OBJECT_ACCESS_DENIED)
    owned_answer object value s =
        ap (λ (mine : Bool). if mine
        then reason_of (wish_taken (held tables view) book (slot_at slots s).state.wish object
        value) else Some OBJECT_ACCESS_DENIED) (owned_alike tables view slots k ordinal s)
        ∙ ap (λ (asked : Result Wish ℕ). if owns ordinal (slot_moves tables view s)
        then reason_of asked else Some OBJECT_ACCESS_DENIED)
        (wish_alike tables view slots k book b.members object value s)

    -- what an operate gives
    operate_given : (d : OwnDevice) (number : Option ℤ) → IsSeenAt rows tables view peer devices d
        → answer_asked (held tables view) book ordinal (left_of mine
        (option_map_or (λ (z : ℤ). Operated (number_of rows d) (operand z)) number
        (Answered (Some type_inconsistent))) devices) slots
        ≡ option_map_or (λ (z : ℤ). operate_written
        (operate_answer (device_state tables view d) (own_key ordinal) z)) number
        (Some type_inconsistent)
    operate_given d None seen = refl
    operate_given d (Some z) seen =
        let n = number_of rows d in
        let its = device_at devices n in
        ap operate_written
        ((operand_same its n mine z (ranged n)).answer
        ∙ operate_alike tables view peer ordinal d its z seen)

    -- and a tagging
    tag_given : (n : ℕ) (may : Bool) (tag : Option Tag)
        → answer_asked (held tables view) book ordinal (left_of mine
        (if not may then Answered (Some OBJECT_ACCESS_DENIED)
        else option_map_or (tag_asked n) tag (Answered (Some type_inconsistent))) devices) slots
        ≡ (if not may then Some OBJECT_ACCESS_DENIED
        else option_map_or (λ (t : Tag). if t.tag == 3 then Some value_invalid else None) tag
        (Some type_inconsistent))
    tag_given n false tag = refl
    tag_given n true None = refl
    tag_given n true (Some t) =
        elim (t.tag == 3) as (λ c. answer_asked (held tables view) book ordinal (left_of mine
        (if c then Answered (Some value_invalid) else Tagged n t.tag t.reason) devices) slots
        ≡ (if c then Some value_invalid else None)) [ true ↦ refl | false ↦ refl ]

    answer_alike : (object : Option Object) (value : Datum)
        → ((d : OwnDevice) → object ≡ Some (control_point d)
        → IsSeenAt rows tables view peer devices d)
        → answer_asked (held tables view) book ordinal
        (left_of mine (asked_of rows object value) devices) slots
        ≡ object_written tables view ordinal object value
    answer_alike None value seen = refl
    answer_alike (Some (constant shown shape)) value seen = refl
    answer_alike (Some (report_variable variable)) value seen = refl
    answer_alike (Some (indication_point point)) value seen = refl
    answer_alike (Some next_transfer_set) value seen = refl
    answer_alike (Some (transfer_set s)) value seen =
        owned_answer (Some (transfer_set s)) value s
    answer_alike (Some (transfer_set_status s)) value seen =
        owned_answer (Some (transfer_set_status s)) value s
    answer_alike (Some (control_point d)) value seen =
        operate_given d (number_in value) (seen d refl)
    answer_alike (Some (selection d)) value seen = refl
    answer_alike (Some (device_tag d)) value seen =
        tag_given (number_of rows d) d.tag (tag_in value)
    answer_alike (Some (timeout d)) value seen = refl

-- ---- all of them

pub all_slots_alike : (rows : CentreRows) (table : OwnTable) (book : Book) (key : Key) (now : ℕ)
    (names : List ObjectName) (values : List Datum) (devices : List DeviceRecord)
    (slots : List OwnedSlot)
    → all_slots table book key.ordinal now
    (all_left key (all_asked rows table names values) devices) slots
    ≡ all_written table book key.ordinal now names values slots
all_slots_alike rows table book key now [] values devices slots = refl
all_slots_alike rows table book key now (name ∷ names) [] devices slots = refl
all_slots_alike rows table book key now (name ∷ names) (value ∷ values) devices slots =
    let next = devices_asked key (asked_of rows (object_named table name) value) devices in
    ap (all_slots table book key.ordinal now
    (all_left key (all_asked rows table names values) next))
    (slots_alike rows table book key now name value devices slots)
    ∙ all_slots_alike rows table book key now names values next
    (slots_written table book key.ordinal now name value slots)

-- what is asked leaves how many devices there are
pub asked_many : (key : Key) (asked : Asked) (devices : List DeviceRecord)
    → length (devices_asked key asked devices) ≡ length devices
asked_many key (Answered answer) devices = refl
asked_many key (Wished s wish) devices = refl
asked_many key (Switched s status) devices = refl
asked_many key (Operated n number) devices = length-set devices n _
asked_many key (Tagged n tag reason) devices = length-set devices n _

module _ (rows : CentreRows) (lawful : IsCentre rows) (peer variant ordinal now : ℕ) (book : Book)
    (there : variant < length (variants_of rows peer)) where
  abbrev pub its_tables : OwnTables
  its_tables = own_tables rows peer

  abbrev pub its_key : Key
  its_key = record { peer = peer; ordinal = ordinal }

  -- what is kept is what the view has
  pub record IsKeptSo (view : View) (slots : List OwnedSlot) (devices : List DeviceRecord) :
      Type 0 where
    pub in_force : held (own_tables rows peer) view ≡ own_table rows (variant_of rows peer variant)
    pub bank : IsBank (own_tables rows peer) view slots
    pub sets : IsBook (own_tables rows peer) view book
    pub moment : now ≡ moment_in view
    pub many : length devices ≡ length rows.devices
    pub ranged : AreRanged devices
    pub seen : AreDevicesSeen rows (own_tables rows peer) view peer (variant_of rows peer variant)
        devices

  -- behind a write too
  kept_behind : (name : ObjectName) (value : Datum) (view : View) (slots : List OwnedSlot)
      (devices : List DeviceRecord) → IsKeptSo view slots devices
      → IsKeptSo (own ordinal (writes name value) ∷ view)
      (slots_written (held its_tables view) book ordinal now name value slots)
      (devices_asked its_key (asked_of rows (object_named (held its_tables view) name) value) devices)
  kept_behind name value view slots devices s =
      let asked = asked_of rows (object_named (held its_tables view) name) value in
      record {
        in_force = s.in_force;
        bank = IsBank-writes its_tables view slots s.bank book s.sets.members ordinal now name value
            s.moment;
        sets = IsBook-still its_tables view (own ordinal (writes name value)) book refl
            (λ other. refl) refl s.sets;
        moment = s.moment;
        many = asked_many its_key asked devices ∙ s.many;
        ranged = asked_ranged rows (held its_tables view) now its_key asked devices s.ranged;
        seen = subst (λ (these : List DeviceRecord). AreDevicesSeen rows its_tables
            (own ordinal (writes name value) ∷ view) peer (variant_of rows peer variant) these)
            (ap (λ (k : ℕ). devices_by rows k its_key
            (deed_of (held its_tables view) (writes name value)) devices) (sym s.moment)
            ∙ (write_same rows (held its_tables view) now its_key (object_named (held its_tables view) name)
            value devices s.ranged).kept)
            (written_alike rows view peer variant ordinal name value devices lawful there s.many
            s.in_force s.seen);
      }

  pub all_answers_alike : (names : List ObjectName) (values : List Datum) (view : View)
      (slots : List OwnedSlot) (devices : List DeviceRecord) → IsKeptSo view slots devices
      → all_answers (held its_tables view) book ordinal now
      (all_left its_key (all_asked rows (held its_tables view) names values) devices) slots
      ≡ write_outcomes its_tables view ordinal names values
  all_answers_alike [] values view slots devices s = refl
  all_answers_alike (name ∷ names) [] view slots devices s = refl
  all_answers_alike (name ∷ names) (value ∷ values) view slots devices s =
      let in_view = held its_tables view in
      let object = object_named in_view name in
      let asked = asked_of rows object value in
      let next = devices_asked its_key asked devices in
      let more = all_left its_key (all_asked rows in_view names values) next in
      let here = answer_alike rows its_tables peer ordinal view slots book s.bank s.sets devices
      s.ranged object value
      (λ d is. seen_named rows view peer variant devices lawful s.seen name d
      (ap (λ (t : OwnTable). object_named t name) (sym s.in_force) ∙ is)) in
      ap (λ (answer : Option ℕ). answer ∷ all_answers in_view book ordinal now more
      (slots_asked in_view book ordinal now (left_of its_key asked devices) slots)) here
      ∙ ap (λ (left : List OwnedSlot). object_written its_tables view ordinal object value
      ∷ all_answers in_view book ordinal now more left)
      (slots_alike rows in_view book its_key now name value devices slots)
      ∙ ap (λ (rest : List (Option ℕ)). object_written its_tables view ordinal object value ∷ rest)
      (all_answers_alike names values (own ordinal (writes name value) ∷ view)
      (slots_written in_view book ordinal now name value slots) next
      (kept_behind name value view slots devices s))

-- ---- one more in a loop

pub answers-step : (table : OwnTable) (book : Book) (ordinal now : ℕ) (one : Asked)
    (rest : List Asked) (slots after : List OwnedSlot) (results pushed : List (Option ℕ))
    (answer : Option ℕ) → pushed ≡ results ++ answer ∷ []
    → answer ≡ answer_asked table book ordinal one slots
    → after ≡ slots_asked table book ordinal now one slots
    → pushed ++ all_answers table book ordinal now rest after
    ≡ results ++ all_answers table book ordinal now (one ∷ rest) slots
answers-step table book ordinal now one rest slots after results pushed answer added is behind =
    ap (λ (xs : List (Option ℕ)). xs ++ all_answers table book ordinal now rest after) added
    ∙ append_assoc results (answer ∷ []) (all_answers table book ordinal now rest after)
    ∙ ap (λ (o : Option ℕ). results ++ o ∷ all_answers table book ordinal now rest after) is
    ∙ ap (λ (left : List OwnedSlot). results ++ answer_asked table book ordinal one slots
    ∷ all_answers table book ordinal now rest left) behind

pub there-rest : (count : ℕ) (one : Asked) (rest : List Asked)
    → All (IsAskedThere count) (one ∷ rest) → All (IsAskedThere count) rest
there-rest count one rest all = λ k d within. all (suc k) d (omega (arith, within))
