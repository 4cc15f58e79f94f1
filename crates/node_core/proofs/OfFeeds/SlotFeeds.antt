-- What the clock, the operator and the points of the centre do to the transfer sets of a peer: a
-- bank that does it stays what the peer's view shows.
use Rattle.std.proofs.Common.{◌≡◌, ℕ, ◌+◌, ◌<◌, ◌≤◌, ◌==◌, Bool, true, false, ◌&&◌, List, []}
use Rattle.std.proofs.Common.{◌∷◌, ◌++◌, map, length, Option, Some, None, bytes_eq, refl, sym, ap}
use Rattle.std.proofs.Common.{subst, ◌∙◌, ◌≢◌, ⊎_elim, set, length-set, get_or-set_same, arith}
use Rattle.std.proofs.Common.{get_or-set_other, below_more, suc, not, ◌-◌, ◌*◌}
use Rattle.std.specs.Prelude.{if◌then◌else◌, flat_map, find, option_map, is_some}
use Rattle.std.specs.Prelude.{codes, is_none, filter}
use Rattle.std.specs.List.{list_any, range_with_len}
use Rattle.std.specs.Option.{unwrap_or}
use Rattle.std.proofs.lemmas.Bool.{cases_lt, or_from, or_parts, and_left}
use Rattle.std.proofs.lemmas.Bool.Decides.{nat_tests}
use Rattle.std.proofs.lemmas.List.{get_or_past, set-get_or}
use Rattle.std.proofs.lemmas.List.Folds.{list_any-append}
use Rattle.mms_data.specs.ObjectName.{ObjectName}
use Rattle.point_db.specs.Updates.{last_of}
use Rattle.tase_points.specs.Sample.{Sample}
use Rattle.tase_points.specs.Values.{is_change}
use Rattle.data_sets.specs.Books.{Book, members_in}
use Rattle.transfer_sets.specs.declared.wish.Wish.{Wish}
use Rattle.transfer_sets.specs.SlotState.{SlotState, IsSlotLike, new_slot}
use Rattle.transfer_sets.specs.SlotMoves.{SlotMove, PointChange, changes}
use Rattle.transfer_sets.specs.SlotMoves.{reports, owner_in}
use Rattle.transfer_sets.proofs.Followed as follows
use Rattle.transfer_sets.specs.Due.{conditions_due}
use Rattle.transfer_sets.specs.NextDue.{IsNextMoment, has_come}
use Rattle.transfer_sets.specs.DueIndex.{next_at, HaveNotCome, IsTurningIndex}
use Rattle.transfer_sets.specs.LookCount.Counted.{looked}
use Rattle.bilateral.specs.declared.rows.TheConstants.{SLOT_LIMIT}
use Rattle.transfer_sets.specs.Banks.{OwnedSlot, free_slot, slot_at, HasMoreRoom, told}
use Rattle.tase_views.specs.OwnTables.{OwnPoint, OwnDevice, OwnTable, OwnTables}
use Rattle.tase_views.specs.Objects.{NamedObject, named_by, special_objects, next_objects}
use Rattle.tase_views.specs.Objects.{objects_of_device, objects_of_slot, point_object, is_named}
use Rattle.tase_views.specs.Objects.{objects, object_named, next_transfer_set, control_point}
use Rattle.tase_views.specs.Objects.{device_tag, selection, timeout}
use Rattle.tase_views.specs.View.{View, updated, asked, ticked, held, moment_in}
use Rattle.tase_views.specs.Values.{values_in}
use Rattle.tase_views.specs.Slots.{makes_report, only_changes, is_point, sets_in, with_report}
use Rattle.tase_views.specs.Slots.{state_by}
use Rattle.tase_views.specs.Slots.{places_from, changes_point, count_shown, wished_members}
use Rattle.tase_views.specs.Slots.{members_told, places_told, slot_moves}
use Rattle.tase_views.specs.Reports.{slot_state}
use Rattle.tase_views.specs.Sets.{Sets}
use Rattle.node_core.specs.Slots.SlotsKept.{IsBank}
use Rattle.node_core.specs.Feeds.SlotFeeds.{move_of, moment_before, conditions_by, reported_on}
use Rattle.node_core.specs.Feeds.SlotFeeds.{AreReported, AreChanged, due_count}
use Rattle.node_core.specs.declared.feeds.cause.ReportCause.{ReportCause}
use Rattle.node_core.specs.declared.feeds.cause.ReportCause.TheVariants.{Tick, Ask}
use Rattle.node_core.proofs.OfReplies.ReportsAlike.{conditions-alike, off-none}
use Rattle.node_core.proofs.OfSlots.SlotBanks.{StandsBy, Stands, picked, stands_at, bank_of}
use Rattle.node_core.proofs.OfSlots.SlotBanks.{bank_kept}
use Rattle.node_core.proofs.OfSlots.SlotBanks.{IsBank-still}

-- ---- one transfer set behind what no association does

-- behind what leaves its owner and its wish
fed_stands : (table : OwnTable) (sets : Sets) (s : ℕ) (before after : List SlotMove)
    (old new : OwnedSlot) → StandsBy table sets s before old → new.owner ≡ old.owner
    → new.state.wish ≡ old.state.wish → owner_in after ≡ owner_in before
    → IsSlotLike new.state (state_by table sets after) → StandsBy table sets s after new
fed_stands table sets s before after old new a owner wish same follows = record {
  owner = owner ∙ a.owner ∙ sym same;
  state = follows;
  idle = λ none. ap (λ (w : Wish). w.status) wish ∙ a.idle (sym owner ∙ none);
  within = λ ordinal mine. a.within ordinal (sym owner ∙ mine);
  set_there = λ on. ap (λ (w : Wish). is_some (wished_members table sets w)) wish
      ∙ a.set_there (ap (λ (w : Wish). w.status) (sym wish) ∙ on);
}

-- those with the same owners and states
bank_same : (tables : OwnTables) (view : View) (old new : List OwnedSlot)
    → length new ≡ length old → ((s : ℕ) → (slot_at new s).owner ≡ (slot_at old s).owner)
    → ((s : ℕ) → (slot_at new s).state ≡ (slot_at old s).state) → IsBank tables view old
    → IsBank tables view new
bank_same tables view old new many owner state b =
    bank_of tables view new (many ∙ b.many)
    (λ s. let moves = slot_moves tables view s in
    fed_stands (held tables view) (sets_in tables view) s moves moves (slot_at old s)
    (slot_at new s) (stands_at tables view old b s) (owner s)
    (ap (λ (x : SlotState). x.wish) (state s)) refl
    (subst (λ (x : SlotState). IsSlotLike x (slot_state tables view s)) (sym (state s))
    (b.state s)))

-- ---- reports

-- conditions make reports of transfer sets that are alike, or of none
makes_alike : (cause : ReportCause) (s : ℕ) (a b : SlotState) → IsSlotLike a b
    → makes_report b (conditions_by cause s b) ≡ makes_report a (conditions_by cause s a)
makes_alike cause s a b like = by a.wish.status refl
  where
    by : (on : Bool) → a.wish.status ≡ on
        → makes_report b (conditions_by cause s b) ≡ makes_report a (conditions_by cause s a)
    by true on =
        rw (conditions-alike cause s a b like, like.wish, like.first on) refl
    by false off =
        let other = sym (ap (λ (w : Wish). w.status) like.wish) ∙ off in
        rw (off-none cause s a off, off-none cause s b other) refl

reported_stands : (table : OwnTable) (sets : Sets) (cause : ReportCause) (s : ℕ)
    (moves : List SlotMove) (old new : OwnedSlot) → StandsBy table sets s moves old
    → new ≡ reported_on (conditions_by cause s old.state) old
    → StandsBy table sets s (with_report (state_by table sets) (conditions_by cause s) moves) new
reported_stands table sets cause s moves old new a is =
    let state = state_by table sets moves in
    let made = makes_report state (conditions_by cause s state) in
    subst (StandsBy table sets s (if made then reports ∷ moves else moves))
    (ap (λ (b : Bool). if b then told old else old) (makes_alike cause s old.state state a.state)
    ∙ sym is)
    (picked made table sets s (told old) old (reports ∷ moves) moves
    (fed_stands table sets s moves (reports ∷ moves) old (told old) a refl refl refl
    (follows.told (places_told table (members_told table sets moves)) moves old.state
    (told old).state refl a.state)) a)

pub IsBank-reported : (tables : OwnTables) (view : View) (cause : ReportCause)
    (old new : List OwnedSlot) → moment_in view ≡ moment_before cause → AreReported cause old new
    → IsBank tables view old → IsBank tables (move_of cause ∷ view) new
IsBank-reported tables view (Tick from to) old new now r b =
    bank_kept tables view (ticked to) new refl (λ name. refl) (r.many ∙ b.many)
    (λ s. subst (λ (m : ℕ). Stands tables view s (with_report (state_by (held tables view)
    (sets_in tables view)) (λ state. conditions_due state m to) (slot_moves tables view s))
    (slot_at new s)) (sym now) (reported_stands (held tables view) (sets_in tables view)
    (Tick from to) s (slot_moves tables view s) (slot_at old s) (slot_at new s)
    (stands_at tables view old b s) (r.each s)))
IsBank-reported tables view (Ask slot now) old new same r b =
    bank_kept tables view (asked slot) new refl (λ name. refl) (r.many ∙ b.many)
    (λ s. reported_stands (held tables view) (sets_in tables view) (Ask slot now) s
    (slot_moves tables view s) (slot_at old s) (slot_at new s) (stands_at tables view old b s)
    (r.each s))

-- of transfer sets the first so many are behind a cause of reports
pub record AreReportedTo (cause : ReportCause) (n : ℕ) (old now : List OwnedSlot) : Type 0 where
  pub many : length now ≡ length old
  pub done : (s : ℕ) → s < n → slot_at now s
      ≡ reported_on (conditions_by cause s (slot_at old s).state) (slot_at old s)
  pub left : (s : ℕ) → n ≤ s → slot_at now s ≡ slot_at old s

pub none_reported : (cause : ReportCause) (old : List OwnedSlot) → AreReportedTo cause 0 old old
none_reported cause old = record {
  many = refl;
  done = λ s below. absurd (omega (arith, below));
  left = λ s past. refl;
}

set_if : (made : Bool) (slots : List OwnedSlot) (n : ℕ) (x : OwnedSlot)
    → (if made then set slots n x else slots) ≡ set slots n (if made then x else slot_at slots n)
set_if true slots n x = refl
set_if false slots n x = sym (set-get_or slots n free_slot)

-- a transfer set that is told where conditions make a report, by numbers in other words
pub set_reported : (slots new : List OwnedSlot) (n conditions due : ℕ) (made : Bool)
    → conditions ≡ due → made ≡ makes_report (slot_at slots n).state conditions
    → new ≡ (if made then set slots n (told (slot_at slots n)) else slots)
    → new ≡ set slots n (reported_on due (slot_at slots n))
set_reported slots new n conditions due made same makes is =
    is ∙ set_if made slots n (told (slot_at slots n))
    ∙ ap (λ (b : Bool). set slots n (if b then told (slot_at slots n) else slot_at slots n))
    (makes ∙ ap (makes_report (slot_at slots n).state) same)

-- one more of them
pub reported_more : (cause : ReportCause) (n : ℕ) (old now new : List OwnedSlot) → n < length old
    → AreReportedTo cause n old now → new ≡ set now n
    (reported_on (conditions_by cause n (slot_at now n).state) (slot_at now n))
    → AreReportedTo cause (n + 1) old new
reported_more cause n old now new within r here = record {
  many = ap length here ∙ length-set now n _ ∙ r.many;
  done = below_more _ _
      (λ s below. apart s (λ same. omega (arith, same, below)) ∙ r.done s below)
      (ap (λ (slots : List OwnedSlot). slot_at slots n) here
      ∙ get_or-set_same now n _ free_slot (omega (arith, r.many, within))
      ∙ ap (λ (slot : OwnedSlot). reported_on (conditions_by cause n slot.state) slot)
      (r.left n (omega arith)));
  left = λ s past. apart s (λ same. omega (arith, same, past)) ∙ r.left s (omega (arith, past));
}
  where
    apart : (s : ℕ) → s ≢ n → slot_at new s ≡ slot_at now s
    apart s other = ap (λ (slots : List OwnedSlot). slot_at slots s) here
        ∙ get_or-set_other now n s _ free_slot other

-- where nothing is due nothing is told
pub undue_reported : (slot : OwnedSlot) (conditions : ℕ) → not (conditions == 0) ≡ false
    → slot ≡ reported_on conditions slot
undue_reported slot conditions none =
    ap (λ (due : Bool). if due && not (slot.state.wish.rbe && only_changes conditions
    && is_none slot.state.first) then told slot else slot) (sym none)

-- as many as there are; where none stands, a report tells nothing
pub all_reported : (cause : ReportCause) (n : ℕ) (old new : List OwnedSlot) → length old ≤ n
    → AreReportedTo cause n old new → AreReported cause old new
all_reported cause n old new all r = record {
  many = r.many;
  each = λ s. ⊎_elim (λ below. r.done s below)
      (λ past. let free : slot_at old s ≡ free_slot =
      get_or_past old s free_slot (omega (arith, past, all)) in
      r.left s past ∙ rw free (elim (makes_report new_slot (conditions_by cause s new_slot)) as
      (λ made. free_slot ≡ (if made then free_slot else free_slot)) [ true ↦ refl | false ↦ refl ]))
      (cases_lt s n);
}

-- where nothing is due of any, a tick tells nothing
pub none_reported_on : (from to : ℕ) (old : List OwnedSlot) → ((s : ℕ) → s < length old
    → not (conditions_due (slot_at old s).state from to == 0) ≡ false)
    → AreReported (Tick from to) old old
none_reported_on from to old none =
    all_reported (Tick from to) (length old) old old (omega arith) (record {
      many = refl;
      done = λ s below. undue_reported (slot_at old s)
          (conditions_due (slot_at old s).state from to) (none s below);
      left = λ s past. refl;
    })

-- ---- a tick, by what its index has

pub none_due : (conditions : ℕ) → not (conditions == 0) ≡ false → conditions ≡ 0
none_due conditions none = grind (arith, nat_tests)

-- how many of so many numbers, from one on, have a property
abbrev pub counted_from : (ℕ → Bool) → ℕ → ℕ → ℕ
counted_from has n k = length (filter has (range_with_len n k))

counted_more : (has : ℕ → Bool) (n k more : ℕ) (b : Bool) → k ≡ suc more → has n ≡ b
    → counted_from has n k
    ≡ (if b then suc (counted_from has (n + 1) more) else counted_from has (n + 1) more)
counted_more has n k more b next test =
    ap (counted_from has n) next
    ∙ ap (λ (c : Bool). length (if c then n ∷ filter has (range_with_len (n + 1) more)
    else filter has (range_with_len (n + 1) more))) test
    ∙ elim b as (λ (c : Bool). length (if c then n ∷ filter has (range_with_len (n + 1) more)
    else filter has (range_with_len (n + 1) more))
    ≡ (if c then suc (counted_from has (n + 1) more) else counted_from has (n + 1) more))
    [ true ↦ refl | false ↦ refl ]

-- of how many transfer sets, from one on, something is due at a tick
abbrev pub due_from : ℕ → ℕ → List OwnedSlot → ℕ → ℕ
due_from from to slots n =
    counted_from (λ s. not (conditions_due (slot_at slots s).state from to == 0)) n
    (SLOT_LIMIT - n)

pub due_from-all : (from to : ℕ) (slots : List OwnedSlot)
    → due_from from to slots 0 ≡ due_count from to slots
due_from-all from to slots =
    let all : SLOT_LIMIT - 0 ≡ SLOT_LIMIT = omega arith in
    ap (counted_from (λ s. not (conditions_due (slot_at slots s).state from to == 0)) 0) all

-- one of them more, of which something is due or nothing
due_more : (from to n : ℕ) (slots : List OwnedSlot) → n < SLOT_LIMIT → (b : Bool)
    → not (conditions_due (slot_at slots n).state from to == 0) ≡ b → due_from from to slots n
    ≡ (if b then suc (due_from from to slots (n + 1)) else due_from from to slots (n + 1))
due_more from to n slots within b is =
    counted_more (λ s. not (conditions_due (slot_at slots s).state from to == 0)) n
    (SLOT_LIMIT - n) (SLOT_LIMIT - (n + 1)) b (omega (arith, within)) is

module _ (from to n : ℕ) (slots : List OwnedSlot) (looks bound : ℕ) (within : n < SLOT_LIMIT)
    (few : looks + due_from from to slots n ≤ bound) where
  -- a transfer set of which something is due is looked at, another isn't
  pub due-looked : (new : ℕ) → not (conditions_due (slot_at slots n).state from to == 0) ≡ true
      → new ≡ looked looks 1 → new + due_from from to slots (n + 1) ≤ bound
  due-looked new due one_look =
      let one = due_more from to n slots within true due in
      omega (arith, few, one, one_look)

  pub undue-passed : not (conditions_due (slot_at slots n).state from to == 0) ≡ false
      → looks + due_from from to slots (n + 1) ≤ bound
  undue-passed due =
      let one = due_more from to n slots within false due in
      omega (arith, few, one)

-- of transfer sets the first so many are behind a tick, the index is brought along with them, and
-- those were looked at of which something was due, three times at the most
pub record IsTicking (from to n : ℕ) (old now : List OwnedSlot) (index : List (Option ℕ))
    (looks bound : ℕ) : Type 0 where
  pub reported : AreReportedTo (Tick from to) n old now
  pub dues : IsTurningIndex now n from to index
  pub few : looks + 3 * due_from from to old n ≤ bound

module _ (from to n : ℕ) (old now : List OwnedSlot) (index : List (Option ℕ)) (looks bound : ℕ)
    (t : IsTicking from to n old now index looks bound) (within : n < SLOT_LIMIT)
    (many : length old ≡ SLOT_LIMIT) where
  abbrev due : ℕ
  due = conditions_due (slot_at now n).state from to

  -- as it stood before the tick
  due_before : (b : Bool) → not (due == 0) ≡ b
      → not (conditions_due (slot_at old n).state from to == 0) ≡ b
  due_before b is =
      ap (λ (slot : OwnedSlot). not (conditions_due slot.state from to == 0))
      (sym (t.reported.left n (omega arith))) ∙ is

  there : n < length now
  there = omega (arith, many, within, t.reported.many)

  pub IsTicking-due : (new : List OwnedSlot) (next : Option ℕ) (after : List (Option ℕ)) (more : ℕ)
      → not (due == 0) ≡ true
      → ((slot : OwnedSlot) → IsNextMoment slot.state to next
      → IsTurningIndex (set now n slot) (n + 1) from to (set index n next))
      → new ≡ set now n (reported_on due (slot_at now n))
      → IsNextMoment (slot_at new n).state to next → after ≡ set index n next
      → more ≤ looks + 3 → IsTicking from to (n + 1) old new after more bound
  IsTicking-due new next after more is put set_is moment index_is three = record {
    reported = reported_more (Tick from to) n old now new (omega (arith, many, within)) t.reported
        set_is;
    dues =
        let slot = reported_on due (slot_at now n) in
        let here : slot_at new n ≡ slot =
        ap (λ (slots : List OwnedSlot). slot_at slots n) set_is
        ∙ get_or-set_same now n slot free_slot there in
        subst (λ (slots : List OwnedSlot). IsTurningIndex slots (n + 1) from to after) (sym set_is)
        (subst (λ (x : List (Option ℕ)). IsTurningIndex (set now n slot) (n + 1) from to x)
        (sym index_is) (put slot (subst (λ (s : OwnedSlot). IsNextMoment s.state to next) here
        moment)));
    few =
        let one = due_more from to n old within true (due_before true is) in
        omega (arith, t.few, one, three);
  }

  pub IsTicking-undue : not (due == 0) ≡ false → IsTurningIndex now (n + 1) from to index
      → IsTicking from to (n + 1) old now index looks bound
  IsTicking-undue is dues = record {
    reported = reported_more (Tick from to) n old now now (omega (arith, many, within)) t.reported
        (sym (set-get_or now n free_slot) ∙ ap (set now n) (undue_reported (slot_at now n) due is));
    dues = dues;
    few =
        let one = due_more from to n old within false (due_before false is) in
        omega (arith, t.few, one);
  }

-- one whose moment hasn't come
pub one_ahead : (index : List (Option ℕ)) (to n : ℕ) → has_come (next_at index n) to ≡ false
    → HaveNotCome index to n (n + 1)
one_ahead index to n ahead =
    λ s after below.
    let same : s ≡ n = omega (arith, after, below) in
    ap (λ (k : ℕ). has_come (next_at index k) to) same ∙ ahead

-- ---- changes of points

pub IsBank-changed : (tables : OwnTables) (view : View) (name : List ℕ) (value : Sample)
    (book : Book) (old new : List OwnedSlot)
    → changes_point (held tables view) view name value ≡ true
    → ((set : List ℕ) → members_in book.sets set ≡ sets_in tables view set)
    → AreChanged (held tables view) book (record {
      point = name;
      moment = moment_in view;
      value = value;
      count = count_shown (held tables view) (updated name value ∷ view) name;
    }) old new
    → IsBank tables view old → IsBank tables (updated name value ∷ view) new
IsBank-changed tables view name value book old new is members c b =
    bank_kept tables view (updated name value) new refl (λ set. refl) (c.many ∙ b.many)
    (λ s. let moves = slot_moves tables view s in
    let table = held tables view in
    let sets = sets_in tables view in
    let wish = (slot_at old s).state.wish in
    let change : PointChange = record {
      point = name;
      moment = moment_in view;
      value = value;
      count = count_shown table (updated name value ∷ view) name;
    } in
    let places : Option (List ObjectName) → List ℕ =
    λ found. places_told table (unwrap_or found []) name in
    subst (λ (made : Bool). Stands tables view s (if made then changes change ∷ moves else moves)
    (slot_at new s)) (sym is)
    (fed_stands table sets s moves (changes change ∷ moves) (slot_at old s) (slot_at new s)
    (stands_at tables view old b s) (c.each s).owner (c.each s).wish refl
    ((c.each s).follows (places_told table (members_told table sets moves)) moves
    (ap (λ (w : Wish). places (wished_members table sets w)) (sym (b.state s).wish)
    ∙ ap (λ (found : Option (List ObjectName)). places
    (if bytes_eq wish.set_domain table.domain then found else None))
    (sym (members wish.set_name))) (b.state s))))

pub IsBank-unchanged : (tables : OwnTables) (view : View) (name : List ℕ) (value : Sample)
    (slots : List OwnedSlot) → changes_point (held tables view) view name value ≡ false
    → IsBank tables view slots → IsBank tables (updated name value ∷ view) slots
IsBank-unchanged tables view name value slots none =
    IsBank-still tables view (updated name value) slots refl (λ set. refl) (λ s. rw none refl)

-- ---- points that a table doesn't have

-- none of some objects is the point with this name
abbrev NonePoint : List ℕ → List NamedObject → Type 0
NonePoint name those = list_any (λ (o : NamedObject). is_point name (Some o.object)) those ≡ false

none_joined : (name : List ℕ) (these those : List NamedObject) → NonePoint name these
    → NonePoint name those → NonePoint name (these ++ those)
none_joined name these those a b =
    list_any-append (λ (o : NamedObject). is_point name (Some o.object)) these those
    ∙ or_from _ _ a b

none_of_points : (name : List ℕ) (points : List OwnPoint)
    → list_any (λ (p : OwnPoint). bytes_eq p.name name) points ≡ false
    → NonePoint name (map point_object points)
none_of_points name [] none = refl
none_of_points name (p ∷ points) none =
    let n = or_parts (bytes_eq p.name name) _ none in
    or_from _ _ n.0 (none_of_points name points n.1)

none_of_all : {X : Type 0} (name : List ℕ) (f : X → List NamedObject)
    → ((x : X) → NonePoint name (f x)) → (xs : List X) → NonePoint name (flat_map f xs)
none_of_all name f none [] = refl
none_of_all name f none (x ∷ xs) =
    none_joined name (f x) (flat_map f xs) (none x) (none_of_all name f none xs)

none_next : (name : List ℕ) (slots : ℕ) → NonePoint name (next_objects slots)
none_next name slots =
    elim (slots == 0) as
    (λ none. NonePoint name (if none then []
    else named_by false (codes "Next_DSTransfer_Set") next_transfer_set ∷ []))
    [ true ↦ refl | false ↦ refl ]

none_of_device : (name : List ℕ) (d : OwnDevice) → NonePoint name (objects_of_device d)
none_of_device name d =
    elim d.row.direct as
    (λ direct. NonePoint name (named_by false d.row.name (control_point d)
    ∷ named_by false (d.row.name ++ codes "_TAG") (device_tag d)
    ∷ (if direct then [] else named_by false (d.row.name ++ codes "_SBO") (selection d)
    ∷ named_by false (d.row.name ++ codes "_TIMEOUT") (timeout d) ∷ [])))
    [ true ↦ refl | false ↦ refl ]

none_of_objects : (table : OwnTable) (name : List ℕ)
    → list_any (λ (p : OwnPoint). bytes_eq p.name name) table.points ≡ false
    → NonePoint name (objects table)
none_of_objects table name none =
    let special = special_objects table in
    let next = next_objects table.slots in
    let devices = flat_map objects_of_device table.devices in
    let slots = flat_map objects_of_slot (range_with_len 0 table.slots) in
    none_joined name (special ++ next ++ devices ++ slots) (map point_object table.points)
    (none_joined name (special ++ next ++ devices) slots
    (none_joined name (special ++ next) devices
    (none_joined name special next refl (none_next name table.slots))
    (none_of_all name objects_of_device (none_of_device name) table.devices))
    (none_of_all name objects_of_slot (λ s. refl) (range_with_len 0 table.slots)))
    (none_of_points name table.points none)

-- what is found among them isn't that point
none_found : (name : List ℕ) (test : NamedObject → Bool) (those : List NamedObject)
    → NonePoint name those
    → is_point name (option_map (λ (o : NamedObject). o.object) (find test those)) ≡ false
none_found name test [] none = refl
none_found name test (o ∷ those) none =
    let n = or_parts (is_point name (Some o.object)) _ none in
    elim (test o) as (λ b. is_point name (option_map (λ (o : NamedObject). o.object)
    (if b then Some o else find test those)) ≡ false)
    [ true ↦ n.0 | false ↦ none_found name test those n.1 ]

no_places : (table : OwnTable) (name : List ℕ)
    → list_any (λ (p : OwnPoint). bytes_eq p.name name) table.points ≡ false
    → (place : ℕ) (members : List ObjectName)
    → places_from place (λ member. is_point name (object_named table member)) members ≡ []
no_places table name none place [] = refl
no_places table name none place (member ∷ members) =
    rw (none_found name (is_named table member) (objects table) (none_of_objects table name none))
    (no_places table name none (place + 1) members)

pub IsBank-unnamed : (tables : OwnTables) (view : View) (book : Book) (change : PointChange)
    (old new : List OwnedSlot)
    → list_any (λ (p : OwnPoint). bytes_eq p.name change.point) (held tables view).points ≡ false
    → AreChanged (held tables view) book change old new → IsBank tables view old
    → IsBank tables view new
IsBank-unnamed tables view book change old new none c =
    bank_same tables view old new c.many (λ s. (c.each s).owner)
    (λ s. (c.each s).stays (λ on. no_places (held tables view) change.point none 0
    (unwrap_or (wished_members (held tables view) (members_in book.sets)
    (slot_at old s).state.wish) [])))

none_changed : (view : View) (name : List ℕ) (value : Sample) (points : List OwnPoint)
    → list_any (λ (p : OwnPoint). bytes_eq p.name name) points ≡ false
    → list_any (λ (p : OwnPoint). bytes_eq p.name name
    && is_change (last_of p.kind (values_in view name)) value) points ≡ false
none_changed view name value [] none = refl
none_changed view name value (p ∷ points) none =
    let n = or_parts (bytes_eq p.name name) _ none in
    or_from _ _ (and_left (bytes_eq p.name name) _ n.0) (none_changed view name value points n.1)

-- an update of such a point is no change
pub changes_point-here : (table : OwnTable) (view : View) (name : List ℕ) (value : Sample)
    → list_any (λ (p : OwnPoint). bytes_eq p.name name) table.points ≡ false
    → changes_point table view name value ≡ false
changes_point-here table view name value = none_changed view name value table.points

-- ---- more room

pub IsBank-roomier : (tables : OwnTables) (view : View) (old new : List OwnedSlot)
    → HasMoreRoom old new → IsBank tables view old → IsBank tables view new
IsBank-roomier tables view old new more =
    bank_same tables view old new more.many more.owner more.state

pub HasMoreRoom-refl : (slots : List OwnedSlot) → HasMoreRoom slots slots
HasMoreRoom-refl slots = record {
  many = refl;
  owner = λ s. refl;
  state = λ s. refl;
  spare = λ s. omega arith;
}
