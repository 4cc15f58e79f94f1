-- What a read gives: by what a node keeps beside its history, and for several names each behind
-- those before it.
use Rattle.std.proofs.Common.{◌≡◌, ◌<◌, ◌≤◌, ℕ, ◌+◌, ◌%◌, Bool, true, false, List, [], ◌∷◌, ◌++◌}
use Rattle.std.proofs.Common.{Option, Some, None, Ok, Err, Result, is_some, length}
use Rattle.std.proofs.Common.{refl, sym, ap, subst, ◌∙◌, IfOk, OnOk, get_or, drop, append_assoc}
use Rattle.std.specs.List.{All}
use Rattle.std.specs.Option.{option_map, option_map_or, unwrap_or}
use Rattle.std.specs.Prelude.{if◌then◌else◌}
use Rattle.std.proofs.lemmas.Option.{slice_get-map, slice_get-get_or}
use Rattle.std.proofs.lemmas.List.{at_drop_more}
use Rattle.std.proofs.lemmas.List.Elements.{All-nil, All-cons, All-append}
use Rattle.tase_points.specs.declared.kind.Kind.TheVariants.{State}
use Rattle.tase_points.specs.declared.layout.TheConstants.{COV_MODULUS}
use Rattle.tase_points.specs.Sample.{Sample}
use Rattle.mms_data.specs.Datum.{boolean}
use Rattle.mms_data.specs.ObjectName.{ObjectName}
use Rattle.mms_data.specs.declared.outcome.Outcome.{Outcome}
use Rattle.mms_data.specs.declared.outcome.Outcome.TheVariants.{Good, Fail}
use Rattle.point_data.specs.Shown.{shown_as}
use Rattle.point_db.specs.Updates.{Updates, last_value, change_count, kind_at}
use Rattle.bilateral.specs.declared.rows.PointRow.{PointRow}
use Rattle.bilateral.specs.declared.rows.See.{See}
use Rattle.bilateral.specs.declared.rows.TheConstants.{SLOT_LIMIT}
use Rattle.bilateral.specs.Rows.{CentreRows, place_of_see, point_of, no_point}
use Rattle.sbo_device.specs.Moves.{Tag}
use Rattle.sbo_device.specs.States.{select_answer, tag_of}
use Rattle.transfer_sets.specs.declared.wish.Wish.{Wish}
use Rattle.transfer_sets.specs.SlotMoves.{last_wish}
use Rattle.transfer_sets.specs.WishData.{shown_wish}
use Rattle.transfer_sets.specs.Banks.{OwnedSlot, slot_at, is_owned_by}
use Rattle.tase_views.specs.declared.reply.TheConstants.{OBJECT_ACCESS_DENIED}
use Rattle.tase_views.specs.OwnTables.{OwnDevice, OwnTable, OwnTables, own_point}
use Rattle.tase_views.specs.Objects.{Object, constant, report_variable, indication_point}
use Rattle.tase_views.specs.Objects.{next_transfer_set, control_point, selection, device_tag}
use Rattle.tase_views.specs.Objects.{timeout, transfer_set, transfer_set_status, object_named}
use Rattle.tase_views.specs.Moves.{reads}
use Rattle.tase_views.specs.View.{View, own, own_key, held, moves_seen}
use Rattle.tase_views.specs.Values.{values_in}
use Rattle.tase_views.specs.Slots.{is_next_slot, slot_moves}
use Rattle.tase_views.specs.Answers.{outcome_of_point, object_read, read_outcomes, slot_name}
use Rattle.tase_views.specs.Answers.{temporarily_unavailable, device_state, select_outcome}
use Rattle.tase_views.specs.Answers.{shown_tag}
use Rattle.node_core.proofs.OfDevices.OwnActs.{selects_alike, tags_alike}
use Rattle.node_core.specs.LastValues.{kinds_of}
use Rattle.node_core.specs.declared.objects.naming.Special.{Special}
use Rattle.node_core.specs.declared.objects.naming.Special.TheVariants as specials
use Rattle.node_core.specs.Objects.Found.{TableInForce, offered, special_object}
use Rattle.node_core.specs.Slots.SlotsKept.{IsBank, slots_read, all_read, object_shown}
use Rattle.node_core.specs.Slots.SlotsKept.{outcomes_shown, first_free, handed_by, Drafted, drafted}
use Rattle.node_core.specs.Slots.SlotsKept.{HasDrafted, handed_all}
use Rattle.node_core.specs.Replies.Shown.{Shown, IsShown, InEachView}
use Rattle.node_core.proofs.OfSlots.SlotBanks.{owned_alike, free_alike, IsBank-reads}

-- the kind of a point of the centre
pub kind_there : (rows : CentreRows) (p : ℕ) → p < length rows.points
    → kind_at (kinds_of rows) p ≡ (point_of rows p).kind
kind_there rows p there =
    ap (λ o. unwrap_or o State) (slice_get-map (λ (row : PointRow). row.kind) rows.points p
    ∙ ap (option_map (λ (row : PointRow). row.kind))
    (slice_get-get_or rows.points p no_point there))

-- a row's point gives what is kept of it
pub outcome_of_point-row : (updates : Updates) (tables : OwnTables) (view : View) (shown : Shown)
    (see : See) (value : Sample) (count : ℕ) → IsShown updates tables view shown
    → see.point < length shown.table.rows.points
    → is_some (place_of_see shown.table.table see.point) ≡ true
    → value ≡ last_value (kinds_of shown.table.rows) updates see.point
    → count ≡ change_count (kinds_of shown.table.rows) updates see.point % COV_MODULUS
    → Good (shown_as value count see.layout)
    ≡ outcome_of_point view (own_point shown.table.rows see)
outcome_of_point-row updates tables view shown see value count s there named value_is count_is =
    rw (
      s.values see.point named,
      value_is,
      count_is,
      kind_there shown.table.rows see.point there,
    ) refl

-- ---- reads

-- what two views of a peer tell alike: the values of points, how selects by an association are
-- answered, and the tags of devices
pub record TellAlike (tables : OwnTables) (ordinal : ℕ) (v w : View) : Type 0 where
  pub values : (name : List ℕ) → values_in v name ≡ values_in w name
  pub selects : (d : OwnDevice) → select_answer (device_state tables v d) (own_key ordinal)
      ≡ select_answer (device_state tables w d) (own_key ordinal)
  pub tags : (name : List ℕ) → tag_of (moves_seen tables v name)
      ≡ tag_of (moves_seen tables w name)

-- an object gives what it gives by the transfer sets that are kept, and in every view that tells
-- all else alike
object_alike : (tables : OwnTables) (v w : View) (ordinal : ℕ) (slots : List OwnedSlot)
    (object : Option Object) → IsBank tables v slots → TellAlike tables ordinal v w
    → object_read tables v ordinal object
    ≡ object_shown tables (held tables v) w ordinal slots object
object_alike tables v w ordinal slots None k same = refl
object_alike tables v w ordinal slots (Some (constant value shape)) k same = refl
object_alike tables v w ordinal slots (Some (report_variable variable)) k same = refl
object_alike tables v w ordinal slots (Some (indication_point point)) k same =
    rw (same.values point.name) refl
object_alike tables v w ordinal slots (Some next_transfer_set) k same =
    ap (λ (free : Option ℕ). option_map_or (λ s. Good (slot_name (held tables v) s)) free
    (Fail temporarily_unavailable)) (sym (free_alike tables v slots k))
object_alike tables v w ordinal slots (Some (transfer_set s)) k same =
    ap (λ (mine : Bool). if mine
    then Good (shown_wish (last_wish (slot_moves tables v s)).0) else Fail OBJECT_ACCESS_DENIED)
    (sym (owned_alike tables v slots k ordinal s))
    ∙ ap (λ (wish : Wish). if is_owned_by ordinal (slot_at slots s)
    then Good (shown_wish wish) else Fail OBJECT_ACCESS_DENIED) (sym (k.state s).wish)
object_alike tables v w ordinal slots (Some (transfer_set_status s)) k same =
    ap (λ (mine : Bool). if mine
    then Good (boolean (last_wish (slot_moves tables v s)).0.status)
    else Fail OBJECT_ACCESS_DENIED) (sym (owned_alike tables v slots k ordinal s))
    ∙ ap (λ (wish : Wish). if is_owned_by ordinal (slot_at slots s)
    then Good (boolean wish.status) else Fail OBJECT_ACCESS_DENIED) (sym (k.state s).wish)
object_alike tables v w ordinal slots (Some (control_point d)) k same = refl
object_alike tables v w ordinal slots (Some (selection d)) k same =
    ap (select_outcome d.row.checkback) (same.selects d)
object_alike tables v w ordinal slots (Some (device_tag d)) k same =
    ap (λ (tag : Tag). Good (shown_tag tag)) (same.tags d.row.name)
object_alike tables v w ordinal slots (Some (timeout d)) k same = refl

module _ (tables : OwnTables) (ordinal : ℕ) where
  -- a read leaves what they tell alike
  alike_behind : (v w : View) (name : ObjectName) → TellAlike tables ordinal v w
      → TellAlike tables ordinal (own ordinal (reads name) ∷ v) w
  alike_behind v w name same = record {
    values = same.values;
    selects = λ d. selects_alike tables v ordinal name d ∙ same.selects d;
    tags = λ item. tags_alike tables v ordinal name item ∙ same.tags item;
  }

  reads_alike : (v w : View) (names : List ObjectName) (slots : List OwnedSlot)
      → (held tables v).slots ≤ SLOT_LIMIT → IsBank tables v slots
      → TellAlike tables ordinal v w
      → read_outcomes tables v ordinal names
      ≡ outcomes_shown tables (held tables v) w ordinal names slots
  reads_alike v w [] slots few k same = refl
  reads_alike v w (name ∷ names) slots few k same =
      let table = held tables v in
      let behind : View = own ordinal (reads name) ∷ v in
      ap (λ (outcome : Outcome). outcome ∷ read_outcomes tables behind ordinal names)
      (object_alike tables v w ordinal slots (object_named table name) k same)
      ∙ ap (λ (rest : List Outcome). object_shown tables table w ordinal slots
      (object_named table name) ∷ rest)
      (reads_alike behind w names (slots_read table ordinal name slots) few
      (IsBank-reads tables v slots k ordinal name few) (alike_behind v w name same))

  -- what reads give by what is kept is what they give by the view
  pub read_outcomes-shown : (t : TableInForce) (view : View) (names : List ObjectName)
      (slots : List OwnedSlot) → offered t ≡ held tables view → t.table.slots ≤ SLOT_LIMIT
      → IsBank tables view slots
      → outcomes_shown tables (offered t) view ordinal names slots
      ≡ read_outcomes tables view ordinal names
  read_outcomes-shown t view names slots in_force few k =
      ap (λ (table : OwnTable). outcomes_shown tables table view ordinal names slots) in_force
      ∙ sym (reads_alike view view names slots
      (subst (λ (table : OwnTable). table.slots ≤ SLOT_LIMIT) in_force few) k
      (record { values = λ name. refl; selects = λ d. refl; tags = λ name. refl }))

-- one read more, ahead of those that are left
pub shown-step : (tables : OwnTables) (table : OwnTable) (view : View) (ordinal : ℕ)
    (names : List ObjectName) (i : ℕ) (name : ObjectName) (slots after : List OwnedSlot)
    (done all : List Outcome) (outcome : Outcome) → i < length names → name ≡ get_or names i name
    → all ≡ done ++ outcome ∷ []
    → outcome ≡ object_shown tables table view ordinal slots (object_named table name)
    → after ≡ slots_read table ordinal name slots
    → all ++ outcomes_shown tables table view ordinal (drop (i + 1) names) after
    ≡ done ++ outcomes_shown tables table view ordinal (drop i names) slots
shown-step tables table view ordinal names i name slots after done all outcome within at pushed is
    behind =
    let more = drop (i + 1) names in
    ap (λ (xs : List Outcome). xs ++ outcomes_shown tables table view ordinal more after) pushed
    ∙ append_assoc done (outcome ∷ []) (outcomes_shown tables table view ordinal more after)
    ∙ ap (λ (xs : List Outcome). done ++ xs)
    (ap (λ (o : Outcome). o ∷ outcomes_shown tables table view ordinal more after) is
    ∙ ap (λ (left : List OwnedSlot). object_shown tables table view ordinal slots
    (object_named table name) ∷ outcomes_shown tables table view ordinal more left) behind
    ∙ ap (λ (n : ObjectName). outcomes_shown tables table view ordinal (n ∷ more) slots) at
    ∙ sym (at_drop_more (λ ns. outcomes_shown tables table view ordinal ns slots) names i name
    within))

pub read-step : (table : OwnTable) (ordinal : ℕ) (names : List ObjectName) (i : ℕ)
    (name : ObjectName) (slots after : List OwnedSlot) → i < length names
    → name ≡ get_or names i name → after ≡ slots_read table ordinal name slots
    → all_read table ordinal (drop (i + 1) names) after
    ≡ all_read table ordinal (drop i names) slots
read-step table ordinal names i name slots after within at behind =
    let more = drop (i + 1) names in
    ap (all_read table ordinal more) behind
    ∙ ap (λ (n : ObjectName). all_read table ordinal (n ∷ more) slots) at
    ∙ sym (at_drop_more (λ ns. all_read table ordinal ns slots) names i name within)

-- one item more of a list of which all have a property
pub All-pushed : {X : Type 0} (P : X → Type 0) (so_far all : List X) (x : X)
    → all ≡ so_far ++ x ∷ [] → All P so_far → P x → All P all
All-pushed P so_far all x pushed before here =
    subst (All P) (sym pushed)
    (All-append P so_far (x ∷ []) before (All-cons P x [] here (All-nil P)))

-- ---- one read, by what its object is

-- an object of the protocol itself is shown as it is read, and hands nothing out
pub shown_special : (whose : OwnTable) (special : Special) (tables : OwnTables) (table : OwnTable)
    (view : View) (ordinal : ℕ) (slots : List OwnedSlot)
    → object_shown tables table view ordinal slots (Some (special_object whose special))
    ≡ object_read tables view ordinal (Some (special_object whose special))
shown_special whose specials.Version tables table view ordinal slots = refl
shown_special whose specials.Features tables table view ordinal slots = refl
shown_special whose specials.TableId tables table view ordinal slots = refl
shown_special whose specials.SetName tables table view ordinal slots = refl
shown_special whose specials.TimeStamp tables table view ordinal slots = refl
shown_special whose specials.Conditions tables table view ordinal slots = refl
shown_special whose specials.EventCode tables table view ordinal slots = refl

pub special_kept : (whose : OwnTable) (special : Special)
    → is_next_slot (Some (special_object whose special)) ≡ false
special_kept whose specials.Version = refl
special_kept whose specials.Features = refl
special_kept whose specials.TableId = refl
special_kept whose specials.SetName = refl
special_kept whose specials.TimeStamp = refl
special_kept whose specials.Conditions = refl
special_kept whose specials.EventCode = refl

-- what isn't the next transfer set hands nothing out
pub drafted-kept : {A E : Type 0} (result : Result A E) (table : OwnTable) (name : ObjectName)
    (object : Option Object) (d : Drafted) → object ≡ object_named table name
    → is_next_slot object ≡ false
    → OnOk result (HasDrafted d d (slots_read table d.ordinal name (drafted d)))
drafted-kept (Err e) table name object d named other = tt
drafted-kept (Ok x) table name object d named other =
    record {
      bank = refl;
      ordinal = refl;
      slots = ap (λ (next : Bool). if next
          then handed_by d.ordinal (first_free table.slots (drafted d)) (drafted d)
          else drafted d) (sym other ∙ ap is_next_slot named);
    }

-- the next one hands out the first that is free
pub drafted-next : {A E : Type 0} (result : Result A E) (table : OwnTable) (name : ObjectName)
    (count : ℕ) (old new : Drafted) → Some next_transfer_set ≡ object_named table name
    → count ≡ table.slots
    → OnOk result (HasDrafted old new
    (handed_by old.ordinal (first_free count (drafted old)) (drafted old)))
    → OnOk result (HasDrafted old new (slots_read table old.ordinal name (drafted old)))
drafted-next (Err e) table name count old new named same drafting = tt
drafted-next (Ok x) table name count old new named same drafting = record {
  bank = drafting.bank;
  ordinal = drafting.ordinal;
  slots = drafting.slots
      ∙ ap (λ (n : ℕ). handed_by old.ordinal (first_free n (drafted old)) (drafted old)) same
      ∙ ap (λ (o : Option Object). if is_next_slot o
      then handed_by old.ordinal (first_free table.slots (drafted old)) (drafted old)
      else drafted old) named;
}

-- ---- in whatever view

-- what holds of a result in each view that has what is shown, said in other words of that
pub ok_each : {A E : Type 0} (given shown : Shown) (P : Shown → A → OwnTables → View → Type 0)
    (result : Result A E) → given ≡ shown
    → ((updates : Updates) (tables : OwnTables) (view : View)
    → IsShown updates tables view given → IfOk result (λ x. P given x tables view))
    → IfOk result (λ x. InEachView shown (P shown x))
ok_each given shown P (Ok x) same each =
    subst (λ (s : Shown). InEachView s (P s x)) same each
ok_each given shown P (Err e) same each = tt

pub ok_of : {A E : Type 0} {P Q : A → Type 0} (result : Result A E) → ((x : A) → P x → Q x)
    → IfOk result P → IfOk result Q
ok_of (Ok x) next holds = next x holds
ok_of (Err e) next holds = tt

-- what holds of each view that has what is shown, said in other words of that
pub in_each : {A : Type 0} (given shown : Shown) (F : OwnTables → View → ℕ → A) (x : A)
    → given ≡ shown
    → InEachView given (λ tables view. (ordinal : ℕ) → x ≡ F tables view ordinal)
    → InEachView shown (λ tables view. (ordinal : ℕ) → x ≡ F tables view ordinal)
in_each given shown F x same each =
    subst (λ (s : Shown). InEachView s (λ tables view. (ordinal : ℕ) → x ≡ F tables view ordinal))
    same each

pub in_view : {A : Type 0} (given shown : Shown) (F : OwnTables → View → A) (x : A)
    → given ≡ shown → InEachView given (λ tables view. x ≡ F tables view)
    → InEachView shown (λ tables view. x ≡ F tables view)
in_view given shown F x same each =
    subst (λ (s : Shown). InEachView s (λ tables view. x ≡ F tables view)) same each

-- reads that begin with nothing handed out give what the view gives
pub read_by_draft : (shown : Shown) (updates : Updates) (tables : OwnTables) (view : View)
    (ordinal : ℕ) (names : List ObjectName) (results : List Outcome) (d : Drafted)
    (bank : List OwnedSlot) → d ≡ record { bank = bank; ordinal = ordinal; handed = [] }
    → bank ≡ shown.slots → shown.table.table.slots ≤ SLOT_LIMIT → IsShown updates tables view shown
    → results ≡ outcomes_shown tables (offered shown.table) view d.ordinal names (drafted d)
    → results ≡ read_outcomes tables view ordinal names
read_by_draft shown updates tables view ordinal names results d bank fresh same few s read =
    read
    ∙ ap (λ (x : Drafted). outcomes_shown tables (offered shown.table) view x.ordinal names
    (drafted x)) fresh
    ∙ ap (λ (slots : List OwnedSlot). outcomes_shown tables (offered shown.table) view ordinal names
    slots) same
    ∙ read_outcomes-shown tables ordinal shown.table view names shown.slots s.table few s.slots

-- and hand out what they have drafted
pub hands_out : (table : OwnTable) (ordinal : ℕ) (names : List ObjectName)
    (bank slots : List OwnedSlot) (old new : Drafted) (handed : List ℕ)
    → old ≡ record { bank = bank; ordinal = ordinal; handed = [] } → bank ≡ slots
    → handed ≡ new.handed
    → HasDrafted old new (all_read table old.ordinal names (drafted old))
    → handed_all ordinal handed slots ≡ all_read table ordinal names slots
hands_out table ordinal names bank slots old new handed fresh same taken h =
    ap (λ (these : List ℕ). handed_all ordinal these slots) taken
    ∙ ap (λ (o : ℕ). handed_all o new.handed slots)
    (sym (h.ordinal ∙ ap (λ (d : Drafted). d.ordinal) fresh))
    ∙ ap (λ (b : List OwnedSlot). handed_all new.ordinal new.handed b)
    (sym (h.bank ∙ ap (λ (d : Drafted). d.bank) fresh ∙ same))
    ∙ h.slots
    ∙ ap (λ (d : Drafted). all_read table d.ordinal names (drafted d)) fresh
    ∙ ap (λ (b : List OwnedSlot). all_read table ordinal names b) same

-- so of a result
pub ok_in_each : {A E : Type 0} (given shown : Shown) (F : OwnTables → View → ℕ → A)
    (result : Result A E) → given ≡ shown
    → InEachView given (λ tables view. (ordinal : ℕ) → IfOk result (λ x. x ≡ F tables view ordinal))
    → IfOk result (λ x. InEachView shown (λ tables view. (ordinal : ℕ) → x ≡ F tables view ordinal))
ok_in_each given shown F (Ok x) same each = in_each given shown F x same each
ok_in_each given shown F (Err e) same each = tt
