-- Calls are answered alike in views that are alike, but for counts of changes.
use Rattle.std.proofs.Common.{◌≡◌, ℕ, ◌+◌, Bool, true, false, ◌&&◌, if◌then◌else◌, List, [], ◌∷◌}
use Rattle.std.proofs.Common.{Option, Some, None, is_some, refl, ap, ◌∙◌, Result, ℤ}
use Rattle.std.specs.Prelude.{filter}
use Rattle.std.specs.Ordering.{int_eq}
use Rattle.std.specs.Option.{option_map_or, unwrap_or}
use mathlib.Core.Path.{fun_ext}
use Rattle.mms_data.specs.Datum.{Datum, boolean}
use Rattle.mms_data.specs.ObjectName.{ObjectName, same_scope}
use Rattle.mms_data.specs.declared.object_name.Scope.{Scope}
use Rattle.mms_data.specs.declared.object_name.Scope.TheVariants.{Domain}
use Rattle.mms_data.specs.declared.outcome.Outcome.{Outcome}
use Rattle.mms_data.specs.declared.outcome.Outcome.TheVariants.{Good, Fail}
use Rattle.sbo_device.specs.Moves.{DeviceState, Tag}
use Rattle.sbo_device.specs.States.{select_answer, operate_answer}
use Rattle.transfer_sets.specs.declared.wish.Wish.{Wish}
use Rattle.transfer_sets.specs.WishData.{shown_wish}
use Rattle.tase_views.specs.declared.call.CallKind.{CallKind}
use Rattle.tase_views.specs.declared.call.CallKind.TheVariants.{Identify, Read, ReadSet, Write}
use Rattle.tase_views.specs.declared.call.CallKind.TheVariants.{WriteSet, NameList, TypeOf, Define}
use Rattle.tase_views.specs.declared.call.CallKind.TheVariants.{MembersOf, Delete, DeleteScope, Odd}
use Rattle.tase_views.specs.declared.call.TheConstants.{NAMED_VARIABLES, NAMED_VARIABLE_LISTS}
use Rattle.tase_views.specs.declared.call.TheConstants.{DOMAINS}
use Rattle.tase_views.specs.declared.reply.ReplyKind.TheVariants.{Results, Written, MembersAre}
use Rattle.tase_views.specs.declared.reply.ReplyKind.TheVariants.{Error}
use Rattle.tase_views.specs.declared.reply.TheConstants.{OBJECT_ACCESS_DENIED, ACCESS_ERRORS}
use Rattle.tase_views.specs.declared.reply.TheConstants.{NON_EXISTENT}
use Rattle.tase_views.specs.Moves.{reads, writes, deletes}
use Rattle.tase_views.specs.OwnTables.{OwnDevice, OwnTable, OwnTables, is_scope_of}
use Rattle.tase_views.specs.Objects.{Object, constant, next_transfer_set, report_variable}
use Rattle.tase_views.specs.Objects.{indication_point, control_point, selection, device_tag}
use Rattle.tase_views.specs.Objects.{timeout, transfer_set, transfer_set_status, NamedObject}
use Rattle.tase_views.specs.Objects.{objects, object_named}
use Rattle.tase_views.specs.Shapes.{type_replied}
use Rattle.tase_views.specs.NameLists.{in_order, is_after, first_of, is_vmd, is_foreign}
use Rattle.tase_views.specs.NameLists.{variables_in, listed, names_listed}
use Rattle.tase_views.specs.Devices.{number_in}
use Rattle.tase_views.specs.View.{View, own, held, force, own_key}
use Rattle.tase_views.specs.Sets.{Sets, Deletion, one_deletion, define_fault}
use Rattle.tase_views.specs.Slots.{owns, lowest_free, wish_written, wish_asked, taken, is_wished}
use Rattle.tase_views.specs.Slots.{sets_in, slot_moves, members_of, type_inconsistent}
use Rattle.tase_views.specs.Answers.{temporarily_unavailable, select_outcome, operate_written}
use Rattle.tase_views.specs.Answers.{shown_tag, reason_of, echoed, echoed_set, set_replied}
use Rattle.tase_views.specs.Answers.{define_replied, delete_replied, slot_name, device_state}
use Rattle.tase_views.specs.Answers.{object_read, slot_written, object_written, read_outcomes}
use Rattle.tase_views.specs.Answers.{write_outcomes, set_names, deletion_of, reply_to}
use Rattle.tase_views.proofs.OwnDevices.{OfDevice, named_is}
use Rattle.tase_resume.specs.Recounted.{Gap, object_recounted, recounted, all_recounted}
use Rattle.tase_resume.specs.Recounted.{results_recounted, reply_recounted}
use Rattle.tase_resume.proofs.RaisedHolds.{Offsets, select_raised, operate_raised}
use Rattle.tase_resume.proofs.Like.{AreSlotsAlike, HasGap, IsLike}
use Rattle.tase_resume.proofs.SetsAlike.{held_alike, fault_alike, sets_counted, names_alike}
use Rattle.tase_resume.proofs.SlotParts.{owns_alike, wish_alike, lowest_alike, wished_alike}
use Rattle.tase_resume.proofs.Selectable.{AreSelectable}
use Rattle.tase_resume.proofs.PointsNamed.{point_is}
use Rattle.tase_resume.proofs.MoreChanges.{outcome_more}
use Rattle.tase_resume.proofs.StepAlike.{like_behind}
use Rattle.tase_resume.proofs.DeviceStates.{IsOwn, owned, state_same}

-- a list of names hangs on what stands in order of the data sets that pass a test
listed_alike : (table : OwnTable) (these : List NamedObject) (one other : List (List ℕ)) (class : ℤ)
    (scope : Scope) (after : Option (List ℕ))
    → ((test : List ℕ → Bool) → in_order (filter test one) ≡ in_order (filter test other))
    → names_listed table these one class scope after
    ≡ names_listed table these other class scope after
listed_alike table these one other class scope after same =
    by (is_foreign table scope) (int_eq class NAMED_VARIABLES)
    (int_eq class DOMAINS && is_vmd scope) (int_eq class NAMED_VARIABLE_LISTS)
    (is_scope_of table scope false)
  where
    by : (a b c d e : Bool)
        → (if a then Error ACCESS_ERRORS NON_EXISTENT
        else listed after (if b then Some (variables_in table these scope)
        else (if c then Some (table.domain ∷ [])
        else (if d then Some (if e then one else []) else None))))
        ≡ (if a then Error ACCESS_ERRORS NON_EXISTENT
        else listed after (if b then Some (variables_in table these scope)
        else (if c then Some (table.domain ∷ [])
        else (if d then Some (if e then other else []) else None))))
    by true b c d e = refl
    by false true c d e = refl
    by false false true d e = refl
    by false false false true true = ap first_of (same (is_after after))
    by false false false true false = refl
    by false false false false e = refl

owner_if : (b c : Bool) (x y : Datum) → b ≡ c → x ≡ y
    → (if b then Good x else Fail OBJECT_ACCESS_DENIED)
    ≡ (if c then Good y else Fail OBJECT_ACCESS_DENIED)
owner_if b c x y same equal = rw (same, equal) refl

written_if : (b c : Bool) (x y : Option ℕ) → b ≡ c → x ≡ y
    → (if b then x else Some OBJECT_ACCESS_DENIED) ≡ (if c then y else Some OBJECT_ACCESS_DENIED)
written_if b c x y same equal = rw (same, equal) refl

module _ (tables : OwnTables) (offs : Offsets) (gap : Gap) (from : ℕ)
    (selects : AreSelectable tables) (ordinal : ℕ) where
  module _ (v w : View) (like : IsLike tables offs gap from v w) where
    same_table : held tables v ≡ held tables w
    same_table = held_alike tables offs gap from v w like

    alike : (s : ℕ)
        → AreSlotsAlike (offs 0) gap (slot_moves tables v s) (slot_moves tables w s)
    alike = like.slots

    same_owner : (s : ℕ)
        → owns (ordinal + offs 0) (slot_moves tables v s) ≡ owns ordinal (slot_moves tables w s)
    same_owner s =
        owns_alike (offs 0) gap (slot_moves tables v s) (slot_moves tables w s) (like.slots s)
        ordinal

    own_device : (name : ObjectName) (object : Object)
        → object_named (held tables w) name ≡ Some object → OfDevice (IsOwn tables) object
    own_device name object is =
        named_is (IsOwn tables) (held tables w) name object (owned tables (force w) selects) is

    -- what a variable of a read gives
    read_by : (name : ObjectName) (found : Option Object)
        → object_named (held tables w) name ≡ found
        → object_read tables v (ordinal + offs 0) found
        ≡ object_recounted gap found (object_read tables w ordinal found)
    read_by name None is = refl
    read_by name (Some (constant value shape)) is = refl
    read_by name (Some (indication_point p)) is =
        outcome_more gap v w p (like.last p.kind p.name)
        (point_is (HasGap gap v w) (held tables w) name p (like.gaps (force w)) is)
    read_by name (Some next_transfer_set) is =
        ap (λ (t : OwnTable). option_map_or (λ s. Good (slot_name t s))
        (lowest_free t (slot_moves tables v)) (Fail temporarily_unavailable)) same_table
        ∙ ap (λ (o : Option ℕ). option_map_or (λ s. Good (slot_name (held tables w) s)) o
        (Fail temporarily_unavailable))
        (lowest_alike (offs 0) gap (held tables w) (slot_moves tables v) (slot_moves tables w)
        like.slots)
    read_by name (Some (selection d)) is =
        ap (λ (s : DeviceState). select_outcome d.row.checkback
        (select_answer s (own_key (ordinal + offs 0))))
        (state_same tables offs gap from v w like d (own_device name (selection d) is))
        ∙ ap (select_outcome d.row.checkback)
        (select_raised offs (device_state tables w d) (own_key ordinal))
    read_by name (Some (device_tag d)) is =
        ap (λ (t : Tag). Good (shown_tag t))
        (like.tag d.row.name (own_device name (device_tag d) is).1)
    read_by name (Some (transfer_set s)) is =
        owner_if _ _ _ _ (same_owner s)
        (ap (λ (l : Wish × ℕ). shown_wish l.0)
        (wish_alike (offs 0) gap (slot_moves tables v s) (slot_moves tables w s) (like.slots s)))
    read_by name (Some (transfer_set_status s)) is =
        owner_if _ _ _ _ (same_owner s)
        (ap (λ (l : Wish × ℕ). boolean l.0.status)
        (wish_alike (offs 0) gap (slot_moves tables v s) (slot_moves tables w s) (like.slots s)))
    read_by name (Some (report_variable variable)) is = refl
    read_by name (Some (control_point d)) is = refl
    read_by name (Some (timeout d)) is = refl

    read_alike : (name : ObjectName)
        → object_read tables v (ordinal + offs 0) (object_named (held tables v) name)
        ≡ recounted (held tables w) gap name
        (object_read tables w ordinal (object_named (held tables w) name))
    read_alike name =
        ap (λ (t : OwnTable). object_read tables v (ordinal + offs 0) (object_named t name))
        same_table
        ∙ read_by name (object_named (held tables w) name) refl

    -- what a variable of a write gives

    slot_alike : (object : Option Object) (value : Datum) (s : ℕ)
        → slot_written tables v (ordinal + offs 0) object value s
        ≡ slot_written tables w ordinal object value s
    slot_alike object value s =
        written_if _ _ _ _ (same_owner s)
        (ap (λ (r : Result Wish ℕ). reason_of r)
        (ap (λ (t : OwnTable).
        wish_written t (sets_in tables v) (slot_moves tables v s) object value) same_table
        ∙ ap (λ (sets : Sets).
        wish_written (held tables w) sets (slot_moves tables v s) object value) (fun_ext like.sets)
        ∙ ap (λ (l : Wish × ℕ).
        taken (held tables w) (sets_in tables w) (wish_asked l.0 object value))
        (wish_alike (offs 0) gap (slot_moves tables v s) (slot_moves tables w s) (like.slots s))))

    operate_alike : (d : OwnDevice) (number : Option ℤ) → IsOwn tables d
        → option_map_or (λ n. operate_written
        (operate_answer (device_state tables v d) (own_key (ordinal + offs 0)) n)) number
        (Some type_inconsistent)
        ≡ option_map_or (λ n. operate_written
        (operate_answer (device_state tables w d) (own_key ordinal) n)) number
        (Some type_inconsistent)
    operate_alike d None own_d = refl
    operate_alike d (Some n) own_d =
        ap (λ (s : DeviceState). operate_written
        (operate_answer s (own_key (ordinal + offs 0)) n))
        (state_same tables offs gap from v w like d own_d)
        ∙ ap operate_written (operate_raised offs (device_state tables w d) (own_key ordinal) n)

    write_by : (name : ObjectName) (value : Datum) (found : Option Object)
        → object_named (held tables w) name ≡ found
        → object_written tables v (ordinal + offs 0) found value
        ≡ object_written tables w ordinal found value
    write_by name value None is = refl
    write_by name value (Some (control_point d)) is =
        operate_alike d (number_in value) (own_device name (control_point d) is)
    write_by name value (Some (device_tag d)) is = refl
    write_by name value (Some (transfer_set s)) is = slot_alike (Some (transfer_set s)) value s
    write_by name value (Some (transfer_set_status s)) is =
        slot_alike (Some (transfer_set_status s)) value s
    write_by name value (Some (constant datum shape)) is = refl
    write_by name value (Some (indication_point p)) is = refl
    write_by name value (Some next_transfer_set) is = refl
    write_by name value (Some (selection d)) is = refl
    write_by name value (Some (report_variable variable)) is = refl
    write_by name value (Some (timeout d)) is = refl

    write_alike : (name : ObjectName) (value : Datum)
        → object_written tables v (ordinal + offs 0) (object_named (held tables v) name) value
        ≡ object_written tables w ordinal (object_named (held tables w) name) value
    write_alike name value =
        ap (λ (t : OwnTable).
        object_written tables v (ordinal + offs 0) (object_named t name) value) same_table
        ∙ write_by name value (object_named (held tables w) name) refl

    members_alike : (set : ObjectName) → members_of tables v set ≡ members_of tables w set
    members_alike set =
        ap (λ (t : OwnTable). if same_scope set.scope (Domain t.domain)
        then sets_in tables v set.item else None) same_table
        ∙ ap (λ (o : Option (List ObjectName)).
        if same_scope set.scope (Domain (held tables w).domain) then o else None)
        (like.sets set.item)

  -- each behind those before it

  reads_alike : (names : List ObjectName) (v w : View) → IsLike tables offs gap from v w
      → read_outcomes tables v (ordinal + offs 0) names
      ≡ all_recounted (held tables w) gap names (read_outcomes tables w ordinal names)
  reads_alike [] v w like = refl
  reads_alike (name ∷ names) v w like =
      ap (λ (o : Outcome). o ∷ read_outcomes tables (own (ordinal + offs 0) (reads name) ∷ v)
      (ordinal + offs 0) names) (read_alike v w like name)
      ∙ ap (λ (l : List Outcome). recounted (held tables w) gap name
      (object_read tables w ordinal (object_named (held tables w) name)) ∷ l)
      (reads_alike names (own (ordinal + offs 0) (reads name) ∷ v) (own ordinal (reads name) ∷ w)
      (like_behind tables offs gap from selects (own ordinal (reads name)) v w like))

  writes_alike : (names : List ObjectName) (values : List Datum) (v w : View)
      → IsLike tables offs gap from v w
      → write_outcomes tables v (ordinal + offs 0) names values
      ≡ write_outcomes tables w ordinal names values
  writes_alike [] values v w like = refl
  writes_alike (name ∷ names) [] v w like = refl
  writes_alike (name ∷ names) (value ∷ values) v w like =
      ap (λ (o : Option ℕ). o ∷ write_outcomes tables
      (own (ordinal + offs 0) (writes name value) ∷ v) (ordinal + offs 0) names values)
      (write_alike v w like name value)
      ∙ ap (λ (l : List (Option ℕ)). object_written tables w ordinal
      (object_named (held tables w) name) value ∷ l)
      (writes_alike names values (own (ordinal + offs 0) (writes name value) ∷ v)
      (own ordinal (writes name value) ∷ w)
      (like_behind tables offs gap from selects (own ordinal (writes name value)) v w like))

  deletions_alike : (sets : List ObjectName) (v w : View) → IsLike tables offs gap from v w
      → deletion_of tables v (ordinal + offs 0) sets ≡ deletion_of tables w ordinal sets
  deletions_alike [] v w like = refl
  deletions_alike (set ∷ sets) v w like =
      ap (λ b. one_deletion b (is_wished (held tables v) (slot_moves tables v) set.item)
      (deletion_of tables (own (ordinal + offs 0) (deletes set) ∷ v) (ordinal + offs 0) sets))
      (ap (λ (o : Option (List ObjectName)). is_some o) (members_alike v w like set))
      ∙ ap (λ b. one_deletion (is_some (members_of tables w set)) b
      (deletion_of tables (own (ordinal + offs 0) (deletes set) ∷ v) (ordinal + offs 0) sets))
      (ap (λ (t : OwnTable). is_wished t (slot_moves tables v) set.item) (same_table v w like)
      ∙ wished_alike (offs 0) gap (held tables w) (slot_moves tables v) (slot_moves tables w)
      like.slots set.item)
      ∙ ap (λ (d : Deletion). one_deletion (is_some (members_of tables w set))
      (is_wished (held tables w) (slot_moves tables w) set.item) d)
      (deletions_alike sets (own (ordinal + offs 0) (deletes set) ∷ v)
      (own ordinal (deletes set) ∷ w)
      (like_behind tables offs gap from selects (own ordinal (deletes set)) v w like))

  -- a data set is read as its members are
  set_read : (set : ObjectName) (echo : Bool) (v w : View) (like : IsLike tables offs gap from v w)
      (one other : Option (List ObjectName)) → one ≡ other
      → set_replied (λ members. Results (echoed_set echo set)
      (read_outcomes tables v (ordinal + offs 0) members)) one
      ≡ results_recounted (held tables w) gap (unwrap_or other [])
      (set_replied (λ members. Results (echoed_set echo set)
      (read_outcomes tables w ordinal members)) other)
  set_read set echo v w like one None same = rw same refl
  set_read set echo v w like one (Some members) same =
      rw same (ap (λ (l : List Outcome). Results (echoed_set echo set) l)
      (reads_alike members v w like))

  pub reply_alike : (call : CallKind) (v w : View) → IsLike tables offs gap from v w
      → reply_to tables v (ordinal + offs 0) call
      ≡ reply_recounted tables w gap call (reply_to tables w ordinal call)
  reply_alike Identify v w like = refl
  reply_alike (Read names echo) v w like =
      ap (λ (l : List Outcome). Results (echoed echo names) l) (reads_alike names v w like)
  reply_alike (ReadSet set echo) v w like =
      set_read set echo v w like (members_of tables v set) (members_of tables w set)
      (members_alike v w like set)
  reply_alike (Write names values) v w like =
      ap (λ (l : List (Option ℕ)). Written l) (writes_alike names values v w like)
  reply_alike (WriteSet set values) v w like = refl
  reply_alike (NameList class scope after) v w like =
      ap (λ (t : OwnTable). names_listed t (objects t) (set_names tables v) class scope after)
      (same_table v w like)
      ∙ listed_alike (held tables w) (objects (held tables w)) (set_names tables v)
      (set_names tables w) class scope after (names_alike tables v w like.sets)
  reply_alike (TypeOf name) v w like =
      ap (λ (t : OwnTable). type_replied (object_named t name)) (same_table v w like)
  reply_alike (Define set members) v w like =
      ap define_replied
      (ap (λ (t : OwnTable). define_fault t (sets_in tables v) v set members) (same_table v w like)
      ∙ fault_alike (held tables w) (sets_in tables v) (sets_in tables w) v w set members
      (like.sets set.item) (sets_counted tables v w like.sets))
  reply_alike (MembersOf set) v w like =
      ap (set_replied MembersAre) (members_alike v w like set)
  reply_alike (Delete sets) v w like = ap delete_replied (deletions_alike sets v w like)
  reply_alike (DeleteScope scope) v w like = refl
  reply_alike (Odd kind code) v w like = refl
