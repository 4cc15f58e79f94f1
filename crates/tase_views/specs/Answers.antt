-- The replies to all calls of a peer, from its own tables and its view, and from nothing else
-- (IEC 60870-6-503; ISO 9506-2).
use Rattle.std.specs.Prelude.{ℕ, ◌*◌, ◌==◌, not, if◌then◌else◌, Bool, true, false, ℤ, pos, List}
use Rattle.std.specs.Prelude.{[], ◌∷◌, Option, Some, None, is_some, Result, Ok, Err}
use Rattle.std.specs.Option.{option_map_or}
use Rattle.point_data.specs.Shown.{shown_as}
use Rattle.point_db.specs.Updates.{last_of}
use Rattle.mms_data.specs.Datum.{Datum, boolean, integer, bits, text, structure, data_of}
use Rattle.mms_data.specs.ObjectName.{ObjectName}
use Rattle.mms_data.specs.declared.outcome.Outcome.{Outcome}
use Rattle.mms_data.specs.declared.outcome.Outcome.TheVariants.{Good, Fail}
use Rattle.sbo_device.specs.Moves.{DeviceState, Tag}
use Rattle.sbo_device.specs.declared.answer.Select.{Select}
use Rattle.sbo_device.specs.declared.answer.Select.TheVariants as select
use Rattle.sbo_device.specs.declared.answer.Operate.{Operate}
use Rattle.sbo_device.specs.declared.answer.Operate.TheVariants as operate
use Rattle.sbo_device.specs.States.{state_in, tag_of, select_answer, operate_answer}
use Rattle.transfer_sets.specs.SlotMoves.{last_wish}
use Rattle.transfer_sets.specs.WishData.{shown_wish}
use Rattle.tase_views.specs.declared.call.CallKind.{CallKind}
use Rattle.tase_views.specs.declared.call.CallKind.TheVariants.{Identify, Read, ReadSet, Write}
use Rattle.tase_views.specs.declared.call.CallKind.TheVariants.{WriteSet, NameList, TypeOf, Define}
use Rattle.tase_views.specs.declared.call.CallKind.TheVariants.{MembersOf, Delete, DeleteScope, Odd}
use Rattle.tase_views.specs.declared.reply.ReadSpec.{ReadSpec}
use Rattle.tase_views.specs.declared.reply.ReadSpec.TheVariants as specs
use Rattle.tase_views.specs.declared.reply.ReplyKind.{ReplyKind}
use Rattle.tase_views.specs.declared.reply.ReplyKind.TheVariants.{Identified, Results, Written}
use Rattle.tase_views.specs.declared.reply.ReplyKind.TheVariants.{Defined, MembersAre, Deleted}
use Rattle.tase_views.specs.declared.reply.ReplyKind.TheVariants.{Error, Reject}
use Rattle.tase_views.specs.declared.reply.TheConstants.{OBJECT_NON_EXISTENT}
use Rattle.tase_views.specs.declared.reply.TheConstants.{OBJECT_ACCESS_DENIED}
use Rattle.tase_views.specs.declared.reply.TheConstants.{OBJECT_ACCESS_UNSUPPORTED, ACCESS_ERRORS}
use Rattle.tase_views.specs.declared.reply.TheConstants.{NON_EXISTENT, ACCESS_DENIED}
use Rattle.tase_views.specs.OwnTables.{OwnPoint, OwnDevice, OwnTable, OwnTables, control_of}
use Rattle.tase_views.specs.Objects.{Object, constant, next_transfer_set, indication_point}
use Rattle.tase_views.specs.Objects.{control_point, selection, device_tag, transfer_set}
use Rattle.tase_views.specs.Objects.{transfer_set_status, slot_item, objects, object_named}
use Rattle.tase_views.specs.Shapes.{type_replied}
use Rattle.tase_views.specs.NameLists.{names_listed}
use Rattle.tase_views.specs.Moves.{reads, writes}
use Rattle.tase_views.specs.Devices.{number_in, tag_in}
use Rattle.tase_views.specs.View.{View, own, held, own_key, moves_seen}
use Rattle.tase_views.specs.Values.{values_in, change_count_of}
use Rattle.tase_views.specs.Sets.{sets_there, define_fault, SetError, Deletion, deletion_by}
use Rattle.tase_views.specs.Slots.{type_inconsistent, value_invalid, owns, slot_of, lowest_free}
use Rattle.tase_views.specs.Slots.{wish_written, is_wished, sets_in, slot_moves, members_of}

-- a further reason of an access (ISO 9506-2, DataAccessError: temporarily-unavailable)
abbrev pub temporarily_unavailable : ℕ
temporarily_unavailable = 2

-- a point of the table as it stands in a view, by its layout
abbrev pub outcome_of_point : View → OwnPoint → Outcome
outcome_of_point view point =
    Good (shown_as (last_of point.kind (values_in view point.name))
    (change_count_of point.kind (values_in view point.name)) point.layout)

-- a select is answered by the device's checkback; not while another association holds it, nor where
-- the tag inhibits it
abbrev pub select_outcome : ℤ → Select → Outcome
select_outcome checkback select.Granted = Good (integer checkback)
select_outcome checkback select.HeldByOther = Fail temporarily_unavailable
select_outcome checkback select.Inhibited = Fail OBJECT_ACCESS_DENIED

-- an operate gives an order, or the reason why it gives none
abbrev pub operate_written : Operate → Option ℕ
operate_written operate.Ordered = None
operate_written operate.BadValue = Some value_invalid
operate_written _ = Some OBJECT_ACCESS_DENIED

-- a tag as data: two bits and the reason
abbrev pub shown_tag : Tag → Datum
shown_tag tag =
    let two = bits (record { count = 2; octets = (tag.tag * 64) ∷ [] }) in
    structure (data_of (two ∷ text tag.reason ∷ []))

abbrev pub reason_of : {A : Type 0} → Result A ℕ → Option ℕ
reason_of (Ok done) = None
reason_of (Err reason) = Some reason

-- what a read named, where that is to be repeated
abbrev pub echoed : Bool → List ObjectName → Option ReadSpec
echoed true names = Some (specs.List names)
echoed false names = None

-- the data set that a read named, where that is to be repeated
abbrev pub echoed_set : Bool → ObjectName → Option ReadSpec
echoed_set true set = Some (specs.Set set)
echoed_set false set = None

-- a reply about the members of a data set, which has to be there
abbrev pub set_replied : (List ObjectName → ReplyKind) → Option (List ObjectName) → ReplyKind
set_replied reply members = option_map_or reply members (Error ACCESS_ERRORS NON_EXISTENT)

-- a definition is made, unless it has an error
abbrev pub define_replied : Option SetError → ReplyKind
define_replied None = Defined
define_replied (Some error) = Error error.class error.code

abbrev pub delete_replied : Deletion → ReplyKind
delete_replied deletion = Deleted deletion.matched deletion.deleted

-- the name of a transfer set as data: scope, domain, item
abbrev pub slot_name : OwnTable → ℕ → Datum
slot_name table s =
    structure (data_of (integer (pos 1) ∷ text table.domain ∷ text (slot_item s) ∷ []))

module _ (tables : OwnTables) where
  -- a device of the tables as it stands in a view
  abbrev pub device_state : View → OwnDevice → DeviceState
  device_state view d = state_in (control_of d) (moves_seen tables view d.row.name)

  -- what its owner, and nobody else, reads of a transfer set
  abbrev pub for_owner : View → ℕ → ℕ → Datum → Outcome
  for_owner view ordinal s value =
      if owns ordinal (slot_moves tables view s) then Good value else Fail OBJECT_ACCESS_DENIED

  -- what one variable of a read by the association with this ordinal gives: a constant and a point
  -- are shown; no value of the report variables, of a device's control point and of its time-out is
  -- read; any other name does not exist
  abbrev pub object_read : View → ℕ → Option Object → Outcome
  object_read view ordinal None = Fail OBJECT_NON_EXISTENT
  object_read view ordinal (Some (constant value shape)) = Good value
  object_read view ordinal (Some (indication_point point)) = outcome_of_point view point
  object_read view ordinal (Some next_transfer_set) =
      let table = held tables view in
      option_map_or (λ s. Good (slot_name table s))
      (lowest_free table (slot_moves tables view)) (Fail temporarily_unavailable)
  object_read view ordinal (Some (selection d)) =
      select_outcome d.row.checkback
      (select_answer (device_state view d) (own_key ordinal))
  object_read view ordinal (Some (device_tag d)) =
      Good (shown_tag (tag_of (moves_seen tables view d.row.name)))
  object_read view ordinal (Some (transfer_set s)) =
      for_owner view ordinal s (shown_wish (last_wish (slot_moves tables view s)).0)
  object_read view ordinal (Some (transfer_set_status s)) =
      for_owner view ordinal s (boolean (last_wish (slot_moves tables view s)).0.status)
  object_read view ordinal (Some _) = Fail OBJECT_ACCESS_UNSUPPORTED

  -- what a write to a transfer set or its status gives
  abbrev pub slot_written : View → ℕ → Option Object → Datum → ℕ → Option ℕ
  slot_written view ordinal object value s =
      if owns ordinal (slot_moves tables view s)
      then reason_of
      (wish_written (held tables view) (sets_in tables view) (slot_moves tables view s) object
      value)
      else Some OBJECT_ACCESS_DENIED

  -- what one variable of a write gives: none where it is written, else the reason
  abbrev pub object_written : View → ℕ → Option Object → Datum → Option ℕ
  object_written view ordinal None value = Some OBJECT_NON_EXISTENT
  object_written view ordinal (Some (control_point d)) value =
      let key = own_key ordinal in
      option_map_or (λ n. operate_written (operate_answer (device_state view d) key n))
      (number_in value) (Some type_inconsistent)
  object_written view ordinal (Some (device_tag d)) value =
      if not d.tag then Some OBJECT_ACCESS_DENIED
      else option_map_or (λ (tag : Tag). if tag.tag == 3 then Some value_invalid else None)
      (tag_in value) (Some type_inconsistent)
  object_written view ordinal object value =
      option_map_or (slot_written view ordinal object value) (slot_of object)
      (Some OBJECT_ACCESS_DENIED)

  -- what the variables of a read and of a write give, each after those before it
  abbrev pub read_outcomes : View → ℕ → List ObjectName → List Outcome
  read_outcomes view ordinal [] = []
  read_outcomes view ordinal (name ∷ names) =
      object_read view ordinal (object_named (held tables view) name)
      ∷ read_outcomes (own ordinal (reads name) ∷ view) ordinal names

  abbrev pub write_outcomes : View → ℕ → List ObjectName → List Datum → List (Option ℕ)
  write_outcomes view ordinal (name ∷ names) (value ∷ values) =
      object_written view ordinal (object_named (held tables view) name) value
      ∷ write_outcomes (own ordinal (writes name value) ∷ view) ordinal names values
  write_outcomes view ordinal _ _ = []

  -- the names of the data sets that there are in a view
  abbrev pub set_names : View → List (List ℕ)
  set_names view = sets_there (sets_in tables view) view

  -- a deletion deletes the data sets that no enabled transfer set wishes
  abbrev pub deletion_of : View → ℕ → List ObjectName → Deletion
  deletion_of view ordinal sets =
      deletion_by (λ v set. is_some (members_of tables v set))
      (λ v. is_wished (held tables v) (slot_moves tables v)) view ordinal sets

  -- the reply to a call of the peer's association with this ordinal; a data set is read as its
  -- members are, none is written, and those of a scope aren't deleted
  abbrev pub reply_to : View → ℕ → CallKind → ReplyKind
  reply_to view ordinal Identify = Identified
  reply_to view ordinal (Read names echo) =
      Results (echoed echo names) (read_outcomes view ordinal names)
  reply_to view ordinal (ReadSet set echo) =
      set_replied (λ members. Results (echoed_set echo set) (read_outcomes view ordinal members))
      (members_of tables view set)
  reply_to view ordinal (Write names values) = Written (write_outcomes view ordinal names values)
  reply_to view ordinal (WriteSet set values) = Error ACCESS_ERRORS ACCESS_DENIED
  reply_to view ordinal (NameList class scope after) =
      let table = held tables view in
      names_listed table (objects table) (set_names view) class scope after
  reply_to view ordinal (TypeOf name) = type_replied (object_named (held tables view) name)
  reply_to view ordinal (Define set members) =
      define_replied (define_fault (held tables view) (sets_in tables view) view set members)
  reply_to view ordinal (MembersOf set) = set_replied MembersAre (members_of tables view set)
  reply_to view ordinal (Delete sets) = delete_replied (deletion_of view ordinal sets)
  reply_to view ordinal (DeleteScope scope) = Error ACCESS_ERRORS ACCESS_DENIED
  reply_to view ordinal (Odd kind code) = Reject kind code
