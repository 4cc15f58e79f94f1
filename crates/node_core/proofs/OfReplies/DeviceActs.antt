-- What reads and writes of a call do to devices, one after another, is what its acts do.
use Rattle.std.proofs.Common.{◌≡◌, ◌==◌, ℕ, ℤ, Bool, true, false, not, ◌&&◌, List, [], ◌∷◌, ◌++◌}
use Rattle.std.proofs.Common.{map, reverse, Option, Some, None, refl, sym, ap, ◌∙◌, append_assoc}
use Rattle.std.proofs.Common.{append-nil, length, length-set, suc}
use Rattle.std.specs.Prelude.{if◌then◌else◌, slice_set}
use Rattle.std.specs.Option.{option_map, option_map_or, option_and_then}
use Rattle.std.proofs.lemmas.List.{reverse-append}
use Rattle.mms_data.specs.Datum.{Datum}
use Rattle.mms_data.specs.ObjectName.{ObjectName}
use Rattle.bilateral.specs.Rows.{CentreRows, device_of}
use Rattle.sbo_device.specs.declared.key.Key.{Key}
use Rattle.sbo_device.specs.declared.order.Order.{Order}
use Rattle.sbo_device.specs.Moves.{DeviceMove, Tag, operating, tagging, operated, tagged}
use Rattle.sbo_device.specs.Banks.{DeviceRecord, BankState, device_at, moved_at}
use Rattle.tase_views.specs.declared.reply.TheConstants.{OBJECT_ACCESS_DENIED}
use Rattle.tase_views.specs.declared.call.CallKind.{CallKind}
use Rattle.tase_views.specs.declared.call.CallKind.TheVariants.{Identify, Read, ReadSet, Write}
use Rattle.tase_views.specs.declared.call.CallKind.TheVariants.{WriteSet, NameList, TypeOf, Define}
use Rattle.tase_views.specs.declared.call.CallKind.TheVariants.{MembersOf, Delete, DeleteScope, Odd}
use Rattle.tase_views.specs.OwnTables.{OwnDevice, OwnTable}
use Rattle.tase_views.specs.Objects.{Object, constant, report_variable, indication_point}
use Rattle.tase_views.specs.Objects.{next_transfer_set, control_point, selection, device_tag}
use Rattle.tase_views.specs.Objects.{timeout, transfer_set, transfer_set_status, object_named}
use Rattle.tase_views.specs.Moves.{Act, reads, writes, deletes, writes_of, acts_of_call}
use Rattle.tase_views.specs.Devices.{Deed, done_by, deed_of, write_deed, read_deed, number_in}
use Rattle.tase_views.specs.Devices.{tag_in}
use Rattle.tase_views.specs.Slots.{type_inconsistent, value_invalid}
use Rattle.node_core.specs.Devices.DeviceBanks.{row_control, number_of, devices_by, orders_given_by}
use Rattle.node_core.specs.Devices.DeviceBanks.{devices_behind}
use Rattle.node_core.specs.Devices.DeviceBanks.{orders_behind, HaveActed}
use Rattle.node_core.specs.declared.slots.writes.Asked.{Asked}
use Rattle.node_core.specs.declared.slots.writes.Asked.TheVariants.{Answered, Wished, Switched}
use Rattle.node_core.specs.declared.slots.writes.Asked.TheVariants.{Operated, Tagged}
use Rattle.node_core.specs.Slots.SlotWrites.{operand, asked_of, all_asked}
use Rattle.node_core.specs.Replies.DeviceWrites.{AreOfRows, devices_read, devices_asked}
use Rattle.node_core.specs.Replies.DeviceWrites.{orders_asked}
use Rattle.node_core.specs.Replies.DeviceWrites.{all_devices}
use Rattle.node_core.specs.Replies.DeviceWrites.{all_left, all_orders}
use Rattle.node_core.specs.PeerParts.{EachAct}
use Rattle.node_core.specs.Replies.Shown.{IsCalm}
use Rattle.node_core.proofs.CallActs.{each-reverse, each-map}
use Rattle.node_core.proofs.OfReplies.Operands.{AreRanged, by_place, ranged_moved, operand_same}

-- of each write something is left
pub left_many : (key : Key) (asked : List Asked) (devices : List DeviceRecord)
    → length (all_left key asked devices) ≡ length asked
left_many key [] devices = refl
left_many key (one ∷ more) devices =
    ap (λ (n : ℕ). suc n) (left_many key more (devices_asked key one devices))

-- a move leaves which device it is
rows_moved : (rows : CentreRows) (devices : List DeviceRecord) (k : ℕ) (move : DeviceMove)
    → AreOfRows rows devices → AreOfRows rows (moved_at k move devices)
rows_moved rows devices k move kept n within =
    by_place devices k n move (λ (d : DeviceRecord). d.state.point ≡ row_control (device_of rows n))
    (kept n within) (λ d same. same)

module _ (rows : CentreRows) (table : OwnTable) (now : ℕ) (key : Key) where
  -- an act leaves how many devices there are
  pub by_many : (deed : Option Deed) (devices : List DeviceRecord)
      → length (devices_by rows now key deed devices) ≡ length devices
  by_many None devices = refl
  by_many (Some deed) devices = length-set devices (number_of rows deed.device) _

  -- and which
  pub by_rows : (deed : Option Deed) (devices : List DeviceRecord) → AreOfRows rows devices
      → AreOfRows rows (devices_by rows now key deed devices)
  by_rows None devices kept = kept
  by_rows (Some deed) devices kept =
      rows_moved rows devices (number_of rows deed.device) (done_by key now deed.act) kept

  -- ---- acts, some before others

  behind-append : (later sooner : List Act) (devices : List DeviceRecord)
      → devices_behind rows table now key (later ++ sooner) devices
      ≡ devices_behind rows table now key later (devices_behind rows table now key sooner devices)
  behind-append [] sooner devices = refl
  behind-append (act ∷ later) sooner devices =
      ap (devices_by rows now key (deed_of table act)) (behind-append later sooner devices)

  orders-append : (later sooner : List Act) (devices : List DeviceRecord)
      → orders_behind rows table now key (later ++ sooner) devices
      ≡ orders_behind rows table now key sooner devices
      ++ orders_behind rows table now key later (devices_behind rows table now key sooner devices)
  orders-append [] sooner devices =
      sym (append-nil (orders_behind rows table now key sooner devices))
  orders-append (act ∷ later) sooner devices =
      let middle = devices_behind rows table now key sooner devices in
      ap (λ (orders : List Order). orders ++ orders_given_by rows key (deed_of table act)
      (devices_behind rows table now key (later ++ sooner) devices))
      (orders-append later sooner devices)
      ∙ ap (λ (behind : List DeviceRecord). orders_behind rows table now key sooner devices
      ++ orders_behind rows table now key later middle
      ++ orders_given_by rows key (deed_of table act) behind)
      (behind-append later sooner devices)
      ∙ append_assoc (orders_behind rows table now key sooner devices)
      (orders_behind rows table now key later middle)
      (orders_given_by rows key (deed_of table act)
      (devices_behind rows table now key later middle))

  -- one act, and then those of a list
  behind-first : (act : Act) (these : List Act) (devices : List DeviceRecord)
      → devices_behind rows table now key (reverse (act ∷ these)) devices
      ≡ devices_behind rows table now key (reverse these)
      (devices_by rows now key (deed_of table act) devices)
  behind-first act these devices =
      ap (λ (acted : List Act). devices_behind rows table now key acted devices)
      (reverse-append (act ∷ []) these)
      ∙ behind-append (reverse these) (act ∷ []) devices

  orders-first : (act : Act) (these : List Act) (devices : List DeviceRecord)
      → orders_behind rows table now key (reverse (act ∷ these)) devices
      ≡ orders_given_by rows key (deed_of table act) devices
      ++ orders_behind rows table now key (reverse these)
      (devices_by rows now key (deed_of table act) devices)
  orders-first act these devices =
      ap (λ (acted : List Act). orders_behind rows table now key acted devices)
      (reverse-append (act ∷ []) these)
      ∙ orders-append (reverse these) (act ∷ []) devices

  -- ---- reads

  reads-behind : (names : List ObjectName) (devices : List DeviceRecord)
      → devices_behind rows table now key (reverse (map reads names)) devices
      ≡ devices_read rows table now key names devices
  reads-behind [] devices = refl
  reads-behind (name ∷ names) devices =
      behind-first (reads name) (map reads names) devices
      ∙ reads-behind names (devices_by rows now key (deed_of table (reads name)) devices)

  -- a read gives no order
  read_orders : (object : Option Object) (devices : List DeviceRecord)
      → orders_given_by rows key (option_and_then read_deed object) devices ≡ []
  read_orders None devices = refl
  read_orders (Some (constant value shape)) devices = refl
  read_orders (Some next_transfer_set) devices = refl
  read_orders (Some (report_variable v)) devices = refl
  read_orders (Some (indication_point p)) devices = refl
  read_orders (Some (control_point d)) devices = refl
  read_orders (Some (selection d)) devices = refl
  read_orders (Some (device_tag d)) devices = refl
  read_orders (Some (timeout d)) devices = refl
  read_orders (Some (transfer_set s)) devices = refl
  read_orders (Some (transfer_set_status s)) devices = refl

  reads-orders : (names : List ObjectName) (devices : List DeviceRecord)
      → orders_behind rows table now key (reverse (map reads names)) devices ≡ []
  reads-orders [] devices = refl
  reads-orders (name ∷ names) devices =
      let next = devices_by rows now key (deed_of table (reads name)) devices in
      orders-first (reads name) (map reads names) devices
      ∙ ap (λ (orders : List Order). orders
      ++ orders_behind rows table now key (reverse (map reads names)) next)
      (read_orders (object_named table name) devices)
      ∙ reads-orders names next

  pub reading_acts : (names : List ObjectName) (echo : Bool) (old new : BankState)
      → new.devices ≡ devices_read rows table now key names old.devices
      → new.orders ≡ old.orders
      → HaveActed rows table now key (acts_of_call (Read names echo)) old new
  reading_acts names echo old new devices orders = record {
    devices = devices ∙ sym (reads-behind names old.devices);
    orders = orders ∙ sym (ap (λ (given : List Order). old.orders ++ given)
        (reads-orders names old.devices) ∙ append-nil old.orders);
  }

  -- ---- writes

  -- one write
  pub record IsSameWrite (deed : Option Deed) (asked : Asked) (devices : List DeviceRecord) :
      Type 0 where
    pub kept : devices_by rows now key deed devices ≡ devices_asked key asked devices
    pub given : orders_given_by rows key deed devices ≡ orders_asked key asked devices

  operate_same : (d : OwnDevice) (number : Option ℤ) (devices : List DeviceRecord)
      → AreRanged devices
      → IsSameWrite
      (option_map (λ (n : ℤ). let one : Deed = record { device = d; act = operating n } in one)
      number)
      (option_map_or (λ (n : ℤ). Operated (number_of rows d) (operand n)) number
      (Answered (Some type_inconsistent))) devices
  operate_same d None devices ranged = record { kept = refl; given = refl }
  operate_same d (Some z) devices ranged =
      let n = number_of rows d in
      let same = operand_same (device_at devices n) n key z (ranged n) in
      record {
        kept = ap (slice_set devices n) (sym same.moved);
        given = sym same.order;
      }

  tag_same : (d : OwnDevice) (tag : Option Tag) (devices : List DeviceRecord)
      → IsSameWrite
      (option_and_then (λ (t : Tag). if d.tag && not (t.tag == 3)
      then (let one : Deed = record { device = d; act = tagging t } in Some one) else None) tag)
      (if not d.tag then Answered (Some OBJECT_ACCESS_DENIED)
      else option_map_or (λ (t : Tag). if t.tag == 3 then Answered (Some value_invalid)
      else Tagged (number_of rows d) t.tag t.reason) tag (Answered (Some type_inconsistent)))
      devices
  tag_same d None devices =
      elim d.tag as (λ b. IsSameWrite None
      (if not b then Answered (Some OBJECT_ACCESS_DENIED)
      else Answered (Some type_inconsistent)) devices) [
        | true ↦ record { kept = refl; given = refl }
        | false ↦ record { kept = refl; given = refl }
      ]
  tag_same d (Some t) devices = by d.tag (t.tag == 3)
    where
      by : (may third : Bool) → IsSameWrite
          (if may && not third
          then (let one : Deed = record { device = d; act = tagging t } in Some one) else None)
          (if not may then Answered (Some OBJECT_ACCESS_DENIED)
          else if third then Answered (Some value_invalid)
          else Tagged (number_of rows d) t.tag t.reason) devices
      by true true = record { kept = refl; given = refl }
      by true false = record { kept = refl; given = refl }
      by false true = record { kept = refl; given = refl }
      by false false = record { kept = refl; given = refl }

  pub write_same : (object : Option Object) (value : Datum) (devices : List DeviceRecord)
      → AreRanged devices
      → IsSameWrite (option_and_then (write_deed value) object) (asked_of rows object value)
      devices
  write_same None value devices ranged = record { kept = refl; given = refl }
  write_same (Some (constant shown shape)) value devices ranged =
      record { kept = refl; given = refl }
  write_same (Some next_transfer_set) value devices ranged =
      record { kept = refl; given = refl }
  write_same (Some (report_variable v)) value devices ranged =
      record { kept = refl; given = refl }
  write_same (Some (indication_point p)) value devices ranged =
      record { kept = refl; given = refl }
  write_same (Some (control_point d)) value devices ranged =
      operate_same d (number_in value) devices ranged
  write_same (Some (selection d)) value devices ranged = record { kept = refl; given = refl }
  write_same (Some (device_tag d)) value devices ranged = tag_same d (tag_in value) devices
  write_same (Some (timeout d)) value devices ranged = record { kept = refl; given = refl }
  write_same (Some (transfer_set s)) value devices ranged =
      record { kept = refl; given = refl }
  write_same (Some (transfer_set_status s)) value devices ranged =
      record { kept = refl; given = refl }

  -- what is asked leaves what devices take
  pub asked_ranged : (asked : Asked) (devices : List DeviceRecord) → AreRanged devices
      → AreRanged (devices_asked key asked devices)
  asked_ranged (Answered answer) devices ranged = ranged
  asked_ranged (Wished s wish) devices ranged = ranged
  asked_ranged (Switched s status) devices ranged = ranged
  asked_ranged (Operated n number) devices ranged =
      ranged_moved devices n (operated key number) ranged
  asked_ranged (Tagged n tag reason) devices ranged =
      ranged_moved devices n (tagged (record { tag = tag; reason = reason })) ranged

  writes-behind : (names : List ObjectName) (values : List Datum) (devices : List DeviceRecord)
      → AreRanged devices
      → devices_behind rows table now key (reverse (writes_of names values)) devices
      ≡ all_devices key (all_asked rows table names values) devices
  writes-behind [] values devices ranged = refl
  writes-behind (name ∷ names) [] devices ranged = refl
  writes-behind (name ∷ names) (value ∷ values) devices ranged =
      let asked = asked_of rows (object_named table name) value in
      behind-first (writes name value) (writes_of names values) devices
      ∙ ap (devices_behind rows table now key (reverse (writes_of names values)))
      (write_same (object_named table name) value devices ranged).kept
      ∙ writes-behind names values (devices_asked key asked devices)
      (asked_ranged asked devices ranged)

  writes-orders : (names : List ObjectName) (values : List Datum) (devices : List DeviceRecord)
      → AreRanged devices
      → orders_behind rows table now key (reverse (writes_of names values)) devices
      ≡ all_orders key (all_asked rows table names values) devices
  writes-orders [] values devices ranged = refl
  writes-orders (name ∷ names) [] devices ranged = refl
  writes-orders (name ∷ names) (value ∷ values) devices ranged =
      let asked = asked_of rows (object_named table name) value in
      let same = write_same (object_named table name) value devices ranged in
      let rest = reverse (writes_of names values) in
      orders-first (writes name value) (writes_of names values) devices
      ∙ ap (λ (next : List DeviceRecord).
      orders_given_by rows key (deed_of table (writes name value)) devices
      ++ orders_behind rows table now key rest next) same.kept
      ∙ ap (λ (orders : List Order). orders
      ++ orders_behind rows table now key rest (devices_asked key asked devices)) same.given
      ∙ ap (λ (orders : List Order). orders_asked key asked devices ++ orders)
      (writes-orders names values (devices_asked key asked devices)
      (asked_ranged asked devices ranged))

  pub writing_acts : (names : List ObjectName) (values : List Datum) (old new : BankState)
      → AreRanged old.devices
      → new.devices ≡ all_devices key (all_asked rows table names values) old.devices
      → new.orders ≡ old.orders ++ all_orders key (all_asked rows table names values) old.devices
      → HaveActed rows table now key (acts_of_call (Write names values)) old new
  writing_acts names values old new ranged devices orders = record {
    devices = devices ∙ sym (writes-behind names values old.devices ranged);
    orders = orders ∙ ap (λ (given : List Order). old.orders ++ given)
        (sym (writes-orders names values old.devices ranged));
  }

  -- ---- calls that neither read nor write

  -- acts that are nothing to a device
  abbrev AreIdle : List Act → Type 0
  AreIdle these = EachAct (λ (act : Act). deed_of table act ≡ None) these

  idle_behind : (these : List Act) (devices : List DeviceRecord) → AreIdle these
      → devices_behind rows table now key these devices ≡ devices
  idle_behind [] devices idle = refl
  idle_behind (act ∷ these) devices idle =
      ap (λ (deed : Option Deed). devices_by rows now key deed
      (devices_behind rows table now key these devices)) idle.0
      ∙ idle_behind these devices idle.1

  idle_orders : (these : List Act) (devices : List DeviceRecord) → AreIdle these
      → orders_behind rows table now key these devices ≡ []
  idle_orders [] devices idle = refl
  idle_orders (act ∷ these) devices idle =
      ap (λ (deed : Option Deed). orders_behind rows table now key these devices
      ++ orders_given_by rows key deed (devices_behind rows table now key these devices)) idle.0
      ∙ append-nil (orders_behind rows table now key these devices)
      ∙ idle_orders these devices idle.1

  calm_idle : (call : CallKind) → IsCalm call → AreIdle (acts_of_call call)
  calm_idle Identify calm = (refl, tt)
  calm_idle (Read names echo) calm = absurd calm
  calm_idle (ReadSet set echo) calm = (refl, tt)
  calm_idle (Write names values) calm = absurd calm
  calm_idle (WriteSet set values) calm = (refl, tt)
  calm_idle (NameList class scope after) calm = (refl, tt)
  calm_idle (TypeOf name) calm = (refl, tt)
  calm_idle (Define set members) calm = (refl, tt)
  calm_idle (MembersOf set) calm = (refl, tt)
  calm_idle (Delete sets) calm =
      each-reverse (λ (act : Act). deed_of table act ≡ None) (map deletes sets)
      (each-map (λ (act : Act). deed_of table act ≡ None) deletes (λ set. refl) sets)
  calm_idle (DeleteScope scope) calm = (refl, tt)
  calm_idle (Odd kind code) calm = (refl, tt)

  pub calm_acts : (call : CallKind) → IsCalm call → (bank : BankState)
      → HaveActed rows table now key (acts_of_call call) bank bank
  calm_acts call calm bank = record {
    devices = sym (idle_behind (acts_of_call call) bank.devices (calm_idle call calm));
    orders = sym (ap (λ (given : List Order). bank.orders ++ given)
        (idle_orders (acts_of_call call) bank.devices (calm_idle call calm))
        ∙ append-nil bank.orders);
  }
