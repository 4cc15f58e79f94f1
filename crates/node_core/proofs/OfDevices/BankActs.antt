-- What the acts of a call make of a bank is what they are to its devices and to its orders.
use Rattle.std.proofs.Common.{◌≡◌, ℕ, ℤ, Bool, if◌then◌else◌, List, [], ◌∷◌, ◌++◌, map, length}
use Rattle.std.proofs.Common.{Option, Some, None, subst, refl, sym, ap, ◌∙◌, append_assoc}
use Rattle.std.specs.Prelude.{option_map}
use Rattle.std.specs.List.{cons_option}
use Rattle.std.specs.Option.{option_map_or}
use Rattle.std.proofs.lemmas.List.{length-map, append-nil}
use Rattle.bilateral.specs.declared.rows.DeviceRow.{DeviceRow}
use Rattle.bilateral.specs.Rows.{CentreRows, IsCentre, device_of}
use Rattle.sbo_device.specs.declared.key.Key.{Key}
use Rattle.sbo_device.specs.declared.order.Order.{Order}
use Rattle.sbo_device.specs.Moves.{DeviceAct, selecting, operating, tagging}
use Rattle.sbo_device.specs.States.{permits}
use Rattle.sbo_device.specs.Banks.{DeviceRecord, BankState, device_at, StandBy, HasMoved}
use Rattle.sbo_device.proofs.BankMoves.{one_moved, order_told}
use Rattle.tase_views.specs.declared.call.CallKind.{CallKind}
use Rattle.tase_views.specs.Moves.{Act, opens, takes, closes, reads, writes, defines, deletes}
use Rattle.tase_views.specs.Moves.{calls, Move, acts, acts_of_call}
use Rattle.tase_views.specs.History.{Past, last_tick}
use Rattle.tase_views.specs.OwnTables.{OwnTable, own_tables}
use Rattle.tase_views.specs.Force.{force_in}
use Rattle.tase_views.specs.Devices.{Deed, deed_of, DeviceStep, acted, step_of_deed, moment_of}
use Rattle.tase_views.specs.Devices.{done_by, device_moves}
use Rattle.tase_views.specs.View.{moves_in, held_in, step_in, steps_in}
use Rattle.tase_views.specs.Orders.{order_of, orders_by, orders_left}
use Rattle.tase_views.proofs.DeviceBanks.{acted_moves, left_behind}
use Rattle.tase_views.proofs.DeviceRows.{IsRow}
use Rattle.node_core.specs.Devices.DeviceBanks.{row_control, controls_of, moves_of_each, IsDeviceBank}
use Rattle.node_core.specs.Devices.DeviceBanks.{number_of, devices_by, orders_given, orders_given_by}
use Rattle.node_core.specs.Devices.DeviceBanks.{devices_behind, orders_behind, HaveActed}
use Rattle.node_core.proofs.OfDevices.Numbers.{number_is, control_at, row_of_deed}
use Rattle.node_core.proofs.OfDevices.CallActs.{IsOfCall, AreOfCall, of_call, held_stays}
use Rattle.node_core.proofs.OfDevices.Moments.{acts_moment, moment_is}

-- one deed: the device that it is on has moved, and its order is that of its device

deed_stands : (rows : CentreRows) (steps : List DeviceStep) (key : Key) (deed : Option Deed)
    (devices : List DeviceRecord) → IsCentre rows
    → ((one : Deed) → deed ≡ Some one → IsRow rows one.device)
    → StandBy (controls_of rows) (moves_of_each rows steps) devices
    → StandBy (controls_of rows)
    (moves_of_each rows (cons_option (option_map (step_of_deed key) deed) steps))
    (devices_by rows (moment_of steps) key deed devices)
deed_stands rows steps key None devices lawful is stands = stands
deed_stands rows steps key (Some deed) devices lawful is stands =
    let n = number_of rows deed.device in
    let move = done_by key (moment_of steps) deed.act in
    let its = number_is rows deed.device lawful (is deed refl) in
    one_moved (controls_of rows) (moves_of_each rows steps)
    (moves_of_each rows (acted key deed.device.row.name deed.act ∷ steps)) devices n move
    (subst (λ (row : DeviceRow). HasMoved (length (controls_of rows)) n move
    (moves_of_each rows steps) (moves_of_each rows (acted key row.name deed.act ∷ steps)))
    (sym its.1)
    (subst (λ (many : ℕ). HasMoved many n move (moves_of_each rows steps)
    (moves_of_each rows (acted key (device_of rows n).name deed.act ∷ steps)))
    (sym (length-map rows.devices row_control))
    (acted_moves rows lawful steps key n deed.act its.0)))
    stands

abbrev order_where : ℕ → ℤ → Bool → List Order
order_where n value b = if b then record { device = n; value = value } ∷ [] else []

deed_orders : (rows : CentreRows) (steps : List DeviceStep) (key : Key) (deed : Option Deed)
    (devices : List DeviceRecord) → IsCentre rows
    → ((one : Deed) → deed ≡ Some one → IsRow rows one.device)
    → StandBy (controls_of rows) (moves_of_each rows steps) devices
    → option_map_or (λ (one : Deed). order_of rows steps key one.device one.act) deed []
    ≡ orders_given_by rows key deed devices
deed_orders rows steps key None devices lawful is stands = refl
deed_orders rows steps key (Some deed) devices lawful is stands = by deed.act
  where
    by : (act : DeviceAct) → order_of rows steps key deed.device act
        ≡ orders_given (number_of rows deed.device) key act
        (device_at devices (number_of rows deed.device)).state
    by selecting = refl
    by (tagging tag) = refl
    by (operating value) =
        let n = number_of rows deed.device in
        let its = number_is rows deed.device lawful (is deed refl) in
        ap (λ (row : DeviceRow).
        order_where n value (permits (row_control row) (device_moves row.name steps) key value))
        its.1
        ∙ sym (order_told (controls_of rows) (moves_of_each rows steps) devices n
        (row_control (device_of rows n)) key value stands (control_at rows n its.0))

-- an act of a call is its deed
step_is : (rows : CentreRows) (before : List Move) (key : Key) (act : Act) → IsOfCall act
    → step_in rows (own_tables rows) before (acts key act)
    ≡ option_map (step_of_deed key)
    (deed_of (held_in rows (own_tables rows) before key.peer) act)
step_is rows before key opens quiet = absurd quiet
step_is rows before key closes quiet = absurd quiet
step_is rows before key takes quiet = refl
step_is rows before key (reads name) quiet = refl
step_is rows before key (writes name value) quiet = refl
step_is rows before key (defines set members) quiet = refl
step_is rows before key (deletes set) quiet = refl
step_is rows before key (calls call) quiet = refl

module _ (rows : CentreRows) (moves : List Move) (now : ℕ) (key : Key) where
  -- acts of a call behind moves that stand at a moment
  abbrev acted_on : List Act → List Move
  acted_on these = map (acts key) these ++ moves

  abbrev table : OwnTable
  table = held_in rows (own_tables rows) moves key.peer

  steps_behind : (act : Act) (these : List Act) → AreOfCall (act ∷ these)
      → steps_in rows (own_tables rows) (acted_on (act ∷ these))
      ≡ cons_option (option_map (step_of_deed key) (deed_of table act))
      (steps_in rows (own_tables rows) (acted_on these))
  steps_behind act these quiet =
      let steps = steps_in rows (own_tables rows) (acted_on these) in
      ap (λ (step : Option DeviceStep). cons_option step steps)
      (step_is rows (acted_on these) key act quiet.0)
      ∙ ap (λ (t : OwnTable). cons_option (option_map (step_of_deed key) (deed_of t act)) steps)
      (held_stays rows key these moves key.peer quiet.1)

  acts_stand : (these : List Act) (devices : List DeviceRecord) → IsCentre rows
      → AreOfCall these → moment_of (steps_in rows (own_tables rows) moves) ≡ now
      → StandBy (controls_of rows)
      (moves_of_each rows (steps_in rows (own_tables rows) moves)) devices
      → StandBy (controls_of rows)
      (moves_of_each rows (steps_in rows (own_tables rows) (acted_on these)))
      (devices_behind rows table now key these devices)
  acts_stand [] devices lawful quiet at_now stands = stands
  acts_stand (act ∷ these) devices lawful quiet at_now stands =
      let steps = steps_in rows (own_tables rows) (acted_on these) in
      let behind = devices_behind rows table now key these devices in
      let deed = deed_of table act in
      subst (λ (more : List DeviceStep). StandBy (controls_of rows) (moves_of_each rows more)
      (devices_by rows now key deed behind)) (sym (steps_behind act these quiet))
      (subst (λ (moment : ℕ). StandBy (controls_of rows)
      (moves_of_each rows (cons_option (option_map (step_of_deed key) deed) steps))
      (devices_by rows moment key deed behind)) (acts_moment rows key these moves ∙ at_now)
      (deed_stands rows steps key deed behind lawful
      (λ one. row_of_deed rows key.peer (force_in moves key.peer) act one lawful)
      (acts_stand these devices lawful quiet.1 at_now stands)))

  acts_order : (these : List Act) (devices : List DeviceRecord) → IsCentre rows
      → AreOfCall these → moment_of (steps_in rows (own_tables rows) moves) ≡ now
      → StandBy (controls_of rows)
      (moves_of_each rows (steps_in rows (own_tables rows) moves)) devices
      → orders_left rows (own_tables rows) (acted_on these)
      ≡ orders_left rows (own_tables rows) moves ++ orders_behind rows table now key these devices
  acts_order [] devices lawful quiet at_now stands =
      sym (append-nil (orders_left rows (own_tables rows) moves))
  acts_order (act ∷ these) devices lawful quiet at_now stands =
      let before = acted_on these in
      let steps = steps_in rows (own_tables rows) before in
      let behind = devices_behind rows table now key these devices in
      let left = orders_left rows (own_tables rows) moves in
      let earlier = orders_behind rows table now key these devices in
      left_behind rows (own_tables rows) key act before
      ∙ ap (λ (orders : List Order). orders ++ orders_by rows (own_tables rows) before key act)
      (acts_order these devices lawful quiet.1 at_now stands)
      ∙ ap (λ (orders : List Order). left ++ earlier ++ orders)
      (ap (λ (t : OwnTable). option_map_or
      (λ (one : Deed). order_of rows steps key one.device one.act) (deed_of t act) [])
      (held_stays rows key these moves key.peer quiet.1)
      ∙ deed_orders rows steps key (deed_of table act) behind lawful
      (λ one. row_of_deed rows key.peer (force_in moves key.peer) act one lawful)
      (acts_stand these devices lawful quiet.1 at_now stands))
      ∙ append_assoc left earlier (orders_given_by rows key (deed_of table act) behind)

pub acts_followed : (rows : CentreRows) (past : Past) (key : Key) (call : CallKind)
    (old new : BankState) → IsCentre rows
    → HaveActed rows (held_in rows (own_tables rows) (moves_in past) key.peer) (last_tick past) key
    (acts_of_call call) old new
    → IsDeviceBank rows (moves_in past) old
    → IsDeviceBank rows (map (acts key) (acts_of_call call) ++ moves_in past) new
acts_followed rows past key call old new lawful have bank =
    let table = held_in rows (own_tables rows) (moves_in past) key.peer in
    let these = acts_of_call call in
    record {
      devices = subst (λ (devices : List DeviceRecord). StandBy (controls_of rows)
          (moves_of_each rows
          (steps_in rows (own_tables rows) (map (acts key) these ++ moves_in past))) devices)
          (sym have.devices)
          (acts_stand rows (moves_in past) (last_tick past) key these old.devices lawful
          (of_call call) (moment_is rows past) bank.devices);
      orders = have.orders
          ∙ ap (λ (orders : List Order).
          orders ++ orders_behind rows table (last_tick past) key these old.devices) bank.orders
          ∙ sym (acts_order rows (moves_in past) (last_tick past) key these old.devices lawful
          (of_call call) (moment_is rows past) bank.devices);
    }
