-- What each other move makes of a bank.
use Rattle.std.proofs.Common.{◌≡◌, ℕ, ◌<◌, List, [], ◌∷◌, map, length, subst, refl, sym, ◌∙◌}
use Rattle.std.proofs.lemmas.List.{length-map, append-nil}
use Rattle.bilateral.specs.Rows.{CentreRows, IsCentre, device_of}
use Rattle.sbo_device.specs.declared.key.Key.{Key}
use Rattle.sbo_device.specs.Moves.{Tag, closed, ticked, tagged}
use Rattle.sbo_device.specs.Banks.{DeviceRecord, BankState, StandBy, HasMoved, moved, moved_at}
use Rattle.sbo_device.proofs.BankMoves.{one_moved, all_moved}
use Rattle.tase_views.specs.Moves.{opens, takes, closes, reads, writes, defines, deletes, calls}
use Rattle.tase_views.specs.Moves.{Move, acts, updates, tags, ticks, asks, chooses, takes_orders}
use Rattle.tase_views.specs.Moves.{stops}
use Rattle.tase_views.specs.OwnTables.{own_tables}
use Rattle.tase_views.specs.Devices.{DeviceStep, ended, marked, passed}
use Rattle.tase_views.specs.View.{steps_in}
use Rattle.tase_views.specs.Orders.{orders_left}
use Rattle.tase_views.proofs.DeviceBanks.{marked_moves, ended_moves, passed_moves, left_behind}
use Rattle.tase_views.proofs.DeviceBanks.{none_left}
use Rattle.node_core.specs.Devices.DeviceBanks.{row_control, controls_of, moves_of_each, IsDeviceBank}
use Rattle.node_core.specs.Devices.DeviceBanks.{IsIdle}

abbrev Stands : CentreRows → List DeviceStep → List DeviceRecord → Type 0
Stands rows steps devices = StandBy (controls_of rows) (moves_of_each rows steps) devices

-- an open, a taking of reports and a close give no order
none_given : (rows : CentreRows) (moves : List Move) (key : Key)
    → (orders_left rows (own_tables rows) (acts key opens ∷ moves)
    ≡ orders_left rows (own_tables rows) moves)
    × (orders_left rows (own_tables rows) (acts key takes ∷ moves)
    ≡ orders_left rows (own_tables rows) moves)
    × (orders_left rows (own_tables rows) (acts key closes ∷ moves)
    ≡ orders_left rows (own_tables rows) moves)
none_given rows moves key =
    let same = append-nil (orders_left rows (own_tables rows) moves) in (
      left_behind rows (own_tables rows) key opens moves ∙ same,
      left_behind rows (own_tables rows) key takes moves ∙ same,
      left_behind rows (own_tables rows) key closes moves ∙ same,
    )

stays : (rows : CentreRows) (moves : List Move) (move : Move) (old new : BankState)
    → steps_in rows (own_tables rows) (move ∷ moves) ≡ steps_in rows (own_tables rows) moves
    → orders_left rows (own_tables rows) (move ∷ moves) ≡ orders_left rows (own_tables rows) moves
    → new.devices ≡ old.devices → new.orders ≡ old.orders
    → IsDeviceBank rows moves old → IsDeviceBank rows (move ∷ moves) new
stays rows moves move old new same_steps same_left devices orders bank = record {
  devices = subst (λ (steps : List DeviceStep). Stands rows steps new.devices) (sym same_steps)
      (subst (Stands rows (steps_in rows (own_tables rows) moves)) (sym devices) bank.devices);
  orders = orders ∙ bank.orders ∙ sym same_left;
}

pub idle_followed : (rows : CentreRows) (moves : List Move) (move : Move) (old new : BankState)
    → IsIdle move → new.devices ≡ old.devices → new.orders ≡ old.orders
    → IsDeviceBank rows moves old → IsDeviceBank rows (move ∷ moves) new
idle_followed rows moves (acts key opens) old new idle =
    stays rows moves (acts key opens) old new refl (none_given rows moves key).0
idle_followed rows moves (acts key takes) old new idle =
    stays rows moves (acts key takes) old new refl (none_given rows moves key).1
idle_followed rows moves (acts key closes) old new idle = absurd idle
idle_followed rows moves (acts key (reads name)) old new idle = absurd idle
idle_followed rows moves (acts key (writes name value)) old new idle = absurd idle
idle_followed rows moves (acts key (defines set members)) old new idle = absurd idle
idle_followed rows moves (acts key (deletes set)) old new idle = absurd idle
idle_followed rows moves (acts key (calls call)) old new idle = absurd idle
idle_followed rows moves (updates point value) old new idle =
    stays rows moves (updates point value) old new refl refl
idle_followed rows moves (tags device tag) old new idle = absurd idle
idle_followed rows moves (ticks now) old new idle = absurd idle
idle_followed rows moves (asks peer slot) old new idle =
    stays rows moves (asks peer slot) old new refl refl
idle_followed rows moves (chooses peer variant) old new idle =
    stays rows moves (chooses peer variant) old new refl refl
idle_followed rows moves takes_orders old new idle = absurd idle
idle_followed rows moves stops old new idle = stays rows moves stops old new refl refl

pub closed_followed : (rows : CentreRows) (moves : List Move) (key : Key) (old new : BankState)
    → new.devices ≡ map (moved (closed key)) old.devices → new.orders ≡ old.orders
    → IsDeviceBank rows moves old → IsDeviceBank rows (acts key closes ∷ moves) new
closed_followed rows moves key old new devices orders bank =
    let steps = steps_in rows (own_tables rows) moves in
    record {
      devices = subst (Stands rows (ended key ∷ steps)) (sym devices)
          (all_moved (controls_of rows) (moves_of_each rows steps)
          (moves_of_each rows (ended key ∷ steps)) old.devices (closed key)
          (ended_moves rows steps key) bank.devices);
      orders = orders ∙ bank.orders ∙ sym (none_given rows moves key).2;
    }

pub ticked_followed : (rows : CentreRows) (moves : List Move) (now : ℕ) (old new : BankState)
    → new.devices ≡ map (moved (ticked now)) old.devices → new.orders ≡ old.orders
    → IsDeviceBank rows moves old → IsDeviceBank rows (ticks now ∷ moves) new
ticked_followed rows moves now old new devices orders bank =
    let steps = steps_in rows (own_tables rows) moves in
    record {
      devices = subst (Stands rows (passed now ∷ steps)) (sym devices)
          (all_moved (controls_of rows) (moves_of_each rows steps)
          (moves_of_each rows (passed now ∷ steps)) old.devices (ticked now)
          (passed_moves rows steps now) bank.devices);
      orders = orders ∙ bank.orders;
    }

pub tagged_followed : (rows : CentreRows) (moves : List Move) (device : ℕ) (tag : Tag)
    (old new : BankState) → IsCentre rows → device < length rows.devices
    → new.devices ≡ moved_at device (tagged tag) old.devices → new.orders ≡ old.orders
    → IsDeviceBank rows moves old → IsDeviceBank rows (tags device tag ∷ moves) new
tagged_followed rows moves device tag old new lawful there devices orders bank =
    let steps = steps_in rows (own_tables rows) moves in
    let more = marked (device_of rows device).name tag ∷ steps in
    record {
      devices = subst (Stands rows more) (sym devices)
          (one_moved (controls_of rows) (moves_of_each rows steps) (moves_of_each rows more)
          old.devices device (tagged tag)
          (subst (λ (many : ℕ). HasMoved many device (tagged tag) (moves_of_each rows steps)
          (moves_of_each rows more)) (sym (length-map rows.devices row_control))
          (marked_moves rows lawful steps device tag there))
          bank.devices);
      orders = orders ∙ bank.orders;
    }

pub taken_followed : (rows : CentreRows) (moves : List Move) (old new : BankState)
    → new.devices ≡ old.devices → new.orders ≡ []
    → IsDeviceBank rows moves old → IsDeviceBank rows (takes_orders ∷ moves) new
taken_followed rows moves old new devices orders bank = record {
  devices = subst (Stands rows (steps_in rows (own_tables rows) moves)) (sym devices)
      bank.devices;
  orders = orders ∙ sym (none_left rows (own_tables rows) moves);
}
