-- The orders of the plant (IEC 60870-6-503, device control).
use Rattle.std.specs.Prelude.{if◌then◌else◌, List, [], ◌∷◌, ◌++◌, drop, length}
use Rattle.std.specs.Prelude.{unwrap_or}
use Rattle.std.specs.Option.{option_map_or}
use Rattle.bilateral.specs.Rows.{CentreRows, place_of_device}
use Rattle.sbo_device.specs.declared.key.Key.{Key}
use Rattle.sbo_device.specs.Moves.{DeviceAct, operating}
use Rattle.sbo_device.specs.States.{permits}
use Rattle.sbo_device.specs.declared.order.Order.{Order}
use Rattle.tase_views.specs.Moves.{Act, Move, acts, takes_orders}
use Rattle.tase_views.specs.OwnTables.{OwnDevice, Owns, control_of}
use Rattle.tase_views.specs.Devices.{Deed, deed_of, DeviceStep, device_moves}
use Rattle.tase_views.specs.View.{held_in, steps_in}

-- the order of an act on a device: that of an operate that is permitted behind these steps
abbrev pub order_of : CentreRows → List DeviceStep → Key → OwnDevice → DeviceAct → List Order
order_of rows steps key d (operating value) =
    if permits (control_of d) (device_moves d.row.name steps) key value
    then record { device = unwrap_or (place_of_device rows d.row.name) 0; value = value } ∷ []
    else []
order_of rows steps key d _ = []

module _ (rows : CentreRows) (owns : Owns) where
  -- the orders that an act of an association gives behind these moves
  abbrev pub orders_by : List Move → Key → Act → List Order
  orders_by before key act =
      option_map_or
      (λ (deed : Deed). order_of rows (steps_in rows owns before) key deed.device deed.act)
      (deed_of (held_in rows owns before key.peer) act) []

  -- all orders of moves, in order
  abbrev pub orders_of : List Move → List Order
  orders_of [] = []
  orders_of (acts key act ∷ before) = orders_of before ++ orders_by before key act
  orders_of (_ ∷ before) = orders_of before

  -- those that the plant has taken: all before it took orders last; and the others
  abbrev pub orders_taken : List Move → List Order
  orders_taken [] = []
  orders_taken (takes_orders ∷ before) = orders_of before
  orders_taken (_ ∷ before) = orders_taken before

  abbrev pub orders_left : List Move → List Order
  orders_left moves = drop (length (orders_taken moves)) (orders_of moves)
