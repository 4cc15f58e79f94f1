-- The orders that the plant has taken and those that are left are all orders.
use Rattle.std.proofs.Common.{◌≡◌, List, [], ◌∷◌, ◌++◌, length, drop, refl, ap}
use Rattle.std.proofs.Common.{◌∙◌}
use Rattle.bilateral.specs.Rows.{CentreRows}
use Rattle.sbo_device.specs.declared.order.Order.{Order}
use Rattle.tase_views.specs.Moves.{Move, acts, updates, tags, ticks, asks, chooses}
use Rattle.tase_views.specs.Moves.{takes_orders, stops}
use Rattle.tase_views.specs.OwnTables.{Owns}
use Rattle.tase_views.specs.Orders.{orders_by, orders_of, orders_taken, orders_left}

-- a list begins with another one
abbrev Begins : List Order → List Order → Type 0
Begins all front = front ++ drop (length front) all ≡ all

begins-self : (all : List Order) → Begins all all
begins-self [] = refl
begins-self (order ∷ all) = ap (λ (os : List Order). order ∷ os) (begins-self all)

pub none_behind : (all : List Order) → drop (length all) all ≡ []
none_behind [] = refl
none_behind (order ∷ all) = none_behind all

begins-more : (all front more : List Order) → Begins all front → Begins (all ++ more) front
begins-more all [] more begins = refl
begins-more [] (order ∷ front) more begins = absurd cc
begins-more (other ∷ all) (order ∷ front) more begins =
    let tail = ap (λ (os : List Order). drop 1 os) begins in
    let head : order ∷ (all ++ more) ≡ other ∷ (all ++ more) =
    ap (λ (os : List Order). first os ∷ (all ++ more)) begins in
    ap (λ (os : List Order). order ∷ os) (begins-more all front more tail) ∙ head
  where
    first : List Order → Order
    first [] = order
    first (o ∷ os) = o

pub taken_and_left : (rows : CentreRows) (owns : Owns) (moves : List Move)
    → orders_taken rows owns moves ++ orders_left rows owns moves ≡ orders_of rows owns moves
taken_and_left rows owns [] = refl
taken_and_left rows owns (acts key act ∷ before) =
    begins-more (orders_of rows owns before) (orders_taken rows owns before)
    (orders_by rows owns before key act) (taken_and_left rows owns before)
taken_and_left rows owns (updates point value ∷ before) = taken_and_left rows owns before
taken_and_left rows owns (tags device tag ∷ before) = taken_and_left rows owns before
taken_and_left rows owns (ticks now ∷ before) = taken_and_left rows owns before
taken_and_left rows owns (asks asker slot ∷ before) = taken_and_left rows owns before
taken_and_left rows owns (chooses chooser variant ∷ before) = taken_and_left rows owns before
taken_and_left rows owns (takes_orders ∷ before) = begins-self (orders_of rows owns before)
taken_and_left rows owns (stops ∷ before) = taken_and_left rows owns before
