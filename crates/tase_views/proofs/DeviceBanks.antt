-- What a step is to each device of a centre by its number, and what an act and a taking are to the
-- orders that are left.
use Rattle.std.proofs.Common.{◌≡◌, ◌≢◌, ℕ, ◌<◌, ◌≤◌, Bool, true, false, List, [], ◌∷◌, ◌++◌}
use Rattle.std.proofs.Common.{length, bytes_eq, refl, sym, inl, inr, arith}
use Rattle.std.proofs.lemmas.Bool.{cases_order}
use Rattle.std.proofs.lemmas.List.{length-append, drop-append-le}
use Rattle.std.proofs.Math.Seq.{drop-length}
use Rattle.std.proofs.lemmas.Slice.Eq.{bytes_eq-Decides}
use Rattle.bilateral.specs.Rows.{CentreRows, IsCentre, device_of, no_device}
use Rattle.sbo_device.specs.declared.key.Key.{Key}
use Rattle.sbo_device.specs.Moves.{Tag, DeviceAct, DeviceMove, closed, ticked, tagged}
use Rattle.sbo_device.specs.Banks.{HasMoved}
use Rattle.tase_views.specs.Moves.{Act, Move, acts, updates, tags, ticks, asks, chooses}
use Rattle.tase_views.specs.Moves.{takes_orders, stops}
use Rattle.tase_views.specs.OwnTables.{Owns}
use Rattle.tase_views.specs.Devices.{DeviceStep, acted, ended, marked, passed, moment_of, done_by}
use Rattle.tase_views.specs.Devices.{device_moves}
use Rattle.tase_views.specs.Orders.{orders_by, orders_of, orders_taken, orders_left}

-- the moves of each device of a centre, by its number
abbrev pub moves_by : CentreRows → List DeviceStep → ℕ → List DeviceMove
moves_by rows steps n = device_moves (device_of rows n).name steps

-- devices with different numbers have different names
names_differ : (rows : CentreRows) → IsCentre rows → (n other : ℕ) → n < length rows.devices
    → other < length rows.devices → other ≢ n
    → (device_of rows n).name ≢ (device_of rows other).name
names_differ rows lawful n other here there apart same = elim (cases_order n other) [
  | inl equal ↦ apart (sym equal)
  | inr rest ↦ elim rest [
    | inl below ↦ lawful.device_names n other no_device below there same
    | inr above ↦ lawful.device_names other n no_device above here (sym same)
  ]
]

not_same : (a b : List ℕ) → a ≢ b → bytes_eq a b ≡ false
not_same a b apart = by (bytes_eq a b) refl
  where
    by : (t : Bool) → bytes_eq a b ≡ t → bytes_eq a b ≡ false
    by true e = absurd (apart ((bytes_eq-Decides a b).0 e))
    by false e = e

-- an association acts on a device
pub acted_moves : (rows : CentreRows) → IsCentre rows → (steps : List DeviceStep) (key : Key)
    (n : ℕ) (act : DeviceAct) → n < length rows.devices
    → HasMoved (length rows.devices) n (done_by key (moment_of steps) act) (moves_by rows steps)
    (moves_by rows (acted key (device_of rows n).name act ∷ steps))
acted_moves rows lawful steps key n act here = record {
  here = rw ((bytes_eq-Decides (device_of rows n).name (device_of rows n).name).1 refl) refl;
  others = λ other there apart.
      rw (not_same (device_of rows n).name (device_of rows other).name
      (names_differ rows lawful n other here there apart)) refl;
}

-- a device is tagged
pub marked_moves : (rows : CentreRows) → IsCentre rows → (steps : List DeviceStep) (n : ℕ)
    (tag : Tag) → n < length rows.devices
    → HasMoved (length rows.devices) n (tagged tag) (moves_by rows steps)
    (moves_by rows (marked (device_of rows n).name tag ∷ steps))
marked_moves rows lawful steps n tag here = record {
  here = rw ((bytes_eq-Decides (device_of rows n).name (device_of rows n).name).1 refl) refl;
  others = λ other there apart.
      rw (not_same (device_of rows n).name (device_of rows other).name
      (names_differ rows lawful n other here there apart)) refl;
}

-- an association is closed, and the clock stands at a moment
pub ended_moves : (rows : CentreRows) (steps : List DeviceStep) (key : Key) (n : ℕ)
    → moves_by rows (ended key ∷ steps) n ≡ closed key ∷ moves_by rows steps n
ended_moves rows steps key n = refl

pub passed_moves : (rows : CentreRows) (steps : List DeviceStep) (now n : ℕ)
    → moves_by rows (passed now ∷ steps) n ≡ ticked now ∷ moves_by rows steps n
passed_moves rows steps now n = refl

-- no more orders are taken than there are
few_taken : (rows : CentreRows) (owns : Owns) (moves : List Move)
    → length (orders_taken rows owns moves) ≤ length (orders_of rows owns moves)
few_taken rows owns [] = omega arith
few_taken rows owns (acts key act ∷ before) =
    let more = few_taken rows owns before in
    let many = length-append (orders_of rows owns before) (orders_by rows owns before key act) in
    omega (arith, more, many)
few_taken rows owns (updates point value ∷ before) = few_taken rows owns before
few_taken rows owns (tags device tag ∷ before) = few_taken rows owns before
few_taken rows owns (ticks now ∷ before) = few_taken rows owns before
few_taken rows owns (asks peer slot ∷ before) = few_taken rows owns before
few_taken rows owns (chooses peer variant ∷ before) = few_taken rows owns before
few_taken rows owns (takes_orders ∷ before) = omega arith
few_taken rows owns (stops ∷ before) = few_taken rows owns before

-- an act leaves its orders behind those that were left, and a taking leaves none
pub left_behind : (rows : CentreRows) (owns : Owns) (key : Key) (act : Act) (before : List Move)
    → orders_left rows owns (acts key act ∷ before)
    ≡ orders_left rows owns before ++ orders_by rows owns before key act
left_behind rows owns key act before =
    drop-append-le (length (orders_taken rows owns before)) (orders_of rows owns before)
    (orders_by rows owns before key act) (few_taken rows owns before)

pub none_left : (rows : CentreRows) (owns : Owns) (before : List Move)
    → orders_left rows owns (takes_orders ∷ before) ≡ []
none_left rows owns before = drop-length (orders_of rows owns before)
