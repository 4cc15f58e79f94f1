-- What callers see of the shared turn and of a seat.
use Rattle.std.specs.Prelude.{◌≡◌, ℕ, List, [], ◌∷◌, ◌++◌, Result, Ok, Err}
use Rattle.atomic_table.specs.Seated.{TableId}
use Rattle.atomic_table.specs.declared.shared.Seat.{Seat}
use Rattle.share_turn.specs.declared.seat_view.SeatView.{SeatView}
use Rattle.share_turn.specs.Entries.{Keeps}

-- a shared turn: which one it is, and the setup of its object
pub record SharedTurn (T : Type 0) : Type 0 where
  pub table : TableId
  pub setup : T

-- a seat: of which turn, its number, the history as far as it has seen it, and the numbers that it
-- ended, each with the front that was seen there
pub record Sitting (E T : Type 0) : Type 0 where
  pub table : TableId
  pub setup : List T
  pub number : ℕ
  pub front : List (ℕ × E)
  pub ended : List (ℕ × List (ℕ × E))

abbrev pub turn : {T : Type 0} → TableId → T → SharedTurn T
turn table setup = record { table = table; setup = setup }

module _ {E T : Type 0} where
  abbrev pub sitting : TableId → SeatView E T → Sitting E T
  sitting table k =
      record { table = table; setup = k.setup; number = k.number; front = k.front; ended = k.ended }

  abbrev pub sitting_at : {S : Type 0} → Seat S (SeatView E T) → Sitting E T
  sitting_at place = sitting place.table_id place.me.0

  -- the seat is one of that turn
  abbrev pub IsOf : SharedTurn T → Sitting E T → Type 0
  IsOf t s = (s.table ≡ t.table) × (s.setup ≡ t.setup ∷ [])

  -- the seat with another front
  abbrev pub at : Sitting E T → List (ℕ × E) → Sitting E T
  at s front =
      record { table = s.table; setup = s.setup; number = s.number; front = front; ended = s.ended }

  -- the seat's own number and those that it ended, each with the front that was seen there
  abbrev pub numbers : Sitting E T → List (ℕ × List (ℕ × E))
  numbers s = (s.number, s.front) ∷ s.ended

-- what a call adds to the history, and to the seat's own list
abbrev pub added : {A F X : Type 0} → Result A F → X → List X
added (Ok a) x = x ∷ []
added (Err e) x = []

module _ {E T A F : Type 0} where
  -- A call of the seat came behind `before`, which begins with what the seat had seen and has no
  -- more of its own. The outcome is right over it, and the front is it with what the call adds.
  abbrev pub Came : (T → List (ℕ × E) → ℕ → E → Result A F → Type 0)
      → T → Sitting E T → E → Result A F → List (ℕ × E) → Type 0
  Came right setup s event outcome front = (before : List (ℕ × E))
      × Keeps before (s.number, s.front)
      × right setup before s.number event outcome
      × (front ≡ before ++ added outcome (s.number, event))
