-- The calls that a seat of a shared object makes, one after another.
use Rattle.std.specs.Prelude.{◌≡◌, ℕ, List, [], ◌∷◌, ◌++◌, Result}
use Rattle.share_turn.specs.Public.{Sitting, at, added, Came}

-- a call: the event that was asked, and what came of it
pub record SeatCall (E A F : Type 0) : Type 0 where
  pub event : E
  pub outcome : Result A F

module _ {E A F : Type 0} where
  -- the events of the calls that were answered; a refused one adds nothing
  abbrev pub taken_events : List (SeatCall E A F) → List E
  taken_events [] = []
  taken_events (call ∷ calls) = added call.outcome call.event ++ taken_events calls

  -- From where the seat stands it made these calls, in order, and has seen the front behind them.
  -- Each came behind all that it had seen by then, and its outcome was right there.
  abbrev pub MakesCalls : {T : Type 0} → (T → List (ℕ × E) → ℕ → E → Result A F → Type 0)
      → T → Sitting E T → List (SeatCall E A F) → List (ℕ × E) → Type 0
  MakesCalls right setup seat [] front = front ≡ seat.front
  MakesCalls right setup seat (call ∷ calls) front = (seen : List (ℕ × E))
      × Came right setup seat call.event call.outcome seen
      × MakesCalls right setup (at seat seen) calls front
