-- The rule of the turn: what holds between any two atomic steps.
-- The words are the next ticket, the turn, and the next seat number. The one slot holds the object.
use Rattle.std.specs.Prelude.{◌≡◌, ◌≢◌, ◌⊎◌, ℕ, ◌<◌, ◌≤◌, List, [], ◌∷◌, ◌++◌, Option, Some}
use mathlib.Core.Option.{none, some}
use lib.ListN.{get_elem?}
use Rattle.atomic_table.specs.Table.{State}
use Rattle.share_turn.specs.declared.seat_view.SeatView.{SeatView}
use Rattle.share_turn.specs.declared.seat_view.Phase.{Phase}
use Rattle.share_turn.specs.declared.seat_view.Phase.TheVariants.{Idle, Holding, Waiting, Reached}
use Rattle.share_turn.specs.declared.seat_view.Phase.TheVariants.{AtTurn, Returned, Spent}
use Rattle.share_turn.specs.Entries.{Each, own, Behind, Claims, AllDiffer}

module _ {E : Type 0} where
  -- the numbers that the view claims, each with a front behind which no entry is under it
  abbrev pub claimed : Phase → (ℕ × List (ℕ × E)) → List (ℕ × List (ℕ × E))
      → List (ℕ × List (ℕ × E))
  claimed Spent p ps = []
  claimed (Holding n) p ps = (n, []) ∷ p ∷ ps
  claimed Idle p ps = p ∷ ps
  claimed (Waiting t) p ps = p ∷ ps
  claimed (Reached t) p ps = p ∷ ps
  claimed (AtTurn t) p ps = p ∷ ps
  claimed (Returned t) p ps = p ∷ ps

  -- the claim is to a number below the next one, and no entry behind its front is under it, be it
  -- in the front seen or in the rest
  abbrev pub Stands : ℕ → List (ℕ × E) → List (ℕ × E) → (ℕ × List (ℕ × E)) → Type 0
  Stands count front rest p = (p.0 < count) × Behind front p × (own p.0 rest ≡ [])

  -- what a view's phase says of the words; who has the object out, or has put it back, has seen all
  abbrev pub InTurn : ℕ → ℕ → List (ℕ × E) → List (ℕ × E) → Phase → Type 0
  InTurn next turn log front Spent = Unit {0}
  InTurn next turn log front Idle = Unit {0}
  InTurn next turn log front (Holding n) = Unit {0}
  InTurn next turn log front (Waiting t) = (turn ≤ t) × (t < next)
  InTurn next turn log front (Reached t) = (t ≡ turn) × (t < next)
  InTurn next turn log front (AtTurn t) = (t ≡ turn) × (t < next) × (front ≡ log)
  InTurn next turn log front (Returned t) = (t ≡ turn) × (t < next) × (front ≡ log)

abbrev pub claims : {E T : Type 0} → SeatView E T → List (ℕ × List (ℕ × E))
claims k = claimed k.phase (k.number, k.before) k.ended

abbrev pub HasTicket : Phase → ℕ → Type 0
HasTicket Spent n = ⊥
HasTicket Idle n = ⊥
HasTicket (Holding d) n = ⊥
HasTicket (Waiting t) n = t ≡ n
HasTicket (Reached t) n = t ≡ n
HasTicket (AtTurn t) n = t ≡ n
HasTicket (Returned t) n = t ≡ n

-- a live view and the log
pub record FitsLog {E T : Type 0} (setup : T) (log : List (ℕ × E)) (next turn count : ℕ)
    (k : SeatView E T) : Type 0 where
  pub setup_is : (k.phase ≡ Spent) ⊎ (k.setup ≡ setup ∷ [])
  pub rest : List (ℕ × E)
  pub seen : k.front ++ rest ≡ log
  pub stands : Each (Stands count k.front rest) (claims k)
  pub differ : AllDiffer (claims k)
  pub in_turn : InTurn next turn log k.front k.phase

-- any two views
pub record Apart {E T : Type 0} (k l : SeatView E T) : Type 0 where
  pub numbers : (n : ℕ) → Claims (claims k) n → Claims (claims l) n → ⊥
  pub tickets : (n : ℕ) → HasTicket k.phase n → HasTicket l.phase n → ⊥

module _ {O E T : Type 0} (setup_of : O → T) (history_of : O → List (ℕ × E)) where
  -- the object is at home with the log as its history, or out with a view at the turn
  abbrev pub IsPlaced : T → List (ℕ × E) → State (Option O) (SeatView E T) → Type 0
  IsPlaced setup log s =
      ((o : O) × (s.homes ≡ some (Some o) ∷ []) × (history_of o ≡ log) × (setup_of o ≡ setup))
      ⊎ ((s.homes ≡ none ∷ [])
      × ((j : ℕ) × (k : SeatView E T) × (t : ℕ)
      × (get_elem? s.views j ≡ some k) × (k.phase ≡ AtTurn t)))

  pub record IsKept (setup : T) (s : State (Option O) (SeatView E T)) : Type 0 where
    pub next : ℕ
    pub turn : ℕ
    pub count : ℕ
    pub log : List (ℕ × E)
    pub words : s.words ≡ next ∷ turn ∷ count ∷ []
    pub order : turn ≤ next
    pub logged : Each (λ e. e.0 < count) log
    pub place : IsPlaced setup log s
    pub each_seat : (j : ℕ) (k : SeatView E T) → get_elem? s.views j ≡ some k
        → FitsLog setup log next turn count k
    pub each_pair : (i j : ℕ) (k l : SeatView E T) → i ≢ j
        → get_elem? s.views i ≡ some k → get_elem? s.views j ≡ some l → Apart k l
