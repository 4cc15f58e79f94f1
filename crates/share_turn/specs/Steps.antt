-- What each atomic step makes of a view, and what it tells.
use Rattle.std.specs.Prelude.{◌≡◌, ◌≢◌, ◌⊎◌, ℕ, ◌+◌, ◌<◌, List, [], ◌∷◌, ◌++◌, length, ltb}
use Rattle.std.specs.Prelude.{if◌then◌else◌, Option, Some}
use Rattle.atomic_table.specs.Table.{Me, Step}
use Rattle.atomic_table.specs.Seated.{TableId}
use Rattle.atomic_table.specs.declared.shared.Seat.{Seat}
use Rattle.share_turn.specs.declared.seat_view.SeatView.{SeatView}
use Rattle.share_turn.specs.declared.seat_view.Phase.{Phase}
use Rattle.share_turn.specs.declared.seat_view.Phase.TheVariants.{Idle, Holding, Waiting, Reached}
use Rattle.share_turn.specs.declared.seat_view.Phase.TheVariants.{AtTurn, Returned, Spent}
use Rattle.share_turn.specs.Entries.{Each, own, Behind, Claims, AllDiffer}

-- the seat number that was drawn
abbrev pub drawn : Phase → ℕ
drawn (Holding n) = n
drawn Spent = 0
drawn Idle = 0
drawn (Waiting t) = 0
drawn (Reached t) = 0
drawn (AtTurn t) = 0
drawn (Returned t) = 0

abbrev pub longer : {A : Type 0} → List A → List A → List A
longer xs ys = (if ltb (length xs) (length ys) then ys else xs)

module _ {E T : Type 0} where
  abbrev pub seat_view : List T → ℕ → List (ℕ × E) → List (ℕ × E) → List (ℕ × List (ℕ × E)) → Phase
      → SeatView E T
  seat_view setup number before front ended phase = record {
    of = record {};
    setup = setup;
    number = number;
    before = before;
    front = front;
    ended = ended;
    phase = phase;
  }

  abbrev pub at_phase : Phase → SeatView E T → SeatView E T
  at_phase p k = seat_view k.setup k.number k.before k.front k.ended p

  -- it has seen the front, and counts its own calls from there on
  abbrev pub at_front : Phase → List (ℕ × E) → SeatView E T → SeatView E T
  at_front p front k = seat_view k.setup k.number front front k.ended p

  -- a seat that has seen the front, and has made no call
  abbrev pub fresh : List T → ℕ → List (ℕ × E) → SeatView E T
  fresh setup n front = seat_view setup n [] front [] Idle

  abbrev pub starting : T → SeatView E T
  starting setup = fresh (setup ∷ []) 0 []

  abbrev pub spent : SeatView E T
  spent = seat_view [] 0 [] [] [] Spent

  -- it has seen the longer front, and keeps the other's number and its ended ones
  abbrev pub joined : SeatView E T → SeatView E T → SeatView E T
  joined k l = seat_view k.setup k.number k.front (longer k.front l.front)
      ((l.number, l.front) ∷ l.ended ++ k.ended) k.phase

  -- of what the seat has seen, no entry behind the front of its own number, or of a number that it
  -- ended, is under that number
  abbrev pub ClaimsHold : SeatView E T → Type 0
  ClaimsHold k = Each (Behind k.front) ((k.number, k.before) ∷ k.ended)

  -- the seat's number and those that it ended differ
  abbrev pub Differ : SeatView E T → Type 0
  Differ k = AllDiffer ((k.number, k.before) ∷ k.ended)

  -- it has seen entries of its own number and of those that it ended alone
  abbrev pub IsAlone : SeatView E T → Type 0
  IsAlone k = Differ k × Each (λ e. Claims ((k.number, k.before) ∷ k.ended) e.0) k.front

  -- at the turn, where no number was drawn but its own ones
  abbrev pub FindsNone : ℕ → SeatView E T → Type 0
  FindsNone found k = (t : ℕ) → k.phase ≡ AtTurn t → found ≡ 1 + length k.ended → IsAlone k

-- a seat between calls, with this number and so many ended ones, has no ticket and no object
abbrev pub Rests : {S E T : Type 0} → ℕ → ℕ → Me S (SeatView E T) → Type 0
Rests number ended me = (number ≡ me.0.number) × (ended ≡ length me.0.ended)
    × (me.0.phase ≡ Idle) × (me.1 ≡ []) × ClaimsHold me.0

-- the seat is the same at the same table
abbrev pub Stays : {S V : Type 0} → Seat S V → Seat S V → Type 0
Stays p q = (q.table_id ≡ p.table_id) × (q.id ≡ p.id)

-- the words are the next ticket, the turn and the next seat number; the slot is the object's
abbrev pub IsTurnTable : TableId → Type 0
IsTurnTable table = (table.words ≡ 3) × (table.slots ≡ 1)

module _ {S E T : Type 0} where
  -- the ticket was drawn, or the view stays
  abbrev pub drew_ticket : Step S → Me S (SeatView E T) → ℕ → Me S (SeatView E T) → Type 0
  drew_ticket st v found w = (found ≡ st.first → w ≡ (at_phase (Waiting found) v.0, v.1))
      × (found ≢ st.first → w ≡ v)

  -- the turn is the ticket's, or the view stays
  abbrev pub read_turn : Step S → Me S (SeatView E T) → ℕ → Me S (SeatView E T) → Type 0
  read_turn st v found w = (t : ℕ) → v.0.phase ≡ Waiting t
      → (found ≡ t → w ≡ (at_phase (Reached t) v.0, v.1)) × (found ≢ t → w ≡ v)

  -- the next turn was published
  abbrev pub published : Step S → Me S (SeatView E T) → ℕ → Me S (SeatView E T) → Type 0
  published st v found w = (t : ℕ) → v.0.phase ≡ Returned t → w ≡ (at_phase Idle v.0, v.1)

  -- a number that is drawn is none of the seat's, and has no entry
  abbrev pub drew_number : Step S → Me S (SeatView E T) → ℕ → Me S (SeatView E T) → Type 0
  drew_number st v found w =
      (found ≡ st.first → (w ≡ (at_phase (Holding found) v.0, v.1))
      × (Claims ((v.0.number, v.0.before) ∷ v.0.ended) found → ⊥) × (own found v.0.front ≡ []))
      × (found ≢ st.first → w ≡ v)

  -- the view stays; at the turn it may be told that it has seen no entry of another's
  abbrev pub read_number : Step S → Me S (SeatView E T) → ℕ → Me S (SeatView E T) → Type 0
  read_number st v found w = (w ≡ v)
      × ((v.0.phase ≡ Spent → ⊥) → ClaimsHold v.0 × Differ v.0 × (length v.0.ended < found))
      × FindsNone found v.0

module _ {O E T : Type 0} (setup_of : O → T) (history_of : O → List (ℕ × E)) where
  abbrev Mine : Type 0
  Mine = Me (Option O) (SeatView E T)

  -- at its turn the view v has the object out with it, and has seen all
  abbrev pub IsOut : ℕ → SeatView E T → Mine → Type 0
  IsOut t v w = (o : O) × (w ≡ (at_front (AtTurn t) (history_of o) v, (0, Some o) ∷ []))
      × (v.setup ≡ setup_of o ∷ []) × Behind (history_of o) (v.number, v.front) × ClaimsHold w.0

  -- the object was taken out
  abbrev pub took_out : Step (Option O) → Mine → ℕ → Mine → Type 0
  took_out st v found w = (t : ℕ) → v.0.phase ≡ Reached t → IsOut t v.0 w

  -- the object has the history seen, or that with one entry of this number
  abbrev pub GoesOn : SeatView E T → O → Type 0
  GoesOn k o = (k.setup ≡ setup_of o ∷ [])
      × ((history_of o ≡ k.front)
      ⊎ ((e : E) × (history_of o ≡ k.front ++ (k.number, e) ∷ [])))

  -- the object was put back, and all of its history was seen
  abbrev pub put_back : Step (Option O) → Mine → ℕ → Mine → Type 0
  put_back st v found w = (t : ℕ) (o : O) → v.0.phase ≡ AtTurn t → v.1 ≡ (0, Some o) ∷ []
      → (w ≡ (at_front (Returned t) (history_of o) v.0, [])) × ClaimsHold w.0
