-- Transfer sets that stand side by side, each with the association that owns it.
use Rattle.std.specs.Prelude.{◌≡◌, ◌≤◌, ℕ, suc, zero, nat_eq, if◌then◌else◌, Bool, List, [], ◌∷◌}
use Rattle.std.specs.Prelude.{Option, Some, None, slice_index_or, length}
use Rattle.std.specs.Option.{option_eq}
use Rattle.transfer_sets.specs.declared.wish.Wish.{Wish}
use Rattle.transfer_sets.specs.SlotState.{SlotState, new_slot, enabled_by}
use Rattle.transfer_sets.specs.SlotMoves.{SlotMove, PointChange, Places, FollowsMoves, changes}

-- the owner, an association by its number, if there is one; the transfer set; and how many members
-- can be noted without memory
pub record OwnedSlot : Type 0 where
  pub owner : Option ℕ
  pub state : SlotState
  pub spare : ℕ

-- one that nobody owns is as new
abbrev pub free_slot : OwnedSlot
free_slot = record { owner = None; state = new_slot; spare = 0 }

-- so many of them
abbrev pub free_slots : ℕ → List OwnedSlot
free_slots zero = []
free_slots (suc n) = free_slot ∷ free_slots n

-- one that is handed out to an association
abbrev pub handed_slot : ℕ → OwnedSlot
handed_slot ordinal = record { owner = Some ordinal; state = new_slot; spare = 0 }

-- the transfer set with a number; where none stands, one that nobody owns
abbrev pub slot_at : List OwnedSlot → ℕ → OwnedSlot
slot_at slots s = slice_index_or slots s free_slot

-- whether an association owns a transfer set
abbrev pub is_owned_by : ℕ → OwnedSlot → Bool
is_owned_by ordinal slot = option_eq nat_eq slot.owner (Some ordinal)

-- a transfer set behind a wish at a moment, which enables it or not
abbrev pub wished_by : Wish → ℕ → SlotState → SlotState
wished_by wish now s =
    if wish.status then enabled_by wish now
    else record s { wish = wish; first = None; noted = [] }

abbrev pub with_wish : Wish → ℕ → OwnedSlot → OwnedSlot
with_wish wish now slot = record slot { state = wished_by wish now slot.state }

-- behind the end of an association
abbrev pub freed : ℕ → OwnedSlot → OwnedSlot
freed ordinal slot = if is_owned_by ordinal slot then free_slot else slot

-- behind a report of it
abbrev pub told : OwnedSlot → OwnedSlot
told slot = record slot { state = record slot.state { first = None; noted = [] } }

-- transfer sets are others with more room for notes, and else the same
pub record HasMoreRoom (old new : List OwnedSlot) : Type 0 where
  pub many : length new ≡ length old
  pub owner : (s : ℕ) → (slot_at new s).owner ≡ (slot_at old s).owner
  pub state : (s : ℕ) → (slot_at new s).state ≡ (slot_at old s).state
  pub spare : (s : ℕ) → (slot_at old s).spare ≤ (slot_at new s).spare

-- of transfer sets one, whose data set's members at these places name a point, is behind a change
-- of that point, and the others stay
pub record HasChanged (places : List ℕ) (change : PointChange) (s : ℕ) (old new : List OwnedSlot) :
    Type 0 where
  pub many : length new ≡ length old
  pub others : (other : ℕ) → (other ≡ s → ⊥) → slot_at new other ≡ slot_at old other
  pub owner : (slot_at new s).owner ≡ (slot_at old s).owner
  pub wish : (slot_at new s).state.wish ≡ (slot_at old s).state.wish
  pub follows : (members : Places) (moves : List SlotMove) → members change.point ≡ places
      → FollowsMoves members moves (slot_at old s).state
      → FollowsMoves members (changes change ∷ moves) (slot_at new s).state
