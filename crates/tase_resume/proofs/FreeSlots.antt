-- The owner of a transfer set is an open association: where none is open, each is free.
use Rattle.std.proofs.Common.{◌≡◌, ◌==◌, ℕ, Bool, true, false, ◌||◌, ◌&&◌, ◌⊎◌, if◌then◌else◌, List}
use Rattle.std.proofs.Common.{[], ◌∷◌, Option, Some, refl, sym, ap, ◌∙◌, inl, inr, Result, Ok, Err}
use Rattle.std.specs.Prelude.{nat_eq}
use Rattle.std.specs.Option.{option_eq}
use Rattle.std.proofs.lemmas.Bool.{false≢true, eqb-true, eq-eqb}
use Rattle.transfer_sets.specs.declared.wish.Wish.{Wish}
use Rattle.transfer_sets.specs.SlotMoves.{PointChange, SlotMove, handed_out, changes, reports}
use Rattle.transfer_sets.specs.SlotMoves.{owner_in}
use Rattle.tase_views.specs.Moves.{opens, takes, closes, reads, writes, defines, deletes, calls}
use Rattle.tase_views.specs.OwnTables.{OwnTables}
use Rattle.tase_views.specs.View.{own, other_acted, other_closed, updated, tagged, asked, chose}
use Rattle.tase_views.specs.View.{ticked, stopped, View}
use Rattle.tase_views.specs.Slots.{owns, with_wish, slot_moves}
use Rattle.tase_views.proofs.OpenKeys.{among, without}
use Rattle.tase_resume.proofs.Like.{IsFree}
use Rattle.tase_resume.proofs.SlotParts.{free_unowned}
use Rattle.tase_resume.proofs.SeenOrder.{open_seen, AreSeenOrderly}

-- free, or owned by one of some
abbrev pub IsKept : List ℕ → List SlotMove → Type 0
IsKept these moves =
    IsFree moves ⊎ ((n : ℕ) × (owner_in moves ≡ Some n) × (among n these ≡ true))

or : (a b : Bool) → b ≡ true → (a || b) ≡ true
or true b e = refl
or false b e = e

-- another number stays
stays : (n k : ℕ) (xs : List ℕ) → (k == n) ≡ false → among k xs ≡ true
    → among k (without n xs) ≡ true
stays n k [] apart there = there
stays n k (x ∷ xs) apart there =
    by (x == n) refl (x == k) refl there (stays n k xs apart)
  where
    by : (b : Bool) → (x == n) ≡ b → (t : Bool) → (x == k) ≡ t → (t || among k xs) ≡ true
        → (among k xs ≡ true → among k (without n xs) ≡ true)
        → among k (if b then without n xs else x ∷ without n xs) ≡ true
    by true e true f there others =
        absurd (false≢true (sym apart ∙ eq-eqb k n (sym (eqb-true x k f) ∙ eqb-true x n e)))
    by true e false f there others = others there
    by false e true f there others = rw f refl
    by false e false f there others = rw f (others there)

kept_closed : (n : ℕ) (these : List ℕ) (moves : List SlotMove) → IsKept these moves
    → IsKept (without n these) (if owns n moves then [] else moves)
kept_closed n these moves kept = by (owns n moves) refl kept
  where
    apart : (k : ℕ) → owner_in moves ≡ Some k → owns n moves ≡ false → (k == n) ≡ false
    apart k is none = sym (ap (λ (o : Option ℕ). option_eq nat_eq o (Some n)) is) ∙ none

    by : (b : Bool) → owns n moves ≡ b → IsKept these moves
        → IsKept (without n these) (if b then [] else moves)
    by true e k = inl (refl, refl)
    by false e (inl free) = inl free
    by false e (inr owned) =
        inr (owned.0, owned.1, stays n owned.0 these (apart owned.0 owned.1 e) owned.2)

kept_opened : (n : ℕ) (these : List ℕ) (moves : List SlotMove) → IsKept these moves
    → IsKept (n ∷ these) moves
kept_opened n these moves (inl free) = inl free
kept_opened n these moves (inr owned) =
    inr (owned.0, owned.1, or (n == owned.0) (among owned.0 these) owned.2)

kept_handed : (b : Bool) (n : ℕ) (these : List ℕ) (moves : List SlotMove) → among n these ≡ true
    → IsKept these moves → IsKept these (if b then handed_out n ∷ [] else moves)
kept_handed true n these moves there kept = inr (n, refl, there)
kept_handed false n these moves there kept = kept

kept_wished : (b : Bool) (n now : ℕ) (wish : Result Wish ℕ) (these : List ℕ)
    (moves : List SlotMove) → (b ≡ true → owns n moves ≡ true) → IsKept these moves
    → IsKept these (if b then with_wish now wish moves else moves)
kept_wished false n now wish these moves mine kept = kept
kept_wished true n now wish these moves mine (inl free) =
    absurd (false≢true (sym (free_unowned moves n free) ∙ mine refl))
kept_wished true n now (Ok wish) these moves mine (inr owned) = inr owned
kept_wished true n now (Err reason) these moves mine (inr owned) = inr owned

kept_changed : (b : Bool) (change : PointChange) (these : List ℕ) (moves : List SlotMove)
    → IsKept these moves → IsKept these (if b then changes change ∷ moves else moves)
kept_changed false change these moves kept = kept
kept_changed true change these moves (inl free) = inl free
kept_changed true change these moves (inr owned) = inr owned

kept_reported : (b : Bool) (these : List ℕ) (moves : List SlotMove)
    → IsKept these moves → IsKept these (if b then reports ∷ moves else moves)
kept_reported false these moves kept = kept
kept_reported true these moves (inl free) = inl free
kept_reported true these moves (inr owned) = inr owned

and_first : (a b : Bool) → (a && b) ≡ true → a ≡ true
and_first true b e = refl
and_first false b e = e

pub slots_kept : (tables : OwnTables) (view : View) (s : ℕ) → AreSeenOrderly view
    → IsKept (open_seen view) (slot_moves tables view s)
slots_kept tables [] s orderly = inl (refl, refl)
slots_kept tables (own ordinal closes ∷ view) s orderly =
    kept_closed ordinal (open_seen view) (slot_moves tables view s)
    (slots_kept tables view s orderly.1)
slots_kept tables (own ordinal opens ∷ view) s orderly =
    kept_opened ordinal (open_seen view) (slot_moves tables view s)
    (slots_kept tables view s orderly)
slots_kept tables (own ordinal (reads name) ∷ view) s orderly =
    kept_handed _ ordinal (open_seen view) (slot_moves tables view s) orderly.0
    (slots_kept tables view s orderly.1)
slots_kept tables (own ordinal (writes name value) ∷ view) s orderly =
    kept_wished _ ordinal _ _ (open_seen view) (slot_moves tables view s)
    (λ e. and_first (owns ordinal (slot_moves tables view s)) _ e)
    (slots_kept tables view s orderly.1)
slots_kept tables (own ordinal takes ∷ view) s orderly = slots_kept tables view s orderly.1
slots_kept tables (own ordinal (defines set members) ∷ view) s orderly =
    slots_kept tables view s orderly.1
slots_kept tables (own ordinal (deletes set) ∷ view) s orderly = slots_kept tables view s orderly.1
slots_kept tables (own ordinal (calls call) ∷ view) s orderly = slots_kept tables view s orderly.1
slots_kept tables (other_acted key ordinal device act ∷ view) s orderly =
    slots_kept tables view s orderly
slots_kept tables (other_closed key ordinal ∷ view) s orderly = slots_kept tables view s orderly
slots_kept tables (updated name value ∷ view) s orderly =
    kept_changed _ _ (open_seen view) (slot_moves tables view s) (slots_kept tables view s orderly)
slots_kept tables (tagged device tag ∷ view) s orderly = slots_kept tables view s orderly
slots_kept tables (asked other ∷ view) s orderly =
    kept_reported _ (open_seen view) (slot_moves tables view s) (slots_kept tables view s orderly)
slots_kept tables (chose variant ∷ view) s orderly = slots_kept tables view s orderly
slots_kept tables (ticked now ∷ view) s orderly =
    kept_reported _ (open_seen view) (slot_moves tables view s) (slots_kept tables view s orderly)
slots_kept tables (stopped ∷ view) s orderly = slots_kept tables view s orderly

-- where no association of the peer is open
pub slots_free : (tables : OwnTables) (view : View) (s : ℕ) → AreSeenOrderly view
    → open_seen view ≡ [] → IsFree (slot_moves tables view s)
slots_free tables view s orderly none = by (slots_kept tables view s orderly)
  where
    by : IsKept (open_seen view) (slot_moves tables view s) → IsFree (slot_moves tables view s)
    by (inl free) = free
    by (inr owned) = absurd (false≢true (sym (ap (among owned.0) none) ∙ owned.2))
