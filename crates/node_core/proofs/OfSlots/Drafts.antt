-- What a request has handed out, and the transfer sets as it finds them.
use Rattle.std.proofs.Common.{◌≡◌, ◌==◌, ℕ, suc, ◌+◌, ◌-◌, ◌<◌, ◌≤◌, Bool, true, false, ◌||◌, List}
use Rattle.std.proofs.Common.{[]}
use Rattle.std.proofs.Common.{◌∷◌, ◌++◌, length, set, Some, None, refl, ap, ◌∙◌, arith}
use Rattle.std.proofs.Common.{length-set}
use Rattle.std.specs.Prelude.{if◌then◌else◌, find}
use Rattle.std.specs.List.{range_with_len, list_any}
use Rattle.bilateral.specs.declared.rows.TheConstants.{SLOT_LIMIT}
use Rattle.transfer_sets.specs.Banks.{OwnedSlot, slot_at, handed_slot}
use Rattle.node_core.specs.Slots.SlotsKept.{handed_all, AreSlots}
use Rattle.node_core.proofs.OfSlots.SlotBanks.{slot_at-set}

pub handed-length : (ordinal : ℕ) (handed : List ℕ) (slots : List OwnedSlot)
    → length (handed_all ordinal handed slots) ≡ length slots
handed-length ordinal [] slots = refl
handed-length ordinal (s ∷ more) slots =
    handed-length ordinal more (set slots s (handed_slot ordinal))
    ∙ length-set slots s (handed_slot ordinal)

-- one more
pub handed-more : (ordinal : ℕ) (handed : List ℕ) (s : ℕ) (slots : List OwnedSlot)
    → handed_all ordinal (handed ++ s ∷ []) slots
    ≡ set (handed_all ordinal handed slots) s (handed_slot ordinal)
handed-more ordinal [] s slots = refl
handed-more ordinal (k ∷ more) s slots =
    handed-more ordinal more s (set slots k (handed_slot ordinal))

pick : (one rest : Bool) (new old : OwnedSlot)
    → (if rest then new else (if one then new else old)) ≡ (if one || rest then new else old)
pick true true new old = refl
pick true false new old = refl
pick false true new old = refl
pick false false new old = refl

-- the transfer set with a number is among those that were handed out, or as before
pub handed-at : (ordinal : ℕ) (handed : List ℕ) (slots : List OwnedSlot) (s : ℕ)
    → AreSlots handed → length slots ≡ SLOT_LIMIT
    → slot_at (handed_all ordinal handed slots) s
    ≡ (if list_any (λ k. k == s) handed then handed_slot ordinal else slot_at slots s)
handed-at ordinal [] slots s these many = refl
handed-at ordinal (k ∷ more) slots s these many =
    let new = handed_slot ordinal in
    let here : k < length slots = omega (arith, these 0 0 (omega arith), many) in
    handed-at ordinal more (set slots k new) s
    (λ i d within. these (suc i) d (omega (arith, within)))
    (length-set slots k new ∙ many)
    ∙ ap (λ (old : OwnedSlot). if list_any (λ n. n == s) more then new else old)
    (slot_at-set slots k new s here)
    ∙ pick (k == s) (list_any (λ n. n == s) more) new (slot_at slots s)

-- one more of those that are looked through for one that has a property
range_step : (p : ℕ → Bool) (start n : ℕ) → p start ≡ false
    → find p (range_with_len start (suc n)) ≡ find p (range_with_len (start + 1) n)
range_step p start n other = rw other refl

pub find_on : (p : ℕ → Bool) (at count : ℕ) → at < count → p at ≡ false
    → find p (range_with_len at (count - at)) ≡ find p (range_with_len (at + 1) (count - (at + 1)))
find_on p at count below other =
    let more : count - at ≡ suc (count - (at + 1)) = omega arith in
    rw more (range_step p at (count - (at + 1)) other)

pub find_here : (p : ℕ → Bool) (at count : ℕ) → at < count → p at ≡ true
    → find p (range_with_len at (count - at)) ≡ Some at
find_here p at count below here =
    let more : count - at ≡ suc (count - (at + 1)) = omega arith in
    rw (more, here) refl

pub find_end : (p : ℕ → Bool) (at count : ℕ) → count ≤ at
    → find p (range_with_len at (count - at)) ≡ None
find_end p at count past =
    let none : count - at ≡ 0 = omega arith in
    rw none refl
