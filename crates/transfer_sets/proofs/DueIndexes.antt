-- An index of transfer sets by their next moments, as it is read and kept.
use Rattle.std.proofs.Common.{◌≡◌, ℕ, zero, suc, ◌+◌, ◌<◌, ◌≤◌, ◌⊎◌, Bool, true, false, Option, Some}
use Rattle.std.proofs.Common.{List, length, map, set, replicate, inl, inr, refl, sym, ap, ◌∙◌}
use Rattle.std.proofs.Common.{None, nat_le, subst}
use Rattle.std.proofs.Common.{arith, length-set, get_or-set_same, get_or-set_other}
use Rattle.std.proofs.lemmas.Bool.{cases_lt}
use Rattle.std.proofs.lemmas.Bool.Decides.{nat_tests}
use Rattle.std.proofs.lemmas.List.{length-replicate, length-map, get_or-map}
use Rattle.transfer_sets.specs.SlotState.{new_slot}
use Rattle.transfer_sets.specs.SlotMoves.{PointChange}
use Rattle.transfer_sets.specs.Banks.{OwnedSlot, free_slot, free_slots, freed, slot_at}
use Rattle.transfer_sets.specs.Banks.{is_owned_by, HasMoreRoom, HasChanged}
use Rattle.transfer_sets.specs.NextDue.{IsNextMoment, has_come}
use Rattle.transfer_sets.specs.DueIndex.{next_at, IsFirst, HaveNotCome, IsDueIndex}
use Rattle.transfer_sets.specs.DueIndex.{HasFreed, IsTurningIndex}
use Rattle.transfer_sets.proofs.NextMoments.{next_off, next_later}

free_at : (n s : ℕ) → slot_at (free_slots n) s ≡ free_slot
free_at zero s = refl
free_at (suc n) zero = refl
free_at (suc n) (suc s) = free_at n s

none_at : (n s : ℕ) → next_at (replicate n None) s ≡ None
none_at zero s = refl
none_at (suc n) zero = refl
none_at (suc n) (suc s) = none_at n s

many_free : (n : ℕ) → length (free_slots n) ≡ n
many_free zero = refl
many_free (suc n) = ap suc (many_free n)

pub index_start : (n now : ℕ) → IsDueIndex (free_slots n) now (replicate n None)
index_start n now = record {
  many = length-replicate n None ∙ sym (many_free n);
  each = λ s below. rw (none_at n s)
      (next_off (slot_at (free_slots n) s).state now
      (ap (λ (o : OwnedSlot). o.state.wish.status) (free_at n s)));
}

pub index_later : (bank : List OwnedSlot) (now later : ℕ) (index : List (Option ℕ)) → now ≤ later
    → HaveNotCome index later 0 (length index) → IsDueIndex bank now index
    → IsDueIndex bank later index
index_later bank now later index le before x = record {
  many = x.many;
  each = λ s below. next_later (slot_at bank s).state now later (next_at index s) le
      (before s (omega arith) (let many = x.many in omega (arith, below, many))) (x.each s below);
}

same_or_not : (t s : ℕ) → (t ≡ s) ⊎ (t ≡ s → ⊥)
same_or_not t s = elim (cases_lt t s) [
  | inl less ↦ inr (λ e. omega (arith, less, e))
  | inr ge ↦ elim (cases_lt s t) [
    | inl more ↦ inr (λ e. omega (arith, more, e))
    | inr le ↦ inl (omega (arith, ge, le))
  ]
]

-- of a bank of which one slot is another, and of an index of which one place was set, a slot has
-- its next moment after the later of two moments where it is this one
next_put : (old new : List OwnedSlot) (s t now : ℕ) (index : List (Option ℕ)) (next : Option ℕ)
    → s < length index → ((other : ℕ) → (other ≡ s → ⊥) → slot_at new other ≡ slot_at old other)
    → (t ≡ s → IsNextMoment (slot_at new s).state now next)
    → ((t ≡ s → ⊥) → IsNextMoment (slot_at old t).state now (next_at index t))
    → IsNextMoment (slot_at new t).state now (next_at (set index s next) t)
next_put old new s t now index next within others here other = elim (same_or_not t s) [
  | inl same ↦ subst (λ (u : ℕ). IsNextMoment (slot_at new u).state now
      (next_at (set index s next) u)) (sym same)
      (rw (get_or-set_same index s next None within) (here same))
  | inr not ↦ rw (others t not, get_or-set_other index s t next None not) (other not)
]

index_put : (old new : List OwnedSlot) (s now : ℕ) (index : List (Option ℕ)) (next : Option ℕ)
    → length new ≡ length old → s < length old
    → ((other : ℕ) → (other ≡ s → ⊥) → slot_at new other ≡ slot_at old other)
    → IsNextMoment (slot_at new s).state now next → IsDueIndex old now index
    → IsDueIndex new now (set index s next)
index_put old new s now index next many within others here x = record {
  many = length-set index s next ∙ x.many ∙ sym many;
  each = λ t below. next_put old new s t now index next
      (let all = x.many in omega (arith, within, all)) others (λ same. here)
      (λ not. x.each t (omega (arith, below, many)));
}

pub index_set : (bank : List OwnedSlot) (s now : ℕ) (new : OwnedSlot) (index : List (Option ℕ))
    (next : Option ℕ) → s < length bank → IsNextMoment new.state now next
    → IsDueIndex bank now index → IsDueIndex (set bank s new) now (set index s next)
index_set bank s now new index next within here x =
    index_put bank (set bank s new) s now index next (length-set bank s new) within
    (λ other not. get_or-set_other bank s other new free_slot not)
    (rw (get_or-set_same bank s new free_slot within) here) x

-- where no slot has the number, none was set
pub index_changed : (places : List ℕ) (change : PointChange) (old new : List OwnedSlot)
    (s now : ℕ) (index : List (Option ℕ)) (next : Option ℕ) → HasChanged places change s old new
    → IsNextMoment (slot_at new s).state now next → IsDueIndex old now index
    → IsDueIndex new now (set index s next)
index_changed places change old new s now index next c here x =
    elim (cases_lt s (length old)) [
      | inl within ↦ index_put old new s now index next c.many within c.others here x
      | inr past ↦ record {
        many = length-set index s next ∙ x.many ∙ sym c.many;
        each = λ t below. (let many = c.many in
            let not : t ≡ s → ⊥ = λ same. omega (arith, below, many, past, same) in
            rw (c.others t not, get_or-set_other index s t next None not)
            (x.each t (omega (arith, below, many))));
      }
    ]

pub index_room : (old new : List OwnedSlot) (now : ℕ) (index : List (Option ℕ))
    → HasMoreRoom old new → IsDueIndex old now index → IsDueIndex new now index
index_room old new now index more x = record {
  many = x.many ∙ sym more.many;
  each = λ s below. rw (more.state s)
      (x.each s (let many = more.many in omega (arith, below, many)));
}

pub index_freed : (bank : List OwnedSlot) (ordinal now : ℕ) (old new : List (Option ℕ))
    → HasFreed bank ordinal old new → IsDueIndex bank now old
    → IsDueIndex (map (freed ordinal) bank) now new
index_freed bank ordinal now old new f x = record {
  many = f.many ∙ x.many ∙ sym (length-map bank (freed ordinal));
  each = λ s below. (let many = length-map bank (freed ordinal) in
      let within : s < length bank = omega (arith, below, many) in rw (get_or-map (freed ordinal) bank s free_slot free_slot within)
      (by s within (is_owned_by ordinal (slot_at bank s)) refl));
}
  where
    by : (s : ℕ) → s < length bank → (b : Bool) → is_owned_by ordinal (slot_at bank s) ≡ b
        → IsNextMoment (freed ordinal (slot_at bank s)).state now (next_at new s)
    by s within true own = rw (own, f.own s within own) (next_off new_slot now refl)
    by s within false other = rw (other, f.others s within other) (x.each s within)

-- where the first moment hasn't come, none has
pub none_come : (index : List (Option ℕ)) (first : Option (ℕ × ℕ)) (to : ℕ) → IsFirst index first
    → ((moment s : ℕ) → first ≡ Some (moment, s) → to < moment)
    → HaveNotCome index to 0 (length index)
none_come index None to x before = λ t from below. rw (x t below) refl
none_come index (Some first) to x before = λ t from below.
    by t (next_at index t) refl (before first.0 first.1 refl) (x.least t) below
  where
    by : (t : ℕ) (moment : Option ℕ) → next_at index t ≡ moment → to < first.0
        → ((other : ℕ) → t < length index → next_at index t ≡ Some other → first.0 ≤ other)
        → t < length index → has_come (next_at index t) to ≡ false
    by t None e ahead least below = rw e refl
    by t (Some other) e ahead least below = rw e (past other (least other below e))
      where
        past : (other : ℕ) → first.0 ≤ other → nat_le other to ≡ false
        past other le = grind (arith, nat_tests)

module _ (bank : List OwnedSlot) (from to : ℕ) (index : List (Option ℕ)) where
  pub turn_begin : IsDueIndex bank from index → IsTurningIndex bank 0 from to index
  turn_begin x = record {
    many = x.many;
    told = λ s below before. absurd (omega (arith, before));
    ahead = λ s below ahead. x.each s below;
  }

  pub turn_end : (turn : ℕ) → from ≤ to → HaveNotCome index to turn (length index)
      → IsTurningIndex bank turn from to index → IsDueIndex bank to index
  turn_end turn le none x = record {
    many = x.many;
    each = λ s below. elim (cases_lt s turn) [
      | inl less ↦ x.told s below less
      | inr ge ↦ (let many = x.many in next_later (slot_at bank s).state from to (next_at index s)
          le (none s ge (omega (arith, below, many))) (x.ahead s below ge))
    ];
  }

  pub turn_pass : (turn next : ℕ) → from ≤ to → turn ≤ next
      → HaveNotCome index to turn next → IsTurningIndex bank turn from to index → IsTurningIndex bank next from to index
  turn_pass turn next le on none x = record {
    many = x.many;
    told = λ s below before. elim (cases_lt s turn) [
      | inl less ↦ x.told s below less
      | inr ge ↦ next_later (slot_at bank s).state from to (next_at index s) le (none s ge before)
          (x.ahead s below ge)
    ];
    ahead = λ s below ahead. x.ahead s below (omega (arith, on, ahead));
  }

  pub turn_put : (s : ℕ) (new : OwnedSlot) (next : Option ℕ) → s < length bank
      → IsNextMoment new.state to next → IsTurningIndex bank s from to index
      → IsTurningIndex (set bank s new) (s + 1) from to (set index s next)
  turn_put s new next within here x =
      let inside : s < length index = (let all = x.many in omega (arith, within, all)) in
      let others = λ (t : ℕ) (not : t ≡ s → ⊥). get_or-set_other bank s t new free_slot not in
      let put : IsNextMoment (slot_at (set bank s new) s).state to next =
      rw (get_or-set_same bank s new free_slot within) here in record {
        many = length-set index s next ∙ x.many ∙ sym (length-set bank s new);
        told = λ t below before. next_put bank (set bank s new) s t to index next inside others
            (λ same. put) (λ not. x.told t (in_bank t below) (omega (arith, before, not)));
        ahead = λ t below ahead. next_put bank (set bank s new) s t from index next inside others
            (λ same. absurd (omega (arith, ahead, same)))
            (λ not. x.ahead t (in_bank t below) (omega (arith, ahead)));
      }
    where
      in_bank : (t : ℕ) → t < length (set bank s new) → t < length bank
      in_bank t below = (let many = length-set bank s new in omega (arith, below, many))
