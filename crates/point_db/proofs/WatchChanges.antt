-- What is kept of points as slots begin and end to watch them.
use Rattle.std.proofs.Common.{◌≡◌, ◌⊎◌, inl, inr, ⊎_elim, ℕ, zero, suc, ◌+◌, ◌-◌, ◌<◌, ◌≤◌, true}
use Rattle.std.proofs.Common.{List, [], ◌∷◌, map, take, length, set, get_or, refl, sym, ap, ◌∙◌}
use Rattle.std.proofs.Common.{add-one, arith, IsTrue, get_or-set_same, get_or-set_other}
use Rattle.std.specs.Prelude.{All}
use Rattle.std.specs.List.{insert}
use Rattle.std.proofs.lemmas.Bool.{true≢false, cases_eq}
use Rattle.std.proofs.lemmas.List.Elements.{All-more}
use Rattle.std.proofs.lemmas.List.{get_or_default, length-map}
use Rattle.std.proofs.Math.Seq.{map-set_same}
use Rattle.point_db.specs.WatchLists.{PointSlots, AreAscending, is_watching, watched_by}
use Rattle.point_db.specs.WatchLists.{unwatched, point_slots, HasMoreSpare}
use Rattle.point_db.proofs.AscendingSlots.{IsGap, gap-absent, gap-with_slot}
use Rattle.point_db.proofs.AscendingSlots.{there-with_slot}

-- a slot that isn't there takes one of the spare
pub spare-gap : (point now : PointSlots) (slot i : ℕ) → point ≡ now → IsGap point.slots slot i
    → IsTrue (is_watching slot now) ⊎ (1 ≤ now.spare) → 1 ≤ point.spare
spare-gap point now slot i same gap room =
    ⊎_elim (λ there. absurd (true≢false (sym there ∙ ap (is_watching slot) (sym same)
    ∙ gap-absent point.slots slot i gap)))
    (λ spare. rw same spare) room

pub added-gap : (point : PointSlots) (slot i : ℕ) → IsGap point.slots slot i
    → record { slots = insert point.slots i slot; spare = point.spare - 1 } ≡ watched_by slot point
added-gap point slot i gap =
    rw (gap-absent point.slots slot i gap, gap-with_slot point.slots slot i gap) refl

pub added-there : (point : PointSlots) (slot : ℕ) → AreAscending point.slots
    → is_watching slot point ≡ true → point ≡ watched_by slot point
added-there point slot up there = rw (there, there-with_slot point.slots slot up there) refl

-- a list of which the first so many items are changed
abbrev pub changed_below : (PointSlots → PointSlots) → ℕ → List PointSlots → List PointSlots
changed_below f zero xs = xs
changed_below f (suc n) [] = []
changed_below f (suc n) (x ∷ xs) = f x ∷ changed_below f n xs

step : (f : PointSlots → PointSlots) (n : ℕ) (xs : List PointSlots) (d : PointSlots) → n < length xs
    → set (changed_below f n xs) n (f (get_or (changed_below f n xs) n d))
    ≡ changed_below f (suc n) xs
step f zero [] d within = absurd (omega (arith, within))
step f zero (x ∷ xs) d within = refl
step f (suc n) [] d within = absurd (omega (arith, within))
step f (suc n) (x ∷ xs) d within =
    ap (λ (ys : List PointSlots). f x ∷ ys) (step f n xs d (omega (arith, within)))

pub changed-step : (f : PointSlots → PointSlots) (n : ℕ) (xs : List PointSlots) (d : PointSlots)
    → n < length xs → set (changed_below f n xs) n (f (get_or (changed_below f n xs) n d))
    ≡ changed_below f (n + 1) xs
changed-step f n xs d within = rw (add-one n) (step f n xs d within)

pub changed-all : (f : PointSlots → PointSlots) (n : ℕ) (xs : List PointSlots) → length xs ≤ n
    → changed_below f n xs ≡ map f xs
changed-all f zero [] past = refl
changed-all f zero (x ∷ xs) past = absurd (omega (arith, past))
changed-all f (suc n) [] past = refl
changed-all f (suc n) (x ∷ xs) past =
    ap (λ (ys : List PointSlots). f x ∷ ys) (changed-all f n xs (omega (arith, past)))

pub HasMoreSpare-same : (points : List PointSlots) → HasMoreSpare points points
HasMoreSpare-same points = record { slots = refl; spare = λ point. omega arith }

pub HasMoreSpare-length : (old now : List PointSlots) → HasMoreSpare old now
    → length now ≡ length old
HasMoreSpare-length old now m =
    sym (length-map now (λ (p : PointSlots). p.slots)) ∙ ap length m.slots
    ∙ length-map old (λ (p : PointSlots). p.slots)

-- at a place there stands another with more spare
module _ (now : List PointSlots) (place : ℕ) (item point : PointSlots) (within : place < length now)
    (item_is : item ≡ get_or now place item) (more : item.spare ≤ point.spare) where
  here : item ≡ point_slots now place
  here = item_is ∙ get_or_default now place item unwatched within

  spare-set : (p : ℕ) → (point_slots now p).spare ≤ (point_slots (set now place point) p).spare
  spare-set p = elim (cases_eq p place) [
    | inl same ↦ rw (same, get_or-set_same now place point unwatched within, ← here) more
    | inr other ↦ rw (get_or-set_other now place p point unwatched other) (omega arith)
  ]

  pub HasMoreSpare-set : (old : List PointSlots) → point.slots ≡ item.slots
      → HasMoreSpare old now → HasMoreSpare old (set now place point)
  HasMoreSpare-set old same m = record {
    slots = map-set_same (λ (p : PointSlots). p.slots) now place point unwatched
        (same ∙ ap (λ (p : PointSlots). p.slots) here) ∙ m.slots;
    spare = λ p. omega (arith, m.spare p, spare-set p);
  }

  -- and there is room at one more of some places
  pub room-set : (count : ℕ) (places : List ℕ) (n : ℕ) → n < length places
      → place ≡ get_or places n 0 → count ≤ point.spare
      → All (λ p. count ≤ (point_slots now p).spare) (take n places)
      → All (λ p. count ≤ (point_slots (set now place point) p).spare) (take (n + 1) places)
  room-set count places n there place_is enough all =
      All-more (λ p. count ≤ (point_slots (set now place point) p).spare) places n 0 there
      (λ k d below. omega (arith, all k d below, spare-set (get_or (take n places) k d)))
      (rw (← place_is, get_or-set_same now place point unwatched within) enough)
