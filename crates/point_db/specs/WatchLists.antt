-- Which slots watch a point: those that a change of the point concerns. A slot is known by its
-- number.
use Rattle.std.specs.Prelude.{◌≡◌, ℕ, ◌<◌, ◌≤◌, ◌+◌, ◌-◌, ltb, ◌==◌, not, Bool, IsTrue, if◌then◌else◌}
use Rattle.std.specs.Prelude.{List, [], ◌∷◌, map, filter, AllPairs, slice_index_or}
use Rattle.std.specs.Prelude.{slice_set, length}
use Rattle.std.specs.List.{list_any}

-- of a point the slots that watch it, and how many more can without memory
pub record PointSlots : Type 0 where
  pub slots : List ℕ
  pub spare : ℕ

-- each is below all later ones, so that they ascend and none stands twice
abbrev pub AreAscending : List ℕ → Type 0
AreAscending slots = AllPairs (λ x y. x < y) slots

-- ascending slots and one more, at its place; the same where it is among them
abbrev pub with_slot : List ℕ → ℕ → List ℕ
with_slot [] slot = slot ∷ []
with_slot (first ∷ slots) slot =
    if ltb slot first then slot ∷ first ∷ slots
    else if slot == first then first ∷ slots else first ∷ with_slot slots slot

-- whether a slot is among those of a point
abbrev pub is_watching : ℕ → PointSlots → Bool
is_watching slot point = list_any (λ other. other == slot) point.slots

-- of a point that no slot watches, and for which no room was made
abbrev pub unwatched : PointSlots
unwatched = record { slots = []; spare = 0 }

-- of a point that a slot watches from now on, which takes one of its spare if it didn't before
abbrev pub watched_by : ℕ → PointSlots → PointSlots
watched_by slot point = record {
  slots = with_slot point.slots slot;
  spare = if is_watching slot point then point.spare else point.spare - 1;
}

-- of a point that a slot doesn't watch any more
abbrev pub unwatched_by : ℕ → PointSlots → PointSlots
unwatched_by slot point = record point { slots = filter (λ other. not (other == slot)) point.slots }

-- of a point that no slot watches any more, with what room they took
abbrev pub cleared : PointSlots → PointSlots
cleared point = record { slots = []; spare = length point.slots + point.spare }

-- what there is of the point with a number; where none stands, no slots
abbrev pub point_slots : List PointSlots → ℕ → PointSlots
point_slots watch point = slice_index_or watch point unwatched

-- a slot watches the point with a number
abbrev pub Watches : List PointSlots → ℕ → ℕ → Type 0
Watches watch point slot = IsTrue (is_watching slot (point_slots watch point))

-- a slot watches one more point, and all else stays
abbrev pub with_watch : List PointSlots → ℕ → ℕ → List PointSlots
with_watch watch point slot = slice_set watch point (watched_by slot (point_slots watch point))

-- a slot watches no point, and all others do as before
abbrev pub without_slot : List PointSlots → ℕ → List PointSlots
without_slot watch slot = map (unwatched_by slot) watch

-- points are watched by the same slots as before, and no spare is less
pub record HasMoreSpare (old new : List PointSlots) : Type 0 where
  pub slots : map (λ point. point.slots) new ≡ map (λ point. point.slots) old
  pub spare : (point : ℕ) → (point_slots old point).spare ≤ (point_slots new point).spare
