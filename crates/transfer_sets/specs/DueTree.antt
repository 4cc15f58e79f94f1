-- A tree over an index of transfer sets, which are its leaves: each inner node has the first of the
-- moments below it. The root is number 1, and the children of node i are 2 * i and 2 * i + 1.
use Rattle.std.specs.Prelude.{◌≡◌, ℕ, ◌+◌, ◌-◌, ◌*◌, ◌<◌, ◌≤◌, Bool, ◌&&◌, ◌||◌, nat_lt, nat_le}
use Rattle.std.specs.Prelude.{nat_eq, if◌then◌else◌, List, length, Option, Some, None, option_map}
use Rattle.std.specs.Prelude.{slice_index_or}
use Rattle.transfer_sets.specs.DueIndex.{next_at}

-- whether of two moments, each with its slot, the one is first: it is earlier, or as early and that
-- of a slot which isn't higher
abbrev pub comes_first : ℕ × ℕ → ℕ × ℕ → Bool
comes_first one other = nat_lt one.0 other.0 || (nat_eq one.0 other.0 && nat_le one.1 other.1)

-- the first of two moments with their slots, or the one that there is
abbrev pub first_of : Option (ℕ × ℕ) → Option (ℕ × ℕ) → Option (ℕ × ℕ)
first_of None other = other
first_of (Some one) None = Some one
first_of (Some one) (Some other) = if comes_first one other then Some one else Some other

-- the moment of a slot with that slot, if it has one
abbrev pub leaf_at : List (Option ℕ) → ℕ → Option (ℕ × ℕ)
leaf_at index s = option_map (λ moment. (moment, s)) (next_at index s)

-- what a node has: as many are inner ones, with number 0 that is none, as there are leaves
abbrev pub node_at : List (Option ℕ) → List (Option (ℕ × ℕ)) → ℕ → Option (ℕ × ℕ)
node_at index firsts i = if nat_lt i (length firsts) then slice_index_or firsts i None
    else leaf_at index (i - length firsts)

-- a node has the first of what its children have
abbrev pub IsFirstOfBoth : List (Option ℕ) → List (Option (ℕ × ℕ)) → ℕ → Type 0
IsFirstOfBoth index firsts i = node_at index firsts i
    ≡ first_of (node_at index firsts (2 * i)) (node_at index firsts (2 * i + 1))

-- each inner node but this one, if it is one
abbrev pub AreFirstsBut : ℕ → List (Option ℕ) → List (Option (ℕ × ℕ)) → Type 0
AreFirstsBut but index firsts =
    (i : ℕ) → 1 ≤ i → i < length firsts → (i ≡ but → ⊥) → IsFirstOfBoth index firsts i

-- each inner node has the first of what its children have
pub record IsDueTree (index : List (Option ℕ)) (firsts : List (Option (ℕ × ℕ))) : Type 0 where
  pub many : length firsts ≡ length index
  pub inner : (i : ℕ) → 1 ≤ i → i < length firsts → IsFirstOfBoth index firsts i
