-- Indexes: the names in order, and where a row stands.
use Rattle.std.specs.Prelude.{ℕ, ◌&&◌, ◌==◌, List, Option, bytes_eq, Vec, map, position}
use Rattle.std.specs.Global.{Global}
use Rattle.std.specs.HashMap.{HashMap, get_by}
use Rattle.indexmap.specs.IndexSet.{IndexSet, keys}

-- the names of a set, in order
abbrev pub names_in : {S : Type 0} → IndexSet (Vec ℕ Global) S → List (List ℕ)
names_in names = map (λ key. key.items) (keys names)

-- where a name stands among names
abbrev pub place_among : List (List ℕ) → List ℕ → Option ℕ
place_among names name = position (λ other. bytes_eq other name) names

-- the place that an index has for the row of a point or device in one of a peer's tables
abbrev pub row_by : {S : Type 0} → HashMap (ℕ × ℕ × ℕ) ℕ S → ℕ → ℕ → ℕ → Option ℕ
row_by index peer variant item =
    get_by (λ key. (peer == key.0) && (variant == key.1) && (item == key.2)) index
