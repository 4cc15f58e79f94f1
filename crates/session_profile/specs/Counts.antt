-- Parameters of connect and accept, counted.
use Rattle.std.specs.Prelude.{◌≡◌, ℕ, ◌+◌, ◌≤◌, List, [], ◌∷◌, ◌==◌, if◌then◌else◌}
use Rattle.session_profile.specs.Parameters.{Parameter}
use Rattle.session_profile.specs.Connections.{IsSoundParameter}

-- how many parameters of an identifier stand
abbrev pub count_of : ℕ → List Parameter → ℕ
count_of identifier [] = 0
count_of identifier (p ∷ ps) =
    (if p.identifier == identifier then 1 else 0) + count_of identifier ps

-- in any order: the item and the user data once, the user requirements and the called selector
-- once at most, and no extended user data
pub record AreOnce (ps : List Parameter) : Type 0 where
  pub item : count_of 5 ps ≡ 1
  pub user_data : count_of 193 ps ≡ 1
  pub requirements : count_of 20 ps ≤ 1
  pub called : count_of 52 ps ≤ 1
  pub extended : count_of 194 ps ≡ 0

-- the contents of each keep their rules
abbrev pub HaveSoundContents : List Parameter → Type 0
HaveSoundContents [] = Unit {0}
HaveSoundContents (p ∷ ps) = IsSoundParameter p × HaveSoundContents ps
